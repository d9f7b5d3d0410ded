-- What a later argument may change so that what earlier ones name stays known: places apart from theirs, none of their
-- own locals, and no index on the way. Of cells and of seen places that is told by their keys.
use Rattle.std.proofs.Common.{◌≡◌, ℕ, ◌==◌, ◌&&◌, Bool, false, List, [], ◌∷◌, map, Some, None, ap}
use Rattle.std.specs.Prelude.{slice_get}
use Rattle.store_model.specs.Places.Place.{Step, Place}
use Rattle.typed_tree.specs.Tree.{BodyTree, ProgramTree}
use Rattle.src_meaning.specs.Locals.Effects.{place_at, step_at}
use Rattle.typing_rules.specs.Accesses as rules
use Rattle.typing_rules.specs.Accesses.{AccessPlace, begin_alike}
use Rattle.soundness_values.specs.Laws.{IsSound}
use Rattle.soundness_values.proofs.Facts.{takes_index}
use Rattle.soundness_values.proofs.NoOverlap.{Seen, seen}
use Rattle.soundness.proofs.PassAloneArgs.{Arg}
use Rattle.soundness.proofs.PassAloneLeaves.{KeptIf, AllKept}
use Rattle.soundness.proofs.PassBorrowApart.{no_index}
use Rattle.soundness_frame.proofs.PassKeys.{Keys, KeysIn}
use Rattle.soundness_frame.proofs.PassPlacesApart.{locals_differ, begin_apart}

-- a place off what an argument names
abbrev pub OffOne : Arg → Place → Type 0
OffOne (local, None) q = Unit {0}
OffOne (local, Some n) q = ((local == q.local) ≡ false)
    × (((n.place.local == q.local && begin_alike (seen n.place.steps) (seen q.steps)) ≡ false)
    × (takes_index q.local n.place.steps ≡ false))

abbrev pub OffAll : List Arg → Place → Type 0
OffAll [] q = Unit {0}
OffAll (a ∷ as_) q = OffOne a q × OffAll as_ q

module _ (p : ProgramTree) (sound : IsSound p) (n fuel : ℕ) (b : BodyTree) (at : slice_get p.bodies n ≡ Some b) where
  -- a local without a reference names nothing in any run
  abbrev pub Nameless : Arg → Type 0
  Nameless (local, None) = KeptIf p sound n fuel b at (λ q. Unit {0}) local None
  Nameless (local, Some m) = Unit {0}

  abbrev pub AllNameless : List Arg → Type 0
  AllNameless [] = Unit {0}
  AllNameless (a ∷ as_) = Nameless a × AllNameless as_

  one_kept : (May : Place → Type 0) (a : Arg) → ((q : Place) → May q → OffOne a q) → Nameless a →
      KeptIf p sound n fuel b at May a.0 a.1
  one_kept May (local, None) f r = r
  one_kept May (local, Some m) f r =
      (λ q x. (f q x).0, record { apart = λ q x. (f q x).1.0; way = λ q x. (f q x).1.1 })

  -- what lies off all of them leaves them
  pub all_kept : (May : Place → Type 0) (es : List Arg) → ((q : Place) → May q → OffAll es q) → AllNameless es →
      AllKept p sound n fuel b at May es
  all_kept May [] f r = tt
  all_kept May (a ∷ es) f r =
      (one_kept May a (λ q x. (f q x).0) r.0, all_kept May es (λ q x. (f q x).1) r.1)

-- ---- by the keys

module _ (ks : List ℕ) where
  abbrev local : ℕ → ℕ
  local = Rattle.src_meaning.specs.Locals.OfBody.local_among ks

  -- a borrow with a number, of a place
  abbrev pub arg_at : ℕ → Bool → Place → Arg
  arg_at id unique place =
      (local id, Some (record { local = local id; unique = unique; place = place_at local place }))

  -- a cell with another key than all of those, and all its parts
  pub cell_off : (id key : ℕ) (unique : Bool) (place : Place) (steps : List Step) → (id ≡ key → ⊥) →
      Keys (λ k. k ≡ key → ⊥) place → OffOne (arg_at id unique place) (record { local = local key; steps = steps })
  cell_off id key unique place steps d k = (
    locals_differ ks id key (λ e. absurd (d e)),
    (
      ap (λ c. c && begin_alike (seen (map (step_at local) place.steps)) (seen steps))
          (locals_differ ks place.local key (λ e. absurd (k.0 e))),
      no_index ks key place.steps k.1,
    ),
  )

  -- a place that does not overlap, as both are seen, whose key is no index on the way
  pub place_off : (id : ℕ) (unique : Bool) (place q : Place) (a c : AccessPlace) → Seen a place → Seen c q →
      rules.overlap a c ≡ false → (id ≡ q.local → ⊥) → KeysIn (λ k. k ≡ q.local → ⊥) place.steps →
      OffOne (arg_at id unique place) (place_at local q)
  place_off id unique place q a c s t o d k = (
    locals_differ ks id q.local (λ e. absurd (d e)),
    (begin_apart ks a c place q s t o, no_index ks q.local place.steps k),
  )
