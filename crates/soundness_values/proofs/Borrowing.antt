-- A reference that is made names what stands at its place, and is known to do so.
use Rattle.std.proofs.Common.{◌≡◌, ℕ, ◌==◌, Bool, true, false, List, [], ◌∷◌, ◌++◌, length, Option, Some, None, refl, ap, sym, ◌∙◌, subst}
use Rattle.std.specs.Prelude.{option_and_then}
use Rattle.std.specs.Option.{option_map_or}
use Rattle.std.proofs.lemmas.Bool.{false≢true}
use Rattle.std.proofs.Math.Path.{fun_ext}
use Rattle.mir_ty.specs.declared.ty.Ty.{Ty}
use Rattle.mir_ty.specs.declared.ty.TyId.{TyId}
use Rattle.mir_ty.specs.ItemTable.{ItemTable, type_at}
use Rattle.store_model.proofs.Effects.Following.{Relation}
use Rattle.store_model.specs.declared.address.Addr.{Addr}
use Rattle.store_model.specs.Values.Datum.{Address}
use Rattle.store_model.specs.Effects as effects
use Rattle.store_model.specs.Effects.{EffectSite, Stuck, Unreachable, Out, Go, Unwind, Halts, on_go, halting_if}
use Rattle.store_model.specs.Abstract.Effects as free
use Rattle.store_model.specs.Abstract.Effects.{AbstractState, with_presence}
use Rattle.store_model.specs.Abstract.Presence.{Presence, known, none_named}
use Rattle.store_model.specs.Places.Place.{Step, whole_local, is_reference}
use Rattle.store_model.specs.Places.TypeForms.{is_never, referent}
use Rattle.store_model.specs.Concrete.Effects as values
use Rattle.store_model.specs.Concrete.Effects.{put, act, whole_at}
use Rattle.store_model.specs.Concrete.Location.{Setting, Located, stored_at, on_reached}
use Rattle.store_model.specs.Concrete.State.{State, Bodies, with_cell}
use Rattle.soundness_values.proofs.Doing.{FollowsOut, goes_on, out_after}
use Rattle.soundness_values.proofs.Standings.{cell_changed, cell_other}
use Rattle.soundness_values.proofs.Facts.{Naming, Facts, takes_index, without, path_kept}
use Rattle.soundness_values.proofs.Dropped.{feeding}
use Rattle.soundness_values.proofs.Known.{Target}
use Rattle.soundness_values.proofs.Reached.{address_of}
use Rattle.soundness_values.proofs.Running.{sure_place, Passed, Runs, Lies, in_local, behind, NamingHolds, own_named, behind_named}
use Rattle.soundness_values.proofs.Reaching.{stands, from_root}
use Rattle.soundness_values.proofs.Changing.{own_changed, own_there, known_held}
use Rattle.soundness_values.proofs.Checks.{no_steps, with_naming}
use Rattle.soundness_values.proofs.Taking.{rel, using_follows}
use Rattle.soundness_values.proofs.Acting.{concrete_ty_is}

module _ (setting : Setting) (number : ℕ) (targets : List Target) (uniques : List Addr) (base : State)
    (is_target : ℕ → Bool) (passed : Passed setting number targets uniques base is_target) where
  abbrev items : ItemTable
  items = setting.items

  abbrev local_ty : ℕ → Option TyId
  local_ty key = setting.local_ty number key

  abbrev R : State → List (ℕ × Presence) → Facts → Type 0
  R = Runs setting number targets uniques base is_target

  abbrev rels : Facts → Relation State AbstractState
  rels = rel setting number targets uniques base is_target passed

  -- one fact more
  also_named : (w : State) (cells : List (ℕ × Presence)) (facts : Facts) (n : Naming) (r : R w cells facts) →
      NamingHolds setting number targets uniques base is_target (length r.known.older) r.known.held n →
      R w cells (with_naming n facts)
  also_named w cells facts n r h = record {
    known = r.known;
    holding = record { bounded = r.holding.bounded; variants = r.holding.variants; naming = (h, r.holding.naming) };
    sealed = r.sealed;
  }

  none_of : (steps : List Step) → no_steps steps ≡ true → steps ≡ []
  none_of [] h = refl
  none_of (step ∷ steps) h = absurd (false≢true h)

  pub reference_is : (unique : Bool) (o : Option Ty) (id : TyId) → option_map_or (λ x. id.0 == x.0)
      (referent unique o) false ≡ true → is_reference o ≡ true
  reference_is false (Some (Ty.Shared t)) id h = refl
  reference_is true (Some (Ty.Unique t)) id h = refl
  reference_is false None id h = absurd (false≢true h)
  reference_is false (Some (Ty.Unique t)) id h = refl
  reference_is true None id h = absurd (false≢true h)
  reference_is true (Some (Ty.Shared t)) id h = refl
  reference_is false (Some other) id h = absurd (false≢true h)
  reference_is true (Some other) id h = absurd (false≢true h)

  not_never : (o : Option Ty) → is_reference o ≡ true → is_never o ≡ false
  not_never None h = refl
  not_never (Some Ty.Never) h = absurd (false≢true h)
  not_never (Some other) h = refl

  module _ (w : State) (cells : List (ℕ × Presence)) (facts : Facts) (runs : R w cells facts) (node local : ℕ)
      (own : is_target local ≡ false) (id : TyId) (typed : local_ty local ≡ Some id)
      (is_ref : is_reference (type_at items id) ≡ true)
      (from : EffectSite) (unique : Bool) (apart : (from.place.local == local) ≡ false)
      (no_index : takes_index local from.place.steps ≡ false) where
    abbrev naming : Naming
    naming = record { local = local; unique = unique; place = from.place }

    abbrev to : EffectSite
    to = record { node = node; place = whole_local local }

    abbrev at_local : Addr
    at_local = record { depth = length runs.known.older; key = (record { 0 = local }); path = [] }

    -- the local holds the address
    address_stored : (a : Addr) → R (stored_at at_local (Address a) w)
        (with_presence local (λ p. known false none_named) cells) (without (whole_local local) facts)
    address_stored a = own_changed setting number targets uniques base is_target passed w cells facts runs
        (whole_local local) own id typed (Address a) (λ p. known false none_named) (refl, is_ref) tt

    held_now : (a : Addr) → ((address_stored a).known.held ≡ with_cell local (Address a) runs.known.held)
        × ((address_stored a).known.older ≡ runs.known.older)
    held_now a = known_held setting number targets uniques base is_target passed (stored_at at_local (Address a) w)
        (with_presence local (λ p. known false none_named) cells) (address_stored a).known
        (with_cell local (Address a) runs.known.held) runs.known.older
        (own_there setting number targets uniques base is_target passed w cells facts runs
        (whole_local local) own id typed (Address a) (λ p. known false none_named))

    names_it_now : (l : Lies setting number targets uniques base is_target passed w cells facts runs from.place) →
        NamingHolds setting number targets uniques base is_target (length runs.known.older)
        (with_cell local (Address
        (stands setting number targets uniques base is_target passed w cells facts runs from.place
        l).standing.address) runs.known.held) naming
    unfolding stands
    names_it_now (in_local i t none o s lead) =
        own_named o (cell_changed local _ runs.known.held
        ∙ ap (λ p. Address (record {
          depth = length runs.known.older;
          key =
              (record { 0 = from.place.local });
          path = p;
        }))
        (lead.path_is ∙ sym (path_kept local (with_cell local _ runs.known.held) runs.known.held from.place.steps
        no_index (λ key h. cell_other local key _ runs.known.held h))))
    names_it_now (behind n t at same steps is s lead) =
        behind_named n t at same steps is
        (cell_changed local _ runs.known.held
        ∙ ap (λ (a : Addr). Address (record a { path = a.path ++ lead.path }))
        (address_of setting w t.address (runs.known.stands n t at).standing (runs.known.stands n t at).stands)
        ∙ ap (λ p. Address (record t.address { path = t.address.path ++ p }))
        (lead.path_is ∙ sym (path_kept local (with_cell local _ runs.known.held) runs.known.held steps
        (sym (ap (takes_index local) is) ∙ no_index) (λ key h. cell_other local key _ runs.known.held h))))

    -- a reference is stored in its local
    pub reference_put : (l : Lies setting number targets uniques base is_target passed w cells facts runs
        from.place) →
        FollowsOut (rels (with_naming naming (without (whole_local local) facts))) tt
        (put setting to (Address
        (stands setting number targets uniques base is_target passed w cells facts runs from.place
        l).standing.address) w) (λ t. free.store items local_ty to (feeding t cells))
    reference_put l =
        let a = (stands setting number targets uniques base is_target passed w cells facts runs from.place
        l).standing.address in
        let h = held_now a in
        subst (λ o. FollowsOut (rels (with_naming naming (without (whole_local local) facts))) tt o
        (λ t. free.store items local_ty to (feeding t cells)))
        (sym (ap (λ r. on_reached r (λ s. Go (stored_at s.address (Address a) w)) (Halts Stuck w) (Halts Stuck w))
        (from_root setting number targets uniques base is_target passed w cells facts runs
        (whole_local local) id typed)))
        (goes_on tt (stored_at at_local (Address a) w) (with_presence local (λ p. known false none_named) cells) [] _
        (also_named (stored_at at_local (Address a) w) (with_presence local (λ p. known false none_named) cells)
        (without (whole_local local) facts) naming (address_stored a)
        (subst (λ c. NamingHolds setting number targets uniques base is_target
        (length (address_stored a).known.older) c naming) (sym h.0)
        (subst (λ (o : List _). NamingHolds setting number targets uniques base is_target (length o)
        (with_cell local (Address a) runs.known.held) naming) (sym h.1) (names_it_now l))))
        (λ rest. refl))

    pub borrow_acts : (run : Bodies) → sure_place items local_ty is_target facts from.place ≡ true →
        FollowsOut (rels (with_naming naming (without (whole_local local) facts))) tt
        (act setting run (effects.Borrow to unique from) w)
        (λ t. free.act items local_ty (effects.Borrow to unique from) (feeding t cells))
    borrow_acts run s =
        subst (λ b. FollowsOut (rels (with_naming naming (without (whole_local local) facts))) tt
        (halting_if b Stuck (values.or_stuck (whole_at setting w from)
        (λ x. put setting to (Address x.address) w) w))
        (λ t. free.act items local_ty (effects.Borrow to unique from) (feeding t cells)))
        (sym (ap is_never (concrete_ty_is setting number targets uniques base is_target passed w cells facts runs to
        ∙ ap (λ o. option_and_then (type_at items) (option_and_then (λ i. Some i) o)) typed)
        ∙ not_never (type_at items id) is_ref))
        (out_after (rels (with_naming naming (without (whole_local local) facts))) [] _
        (λ rest. ap (λ b. halting_if b Unreachable
        (free.using items local_ty from (free.store items local_ty to) (feeding rest cells)))
        (ap (λ o. is_never (option_and_then (type_at items) (option_and_then (λ i. Some i) o))) typed
        ∙ not_never (type_at items id) is_ref))
        (subst (λ (g : List Bool → Out AbstractState). FollowsOut
        (rels (with_naming naming (without (whole_local local) facts))) tt
        (values.or_stuck (whole_at setting w from) (λ x. put setting to (Address x.address) w) w) g)
        (fun_ext (λ t. going (free.using items local_ty from (free.store items local_ty to) (feeding t cells))))
        (using_follows setting number targets uniques base is_target passed w cells facts runs
        (with_naming naming (without (whole_local local) facts)) from w
        (λ x. put setting to (Address x.address) w) (free.store items local_ty to) (λ v. Go v) s
        (λ u. subst (λ (g : List Bool → Out AbstractState). FollowsOut
        (rels (with_naming naming (without (whole_local local) facts))) tt
        (put setting to (Address u.at.standing.address) w) g)
        (sym (fun_ext (λ t. going (free.store items local_ty to (feeding t cells)))))
        (subst (λ (x : Located). FollowsOut (rels (with_naming naming (without (whole_local local) facts))) tt
        (put setting to (Address x.address) w) (λ t. free.store items local_ty to (feeding t cells))) u.same
        (reference_put u.lies))))))
      where
        going : (o : Out AbstractState) → on_go o (λ v. Go v) ≡ o
        going (Go v) = refl
        going (Unwind v) = refl
        going (Halts halt v) = refl
