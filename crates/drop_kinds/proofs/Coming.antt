-- Whether some path of a body comes to a drop, by what is known there of a local; and what is decided of all drops,
-- block after block.
use Rattle.std.proofs.Common.{◌≡◌, ◌↔◌, ◌⊎◌, inl, inr, ◌∙◌, ◌∷◌, [], ◌++◌, ◌+◌, ◌<◌, ℕ, zero, suc, Bool, true, false, ◌||◌, List, Option, Some, Contains, length, slice_get, refl, sym, ap, subst, arith}
use Rattle.std.specs.Cmp.Derive.{both_true}
use Rattle.std.proofs.lemmas.Bool.{lt-ltb}
use Rattle.std.proofs.lemmas.List.{length-append}
use Rattle.std.proofs.lemmas.Option.{none-some, same_Some}
use Rattle.mir_ty.specs.ItemTable.{ItemTable}
use Rattle.store_model.specs.Places.Place.{Place, whole_local}
use Rattle.cfg_graph.specs.declared.graph.Block.{Block}
use Rattle.cfg_graph.specs.declared.graph.Body.{Body}
use Rattle.cfg_graph.specs.declared.place.Place as graph
use Rattle.cfg_graph.specs.Moves.Gone.{PathAction, is_gone_after}
use Rattle.cfg_graph.specs.Places.{named}
use Rattle.move_paths.specs.Forest.{PathForest, IsForest}
use Rattle.drop_values.specs.Facts.{Facts}
use Rattle.drop_elaborate.specs.Elaborated.{is_drop}
use Rattle.drop_elaborate.specs.Kinds.{Comes, AreFacts}
use Rattle.drop_ends.specs.declared.decided.Decided.{Decided}
use Rattle.drop_kinds.specs.Decided.{AreDecided, EndsInDropOf, IsDecided}

-- an element of a list with one more
of-more : {X : Type 0} (xs : List X) (x : X) (n : ℕ) (y : X) → slice_get (xs ++ x ∷ []) n ≡ Some y →
    (slice_get xs n ≡ Some y) ⊎ ((n ≡ length xs) × (x ≡ y))
of-more [] x zero y e = inr (refl, same_Some x y e)
of-more [] x (suc n) y e = absurd (none-some y e)
of-more (z ∷ xs) x zero y e = inl e
of-more (z ∷ xs) x (suc n) y e = elim (of-more xs x n y e) [
  | inl there ↦ inl there
  | inr last ↦ inr ((let k = last.0 in omega (k, arith)), last.1)
]

either-on : (a b : Bool) → (a || b) ≡ true → (a ≡ true) ⊎ (b ≡ true)
either-on true b h = inl refl
either-on false b h = inr h

pub or-left : (a b : Bool) → a ≡ true → (a || b) ≡ true
or-left a b h = ap (λ (z : Bool). z || b) h

or-right : (a b : Bool) → b ≡ true → (a || b) ≡ true
or-right true b h = refl
or-right false b h = h

module _ (items : ItemTable) (body : Body) (paths : List Place) (n : ℕ) (facts : Facts)
    (are : AreFacts items body paths n facts)
    (number : ℕ) (q : Place) (at : slice_get paths number ≡ Some q) where
  -- a path that comes there finds the local present, or gone
  pub comes-by : ((facts.present number || facts.gone number) ≡ true) ↔ ((before : List PathAction)
      × Comes items body n before)
  comes-by = (there, known)
    where
      there : (facts.present number || facts.gone number) ≡ true → (before : List PathAction)
          × Comes items body n before
      there h = elim (either-on (facts.present number) (facts.gone number) h) [
        | inl on ↦ (let may = (are.present number q at).0 on in (may.0, may.1))
        | inr on ↦ (let may = (are.gone number q at).0 on in (may.0, may.1))
      ]

      by : (before : List PathAction) → Comes items body n before → (b : Bool) → is_gone_after items body before q ≡ b →
          (facts.present number || facts.gone number) ≡ true
      by before c false e = or-left (facts.present number) (facts.gone number)
          ((are.present number q at).1 (before, c, e))
      by before c true e = or-right (facts.present number) (facts.gone number) ((are.gone number q at).1 (before, c, e))

      known : (before : List PathAction) × Comes items body n before → (facts.present number || facts.gone number)
          ≡ true
      known c = by c.0 c.1 (is_gone_after items body c.0 q) refl

-- each local is a path
pub local-path : (items : ItemTable) (body : Body) (forest : PathForest) → IsForest items body forest → (local : ℕ) →
    local < length body.locals → Contains forest.paths (whole_local local)
local-path items body forest is local less =
    (is.each (whole_local local)).1 (both_true (lt-ltb local (length body.locals) less) refl)

-- ---- all drops of a body

module _ (items : ItemTable) (body : Body) (paths : List Place) (flag_of : ℕ → Option ℕ) where
  pub decided-none : AreDecided items body paths flag_of 0 []
  decided-none = record {
    long = refl;
    each = λ n block place how ends e. absurd (none-some how e);
    others = λ n block how at none e. absurd (none-some how e);
  }

  -- one block more
  pub decided-more : (i : ℕ) (decided : List Decided) (block : Block) (how : Decided) →
      AreDecided items body paths flag_of i decided → slice_get body.blocks i ≡ Some block →
      ((place : graph.Place) → EndsInDropOf body i block place →
      IsDecided items body paths flag_of i (named place) how) →
      (is_drop block.term ≡ false → how ≡ Decided.Dead) → AreDecided items body paths flag_of (i + 1)
      (decided ++ how ∷ [])
  decided-more i decided block how so_far here drops others = record {
    long = (let l = length-append decided (how ∷ []) in let m = so_far.long in omega (l, m, arith));
    each = λ n other place done ends e. elim (of-more decided how n done e) [
      | inl there ↦ so_far.each n other place done ends there
      | inr last ↦ each-last n other place done ends (last.0 ∙ so_far.long) last.1
    ];
    others = λ n other done at none e. elim (of-more decided how n done e) [
      | inl there ↦ so_far.others n other done at none there
      | inr last ↦ sym last.1 ∙ others (ap (λ (z : Block). is_drop z.term) (same n other at (last.0 ∙ so_far.long))
          ∙ none)
    ];
  }
    where
      same : (n : ℕ) (other : Block) → slice_get body.blocks n ≡ Some other → n ≡ i → block ≡ other
      same n other at e = same_Some block other (sym here ∙ ap (slice_get body.blocks) (sym e) ∙ at)

      each-last : (n : ℕ) (other : Block) (place : graph.Place) (done : Decided) → EndsInDropOf body n other place →
          n ≡ i → how ≡ done → IsDecided items body paths flag_of n (named place) done
      each-last n other place done ends e is =
          subst (λ (k : ℕ). IsDecided items body paths flag_of k (named place) done) (sym e)
          (subst (λ (d : Decided). IsDecided items body paths flag_of i (named place) d) is
          (drops place (here, (ends.1.0, ends.1.1, ap (λ (z : Block). z.term) (same n other ends.0 e) ∙ ends.1.2))))
