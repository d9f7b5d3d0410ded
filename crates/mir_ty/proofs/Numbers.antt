-- The numbers that a set of `indexmap` has of its elements, where one more goes last.
use Rattle.std.proofs.Common.{◌≡◌, ℕ, ◌≤◌, Bool, true, false, cond, nat_lt, if◌then◌else◌, List, [], ◌∷◌, ◌++◌, length, get_or, All, Contains, position, Option, Some, None, Decides, refl, ap, subst, sym, ◌∙◌, arith}
use Rattle.std.specs.List.{position_or_len}
use Rattle.std.proofs.lemmas.Bool.{false≢true, ltb-false}
use Rattle.std.proofs.lemmas.Option.{none-some, slice_get-get_or}
use Rattle.std.proofs.lemmas.List.Elements.{Contains-get_or}
use Rattle.std.proofs.lemmas.List.Folds.{list_any_none}
use Rattle.std.proofs.lemmas.List.Quantifiers.{position-Some}
use Rattle.std.proofs.lemmas.List.Sums.{fails_before_first}
use Rattle.indexmap.specs.IndexSet.{insert_key}
use Rattle.mir_ty.specs.AreItems.{IsNumberOf}

none_below : (a b : ℕ) → cond (nat_lt a b) (Some a) None ≡ None → b ≤ a
none_below a b h = by (nat_lt a b) refl h
  where
    by : (c : Bool) → nat_lt a b ≡ c → cond c (Some a) None ≡ None → b ≤ a
    by true is h = absurd (none-some a (sym h))
    by false is h = ltb-false a b is

-- `eq` is a test of equality
module _ {X : Type 0} (eq : X → X → Bool) (decides : (x y : X) → Decides (eq x y) (x ≡ y)) where
  -- an element that is not in a list is equal to none of it
  no_other : (all : List X) (x : X) → ¬ Contains all x → All (λ y. eq x y ≡ false) all
  no_other all x absent k d below = by (eq x (get_or all k d)) refl
    where
      by : (b : Bool) → eq x (get_or all k d) ≡ b → b ≡ false
      by true is = absurd (absent (subst (Contains all) (sym ((decides x (get_or all k d)).0 is)) (Contains-get_or all k d below)))
      by false is = refl

  -- the first place at which an element stands is its number
  pub found : (all : List X) (x : X) (number : Option ℕ) → number ≡ position (eq x) all → IsNumberOf all x number
  found all x None is = λ has.
      let first = position_or_len (eq x) all in
      let passed : length all ≤ first = none_below first (length all) (sym is) in
      let other : eq x x ≡ false = ap (eq x) (sym has.2) ∙ fails_before_first (eq x) all has.0 x (omega (arith, has.1)) in
      false≢true (sym other ∙ (decides x x).1 refl)
  found all x (Some n) is =
      let p = position-Some (eq x) all n x (sym is) in
      slice_get-get_or all n x p.0 ∙ ap Some (sym ((decides x (get_or all n x)).0 p.1))

  -- an element that is not in a list goes last
  pub insert_key-new : (all : List X) (x : X) → ¬ Contains all x → insert_key eq all x ≡ all ++ x ∷ []
  insert_key-new all x absent = ap (λ b. if b then all else all ++ x ∷ []) (list_any_none (eq x) all (no_other all x absent))
