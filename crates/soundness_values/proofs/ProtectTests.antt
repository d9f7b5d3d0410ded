-- Tests of what may be passed: exactly what a protected parameter names is dropped by no body that has it, and passed on
-- only for parameters that are protected as well. So it is not replaced.
use Rattle.std.proofs.Common.{ℕ, suc, ◌&&◌, ◌||◌, not, Bool, true, List, [], ◌∷◌, Option, Some, None}
use Rattle.std.specs.List.{list_all}
use Rattle.mir_ty.specs.ItemTable.{ItemTable}
use Rattle.store_model.specs.Effects as effects
use Rattle.store_model.specs.Effects.{Operand, Action}
use Rattle.typing_rules.specs.Replaced.{OfTrait, bodies_of}
use Rattle.soundness_values.proofs.AlsoTests.{Also}
use Rattle.soundness_values.proofs.Checks.{after_operand, naming_of}
use Rattle.soundness_values.proofs.DropsCount.{is_content}
use Rattle.soundness_values.proofs.Facts.{Naming, Facts}

module _ (items : ItemTable) (protects : ℕ → ℕ → Bool) (n : ℕ) where
  -- a reference to exactly what a protected parameter names is passed for a protected parameter
  abbrev pub marked_naming : List ℕ → ℕ → Option Naming → Bool
  marked_naming bodies local None = true
  marked_naming bodies local (Some m) =
      not (m.unique && (is_content m.place.steps && protects n m.place.local))
      || list_all (λ body. protects body local) bodies

  abbrev pub marked_one : List ℕ → ℕ → Facts → Operand → Bool
  marked_one bodies local facts (effects.Moved site) =
      marked_naming bodies local (naming_of items (λ key. None) (λ key. true) site.place.local facts)
  marked_one bodies local facts operand = true

  -- the arguments for the parameters from a number on
  abbrev pub marked : List ℕ → ℕ → Facts → List Operand → Bool
  marked bodies local facts [] = true
  marked bodies local facts (operand ∷ args) =
      marked_one bodies local facts operand
      && marked bodies (suc local) (after_operand items (λ key. None) (λ key. true) operand facts) args

  abbrev pub marked_act : Facts → Action → Bool
  marked_act facts (effects.Call to body args) = marked (body ∷ []) 1 facts args
  marked_act facts (effects.CallVirtual to trait_no method args) =
      marked (bodies_of items (OfTrait trait_no method)) 1 facts args
  marked_act facts action = true

abbrev pub protect_tests : ItemTable → (ℕ → ℕ → Bool) → ℕ → Also
protect_tests items protects n = record {
  act = marked_act items protects n;
  drop = λ place. not (is_content place.steps && protects n place.local);
}
