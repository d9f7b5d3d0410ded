-- Calls whose arguments are still to be checked.
use Rattle.std.specs.Prelude.{◌≡◌, ℕ, List, Result, Ok, Err}
use Rattle.mir_base.specs.declared.rule.RuleError.{RuleError}
use Rattle.mir_ty.specs.declared.ty.TyId.{TyId}
use Rattle.typeck_heads.specs.Answers.{Refuses}
use Rattle.typed_tree.specs.Tree.{Node, Nodes}
use Rattle.typeck_checker.specs.Stand.{stack, state, top}
use Rattle.typeck_checker.specs.declared.checker.Checker.{Checker}
use Rattle.typing_rules.specs.Check.{Check, TypingState, ◌>>=◌}

-- what checks arguments, by the types of the parameters
abbrev pub Arguments : Type 0
Arguments = List TyId → Check Nodes

-- Whatever arguments there are, so many: what a check gives with them is what they give for parameters of these types,
-- and then the rest of the check gives behind the last node and them.
abbrev pub GivesCall : {B : Type 0} → (ℕ → Arguments → Check Node) → TypingState → (B → List TyId) →
    (B → Node → ℕ → Nodes → Check Node) → Result B RuleError → Checker → Type 0
GivesCall check before params rest (Ok b) after =
    (count : ℕ) (args : Arguments) →
    check count args before ≡ (args (params b) >>= rest b (top (stack after)) count) (state after)
GivesCall check before params rest (Err e) after =
    (count : ℕ) (args : Arguments) → Refuses (check count args before) e
