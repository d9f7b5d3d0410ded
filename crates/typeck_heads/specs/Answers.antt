-- What a call of the checker answers, beside the walk of the definitions.
use Rattle.std.specs.Prelude.{◌≡◌, List, ◌++◌, Result, Ok, Err, ⊤}
use Rattle.mir_base.specs.declared.rule.RuleError.{RuleError}
use Rattle.mir_ty.specs.ItemTable.{ItemTable}
use Rattle.typing_rules.specs.Check.{TypingState, Broken}
use Rattle.typing_rules.specs.Collected.{starting_with}

-- the rule that is refused is the first broken one; want of memory says nothing
abbrev pub Refuses : {A : Type 0} → Result A Broken → RuleError → Type 0
Refuses outcome (RuleError.Broken rule at) = outcome ≡ Err (record { rule = rule; at = at })
Refuses outcome RuleError.Memory = ⊤

-- what a walk gives is what a call answers, and it leaves these items
abbrev pub Answers : {A : Type 0} → Result (A × TypingState) Broken → Result A RuleError → ItemTable → Type 0
Answers outcome (Ok a) after = outcome ≡ Ok (a, starting_with after)
Answers outcome (Err e) after = Refuses outcome e

-- what a walk gives of further things, behind what it gave of the first ones
abbrev pub behind : {A : Type 0} → List A → Result (List A × TypingState) Broken → Result (List A × TypingState) Broken
behind earlier (Ok a) = Ok (earlier ++ a.0, a.1)
behind earlier (Err e) = Err e
