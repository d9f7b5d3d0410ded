-- What calls over some patterns answer, beside a check of the rules of typing.
use Rattle.std.specs.Prelude.{◌≡◌, ⊤, ℕ, List, reverse, Option, Some, None, Result, Ok, Err}
use Rattle.mir_base.specs.declared.rule.RuleError.{RuleError}
use Rattle.typeck_checker.specs.Lists.{below_all, last_nodes}
use Rattle.typeck_heads.specs.Answers.{Refuses}
use Rattle.typeck_patterns.specs.Fields.{below_given, below_if, last_fields}
use Rattle.typeck_checker.specs.Stand.{Stays, stack, state, top}
use Rattle.typeck_checker.specs.declared.checker.Checker.{Checker}
use Rattle.typed_tree.specs.Tree.{Node, Nodes, Fields}
use Rattle.typing_rules.specs.Check.{TypingState, Broken}
use Rattle.typing_rules.specs.Rows.{Given}
use Rattle.typing_rules.specs.Scope.{NamedEntry}

-- the last nodes, so many, and the bindings so far are what a check of some patterns gives
abbrev pub GivesNodes : Result ((Nodes × List NamedEntry) × TypingState) Broken → Result ℕ RuleError → List NamedEntry →
    Checker → Type 0
GivesNodes outcome (Ok count) bound after = outcome ≡ Ok ((last_nodes count (stack after), reverse bound), state after)
GivesNodes outcome (Err e) bound after = Refuses outcome e

abbrev pub KeepsBelow : List Node → Checker → Result ℕ RuleError → Checker → Type 0
KeepsBelow others before (Ok count) after = (below_all count (stack after) ≡ others) × Stays before after
KeepsBelow others before (Err e) after = ⊤

-- the fields of these numbers, whose nodes are the last ones
abbrev pub GivesFields : Result ((Fields × List NamedEntry × Given) × TypingState) Broken → Result Given RuleError →
    List NamedEntry → Checker →
    Type 0
GivesFields outcome (Ok given) bound after =
    outcome ≡ Ok ((last_fields given (stack after), reverse bound, given), state after)
GivesFields outcome (Err e) bound after = Refuses outcome e

abbrev pub KeepsGiven : List Node → Checker → Result Given RuleError → Checker → Type 0
KeepsGiven others before (Ok given) after = (below_given given (stack after) ≡ others) × Stays before after
KeepsGiven others before (Err e) after = ⊤

-- the field of a number, if it is one, whose node is the last one
abbrev pub field_if : Option ℕ → List Node → Option (ℕ × Node)
field_if None ns = None
field_if (Some n) ns = Some (n, top ns)

abbrev pub GivesField : Result ((Option (ℕ × Node) × List NamedEntry × Option ℕ) × TypingState) Broken →
    Result (Option ℕ) RuleError →
    List NamedEntry → Checker → Type 0
GivesField outcome (Ok number) bound after =
    outcome ≡ Ok ((field_if number (stack after), reverse bound, number), state after)
GivesField outcome (Err e) bound after = Refuses outcome e

abbrev pub KeepsIf : List Node → Checker → Result (Option ℕ) RuleError → Checker → Type 0
KeepsIf others before (Ok number) after = (below_if number (stack after) ≡ others) × Stays before after
KeepsIf others before (Err e) after = ⊤
