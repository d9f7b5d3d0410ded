-- What the check of captures answers, beside that of the rules of typing: as many nodes as are answered are the last
-- ones.
use Rattle.std.specs.Prelude.{◌≡◌, ⊤, ℕ, List, reverse, Result, Ok, Err}
use Rattle.mir_base.specs.declared.rule.RuleError.{RuleError}
use Rattle.typeck_checker.specs.Lists.{below_all, last_nodes}
use Rattle.typeck_heads.specs.Answers.{Refuses}
use Rattle.typeck_checker.specs.Stand.{Stays, stack, state}
use Rattle.typeck_checker.specs.declared.checker.Checker.{Checker}
use Rattle.typed_tree.specs.Tree.{Node, Nodes}
use Rattle.typing_rules.specs.Check.{TypingState, Broken}
use Rattle.typing_rules.specs.Scope.{NamedEntry}

-- the captures, of which the youngest is the first here and the last there
abbrev pub GivesCaptures : Result ((Nodes × List NamedEntry) × TypingState) Broken → Result ℕ RuleError →
    List NamedEntry → Checker → Type 0
GivesCaptures outcome (Ok count) bound after = outcome ≡
    Ok ((last_nodes count (stack after), reverse bound), state after)
GivesCaptures outcome (Err e) bound after = Refuses outcome e

-- these nodes stand below them, and the expression stands where it stood
abbrev pub KeepsBelow : List Node → Checker → Result ℕ RuleError → Checker → Type 0
KeepsBelow others before (Ok count) after = (below_all count (stack after) ≡ others) × Stays before after
KeepsBelow others before (Err e) after = ⊤
