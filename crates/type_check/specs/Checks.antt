-- What `check` answers.
use Rattle.std.specs.Prelude.{◌≡◌, Result, Ok, Err}
use Rattle.mir_base.specs.declared.rule.RuleError.{RuleError}
use Rattle.typeck_heads.specs.Answers.{Refuses}
use Rattle.typed_tree.specs.Tree.{ProgramTree}
use Rattle.typed_tree.specs.View.{program_of}
use Rattle.typed_tree.specs.declared.body.Typed.{Typed}
use Rattle.typing_rules.specs.Check.{TypingState, Broken}

-- the typed program, or the first broken rule; want of memory says nothing
abbrev pub Checks : Result ProgramTree Broken → Result Typed RuleError → Type 0
Checks outcome (Ok typed) = outcome ≡ Ok (program_of typed)
Checks outcome (Err e) = Refuses outcome e

-- the program of a walk that is at its end
abbrev pub program_at : TypingState → ProgramTree
program_at s = record { items = s.items; bodies = s.bodies }
