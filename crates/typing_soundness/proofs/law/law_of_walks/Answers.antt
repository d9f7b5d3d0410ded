use Rattle.std.proofs.Common.{[]}
use Rattle.typing_soundness.proofs.Walking.Expressions.{typed_walks}
use Rattle.typing_soundness.proofs.Walking.Patterns.{pattern_walks}
use Rattle.typing_soundness.proofs.law.law_of_walks.Goals as goal

pub returns-clause-patterns : goal.returns-clause-patterns
returns-clause-patterns c env e ty p s = pattern_walks env e ty p [] s

pub returns-clause-expressions : goal.returns-clause-expressions
returns-clause-expressions c = typed_walks
