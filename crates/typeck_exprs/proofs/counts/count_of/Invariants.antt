use Rattle.std.proofs.Common.{◌≡◌, ◌+◌}
use Rattle.src_ast.specs.Seen.{nodes_of}
use Rattle.typing_rules.specs.Patterns.{count_of}
use Rattle.typeck_exprs.proofs.counts.count_of.Given as goal

abbrev pub invariant-loop-split : goal.invariant-loop-split
invariant-loop-split l = l.count + count_of (nodes_of l.rest) ≡ count_of (nodes_of l.initial.rest)

abbrev pub decreases-loop-split : goal.decreases-loop-split
decreases-loop-split l = count_of (nodes_of l.rest)
