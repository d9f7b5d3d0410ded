use Rattle.std.proofs.Common.{◌≡◌, ◌+◌}
use Rattle.src_ast.specs.Seen.{nodes_of}
use Rattle.typing_rules.specs.Patterns as rules
use Rattle.typeck_patterns.proofs.counts.count_of.Given as goal

abbrev pub invariant-loop-split : goal.invariant-loop-split
invariant-loop-split l = l.count + rules.count_of (nodes_of l.rest) ≡ rules.count_of (nodes_of l.nodes)

abbrev pub decreases-loop-split : goal.decreases-loop-split
decreases-loop-split l = rules.count_of (nodes_of l.rest)
