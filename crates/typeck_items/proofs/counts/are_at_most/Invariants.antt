use Rattle.std.proofs.Common.{◌≡◌, nat_le}
use Rattle.src_ast.specs.Seen.{nodes_of}
use Rattle.typing_rules.specs.Patterns as sizes
use Rattle.typing_rules.specs.Program.{count_of}
use Rattle.typeck_items.proofs.counts.are_at_most.Given as goal

abbrev pub invariant-loop-split : goal.invariant-loop-split
invariant-loop-split l = nat_le (count_of (nodes_of l.nodes)) l.most ≡ nat_le (count_of (nodes_of l.rest)) l.left

abbrev pub decreases-loop-split : goal.decreases-loop-split
decreases-loop-split l = sizes.count_of (nodes_of l.rest)
