use Rattle.std.proofs.Common.{◌≡◌, ◌++◌}
use Rattle.src_ast.specs.Seen.{nodes_of}
use Rattle.typing_rules.specs.Patterns as sizes
use Rattle.typing_rules.specs.Program.{method_names}
use Rattle.typeck_items.proofs.names.method_names.Given as goal

abbrev pub invariant-loop-split : goal.invariant-loop-split
invariant-loop-split l = method_names (nodes_of l.methods) ≡ l.names ++ method_names (nodes_of l.rest)

abbrev pub decreases-loop-split : goal.decreases-loop-split
decreases-loop-split l = sizes.count_of (nodes_of l.rest)
