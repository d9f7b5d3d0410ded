use Rattle.std.proofs.Common.{◌≡◌, ◌++◌, drop}
use Rattle.typed_tree.specs.Listed.{trees}
use Rattle.scope_table.specs.Table.{idle}
use Rattle.scope_table.proofs.patterns.add_idle_nodes.Given as goal

abbrev pub invariant-loop-node : goal.invariant-loop-node
invariant-loop-node l =
    l.rows ++ idle l.temporary (trees (drop l.node-index l.nodes)) ≡ l.fn.rows ++ idle l.temporary (trees l.nodes)
