use Rattle.std.proofs.Common.{◌≡◌, drop}
use Rattle.typed_tree.specs.Listed.{trees}
use Rattle.cfg_build.specs.Told.{rise_from}
use Rattle.cfg_build.proofs.names.rise.Given as goal

abbrev pub invariant-loop-node : goal.invariant-loop-node
invariant-loop-node l = rise_from 0 (trees l.nodes) ≡ rise_from l.least (trees (drop l.node-index l.nodes))
