use Rattle.std.proofs.Common.{◌≡◌, drop}
use Rattle.typed_tree.specs.Listed.{trees}
use Rattle.cfg_build.specs.Words.{first_capture}
use Rattle.cfg_build.proofs.names.first_capture.Given as goal

abbrev pub invariant-loop-node : goal.invariant-loop-node
invariant-loop-node l =
    first_capture l.key.0 l.part (trees l.nodes) ≡ first_capture l.key.0 l.part (trees (drop l.node-index l.nodes))
