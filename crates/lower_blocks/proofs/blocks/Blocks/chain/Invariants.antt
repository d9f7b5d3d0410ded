use Rattle.std.proofs.Common.{◌≡◌, take}
use Rattle.lower_rules.specs.Build as build
use Rattle.lower_passes.specs.Framed.{frame_of}
use Rattle.lower_passes.specs.Scoped.{entries_of}
use Rattle.lower_blocks.specs.Building.{building_of}
use Rattle.lower_blocks.proofs.blocks.Blocks.chain.Given as goal

abbrev pub invariant-loop-entry : goal.invariant-loop-entry
invariant-loop-entry l =
    (l.number, building_of l.self)
    ≡ build.chain (frame_of l.frame) (entries_of (take l.entry-index l.entries)) (building_of l.fn.self)
