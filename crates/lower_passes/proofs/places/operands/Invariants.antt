use Rattle.std.proofs.Common.{◌≡◌, ◌++◌, drop}
use Rattle.lower_rules.specs.Build as build
use Rattle.cfg_meaning.specs.Actions.{operands_of}
use Rattle.lower_passes.specs.Framed.{frame_of}
use Rattle.lower_passes.proofs.places.operands.Given as goal

abbrev pub invariant-loop-one : goal.invariant-loop-one
invariant-loop-one l =
    l.found ++ build.operands_of (frame_of l.frame) (operands_of 0 (drop l.one-index l.all))
    ≡ build.operands_of (frame_of l.frame) (operands_of 0 l.all)
