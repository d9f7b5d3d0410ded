use Rattle.std.proofs.Common.{take}
use Rattle.init_flow.specs.Fits.{AreWays}
use Rattle.init_flow.proofs.maybe.all_blocks.Given as goal

abbrev pub invariant-loop-block : goal.invariant-loop-block
invariant-loop-block l = AreWays l.forest.paths l.made (take l.block-index l.body.blocks)
