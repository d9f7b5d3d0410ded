use Rattle.std.proofs.Common.{take, true}
use Rattle.move_paths.specs.Uses.{listed}
use Rattle.init_flow.specs.Fits.{AreSwitched}
use Rattle.init_flow.proofs.switch_ways.add_uses.Given as goal

abbrev pub invariant-loop-used : goal.invariant-loop-used
invariant-loop-used l = AreSwitched l.forest.paths true l.initial.switches l.switches (listed (take l.used-index l.uses))
