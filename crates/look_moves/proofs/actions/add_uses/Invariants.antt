use Rattle.std.proofs.Common.{◌≡◌, ◌++◌, take}
use Rattle.cfg_graph.specs.Moves.Actions.{at_line}
use Rattle.move_paths.specs.Uses.{listed}
use Rattle.look_moves.specs.Actions.{seen}
use Rattle.look_moves.proofs.actions.add_uses.Given as goal

abbrev pub invariant-loop-used : goal.invariant-loop-used
invariant-loop-used l = seen l.out ≡ seen l.initial.out ++ at_line l.block l.line (listed (take l.used-index l.uses))
