use Rattle.std.proofs.Common.{take}
use Rattle.move_paths.specs.Uses.{listed}
use Rattle.drop_plans.specs.Passing.{Passes}
use Rattle.drop_plans.proofs.facts.pass_uses.Given as goal

abbrev pub invariant-loop-used : goal.invariant-loop-used
invariant-loop-used l = Passes l.forest.paths l.gone l.below (listed (take l.used-index l.uses)) l.initial.row l.row
