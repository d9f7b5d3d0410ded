use Rattle.mir_machine.proofs.RunsCounted.{AreCounted}
use Rattle.mir_machine.proofs.counted.turns_counted.Given as goal

abbrev pub invariant-loop-turn : goal.invariant-loop-turn
invariant-loop-turn l = AreCounted l.graph l.fn.world l.world l.tasks l.doing l.counts
