use Rattle.mir_pipeline.proofs.FirstBad.{StandsBefore}
use Rattle.mir_pipeline.proofs.uses.first_bad.Given as goal

abbrev pub invariant-loop-number : goal.invariant-loop-number
invariant-loop-number l = StandsBefore l.graph l.number
