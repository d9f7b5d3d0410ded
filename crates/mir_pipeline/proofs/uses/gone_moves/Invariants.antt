use Rattle.drop_graphs.proofs.AllGone.{AreGoneTo}
use Rattle.mir_pipeline.proofs.FirstBad.{StandsBefore}
use Rattle.mir_pipeline.proofs.uses.gone_moves.Given as goal

abbrev pub invariant-loop-number : goal.invariant-loop-number
invariant-loop-number l = StandsBefore l.graph l.number × AreGoneTo l.graph l.number l.all
