use Rattle.drop_graphs.proofs.AllGone.{AreGoneTo}
use Rattle.drop_graphs.proofs.exact.all_gone.Given as goal

abbrev pub invariant-loop-number : goal.invariant-loop-number
invariant-loop-number l = AreGoneTo l.raw l.number l.all
