use Rattle.std.proofs.Common.{◌≡◌, length}
use Rattle.drop_graphs.proofs.AllGone.{ArePlannedTo}
use Rattle.drop_graphs.proofs.exact.plans_of.Given as goal

abbrev pub invariant-loop-told : goal.invariant-loop-told
invariant-loop-told l = (l.number ≡ length l.yielded) × ArePlannedTo l.raw (length l.yielded) l.plans
