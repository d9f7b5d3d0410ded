use Rattle.std.proofs.Common.{length}
use Rattle.cfg_graph.proofs.impl_faults.+bodies_implement.Given as goal

abbrev pub decreases-bodies_implement : goal.decreases-bodies_implement
decreases-bodies_implement l = length l.methods.now
