use Rattle.std.proofs.Common.{length}
use Rattle.cfg_graph.proofs.same_types.+begins_with.Given as goal

abbrev pub decreases-begins_with : goal.decreases-begins_with
decreases-begins_with l = length l.these.now
