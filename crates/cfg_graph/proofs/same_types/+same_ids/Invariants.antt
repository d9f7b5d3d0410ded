use Rattle.std.proofs.Common.{length}
use Rattle.cfg_graph.proofs.same_types.+same_ids.Given as goal

abbrev pub decreases-same_ids : goal.decreases-same_ids
decreases-same_ids l = length l.ids.now
