use Rattle.std.proofs.Common.{length}
use Rattle.cfg_graph.proofs.typing.+operands_are.Given as goal

abbrev pub decreases-operands_are : goal.decreases-operands_are
decreases-operands_are l = length l.types.now
