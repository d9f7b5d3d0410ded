use Rattle.std.proofs.Common.{◌+◌, length}
use Rattle.mir_text.proofs.Settling.{AreAfter}
use Rattle.mir_text.proofs.graphs.settled_heads.Given as goal

abbrev pub invariant-loop-heads : goal.invariant-loop-heads
invariant-loop-heads l = AreAfter l.text l.heads

abbrev pub decreases-loop-heads : goal.decreases-loop-heads
decreases-loop-heads l = length l.heads.adts + length l.heads.traits
