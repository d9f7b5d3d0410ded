use Rattle.std.proofs.Common.{◌≡◌, length}
use Rattle.src_parse.specs.Counting.{close as close_of}
use Rattle.src_parse.specs.View.{frame_of, stack_of}
use Rattle.src_parse.proofs.steps.close.Given as goal

abbrev pub invariant-loop-row : goal.invariant-loop-row
invariant-loop-row l = close_of (stack_of l.below) (frame_of l.top) ≡ close_of (stack_of l.initial.below) (frame_of l.initial.top)

abbrev pub decreases-loop-row : goal.decreases-loop-row
decreases-loop-row l = length (stack_of l.below)
