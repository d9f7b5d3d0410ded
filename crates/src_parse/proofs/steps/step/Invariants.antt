use Rattle.std.proofs.Common.{◌≡◌, length}
use Rattle.src_parse.specs.Counting.{act}
use Rattle.src_parse.specs.View.{frame_of, stack_of}
use Rattle.src_parse.proofs.steps.step.Given as goal

abbrev pub invariant-loop-point : goal.invariant-loop-point
invariant-loop-point l = act (stack_of l.below) (frame_of l.top) l.token l.at ≡ act (stack_of l.initial.below) (frame_of l.initial.top) l.fn.token l.at

abbrev pub decreases-loop-point : goal.decreases-loop-point
decreases-loop-point l = length (stack_of l.below)
