use Rattle.std.proofs.Common.{◌≡◌, map, drop}
use Rattle.lower_passes.specs.Framed.{frame_of}
use Rattle.lower_code.specs.View.{op_of}
use Rattle.lower_passes.specs.MarkRules.{marking_of, all_marked, none_marked}
use Rattle.lower_passes.proofs.mark_pass.marks_of.Given as goal

abbrev pub invariant-loop-word : goal.invariant-loop-word
invariant-loop-word l =
    all_marked (frame_of l.frame) (map op_of (drop l.word-index l.word-items)) (marking_of l.marks)
    ≡ all_marked (frame_of l.frame) (map op_of l.word-items) none_marked
