use Rattle.std.proofs.Common.{◌≡◌, take}
use Rattle.mir_text.specs.Answers.{bodies_lines}
use Rattle.mir_text.proofs.count.bodies_lines.Given as goal

abbrev pub invariant-loop-body : goal.invariant-loop-body
invariant-loop-body l = l.lines ≡ bodies_lines (take l.body-index l.bodies)
