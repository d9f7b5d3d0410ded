use Rattle.std.proofs.Common.{◌≡◌, take}
use Rattle.drop_copies.proofs.lines.copy_operands.Given as goal

abbrev pub invariant-loop-operand : goal.invariant-loop-operand
invariant-loop-operand l = l.copies ≡ take l.operand-index l.operands
