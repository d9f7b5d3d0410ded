use Rattle.std.proofs.Common.{◌≡◌, ◌++◌, take, flat_map}
use Rattle.move_paths.specs.Uses.{listed, operand_uses}
use Rattle.move_paths.proofs.uses.add_operands.Given as goal

abbrev pub invariant-loop-operand : goal.invariant-loop-operand
invariant-loop-operand l = listed l.uses ≡ listed l.initial.uses ++ flat_map operand_uses (take l.operand-index l.operands)
