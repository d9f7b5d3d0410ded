use Rattle.std.proofs.Common.{◌≡◌, ◌++◌, take, flat_map}
use Rattle.drop_flags.specs.Asked.{operand_stores}
use Rattle.drop_flags.proofs.flags.Flags.add_operands.Given as goal

abbrev pub invariant-loop-operand : goal.invariant-loop-operand
invariant-loop-operand l = l.stmts ≡ l.initial.stmts ++ flat_map (operand_stores l.self) (take l.operand-index l.operands)
