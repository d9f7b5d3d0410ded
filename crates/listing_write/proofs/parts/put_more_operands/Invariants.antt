use Rattle.std.proofs.Common.{◌≡◌, ◌++◌, take, map}
use Rattle.std.specs.String.{string_bytes}
use Rattle.listing_write.specs.Lists.{behind_commas}
use Rattle.listing_write.specs.Parts.{operand_text}
use Rattle.listing_write.proofs.parts.put_more_operands.Given as goal

abbrev pub invariant-loop-operand : goal.invariant-loop-operand
invariant-loop-operand l = string_bytes l.out ≡ string_bytes l.initial.out ++ behind_commas (map operand_text (take l.operand-index l.operands))
