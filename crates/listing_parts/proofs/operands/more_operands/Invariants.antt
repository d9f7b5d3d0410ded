use Rattle.std.proofs.Common.{◌≡◌, ◌-◌, length}
use Rattle.listing_write.specs.Reading.Parts.{operand_read}
use Rattle.listing_write.specs.Reading.Rows.{comma}
use Rattle.listing_parts.proofs.Rows.{so_far}
use Rattle.listing_parts.proofs.operands.more_operands.Given as goal

abbrev pub invariant-loop : goal.invariant-loop
invariant-loop l =
    so_far (comma operand_read) (length l.text) l.initial.parts l.text
    ≡ so_far (comma operand_read) (length l.text - l.counter) l.parts l.rest
