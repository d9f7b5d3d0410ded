use Rattle.std.proofs.Common.{◌≡◌, ◌-◌, length}
use Rattle.listing_write.specs.Reading.Rows.{many}
use Rattle.listing_lines.specs.LineReading.{blank_number}
use Rattle.listing_parts.proofs.Rows.{so_far}
use Rattle.listing_lines.proofs.items.blank_numbers.Given as goal

abbrev pub invariant-loop : goal.invariant-loop
invariant-loop l = many blank_number l.text ≡ so_far blank_number (length l.text - l.counter) l.numbers l.rest
