use Rattle.std.proofs.Common.{◌≡◌, ◌-◌, length}
use Rattle.listing_write.specs.Reading.Parts.{step_read}
use Rattle.listing_write.specs.Reading.Rows.{many}
use Rattle.listing_parts.proofs.Rows.{so_far}
use Rattle.listing_parts.proofs.places.steps.Given as goal

abbrev pub invariant-loop : goal.invariant-loop
invariant-loop l = many step_read l.text ≡ so_far step_read (length l.text - l.counter) l.steps l.rest
