use Rattle.std.proofs.Common.{◌≡◌, ◌-◌, length}
use Rattle.listing_write.specs.Reading.Rows.{many}
use Rattle.listing_parts.proofs.Rows.{so_far}
use Rattle.listing_lines.specs.CodeReading.{statement_read}
use Rattle.listing_lines.proofs.blocks.statements.Given as goal

abbrev pub invariant-loop : goal.invariant-loop
invariant-loop l = many (statement_read l.heads) l.text ≡ so_far (statement_read l.heads) (length l.text - l.counter) l.stmts l.rest
