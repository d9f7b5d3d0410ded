-- Each part that is written is found.
use Rattle.listing_parts.proofs.EachIsRead.{places_are_read, operands_are_read, rows_are_read, stmts_are_read, terms_are_read, terms_are_no_stmts}
use Rattle.listing_parts.proofs.law.law_of_parts.Goals as goal

pub returns : goal.returns
returns c = record {
  places = places_are_read;
  operands = operands_are_read;
  rows = rows_are_read;
  stmts = stmts_are_read;
  terms = terms_are_read;
  apart = terms_are_no_stmts;
}
