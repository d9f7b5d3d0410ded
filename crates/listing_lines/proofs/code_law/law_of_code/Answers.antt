-- Each line is found, and nothing but a line in front.
use Rattle.listing_lines.proofs.CodeComplete.{statements_read, terminators_read, no_statements}
use Rattle.listing_lines.proofs.CodeSound.{statements_sound, terminators_sound}
use Rattle.listing_lines.proofs.code_law.law_of_code.Goals as goal

pub returns : goal.returns
returns c = record {
  statements = statements_read;
  terminators = terminators_read;
  apart = no_statements;
  only_statements = statements_sound;
  only_terminators = terminators_sound;
}
