-- Each type that stands is found, and nothing but what stands in front.
use Rattle.listing_parts.proofs.Complete.{type_reads, rows_read}
use Rattle.listing_parts.proofs.PlainNumbers.{plain_read, plain_sound}
use Rattle.listing_parts.proofs.Sound.{type_sound, rows_sound}
use Rattle.listing_parts.proofs.type_law.law_of_types.Goals as goal

pub returns : goal.returns
returns c = record {
  types = type_reads;
  rows = rows_read;
  numbers = plain_read;
  only_types = type_sound;
  only_rows = rows_sound;
  only_numbers = plain_sound;
}
