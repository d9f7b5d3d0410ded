-- Each line is found, and nothing but a line in front.
use Rattle.listing_lines.proofs.ItemsComplete.{structs_read, enums_read}
use Rattle.listing_lines.proofs.ItemsSound.{adts_sound}
use Rattle.listing_lines.proofs.item_law.law_of_items.Goals as goal

pub returns : goal.returns
returns c = record { structs = structs_read; enums = enums_read; only_adts = adts_sound }
