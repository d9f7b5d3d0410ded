-- Each line is found, and nothing but a line in front.
use Rattle.listing_lines.proofs.TraitsComplete.{traits_read}
use Rattle.listing_lines.proofs.TraitsSound.{traits_sound}
use Rattle.listing_lines.proofs.trait_law.law_of_traits.Goals as goal

pub returns : goal.returns
returns c = record { traits = traits_read; only_traits = traits_sound }
