-- Each line is found, and nothing but a line in front.
use Rattle.listing_lines.proofs.Complete.{bodies_read_, locals_read_, blocks_read_, closures_read_, impls_read_}
use Rattle.listing_lines.proofs.Sound.{bodies_sound, locals_sound, blocks_sound, closures_sound, impls_sound}
use Rattle.listing_lines.proofs.law.law_of_lines.Goals as goal

pub returns : goal.returns
returns c = record {
  bodies = bodies_read_;
  locals = locals_read_;
  blocks = blocks_read_;
  closures = closures_read_;
  impls = impls_read_;
  only_bodies = bodies_sound;
  only_locals = locals_sound;
  only_blocks = blocks_sound;
  only_closures = closures_sound;
  only_impls = impls_sound;
}
