use Rattle.std.proofs.Common.{◌≡◌, ◌++◌, take}
use Rattle.listing_write.specs.Items.{counted}
use Rattle.look_draw.specs.Drawings.{block_drawing}
use Rattle.look_draw.proofs.drawings.put_blocks.Given as goal

abbrev pub invariant-loop-n : goal.invariant-loop-n
invariant-loop-n l = l.out.items ≡ l.initial.out.items ++ counted (block_drawing l.items l.sites l.body l.before) 0 (take l.n l.blocks)
