use Rattle.std.proofs.Common.{take, flat_map}
use Rattle.move_paths.specs.Forest.{Names}
use Rattle.move_paths.specs.Uses.{block_uses}
use Rattle.move_paths.proofs.forest.add_blocks.Given as goal

abbrev pub invariant-loop-block : goal.invariant-loop-block
invariant-loop-block l = Names l.items l.body l.initial.trie l.trie (flat_map block_uses (take l.block-index l.body.blocks))
