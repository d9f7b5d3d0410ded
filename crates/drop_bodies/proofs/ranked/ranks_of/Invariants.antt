use Rattle.std.proofs.Common.{◌≡◌, map, take}
use Rattle.drop_bodies.proofs.ranked.ranks_of.Given as goal

abbrev pub invariant-loop-block : goal.invariant-loop-block
invariant-loop-block l = l.ranks ≡ map (λ block. block.rank) (take l.block-index l.body.blocks)
