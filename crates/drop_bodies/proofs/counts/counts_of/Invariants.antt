use Rattle.std.proofs.Common.{◌≡◌, length}
use Rattle.drop_bodies.specs.Counts.{totals_of, kind_at, AreCounts}
use Rattle.drop_bodies.proofs.counts.counts_of.Given as goal

abbrev pub invariant-loop-block : goal.invariant-loop-block
invariant-loop-block l =
    (l.number ≡ l.block-index)
    × AreCounts (kind_at l.forest.paths l.decided l.body.blocks) l.block-index (length l.flags.paths) (totals_of l.counts)
