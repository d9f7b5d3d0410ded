use Rattle.std.proofs.Common.{◌≡◌, ◌++◌, drop}
use Rattle.drop_ranks.specs.Ranks as ranks
use Rattle.drop_ranks.proofs.lower.lower_ranks.Given as goal

abbrev pub invariant-loop-top : goal.invariant-loop-top
invariant-loop-top l =
    (l.n ≡ l.top-index)
    × (l.lower ++ ranks.lower_ranks (drop l.top-index l.tops) (drop l.top-index l.sizes) ≡ ranks.lower_ranks l.tops
    l.sizes)
