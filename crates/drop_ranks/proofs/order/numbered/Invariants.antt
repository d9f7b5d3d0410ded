use Rattle.std.proofs.Common.{◌≡◌, ◌++◌, drop}
use Rattle.drop_ranks.specs.Ranks.{numbered_from}
use Rattle.drop_ranks.proofs.order.numbered.Given as goal

abbrev pub invariant-loop-rank : goal.invariant-loop-rank
invariant-loop-rank l =
    (l.number ≡ l.rank-index)
    × (l.entries.items ++ numbered_from l.rank-index (drop l.rank-index l.ranks) ≡ numbered_from 0 l.ranks)
