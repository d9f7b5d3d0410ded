use Rattle.std.proofs.Common.{◌≡◌, ◌++◌, take}
use Rattle.drop_bodies.proofs.ranked.append.Given as goal

abbrev pub invariant-loop-rank : goal.invariant-loop-rank
invariant-loop-rank l = l.ranks ≡ l.initial.ranks ++ take l.rank-index l.more
