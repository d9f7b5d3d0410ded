use Rattle.std.proofs.Common.{◌≡◌}
use Rattle.drop_bodies.proofs.Numbers.{ranked_to}
use Rattle.drop_bodies.proofs.ranked.set_ranks.Given as goal

abbrev pub invariant-loop-n : goal.invariant-loop-n
invariant-loop-n l = l.blocks ≡ ranked_to l.n l.initial.blocks l.ranks
