use Rattle.drop_ranks.specs.Ranks.{AreTopsTo}
use Rattle.drop_ranks.proofs.upper.tops.Given as goal

abbrev pub invariant-loop-number : goal.invariant-loop-number
invariant-loop-number l = AreTopsTo l.ranks l.sizes l.number-items l.number-index l.next l.tops
