use Rattle.drop_wants.proofs.Turned.{TurnedTo}
use Rattle.drop_wants.specs.Renumbered.{number_in}
use Rattle.drop_wants.proofs.renumbered.renumber.Given as goal

abbrev pub invariant-loop-n : goal.invariant-loop-n
invariant-loop-n l = TurnedTo (number_in l.table) l.n l.initial.decided l.decided
