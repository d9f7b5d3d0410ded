use Rattle.drop_wants.proofs.Marking.{MarksTo}
use Rattle.drop_wants.specs.Marks.{any_asks}
use Rattle.drop_wants.proofs.marks.wanted.Given as goal

abbrev pub invariant-loop-how : goal.invariant-loop-how
invariant-loop-how l = MarksTo any_asks l.decided l.how-index l.initial.row l.row
