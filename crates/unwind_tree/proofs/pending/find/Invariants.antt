use Rattle.unwind_tree.specs.Rooms.{IsAbsentFrom}
use Rattle.unwind_tree.proofs.pending.find.Given as goal

abbrev pub invariant-loop-number : goal.invariant-loop-number
invariant-loop-number l = IsAbsentFrom l.key l.number l.scopes
