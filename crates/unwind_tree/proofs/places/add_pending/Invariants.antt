use Rattle.std.proofs.Common.{◌≡◌, ◌++◌, drop}
use Rattle.unwind_tree.specs.Trees.{dropped, awaiting}
use Rattle.unwind_tree.proofs.places.add_pending.Given as goal

abbrev pub invariant-loop-number : goal.invariant-loop-number
invariant-loop-number l = l.places ≡ l.fn.places ++ dropped (awaiting (drop l.number l.pending))
