use Rattle.std.proofs.Common.{◌≡◌, drop}
use Rattle.unwind_tree.specs.Rooms.{seen_all}
use Rattle.unwind_tree.specs.Trees.{left_by_exit}
use Rattle.unwind_tree.proofs.exits.exit_places.Given as goal

abbrev pub invariant-loop-number : goal.invariant-loop-number
invariant-loop-number l = l.places ≡ left_by_exit (seen_all (drop l.number l.scopes))
