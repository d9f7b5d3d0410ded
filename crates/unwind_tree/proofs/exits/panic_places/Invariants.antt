use Rattle.std.proofs.Common.{◌≡◌, drop}
use Rattle.unwind_tree.specs.Rooms.{seen_all}
use Rattle.unwind_tree.specs.Trees.{left_by_panic}
use Rattle.unwind_tree.proofs.exits.panic_places.Given as goal

abbrev pub invariant-loop-number : goal.invariant-loop-number
invariant-loop-number l = l.places ≡ left_by_panic (seen_all (drop l.number l.scopes))
