use Rattle.std.proofs.Common.{◌≡◌, ◌++◌, map, drop}
use Rattle.std.specs.List.{filter_map}
use Rattle.typing_rules.specs.Accesses as rules
use Rattle.borrow_rules.specs.AccessView.{accessed_in, place_if_any}
use Rattle.borrow_rules.proofs.arguments.against.Given as goal

abbrev pub invariant-loop-accessed : goal.invariant-loop-accessed
invariant-loop-accessed l =
    l.conflicts.items ++ filter_map (rules.against l.allows_none (place_if_any l.place)) (map accessed_in (drop l.accessed-index l.accesses))
    ≡ l.fn.conflicts.items ++ filter_map (rules.against l.allows_none (place_if_any l.place)) (map accessed_in l.accesses)
