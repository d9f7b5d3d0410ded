use Rattle.std.proofs.Common.{◌≡◌, ◌++◌, map, drop}
use Rattle.std.specs.List.{filter_map}
use Rattle.typing_rules.specs.Borrows.{replacing}
use Rattle.borrow_rules.specs.View.{params_in, passing_in}
use Rattle.borrow_rules.proofs.first_broken.add_replacing.Given as goal

abbrev pub invariant-loop-passing : goal.invariant-loop-passing
invariant-loop-passing l =
    l.places.items ++ filter_map (replacing l.items (params_in l.found.keys)) (map passing_in (drop l.passing-index l.passed))
    ≡ l.fn.places.items ++ filter_map (replacing l.items (params_in l.found.keys)) (map passing_in l.passed)
