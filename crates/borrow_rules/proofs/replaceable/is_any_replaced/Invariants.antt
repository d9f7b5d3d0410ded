use Rattle.std.proofs.Common.{◌≡◌, map, drop}
use Rattle.std.specs.List.{list_any}
use Rattle.typing_rules.specs.Replaced.{is_replaced}
use Rattle.borrow_rules.specs.View.{params_in, passing_in}
use Rattle.borrow_rules.proofs.replaceable.is_any_replaced.Given as goal

abbrev pub invariant-loop-passing : goal.invariant-loop-passing
invariant-loop-passing l =
    list_any (is_replaced l.items (params_in l.found.keys)) (map passing_in (drop l.passing-index l.passed)) ≡ list_any (is_replaced l.items (params_in l.found.keys)) (map passing_in l.passed)
