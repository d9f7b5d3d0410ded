use Rattle.std.proofs.Common.{◌≡◌, map, drop}
use Rattle.typing_rules.specs.Accesses.{begin_alike}
use Rattle.borrow_rules.specs.AccessView.{step_in}
use Rattle.borrow_rules.proofs.place.begin_alike.Given as goal

abbrev pub invariant-loop-n : goal.invariant-loop-n
invariant-loop-n l =
    begin_alike (map step_in (drop l.n l.a)) (map step_in (drop l.n l.b)) ≡ begin_alike (map step_in l.a) (map step_in l.b)
