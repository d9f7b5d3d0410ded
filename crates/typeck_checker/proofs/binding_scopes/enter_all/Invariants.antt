use Rattle.std.proofs.Common.{◌≡◌, reverse, take}
use Rattle.typeck_checker.specs.Stand.{env}
use Rattle.typing_rules.specs.Scope.{with_variables}
use Rattle.typeck_checker.specs.Scopes.{OnlyPlace, bound_in}
use Rattle.typeck_checker.proofs.binding_scopes.enter_all.Given as goal

abbrev pub invariant-loop-n : goal.invariant-loop-n
invariant-loop-n l =
    record {
      entered : env l.checker ≡ with_variables (bound_in l.within_guard (take l.n (reverse l.bound))) (env l.initial.checker);
      others : OnlyPlace l.initial.checker l.checker;
    }
