use Rattle.std.proofs.Common.{◌≡◌, ◌-◌, drop}
use Rattle.typeck_checker.specs.Stand.{env}
use Rattle.typeck_checker.specs.Scopes.{OnlyPlace}
use Rattle.typeck_checker.proofs.binding_scopes.leave.Given as goal

abbrev pub invariant-loop-n : goal.invariant-loop-n
invariant-loop-n l =
    record {
      left : env l.checker ≡ record (env l.initial.checker) { variables = drop (l._n - l.to) (env l.initial.checker).variables };
      others : OnlyPlace l.initial.checker l.checker;
    }
