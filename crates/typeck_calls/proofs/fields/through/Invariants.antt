use Rattle.std.proofs.Common.{◌≡◌}
use Rattle.typeck_calls.proofs.Steps.{IsGoing}
use Rattle.typeck_calls.specs.Fields.{wanted_by}
use Rattle.typeck_checker.specs.Stand.{Stays, below, stack, state, top}
use Rattle.typing_rules.specs.Places.{through}
use Rattle.typeck_calls.proofs.fields.through.Given as goal

abbrev pub invariant-loop-step : goal.invariant-loop-step
invariant-loop-step l =
    record {
      going : IsGoing (wanted_by l.wanted) l.at (through (wanted_by l.wanted) l.at (top (stack l.initial.checker)) (state l.initial.checker)) l._step l.count (top (stack l.checker)) (state l.checker);
      others : below (stack l.checker) ≡ below (stack l.initial.checker);
      place : Stays l.initial.checker l.checker;
    }
