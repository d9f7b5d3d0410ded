use Rattle.std.proofs.Common.{◌≡◌, drop}
use Rattle.store_model.specs.Values.Datum.{datum_of}
use Rattle.store_model.specs.Values.Access.{value_at}
use Rattle.store_model.proofs.access.read.Given as goal

abbrev pub invariant-loop-step : goal.invariant-loop-step
invariant-loop-step l = value_at l.path (datum_of l.root) ≡ value_at (drop l.step-index l.path) (datum_of l.place)
