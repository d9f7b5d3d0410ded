use Rattle.std.proofs.Common.{◌≡◌}
use Rattle.std.specs.List.{list_all}
use Rattle.machine_steps.specs.Boxes.{is_numberless}
use Rattle.store_model.specs.Values.Datum.{datum_of}
use Rattle.machine_steps.proofs.boxes.holds_no_number.Given as goal

abbrev pub invariant-loop-turn : goal.invariant-loop-turn
invariant-loop-turn l = is_numberless (datum_of l.value) ≡ list_all (λ value. is_numberless (datum_of value.now)) l.work
