use Rattle.std.proofs.Common.{◌≡◌, ◌&&◌, drop}
use Rattle.std.specs.List.{list_all}
use Rattle.machine_steps.specs.Boxes.{is_numberless}
use Rattle.store_model.specs.Values.Datum.{datum_of}
use Rattle.machine_steps.proofs.boxes.add_all.Given as goal

abbrev pub invariant-loop-part : goal.invariant-loop-part
invariant-loop-part l =
    (list_all (λ value. is_numberless (datum_of value.now)) l.work && list_all (λ part. is_numberless (datum_of part)) (drop l.part-index l.parts))
    ≡ (list_all (λ value. is_numberless (datum_of value.now)) l.fn.work && list_all (λ part. is_numberless (datum_of part)) l.parts)
