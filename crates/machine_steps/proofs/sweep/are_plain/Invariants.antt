use Rattle.std.proofs.Common.{map, drop}
use Rattle.machine_steps.specs.Swept.{GoneOver}
use Rattle.machine_store.specs.Standing.{dynamic_of}
use Rattle.store_model.specs.Values.Datum.{data_from, datum_of}
use Rattle.machine_steps.proofs.sweep.are_plain.Given as goal

abbrev pub invariant-loop-part : goal.invariant-loop-part
invariant-loop-part l =
    GoneOver l.items (data_from (map datum_of (drop l.part-index l.parts))) (dynamic_of l.fn.dynamic) l.fn.variant l.next →
    GoneOver l.items (data_from (map datum_of l.parts)) (dynamic_of l.fn.dynamic) l.fn.variant 0
