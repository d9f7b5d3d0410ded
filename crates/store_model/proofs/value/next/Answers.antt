use Rattle.std.proofs.Common.{◌≡◌, ◌+◌, ap, ◌∙◌, arith}
use Rattle.store_model.specs.Values.Datum.{datum_of}
use Rattle.store_model.specs.Values.DropMeasure.{node_count, count_in, count_waiting}
use Rattle.store_model.proofs.Values.DropMeasure.{count_in-push}
use Rattle.store_model.proofs.value.next.Goals as goal

pub returns-clause-left : goal.returns-clause-left
returns-clause-left c =
    let waits = ap count_waiting c.in_ok-parts.was in
    let pushed : count_in c.in_ok-parts.parts ≡ count_in c.pop.new.self + node_count (datum_of c.in-Some.last) = ap count_in c.in-Some.ensures ∙ count_in-push c.pop.new.self c.in-Some.last in
    omega (arith, waits, pushed)

pub returns-clause-part : goal.returns-clause-part
returns-clause-part c =
    let waits = ap count_waiting c.in_ok-parts.was in
    let pushed : count_in c.in_ok-parts.parts ≡ count_in c.pop.new.self + node_count (datum_of c.in-Some.last) = ap count_in c.in-Some.ensures ∙ count_in-push c.pop.new.self c.in-Some.last in
    omega (arith, waits, pushed)
