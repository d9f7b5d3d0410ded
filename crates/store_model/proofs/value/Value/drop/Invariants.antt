use Rattle.std.proofs.Common.{◌+◌, ◌*◌, suc}
use Rattle.store_model.specs.Values.Datum.{datum_of}
use Rattle.store_model.specs.Values.DropMeasure.{node_count, count_left}
use Rattle.store_model.proofs.value.Value.drop.Given as goal

abbrev pub decreases-loop-self : goal.decreases-loop-self
decreases-loop-self l =
    let left = count_left (l.self, l.waiting) in
    left * suc left + node_count (datum_of l.self)
