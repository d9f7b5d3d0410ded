use Rattle.machine_store.proofs.Marks.{none_gone}
use Rattle.machine_store.proofs.cell.Cell.holding.Goals as goal

pub invariant_of-result : goal.invariant_of-result
invariant_of-result c = rw c.new.ensures.items (none_gone _ c.requires)
