use Rattle.machine_store.proofs.PathEq.{leads_told}
use Rattle.machine_store.proofs.cell.leads_to.Goals as goal

pub returns : goal.returns
returns c = leads_told c.args.path.now c.args.place.now _ c.starts_with.ensures.value
