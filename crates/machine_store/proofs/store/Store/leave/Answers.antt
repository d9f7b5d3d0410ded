use Rattle.machine_store.proofs.Activations.{popped}
use Rattle.machine_store.proofs.store.Store.leave.Goals as goal

pub returns : goal.returns
returns c = popped c.pop.result c.args.self.now.frames c.pop.new.self c.pop.ensures
