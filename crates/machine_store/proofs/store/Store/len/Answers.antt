use Rattle.std.proofs.Common.{[], arith}
use Rattle.machine_store.proofs.Activations.{depth_of}
use Rattle.machine_store.proofs.store.Store.len.Goals as goal

pub returns : goal.returns
returns c = let h = depth_of c.args.self.now.frames [] in let e = c.len.ensures in omega arith
