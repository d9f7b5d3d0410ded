use Rattle.std.proofs.Common.{arith}
use Rattle.std.proofs.lemmas.Result.{on_ok_weaker}
use Rattle.store_model.specs.Values.Access.{replaced}
use Rattle.store_model.specs.Values.Datum.{datum_of}
use Rattle.machine_store.proofs.Activations.{changed_in, left_as_was}
use Rattle.machine_store.proofs.store.Store.put.Goals as goal

pub returns-then-depth-len : goal.returns-then-depth-len
returns-then-depth-len c =
    on_ok_weaker c.put.result
    (changed_in c.args.self.now.frames c.args.depth c.args.key c.element_mut.result.now c.element_mut.ensures.value (replaced c.args.place.now (datum_of c.args.value)) c.put.new.self
    c.put.ensures.body)
    c.put.ensures.cells

pub returns : goal.returns
returns c = left_as_was c.args.self.now.frames c.args.depth c.args.key _ (omega arith)
