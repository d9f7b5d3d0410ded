use Rattle.std.proofs.Common.{◌∙◌, ap, sym, arith}
use Rattle.std.proofs.lemmas.Result.{on_ok_weaker, IfOk-weaker}
use Rattle.store_model.specs.Values.Access.{value_at, replaced}
use Rattle.store_model.specs.Values.Datum.{Gone}
use Rattle.machine_store.proofs.Activations.{changed_in, left_as_was, root_is, too_deep_root}
use Rattle.machine_store.proofs.store.Store.take.Goals as goal

pub returns-then-depth-len-clause-taken : goal.returns-then-depth-len-clause-taken
returns-then-depth-len-clause-taken c =
    IfOk-weaker c.take.result _ _
    (λ taken e. e ∙ ap (value_at c.args.place.now) (sym (root_is c.args.self.now.frames c.args.depth c.args.key c.element_mut.result.now c.element_mut.ensures.value)))
    c.take.ensures.taken

pub returns-then-depth-len-clause-after : goal.returns-then-depth-len-clause-after
returns-then-depth-len-clause-after c =
    on_ok_weaker c.take.result
    (changed_in c.args.self.now.frames c.args.depth c.args.key c.element_mut.result.now c.element_mut.ensures.value (replaced c.args.place.now Gone) c.take.new.self c.take.ensures.body)
    c.take.ensures.cells

pub returns-clause-taken : goal.returns-clause-taken
returns-clause-taken c = c.taken_of_nothing.ensures ∙ ap (value_at c.args.place.now) (sym (too_deep_root c.args.self.now.frames c.args.depth c.args.key (omega arith)))

pub returns-clause-after : goal.returns-clause-after
returns-clause-after c = left_as_was c.args.self.now.frames c.args.depth c.args.key _ (omega arith)
