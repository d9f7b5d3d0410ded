use Rattle.std.proofs.Common.{[], ◌∷◌, ◌++◌, ap, subst, ◌∙◌}
use Rattle.mir_machine.specs.Tasks.{AtResult, Keeps, Next}
use Rattle.store_model.specs.Values.Datum.{datum_of}
use Rattle.std.proofs.lemmas.Result.{IfOk-weaker}
use Rattle.mir_machine.proofs.ResumesLeft.{call_returned, drop_returned}
use Rattle.mir_machine.proofs.turns.return_from_body.Goals as goal

pub returns-in-Some-Call : goal.returns-in-Some-Call
returns-in-Some-Call c =
    IfOk-weaker c.store_result.result _ _
    (λ doing k. call_returned c.args.graph.now c.args.world.now c.args.tasks.now c.pop.new.self c.in-Some-Call.post c.in-Some-Call.lost
    (c.in-Some-Call.ensures ∙ ap (λ t. c.pop.new.self ++ t ∷ []) c.in-Some-Call.field-0-is) c.args.value c.store_result.new.world doing
    (subst (λ value. Keeps c.args.graph.now c.args.world.now c.store_result.new.world (AtResult c.args.graph.now c.pop.new.self c.in-Some-Call.post c.in-Some-Call.lost (datum_of value)) (Next c.args.graph.now c.pop.new.self doing)) c.into_value.ensures.value (k c.pop.new.self)))
    c.store_result.ensures

pub returns-in-Some-Drop : goal.returns-in-Some-Drop
returns-in-Some-Drop c =
    drop_returned c.args.graph.now c.args.world.now c.args.tasks.now c.pop.new.self c.in-Some-Drop.post c.in-Some-Drop.drops c.in-Some-Drop.dynamic
    (c.in-Some-Drop.ensures ∙ ap (λ t. c.pop.new.self ++ t ∷ []) c.in-Some-Drop.field-0-is) c.args.value c.resume_drop.result c.resume_drop.ensures
