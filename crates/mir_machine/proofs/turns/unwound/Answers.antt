use Rattle.std.proofs.Common.{[], ◌∷◌, ◌++◌, ap, ◌∙◌}
use Rattle.std.proofs.lemmas.Result.{IfOk-weaker}
use Rattle.mir_machine.proofs.ResumesLeft.{call_unwound, drop_unwound}
use Rattle.mir_machine.proofs.turns.unwound.Goals as goal

pub returns-in-Some-Call : goal.returns-in-Some-Call
returns-in-Some-Call c =
    IfOk-weaker c.go_on.result _ _
    (λ doing k graph. call_unwound graph c.args.world.now c.args.tasks.now c.pop.new.self c.in-Some-Call.post _
    (c.in-Some-Call.ensures ∙ ap (λ t. c.pop.new.self ++ t ∷ []) c.in-Some-Call.field-0-is) c.go_on.new.world doing (k graph c.pop.new.self))
    c.go_on.ensures

pub returns-in-Some-Drop : goal.returns-in-Some-Drop
returns-in-Some-Drop c = λ graph.
    drop_unwound graph c.args.world.now c.args.tasks.now c.pop.new.self c.in-Some-Drop.post c.in-Some-Drop.drops c.in-Some-Drop.dynamic
    (c.in-Some-Drop.ensures ∙ ap (λ t. c.pop.new.self ++ t ∷ []) c.in-Some-Drop.field-0-is) c.resume_drop.result c.resume_drop.ensures
