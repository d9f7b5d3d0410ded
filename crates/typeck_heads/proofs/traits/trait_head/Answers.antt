use Rattle.typing_rules.specs.Collected.{starting_with}
use Rattle.typeck_heads.specs.Forms.{around_of}
use Rattle.typeck_heads.proofs.Receivers.{trait_head_answers}
use Rattle.typeck_heads.proofs.traits.trait_head.Goals as goal

pub returns-in-Fn-clause-answers : goal.returns-in-Fn-clause-answers
returns-in-Fn-clause-answers c =
    trait_head_answers (around_of c.args.scope.now) c.args.own c.args.node.now (starting_with c.args.items.now) _ _ _ _
    c.in-Fn.is c.item_form.ensures c.own_head.ensures.answers
