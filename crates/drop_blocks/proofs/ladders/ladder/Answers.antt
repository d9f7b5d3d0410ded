use Rattle.std.proofs.Common.{sym, subst}
use Rattle.std.proofs.lemmas.Result.{IfOk-weaker}
use Rattle.drop_blocks.specs.Ladders.{Built, made_of}
use Rattle.drop_blocks.specs.Standing.{IsLadder}
use Rattle.drop_blocks.specs.View.{plan_in}
use Rattle.drop_blocks.proofs.LadderLaws.{ladder-stands}
use Rattle.drop_blocks.proofs.ladders.ladder.Goals as goal

pub returns-clause-stands : goal.returns-clause-stands
returns-clause-stands c =
    let plan = plan_in c.args.plan.now in
    let old = made_of c.args.blocks.now in
    IfOk-weaker c.rungs.result _ _
    (λ begun made flat. subst (λ (b : Built). IsLadder plan c.args.place.now old b c.args.rest) (sym made)
    (ladder-stands c.args.kind flat plan c.args.place.now c.args.rest old)) c.rungs.ensures
