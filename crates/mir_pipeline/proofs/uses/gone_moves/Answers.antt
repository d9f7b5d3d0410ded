use Rattle.std.proofs.Common.{rules, ◌≡◌, ◌+◌, ◌≤◌, length, subst, sym, arith}
use Rattle.std.proofs.lemmas.Option.{slice_get_within}
use Rattle.cfg_graph.specs.declared.graph.Body.{Body}
use Rattle.drop_plans.specs.Analysed.{IsGone}
use Rattle.drop_plans.specs.declared.analyses.Gone.{Gone}
use Rattle.drop_graphs.proofs.AllGone.{AreGoneTo, none-gone, one-more-gone, all-gone}
use Rattle.mir_pipeline.proofs.FirstBad.{all_stand, is_first, one_more}
use Rattle.mir_pipeline.proofs.Watched.{is-gone}
use Rattle.mir_pipeline.proofs.uses.gone_moves.Goals as goal

pub loop-number-init : goal.loop-number-init
loop-number-init c = (
  λ n body less. absurd (omega (less, arith)),
  subst (AreGoneTo c.args.graph.now 0) (sym c.new-all.ensures) (none-gone c.args.graph.now),
)

pub returns-in-Err-clause-refused : goal.returns-in-Err-clause-refused
returns-in-Err-clause-refused c =
    is_first c.args.graph.now c.loop-number.number c.in-Err.error (search rules) c.loop-number.invariant.0 c.in-Err.ensures.refused

pub loop-number-preserved : goal.loop-number-preserved
loop-number-preserved c = (
  one_more c.args.graph.now c.loop-number.number c.loop-number.invariant.0 c.in-Ok.ensures.accepted,
  subst (AreGoneTo c.args.graph.now (c.loop-number.number + 1)) (sym c.in_ok-push-in-Ok.ensures.pushed)
      (one-more-gone c.args.graph.now c.loop-number.number c.loop-number.all c.loop-number.invariant.1 c.gone_of.result
      (λ found at. subst (λ (g : Gone). IsGone c.args.graph.now.items found g) (sym c.gone_of.ensures)
      (is-gone c.args.graph.now.items found c.in-Ok.moves (c.in-Ok.ensures.gone found at)))),
)

pub returns-clause-accepted : goal.returns-clause-accepted
returns-clause-accepted c =
    let whole : length c.args.graph.now.bodies ≤ c.loop-number.number = search rules in
    all_stand c.args.graph.now c.loop-number.number whole c.loop-number.invariant.0

pub returns-clause-gone : goal.returns-clause-gone
returns-clause-gone c =
    let whole : length c.args.graph.now.bodies ≤ c.loop-number.number = search rules in
    all-gone c.args.graph.now c.loop-number.number c.loop-number.all whole (search rules) c.loop-number.invariant.1
