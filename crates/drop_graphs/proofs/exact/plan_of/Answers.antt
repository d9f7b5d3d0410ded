use Rattle.std.proofs.Common.{◌∙◌, refl, subst, sym}
use Rattle.std.proofs.lemmas.Option.{same_Some, slice_get_within}
use Rattle.cfg_graph.specs.declared.graph.Body.{Body}
use Rattle.drop_plans.specs.Analysed.{IsGone}
use Rattle.drop_graphs.proofs.exact.plan_of.Goals as goal

pub new-requires-clause-body : goal.new-requires-clause-body
new-requires-clause-body c = slice_get_within c.args.raw.now.bodies c.args.number c.args.body.now c.requires.there

pub new-requires-clause-gone : goal.new-requires-clause-gone
new-requires-clause-gone c found at =
    subst (λ (body : Body). IsGone c.args.raw.now.items body c.args.gone)
    (same_Some c.args.body.now found (sym c.requires.there ∙ at)) c.requires.gone

pub plan_body-requires-clause-ready : goal.plan_body-requires-clause-ready
plan_body-requires-clause-ready c = record {
  graph = c.args.raw.now;
  number = c.args.number;
  there = c.requires.there;
  items_are = refl;
  sound = c.requires.sound;
  ready = c.requires.ready;
}

pub plan_body-requires-clause-told : goal.plan_body-requires-clause-told
plan_body-requires-clause-told c = c.in_ok-told.ensures c.args.body.now c.requires.there
