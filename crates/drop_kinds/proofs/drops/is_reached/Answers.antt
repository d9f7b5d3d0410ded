use Rattle.std.proofs.Common.{◌≡◌, ◌∙◌, ◌||◌, Bool, Contains, ap, refl, subst, sym}
use Rattle.cfg_graph.specs.Places.{named}
use Rattle.cfg_graph.specs.declared.place.Place.{Place}
use Rattle.drop_plans.specs.Plans.{facts_of}
use Rattle.drop_kinds.proofs.Coming.{comes-by, local-path, or-left}
use Rattle.drop_kinds.proofs.drops.is_reached.Goals as goal

pub returns-in_default : goal.returns-in_default
returns-in_default c items body n are facts less =
    absurd (c.in_default.ensures
    (subst (λ (p : Place). Contains c.args.told.now.forest.paths (named p)) (sym c.whole_local.ensures)
    (local-path items body c.args.told.now.forest are.forest c.args.local less)))

pub returns-then-get : goal.returns-then-get
returns-then-get c items body n are facts less =
    let known = facts_of c.args.facts.now in
    let path = c.in-Some.path in
    let it = comes-by items body c.args.told.now.forest.paths n known facts path _ c.in-Some.ensures in (
      λ on. it.0 (or-left (known.present path) (known.gone path) (sym c.get.ensures ∙ c.if-get.true)),
      λ comes. refl,
    )

pub returns : goal.returns
returns c items body n are facts less =
    let known = facts_of c.args.facts.now in
    let path = c.in-Some.path in
    let it = comes-by items body c.args.told.now.forest.paths n known facts path _ c.in-Some.ensures in
    let same : (known.present path || known.gone path) ≡ c.get-2.result =
    ap (λ (b : Bool). b || known.gone path) (sym c.get.ensures ∙ c.if-get.false) ∙ sym c.get-2.ensures in
    (λ on. it.0 (same ∙ on), λ comes. sym same ∙ it.1 comes)
