use Rattle.std.proofs.Common.{◌≡◌, ◌+◌, ◌++◌, ◌∷◌, [], List, take, ap, sym, ◌∙◌, subst}
use Rattle.std.proofs.lemmas.List.{map_more}
use Rattle.cfg_graph.specs.declared.place.Place.{Place}
use Rattle.cfg_graph.specs.Uses.{PlaceUse}
use Rattle.move_paths.specs.Uses.{listed, use_of}
use Rattle.move_paths.specs.declared.uses.Used.{Used}
use Rattle.drop_plans.specs.Passing.{Passes}
use Rattle.drop_plans.proofs.Passed.{passes-more, passes-none}
use Rattle.drop_plans.proofs.facts.pass_uses.Goals as goal

pub loop-used-init : goal.loop-used-init
loop-used-init c = passes-none c.args.forest.now.paths c.args.gone c.args.below.now c.args.row.now

pub loop-used-preserved : goal.loop-used-preserved
loop-used-preserved c =
    let item : Used = c.used-item.result in
    let i = c.loop-used.used-index in
    let before : List (PlaceUse × Place) = listed (take i c.args.uses.now) in
    let longer : listed (take (i + 1) c.args.uses.now) ≡ before ++ (use_of item.how, item.place.now) ∷ [] =
    map_more (λ (used : Used). (use_of used.how, used.place.now)) c.args.uses.now i item c.loop-used-test.true
    ∙ ap (λ (used : Used). before ++ (use_of used.how, used.place.now) ∷ []) (sym c.used-item.is) in
    subst (λ (z : List (PlaceUse × Place)). Passes c.args.forest.now.paths c.args.gone c.args.below.now z c.args.row.now c.pass_use.new.row)
    (sym longer)
    (passes-more c.args.forest.now.paths c.args.gone c.args.below.now before ((use_of item.how, item.place.now) ∷ [])
    c.args.row.now c.loop-used.row c.pass_use.new.row c.loop-used.invariant c.pass_use.ensures)
