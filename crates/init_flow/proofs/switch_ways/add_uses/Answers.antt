use Rattle.std.proofs.Common.{◌≡◌, ◌+◌, ◌++◌, ◌∷◌, [], List, take, ap, sym, ◌∙◌, subst, true}
use Rattle.std.proofs.lemmas.List.{map_more}
use Rattle.cfg_graph.specs.declared.place.Place.{Place}
use Rattle.cfg_graph.specs.Uses.{PlaceUse}
use Rattle.move_paths.specs.declared.uses.Used.{Used}
use Rattle.move_paths.specs.Uses.{listed, use_of}
use Rattle.init_flow.specs.Fits.{AreSwitched}
use Rattle.init_flow.proofs.Fitting.{switched-more}
use Rattle.init_flow.proofs.switch_ways.add_uses.Goals as goal

pub loop-used-preserved : goal.loop-used-preserved
loop-used-preserved c =
    let item : Used = c.used-item.result in
    let i = c.loop-used.used-index in
    let before : List (PlaceUse × Place) = listed (take i c.args.uses.now) in
    let more : listed (take (i + 1) c.args.uses.now) ≡ before ++ (use_of item.how, item.place.now) ∷ [] =
    map_more (λ (used : Used). (use_of used.how, used.place.now)) c.args.uses.now i item c.loop-used-test.true
    ∙ ap (λ (used : Used). before ++ (use_of used.how, used.place.now) ∷ []) (sym c.used-item.is) in
    subst (AreSwitched c.args.forest.now.paths true c.args.switches.now c.add_use.new.switches) (sym more)
    (switched-more c.args.forest.now.paths true c.args.switches.now c.loop-used.switches c.add_use.new.switches before ((use_of item.how, item.place.now) ∷ []) c.loop-used.invariant c.in_ok-add_use.ensures)
