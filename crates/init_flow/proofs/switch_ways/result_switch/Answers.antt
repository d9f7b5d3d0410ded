use Rattle.std.proofs.Common.{◌≡◌, ◌∷◌, [], List, map, ap, refl, sym, ◌∙◌, subst, true}
use Rattle.std.specs.Option.{option_copied}
use Rattle.cfg_graph.specs.declared.place.Place.{Place}
use Rattle.cfg_graph.specs.Uses.{Stores}
use Rattle.move_paths.specs.Uses.{optional}
use Rattle.init_flow.specs.Fits.{Fits, way_result}
use Rattle.init_flow.specs.Switches.{at_most_one}
use Rattle.init_flow.proofs.Fitting.{fits-one}
use Rattle.init_flow.proofs.switch_ways.result_switch.Goals as goal

pub returns-in-Some : goal.returns-in-Some
returns-in-Some c =
    let paths = c.args.forest.now.paths in
    let stored : c.in-Some.place.now ∷ [] ≡ way_result c.args.term.now c.args.way =
    sym (ap (λ z. optional (option_copied z)) c.in-Some.is) ∙ c.result_on.ensures in
    subst (λ (z : List Place). Fits paths true (at_most_one c.switch_of.result) (map (λ (place : Place). (Stores, place)) z)) stored
    (fits-one paths true (Stores, c.in-Some.place.now) c.switch_of.result c.switch_of.ensures)

pub returns-in-None : goal.returns-in-None
returns-in-None c =
    let none : [] ≡ way_result c.args.term.now c.args.way =
    sym (ap (λ z. optional (option_copied z)) c.in-None.is) ∙ c.result_on.ensures in
    subst (λ (z : List Place). Fits c.args.forest.now.paths true [] (map (λ (place : Place). (Stores, place)) z)) none refl
