use Rattle.std.proofs.Common.{◌≡◌, ◌∷◌, [], List, map, ap, sym, ◌∙◌, subst}
use Rattle.std.specs.Option.{option_copied}
use Rattle.cfg_graph.specs.declared.place.Place.{Place}
use Rattle.cfg_graph.specs.Uses.{Stores, stored_by_term}
use Rattle.move_paths.specs.Forest.{Names}
use Rattle.move_paths.specs.Uses.{optional}
use Rattle.move_paths.proofs.Naming.{on_ok}
use Rattle.move_paths.proofs.forest.add_result.Goals as goal

pub returns-in-Some : goal.returns-in-Some
returns-in-Some c =
    let stored : c.in-Some.place.now ∷ [] ≡ stored_by_term c.args.term.now =
    sym (ap (λ z. optional (option_copied z)) c.in-Some.is) ∙ c.result_place.ensures in
    on_ok (λ named.
    subst (λ (z : List Place). Names c.args.items.now c.args.body.now c.args.trie.now c.add_use.new.trie (map (λ (place : Place). (Stores, place)) z)) stored named)
    c.add_use.result c.add_use.ensures
