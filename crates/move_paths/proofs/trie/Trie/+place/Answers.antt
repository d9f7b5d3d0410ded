use Rattle.std.proofs.Common.{◌≡◌, ◌∙◌, ◌∷◌, [], ◌++◌, List, map, ap, sym}
use Rattle.std.proofs.lemmas.List.{map-append}
use Rattle.std.proofs.lemmas.Option.{get_or_from_slice_get}
use Rattle.store_model.specs.Places.Place as plain
use Rattle.store_model.specs.Places.Place.{whole_local}
use Rattle.cfg_graph.specs.declared.place.Place.{Place}
use Rattle.cfg_graph.specs.declared.place.Step.{Step}
use Rattle.cfg_graph.specs.Moves.Gone.{below}
use Rattle.cfg_graph.specs.Places.{named, named_step}
use Rattle.move_paths.specs.Trie.{place_of}
use Rattle.move_paths.proofs.trie.Trie.+place.Goals as goal

-- a place with one step more
pushed : (place : Place) (step : Step) →
    named (record { local = place.local; steps = place.steps ++ step ∷ [] }) ≡ below (named place) (named_step step ∷ [])
pushed place step = λ i. record { local = place.local; steps = map-append named_step place.steps (step ∷ []) i }

pub returns-in_default : goal.returns-in_default
returns-in_default t c =
    ap (λ (steps : List Step). named (record { local = c.args.path; steps = steps })) c.new.ensures
    ∙ sym (get_or_from_slice_get c.args.self.now c.args.path (whole_local c.args.path) (whole_local 0) c.in_default.ensures)

pub returns : goal.returns
returns t c =
    let paths = c.args.self.now in
    let part = c.in-Some.part.now in
    let place = c.in_ok-place.place in
    ap (λ (steps : List Step). named (record { local = place.local; steps = steps })) c.in_ok-push.ensures.pushed
    ∙ pushed place part.step
    ∙ ap (λ (p : plain.Place). below p (named_step part.step ∷ [])) c.in_ok-place.ensures
    ∙ sym (get_or_from_slice_get paths c.args.path (place_of paths part) (whole_local 0) c.in-Some.ensures.1)
