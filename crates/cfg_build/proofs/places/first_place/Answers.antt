use Rattle.std.proofs.Common.{rules, ◌≡◌, ◌∙◌, List, map, sym, ap}
use Rattle.std.specs.Prelude.{slice_get}
use Rattle.cfg_graph.specs.Uses.{place_used}
use Rattle.move_paths.specs.Uses.{listed}
use Rattle.move_paths.specs.declared.uses.Used.{Used}
use Rattle.cfg_build.proofs.Told.{not_drop}
use Rattle.cfg_build.proofs.places.first_place.Goals as goal

pub returns : goal.returns
returns c =
    let uses : c.as_slice.result.now ≡ c.in_ok-uses.uses = search rules in
    c.first_of.ensures
    ∙ ap (λ (us : List Used). slice_get (map place_used (listed us)) 0) uses
    ∙ ap (λ us. slice_get (map place_used us) 0) c.in_ok-uses.ensures
    ∙ sym (not_drop c.args.term.now c.in_default.not-DropAt)
