use Rattle.std.proofs.Common.{◌≡◌, ◌<◌, ℕ, List, map, length, slice_get, slice_index_or, Some, ap, sym, ◌∙◌, arith}
use Rattle.std.specs.Option.{option_map}
use Rattle.std.proofs.lemmas.Option.{slice_get_within, slice_get-map, slice_get-get_or}
use Rattle.store_model.specs.Places.Place.{Place}
use Rattle.cfg_graph.specs.Places.{named, named_step}
use Rattle.cfg_graph.specs.declared.place.Step.{Step}
use Rattle.move_paths.specs.Trie.{upto}
use Rattle.move_paths.proofs.Growth.{step-at, upto-more, none-past}
use Rattle.move_paths.proofs.trie.Trie.nearest.Goals as goal

next-step : (xs steps : List Step) (i : ℕ) → xs ≡ steps → i < length xs → slice_get (map named_step steps) i ≡ Some (named_step (slice_index_or xs i (Step.Part 0)))
next-step xs steps i same within =
    slice_get-map named_step steps i
    ∙ ap (λ (z : List Step). option_map named_step (slice_get z i)) (sym same)
    ∙ ap (option_map named_step) (slice_get-get_or xs i (Step.Part 0) within)

pub returns-in_default : goal.returns-in_default
returns-in_default c =
    let q : Place = named c.args.place.now in
    let i = c.loop-step.step-index in
    let next = slice_index_or c.as_slice-step-items.result.now i (Step.Part 0) in
    let here = next-step c.as_slice-step-items.result.now c.args.place.now.steps i c.as_slice-step-items.ensures c.loop-step-test.true in
    let depth : c.loop-step.depth ≡ i = c.loop-step.invariant.1 in
    let within = slice_get_within q.steps i (named_step next) here in
    rw (← c.self.view_is) (record {
      at = c.loop-step.invariant.0 ∙ ap (λ (d : ℕ). Some (upto d q)) (sym depth);
      within = omega (within, depth, arith);
      last = λ longer further inside. none-past c.self.inside.locals c.self.inside.parts c.self.invariant q i c.loop-step.path next c.loop-step.invariant.0 here c.in_default.ensures.found longer (omega (further, depth, arith)) inside;
    })

pub overflow_cast-path : goal.overflow_cast-path
overflow_cast-path c = let fits = c.self.invariant.fits in let here = slice_get_within c.self.inside.parts c.in-Some.n _ c.in-Some.ensures.found in omega (fits, here, arith)

pub overflow_add-path : goal.overflow_add-path
overflow_add-path c = let fits = c.self.invariant.fits in let here = slice_get_within c.self.inside.parts c.in-Some.n _ c.in-Some.ensures.found in omega (fits, here, arith)

pub loop-step-preserved : goal.loop-step-preserved
loop-step-preserved c =
    let q : Place = named c.args.place.now in
    let i = c.loop-step.step-index in
    let next = slice_index_or c.as_slice-step-items.result.now i (Step.Part 0) in
    let here = next-step c.as_slice-step-items.result.now c.args.place.now.steps i c.as_slice-step-items.ensures c.loop-step-test.true in (
      step-at c.self.inside.locals c.self.inside.parts c.self.invariant c.in-Some.n c.loop-step.path (upto i q) next c.loop-step.invariant.0 c.in-Some.ensures.found
          ∙ ap Some (sym (upto-more q i (named_step next) here)),
      (let depth = c.loop-step.invariant.1 in omega (depth, arith)),
    )
