use Rattle.std.proofs.Common.{◌≡◌, ◌+◌, suc, ℕ, List, ◌∷◌, drop, map, slice_index_or, option_and_then, ap, sym, ◌∙◌, arith}
use Rattle.std.proofs.Math.Seq.{drop-cons}
use Rattle.store_model.specs.Places.Place.{ty_along}
use Rattle.cfg_graph.specs.Places.{named_step}
use Rattle.cfg_graph.specs.declared.place.Step.{Step}
use Rattle.cfg_graph.proofs.AskedOfLines.{further}
use Rattle.cfg_graph.proofs.place_types.ty_along.Goals as goal

pub loop-step-preserved : goal.loop-step-preserved
loop-step-preserved l =
    let next : Step = slice_index_or l.args.steps.now l.loop-step.step-index (Step.Part 0) in
    let rest : List Step = drop (l.loop-step.step-index + 1) l.args.steps.now in
    let one : suc l.loop-step.step-index ≡ l.loop-step.step-index + 1 = omega arith in
    let here : drop l.loop-step.step-index l.args.steps.now ≡ next ∷ rest =
    drop-cons l.args.steps.now l.loop-step.step-index (Step.Part 0) l.loop-step-test.true ∙ ap (λ (n : ℕ). next ∷ drop n l.args.steps.now) one in
    l.loop-step.invariant
    ∙ ap (λ (steps : List Step). option_and_then (ty_along l.args.items.now (map named_step steps)) l.loop-step.at) here
    ∙ further l.args.items.now (named_step next) (map named_step rest) l.loop-step.at
    ∙ ap (option_and_then (ty_along l.args.items.now (map named_step rest))) (sym l.step_ty-at.ensures)
