use Rattle.std.proofs.Common.{[], ◌∷◌, ap, sym, ◌∙◌, ◌++◌, arith}
use Rattle.std.proofs.lemmas.List.FromFn.{map-range_with_len_more}
use Rattle.store_model.specs.declared.address.At.TheVariants.{Part}
use Rattle.store_model.proofs.parts.numbered_steps.Goals as goal

pub loop-number-preserved : goal.loop-number-preserved
loop-number-preserved c =
    let next = c.loop-number.number in
    c.in_ok-push.ensures.pushed ∙ ap (λ steps. steps ++ Part next ∷ []) c.loop-number.invariant ∙ sym (map-range_with_len_more Part 0 next next (omega arith))
