use Rattle.std.proofs.Common.{◌≡◌, IfOk, map, sym, ap, ◌∙◌, subst, rules}
use Rattle.std.specs.List.{range_with_len}
use Rattle.store_model.specs.declared.address.At.TheVariants.{Part}
use Rattle.store_model.specs.Values.Datum.{datum_of}
use Rattle.store_model.specs.Values.Parts.{steps_to_parts}
use Rattle.store_model.proofs.Values.Datum.{steps_to_parts-Parts}
use Rattle.store_model.proofs.parts.parts_in_order.Goals as goal

pub returns-in-Ok : goal.returns-in-Ok
returns-in-Ok c =
    let count : c.in-Ok.count ≡ c.len.result = search rules in
    let steps : map Part (range_with_len 0 c.in-Ok.count) ≡ steps_to_parts (datum_of c.args.value.now) =
    ap (λ n. map Part (range_with_len 0 n)) (count ∙ c.len.ensures) ∙ sym (steps_to_parts-Parts _ _ _ _ c.in-Parts.is) in
    subst (λ xs. IfOk c.numbered_steps.result (λ steps. steps ≡ xs)) steps c.numbered_steps.ensures
