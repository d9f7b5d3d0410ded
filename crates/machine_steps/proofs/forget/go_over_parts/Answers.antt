use Rattle.std.proofs.Common.{◌≡◌, ◌+◌, ◌∷◌, Some, None, ap, ◌∙◌, sym, arith}
use Rattle.std.proofs.lemmas.Grind.{common_steps}
use Rattle.std.proofs.lemmas.Result.{on_ok_weaker}
use Rattle.machine_steps.specs.Forgetting.{lines_before}
use Rattle.machine_store.specs.Standing.{dynamic_of}
use Rattle.machine_steps.proofs.ForgettingDone.{lines_pushed, part_next, part_left_out}
use Rattle.machine_steps.specs.declared.forget.Forgets.{Forgets}
use Rattle.std.specs.Prelude.{◌++◌}
use Rattle.store_model.specs.Concrete.Effects.{forgotten}
use Rattle.store_model.specs.Concrete.Location.{OfType}
use Rattle.store_model.specs.Values.Datum.{datum_of}
use Rattle.machine_steps.proofs.forget.go_over_parts.Goals as goal

pub returns-in-Some-field_ty : goal.returns-in-Some-field_ty
returns-in-Some-field_ty c =
    let items = c.args.items.now in
    let dynamic = dynamic_of c.args.dynamic in
    let is : c.args.parts.now ≡ c.in-Some.first.now ∷ c.in-Some.rest.now = grind (arith, common_steps) in
    let next : c.in-Some-checked_add.other ≡ c.args.next + 1 = grind (arith, common_steps) in
    on_ok_weaker c.push-in-Some-field_ty.result
    (λ pushed after. part_next items c.args.parts.now c.in-Some.first.now c.in-Some.rest.now is c.args.variant c.args.next c.in-Some-checked_add.other dynamic next c.in-Some-field_ty.id
    (sym c.field_ty.ensures ∙ c.in-Some-field_ty.is) (lines_before items c.args.work.now after) (lines_before items c.push-in-Some-field_ty.new.self after)
    (ap (λ w. lines_before items w after) pushed ∙ lines_pushed items c.push.new.self _ after
    ∙ ap (λ l. forgotten items (datum_of c.in-Some.first.now) (OfType c.in-Some-field_ty.id) ++ l)
    (ap (λ w. lines_before items w after) c.in_ok-push.ensures.pushed ∙ lines_pushed items c.args.work.now (Forgets.Rest c.in-Some.rest c.in-Some-checked_add.other c.args.variant c.args.dynamic) after)))
    c.push-in-Some-field_ty.ensures.pushed

pub returns-in-None : goal.returns-in-None
returns-in-None c = λ after.
    let items = c.args.items.now in
    let dynamic = dynamic_of c.args.dynamic in
    let is : c.args.parts.now ≡ c.in-Some.first.now ∷ c.in-Some.rest.now = grind (arith, common_steps) in
    let next : c.in-Some-checked_add.other ≡ c.args.next + 1 = grind (arith, common_steps) in
    part_left_out items c.args.parts.now c.in-Some.first.now c.in-Some.rest.now is c.args.variant c.args.next c.in-Some-checked_add.other dynamic next
    (sym c.field_ty.ensures ∙ c.in-None.is) (lines_before items c.args.work.now after) (lines_before items c.push.new.self after)
    (ap (λ w. lines_before items w after) c.in_ok-push.ensures.pushed ∙ lines_pushed items c.args.work.now (Forgets.Rest c.in-Some.rest c.in-Some-checked_add.other c.args.variant c.args.dynamic) after)
