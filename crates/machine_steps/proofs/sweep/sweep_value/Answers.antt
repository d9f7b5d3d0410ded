use Rattle.std.proofs.Common.{◌≡◌, map, option_map, None, true, ap, sym, subst, ◌∙◌}
use Rattle.machine_steps.proofs.SweepsOver.{parts_plain, parts_put, content_put}
use Rattle.machine_steps.specs.Continuation.{is_still, own_impl}
use Rattle.machine_steps.specs.Reading.{pair_of}
use Rattle.machine_steps.specs.Swept.{GoneOver, ArePartsSwept, IsSwept, freed, freed_parts}
use Rattle.machine_steps.specs.Turns.{stage_by}
use Rattle.machine_steps.specs.declared.sweep.Sweeps.{Sweeps}
use Rattle.machine_store.specs.Standing.{dynamic_of}
use Rattle.store_model.specs.Concrete.Drops.{Begins, drop_impl}
use Rattle.store_model.specs.Concrete.Location.{concrete_ty}
use Rattle.store_model.specs.Values.Datum.{data_from, datum_of}
use Rattle.machine_steps.proofs.sweep.sweep_value.Goals as goal

pub returns-in_ok-push-in-Parts : goal.returns-in_ok-push-in-Parts
returns-in_ok-push-in-Parts c = λ _.
    let items = c.args.items.now in
    let dynamic = dynamic_of c.args.dynamic in
    let again : is_still items dynamic dynamic ≡ true = sym c.is_still.ensures ∙ c.if-not-is_still.false in
    let none : own_impl (stage_by c.args.has_run) (drop_impl items (concrete_ty items dynamic)) ≡ None = sym c.own_drop.ensures ∙ ap (option_map pair_of) c.in_default-own_drop.is in
    parts_put items (stage_by c.args.has_run) c.args.value.now c.in-Parts.variant c.in-Parts.serial c.in-Parts.parts dynamic c.in-Parts.is again none c.args.work.now c.push.new.self
    (Sweeps.Rest c.as_slice-in-Parts.result 0 c.in-Parts.variant c.args.dynamic) c.in_ok-push-in-Parts.ensures.pushed
    (subst (λ l. ArePartsSwept items (data_from (map datum_of l)) dynamic c.in-Parts.variant 0) c.as_slice-in-Parts.ensures)
    (ap (λ l. freed_parts (data_from (map datum_of l))) c.as_slice-in-Parts.ensures)

pub returns-in_ok-push-in-Boxed-2 : goal.returns-in_ok-push-in-Boxed-2
returns-in_ok-push-in-Boxed-2 c = λ _.
    let items = c.args.items.now in
    let dynamic = dynamic_of c.args.dynamic in
    let child = dynamic_of c.in-Some-type_of_part.found in
    let again : is_still items dynamic dynamic ≡ true = sym c.is_still.ensures ∙ c.if-not-is_still.false in
    content_put items (stage_by c.args.has_run) c.args.value.now c.in-Boxed.serial c.in-Boxed.impl_no c.in-Boxed.inside dynamic child c.in-Boxed.is again (sym c.type_of_part.ensures ∙ ap (option_map dynamic_of) c.in-Some-type_of_part.is)
    c.args.work.now c.push-in-Boxed.new.self c.push-in-Boxed-2.new.self (Sweeps.Whole c.deref.result c.in-Some-type_of_part.found) c.in_ok-push-in-Boxed.ensures.pushed c.in_ok-push-in-Boxed-2.ensures.pushed
    (subst (λ v. IsSwept items Begins (datum_of v) child) c.deref.ensures)
    (ap (λ v. freed (datum_of v)) c.deref.ensures)

pub returns-then-are_plain : goal.returns-then-are_plain
returns-then-are_plain c = λ _.
    let items = c.args.items.now in
    let dynamic = dynamic_of c.args.dynamic in
    let again : is_still items dynamic dynamic ≡ true = sym c.is_still.ensures ∙ c.if-not-is_still.false in
    let none : own_impl (stage_by c.args.has_run) (drop_impl items (concrete_ty items dynamic)) ≡ None = sym c.own_drop.ensures ∙ ap (option_map pair_of) c.in_default-own_drop.is in
    parts_plain items (stage_by c.args.has_run) c.args.value.now c.in-Parts.variant c.in-Parts.serial c.in-Parts.parts dynamic c.args.work.now c.in-Parts.is again none
    (subst (λ l. GoneOver items (data_from (map datum_of l)) dynamic c.in-Parts.variant 0) c.as_slice.ensures (c.are_plain.ensures c.if-are_plain.true))
