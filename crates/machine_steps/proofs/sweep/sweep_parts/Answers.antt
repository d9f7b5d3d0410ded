use Rattle.std.proofs.Common.{◌≡◌, ◌+◌, ◌∷◌, refl, sym, ◌∙◌, arith}
use Rattle.std.proofs.lemmas.Grind.{common_steps}
use Rattle.machine_steps.proofs.SweepsOver.{part_put}
use Rattle.machine_steps.specs.declared.sweep.Sweeps.{Sweeps}
use Rattle.machine_store.specs.Standing.{dynamic_of}
use Rattle.machine_store.specs.declared.types.Dynamic.{Dynamic}
use Rattle.machine_steps.proofs.sweep.sweep_parts.Goals as goal

pub returns : goal.returns
returns c = λ _.
    let id = c.in-Some-field_ty.id in
    let other = c.in-Some-checked_add.other in
    let is : c.args.parts.now ≡ c.in-Some.first.now ∷ c.in-Some.rest.now = grind (arith, common_steps) in
    let next : other ≡ c.args.next + 1 = grind (arith, common_steps) in
    part_put c.args.items.now c.args.parts.now c.in-Some.first.now c.in-Some.rest.now is c.args.variant c.args.next other (dynamic_of c.args.dynamic) next id (sym c.field_ty.ensures ∙ c.in-Some-field_ty.is)
    c.args.work.now c.push.new.self c.push-2.new.self (Sweeps.Rest c.in-Some.rest other c.args.variant c.args.dynamic) (Sweeps.Whole c.in-Some.first (Dynamic.OfType id))
    c.in_ok-push.ensures.pushed c.in_ok-push-2.ensures.pushed (λ h. h) refl (λ h. h) refl
