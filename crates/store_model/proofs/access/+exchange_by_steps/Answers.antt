use Rattle.std.proofs.Common.{◌≡◌, ◌≤◌, length, Some, None, refl, ap, ◌∙◌, rules}
use Rattle.std.specs.Prelude.{option_map, slice_get}
use Rattle.store_model.specs.declared.value.Value.TheVariants.{Parts, outs-Parts, outs-Boxed}
use Rattle.store_model.specs.Values.Datum.{datum_of}
use Rattle.std.proofs.lemmas.Option.{slice_get_past}
use Rattle.store_model.specs.Values.Access.{part, replaced}
use Rattle.store_model.proofs.Values.AccessOneStep.{part-Parts, part-Parts-Inside, part-Boxed-Part, part-other, found-below, absent-below, same-below, replaced-Parts, replaced-Boxed}
use Rattle.store_model.proofs.access.+exchange_by_steps.Goals as goal
use Rattle.store_model.proofs.access.+exchange_by_steps.Goals.{in-Parts-Part+else-index-len, in_default-2, in_default-2-2, in_default-2-3}

pub returns-then-index-len-clause-found : goal.returns-then-index-len-clause-found
returns-then-index-len-clause-found t c =
    let element : slice_get c.in-Parts-Part.parts c.in-Parts-Part.number ≡ Some c.element_mut.result.now = search rules in
    found-below _ _ _ _ _ _ _ _ c.in-Some.ensures.cases.0 (part-Parts _ _ _ _ _ _ c.in-Parts-Part.is-1 c.in-Parts-Part.is-0 ∙ ap (option_map datum_of) element) c.exchange_by_steps.ensures.found

pub returns-then-index-len-clause-after : goal.returns-then-index-len-clause-after
returns-then-index-len-clause-after t c =
    let element : slice_get c.in-Parts-Part.parts c.in-Parts-Part.number ≡ Some c.element_mut.result.now = search rules in
    let shown = replaced-Parts c.args.path.now c.in-Some.step.now c.in-Some.below.now c.in-Parts-Part.number c.in-Parts-Part.variant-0 c.in-Parts-Part.serial-0 c.in-Parts-Part.parts c.element_mut.result.now c.exchange_by_steps.new.root (datum_of c.args.value.now) c.in-Some.ensures.cases.0 c.in-Parts-Part.is-1 element c.exchange_by_steps.ensures.after in
    let a = c.in-Parts-Part in
    rw (a.is-0, outs-Parts a.variant-0 a.serial-0 a.parts) shown

pub returns-in-Boxed-Inside-clause-after : goal.returns-in-Boxed-Inside-clause-after
returns-in-Boxed-Inside-clause-after t c =
    let content : c.deref_mut.result.now ≡ c.in-Boxed-Inside.inside.value = search rules in
    let below = c.exchange_by_steps-in-Boxed-Inside.ensures.after in
    let a = c.in-Boxed-Inside in
    rw (a.is-0, outs-Boxed a.serial-0 a.impl_no-0 a.inside)
    (replaced-Boxed _ _ _ _ _ _ _ _ c.in-Some.ensures.cases.0 a.is-1 (below ∙ ap (λ x. replaced c.in-Some.below.now (datum_of c.args.value.now) (datum_of x)) content))

pub returns-clause-found : goal.returns-clause-found
returns-clause-found t c =
    elim c.match-root.branch [
      | in-Parts-Part+else-index-len w ↦ (
          let past : length w.in-Parts-Part.parts ≤ w.in-Parts-Part.number = search rules in
          let none : part c.in-Some.step.now (datum_of c.args.root.now) ≡ None =
          part-Parts _ _ _ _ _ _ w.in-Parts-Part.is-1 w.in-Parts-Part.is-0 ∙ ap (option_map datum_of) (slice_get_past _ _ past) in
          rw w.result-is (absent-below _ _ _ _ c.in-Some.ensures.cases.0 none, refl)
          )
      | in_default-2 w ↦ (
          let none = part-Parts-Inside _ _ _ _ _ w.in_default-2.is-1 w.in_default-2.is-0 in
          rw w.result-is (absent-below _ _ _ _ c.in-Some.ensures.cases.0 none, refl)
          )
      | in_default-2-2 w ↦ (
          let none = part-Boxed-Part _ _ _ _ _ _ w.in_default-2.is-1 w.in_default-2.is-0 in
          rw w.result-is (absent-below _ _ _ _ c.in-Some.ensures.cases.0 none, refl)
          )
      | in_default-2-3 w ↦ (
          let none = part-other _ _ w.in_default-2.not-Parts-0 w.in_default-2.not-Boxed-0 in
          rw w.result-is (absent-below _ _ _ _ c.in-Some.ensures.cases.0 none, refl)
          )
    ]

pub returns-clause-after : goal.returns-clause-after
returns-clause-after t c =
    elim c.match-root.branch [
      | in-Parts-Part+else-index-len w ↦ (
          let past : length w.in-Parts-Part.parts ≤ w.in-Parts-Part.number = search rules in
          let a = w.in-Parts-Part in
          let none = part-Parts c.in-Some.step.now (Parts a.variant-0 a.serial-0 a.parts) a.number a.variant-0 a.serial-0 a.parts a.is-1 refl ∙ ap (option_map datum_of) (slice_get_past a.parts a.number past) in
          let same = same-below c.args.path.now c.in-Some.step.now c.in-Some.below.now (datum_of (Parts a.variant-0 a.serial-0 a.parts)) (datum_of c.args.value.now) c.in-Some.ensures.cases.0 none in
          ap datum_of w.root-is ∙ rw (a.is-0, outs-Parts a.variant-0 a.serial-0 a.parts) same
          )
      | in_default-2 w ↦ ap datum_of w.root-is ∙ same-below _ _ _ _ _ c.in-Some.ensures.cases.0 (part-Parts-Inside _ _ _ _ _ w.in_default-2.is-1 w.in_default-2.is-0)
      | in_default-2-2 w ↦ ap datum_of w.root-is ∙ same-below _ _ _ _ _ c.in-Some.ensures.cases.0 (part-Boxed-Part _ _ _ _ _ _ w.in_default-2.is-1 w.in_default-2.is-0)
      | in_default-2-3 w ↦ ap datum_of w.root-is ∙ same-below _ _ _ _ _ c.in-Some.ensures.cases.0 (part-other _ _ w.in_default-2.not-Parts-0 w.in_default-2.not-Boxed-0)
    ]
