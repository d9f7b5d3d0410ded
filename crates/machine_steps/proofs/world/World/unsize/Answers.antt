use Rattle.std.proofs.Common.{◌≡◌, [], Some, None, ap, sym, subst, ◌∙◌}
use Rattle.std.proofs.lemmas.Result.{IfOk-weaker}
use Rattle.std.specs.Prelude.{option_map, option_and_then}
use Rattle.cfg_meaning.specs.Actions.{site_of, operand_of}
use Rattle.mir_base.specs.Trace.{Trace}
use Rattle.machine_steps.specs.Boxes.{with_row}
use Rattle.machine_steps.specs.Steps.{seen, Does}
use Rattle.machine_steps.specs.Typed.{adt_in_box}
use Rattle.machine_steps.specs.Worlds.{state_of, run_setting}
use Rattle.machine_steps.proofs.BoxesDone.{acts_unsizing, unsized, same_adt}
use Rattle.machine_steps.proofs.NumbersDone.{same_does}
use Rattle.machine_steps.proofs.StepsDone.{value_whole, stuck_does, then_does, in_setting}
use Rattle.machine_steps.specs.declared.actions.Outcome.{Outcome}
use Rattle.store_model.specs.Concrete.Effects.{acted, impl_of, with_operand, put, put_if}
use Rattle.store_model.specs.Effects as actions
use Rattle.store_model.specs.Values.Datum.{datum_of}
use Rattle.machine_steps.proofs.world.World.unsize.Goals as goal

pub with_impl-requires : goal.with_impl-requires
with_impl-requires c = value_whole c.args.self.now c.evaluate.new.self c.args.from.now c.in_ok-value.field-0 c.in_ok-value.ensures.taken c.in-Some.value c.in-Some.is

pub returns-in_default-clause-does : goal.returns-in_default-clause-does
returns-in_default-clause-does c = λ run before.
    let setting = run_setting c.args.self.now in
    let from = c.args.from.now in
    let to = site_of 0 c.args.to.now in
    same_does (acted setting run (actions.Unsize to c.args.trait_no (operand_of 0 from))) (λ w. with_operand setting (operand_of 0 from) w (unsized setting run to c.args.trait_no (adt_in_box setting w from)))
    c.args.self.now c.evaluate.new.self Outcome.Stuck (λ before. acts_unsizing setting run to c.args.trait_no from (state_of before c.args.self.now))
    (λ before. stuck_does c.args.self.now c.evaluate.new.self from c.in_ok-value.field-0 c.in_ok-value.ensures.taken c.in_default.is
    (unsized setting run to c.args.trait_no (adt_in_box setting (state_of before c.args.self.now) from)) before) before

pub returns-in_default-impl_no-clause-does : goal.returns-in_default-impl_no-clause-does
returns-in_default-impl_no-clause-does c = λ run before.
    let setting = run_setting c.args.self.now in
    let from = c.args.from.now in
    let to = site_of 0 c.args.to.now in
    let mid = c.evaluate.new.self in
    let none : (before : Trace) → option_and_then (impl_of setting.items c.args.trait_no) (adt_in_box setting (state_of before c.args.self.now) from) ≡ None =
    λ before. ap (option_and_then (impl_of setting.items c.args.trait_no)) (same_adt c.args.self.now before from) ∙ sym c.in_ok-impl_no.ensures ∙ c.in_default-impl_no.is
    in
    same_does (acted setting run (actions.Unsize to c.args.trait_no (operand_of 0 from))) (λ w. with_operand setting (operand_of 0 from) w (unsized setting run to c.args.trait_no (adt_in_box setting w from)))
    c.args.self.now mid Outcome.Stuck (λ before. acts_unsizing setting run to c.args.trait_no from (state_of before c.args.self.now))
    (λ before. then_does c.args.self.now mid from c.in_ok-value.field-0 c.in_ok-value.ensures.taken c.in-Some.value c.in-Some.is
    (unsized setting run to c.args.trait_no (adt_in_box setting (state_of before c.args.self.now) from)) Outcome.Stuck mid
    (λ later. ap (λ o. seen (put_if setting to (option_and_then (λ n. with_row n (datum_of c.in-Some.value)) o) (state_of later mid))) (none before)) before) before

pub returns-in-Some-with_impl-clause-does : goal.returns-in-Some-with_impl-clause-does
returns-in-Some-with_impl-clause-does c =
    let setting = run_setting c.args.self.now in
    let from = c.args.from.now in
    let to = site_of 0 c.args.to.now in
    let mid = c.evaluate.new.self in
    let new = c.put.new.self in
    let some : (before : Trace) → option_and_then (impl_of setting.items c.args.trait_no) (adt_in_box setting (state_of before c.args.self.now) from) ≡ Some c.in-Some-impl_no.impl_no =
    λ before. ap (option_and_then (impl_of setting.items c.args.trait_no)) (same_adt c.args.self.now before from) ∙ sym c.in_ok-impl_no.ensures ∙ c.in-Some-impl_no.is
    in
    let row : with_row c.in-Some-impl_no.impl_no (datum_of c.in-Some.value) ≡ Some (datum_of c.in-Some-with_impl.boxed) = sym c.with_impl.ensures.value ∙ ap (option_map datum_of) c.in-Some-with_impl.is in
    IfOk-weaker c.put.result _ _
    (λ outcome h run before.
    same_does (acted setting run (actions.Unsize to c.args.trait_no (operand_of 0 from))) (λ w. with_operand setting (operand_of 0 from) w (unsized setting run to c.args.trait_no (adt_in_box setting w from)))
    c.args.self.now new outcome (λ before. acts_unsizing setting run to c.args.trait_no from (state_of before c.args.self.now))
    (λ before. then_does c.args.self.now mid from c.in_ok-value.field-0 c.in_ok-value.ensures.taken c.in-Some.value c.in-Some.is
    (unsized setting run to c.args.trait_no (adt_in_box setting (state_of before c.args.self.now) from)) outcome new
    (λ later. ap (λ o. seen (put_if setting to (option_and_then (λ n. with_row n (datum_of c.in-Some.value)) o) (state_of later mid))) (some before)
    ∙ ap (λ o. seen (put_if setting to o (state_of later mid))) row
    ∙ in_setting (run_setting mid) setting c.in_ok-value.ensures.run (λ s. put s to (datum_of c.in-Some-with_impl.boxed)) mid outcome new h later) before) before)
    c.put.ensures.does

pub returns-in-None-clause-does : goal.returns-in-None-clause-does
returns-in-None-clause-does c = λ run before.
    let setting = run_setting c.args.self.now in
    let from = c.args.from.now in
    let to = site_of 0 c.args.to.now in
    let mid = c.evaluate.new.self in
    let some : (before : Trace) → option_and_then (impl_of setting.items c.args.trait_no) (adt_in_box setting (state_of before c.args.self.now) from) ≡ Some c.in-Some-impl_no.impl_no =
    λ before. ap (option_and_then (impl_of setting.items c.args.trait_no)) (same_adt c.args.self.now before from) ∙ sym c.in_ok-impl_no.ensures ∙ c.in-Some-impl_no.is
    in
    let row : with_row c.in-Some-impl_no.impl_no (datum_of c.in-Some.value) ≡ None = sym c.with_impl.ensures.value ∙ ap (option_map datum_of) c.in-None.is in
    same_does (acted setting run (actions.Unsize to c.args.trait_no (operand_of 0 from))) (λ w. with_operand setting (operand_of 0 from) w (unsized setting run to c.args.trait_no (adt_in_box setting w from)))
    c.args.self.now mid Outcome.Stuck (λ before. acts_unsizing setting run to c.args.trait_no from (state_of before c.args.self.now))
    (λ before. then_does c.args.self.now mid from c.in_ok-value.field-0 c.in_ok-value.ensures.taken c.in-Some.value c.in-Some.is
    (unsized setting run to c.args.trait_no (adt_in_box setting (state_of before c.args.self.now) from)) Outcome.Stuck mid
    (λ later. ap (λ o. seen (put_if setting to (option_and_then (λ n. with_row n (datum_of c.in-Some.value)) o) (state_of later mid))) (some before)
    ∙ ap (λ o. seen (put_if setting to o (state_of later mid))) row) before) before
