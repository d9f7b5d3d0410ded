use Rattle.std.proofs.lemmas.Result.{IfOk-weaker}
use Rattle.std.proofs.Common.{◌≡◌, Some, None, option_map, ap, sym, subst, ◌∙◌}
use Rattle.machine_steps.specs.declared.drops.Turn.{Turn}
use Rattle.machine_steps.specs.Continuation.{own_impl}
use Rattle.machine_steps.specs.Reading.{pair_of}
use Rattle.machine_steps.specs.declared.level.Level.{Level}
use Rattle.machine_steps.specs.Turns.{Begins, stage_by, enters_of}
use Rattle.machine_steps.proofs.TurnsLeft.{with_level, begins_plain, begins_parts, begins_enters}
use Rattle.machine_store.specs.Standing.{dynamic_of}
use Rattle.store_model.specs.Concrete.Drops.{drop_impl}
use Rattle.store_model.specs.Concrete.Location.{concrete_ty}
use Rattle.machine_steps.proofs.drops.Drops.begin.Goals as goal

pub returns-in-Plain : goal.returns-in-Plain
returns-in-Plain c = λ items has_run own.
    subst (λ kind. Begins items c.args.ticks has_run (record { dynamic = c.args.found.dynamic; kind = kind }) c.args.self.now c.args.self.now (Turn.Clears c.args.found.dynamic))
    (sym c.in-Plain.is) (begins_plain items c.args.ticks has_run c.args.self.now c.args.found.dynamic)

pub returns-in-Some : goal.returns-in-Some
returns-in-Some c = λ items has_run own.
    let some : own_impl (stage_by has_run) (drop_impl items (concrete_ty items (dynamic_of c.args.found.dynamic))) ≡ Some (pair_of c.in-Some.of) =
    sym own ∙ ap (option_map pair_of) c.in-Some.is
    in
    subst (λ turn. Begins items c.args.ticks has_run c.args.found c.args.self.now c.args.self.now turn) (sym c.enters.ensures)
    (subst (λ kind. Begins items c.args.ticks has_run (record { dynamic = c.args.found.dynamic; kind = kind }) c.args.self.now c.args.self.now (enters_of c.in-Some.of c.in-Parts.serial c.args.found.dynamic)) (sym c.in-Parts.is)
    (begins_enters items c.args.ticks has_run c.args.self.now c.args.found.dynamic c.in-Parts.variant c.in-Parts.serial c.in-Parts.total c.in-Some.of some))

pub returns-in_ok-enter_parts-in-Parts : goal.returns-in_ok-enter_parts-in-Parts
returns-in_ok-enter_parts-in-Parts c = λ items has_run own.
    let none : own_impl (stage_by has_run) (drop_impl items (concrete_ty items (dynamic_of c.args.found.dynamic))) ≡ None =
    sym own ∙ ap (option_map pair_of) c.in_default.is
    in
    subst (λ new. Begins items c.args.ticks has_run c.args.found c.args.self.now new Turn.Goes) (sym c.in_ok-enter_parts-in-Parts.ensures)
    (subst (λ kind. Begins items c.args.ticks has_run (record { dynamic = c.args.found.dynamic; kind = kind }) c.args.self.now (with_level c.args.self.now (Level.Parts c.args.found.dynamic c.in-Parts.variant 0 c.in-Parts.total c.args.ticks)) Turn.Goes) (sym c.in-Parts.is)
    (begins_parts items c.args.ticks has_run c.args.self.now c.args.found.dynamic c.in-Parts.variant c.in-Parts.serial c.in-Parts.total none))

pub returns-in-Boxed : goal.returns-in-Boxed
returns-in-Boxed c =
    IfOk-weaker c.enter_box.result _ _
    (λ turn f items has_run own. subst (λ kind. Begins items c.args.ticks has_run (record { dynamic = c.args.found.dynamic; kind = kind }) c.args.self.now c.enter_box.new.self turn) (sym c.in-Boxed.is)
    (f items c.args.ticks has_run c.in-Boxed.serial))
    c.enter_box.ensures
