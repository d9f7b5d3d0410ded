use Rattle.std.proofs.Common.{◌≡◌, ℕ, Bool, true, false, not, Option, Some, None, ap, sym, subst}
use Rattle.std.proofs.lemmas.Bool.{true≢false}
use Rattle.std.specs.Option.{is_none}
use Rattle.machine_steps.specs.declared.drops.Drops.{Drops}
use Rattle.machine_steps.specs.declared.drops.Turn.{Turn}
use Rattle.machine_steps.specs.declared.level.Level.{Level}
use Rattle.machine_steps.specs.declared.found.DropKind.{DropKind}
use Rattle.machine_steps.specs.Turns.{Begins}
use Rattle.machine_steps.proofs.TurnsLeft.{with_level, with_step, begins_untyped, begins_box}
use Rattle.machine_store.specs.declared.types.Dynamic.{Dynamic}
use Rattle.mir_ty.specs.ItemTable.{ItemTable}
use Rattle.store_model.specs.declared.address.At.TheVariants.{Inside}
use Rattle.machine_steps.proofs.drops.Drops.enter_box.Goals as goal

untyped : (items : ItemTable) (ticks : ℕ) (has_run : Bool) (old : Drops) (dynamic : Dynamic) (serial : ℕ) (content : Option Dynamic) → is_none content ≡ true →
    Begins items ticks has_run (record { dynamic = dynamic; kind = DropKind.Boxed serial content }) old old Turn.Stuck
untyped items ticks has_run old dynamic serial None e = begins_untyped items ticks has_run old dynamic serial
untyped items ticks has_run old dynamic serial (Some child) e = absurd (true≢false (sym e))

entered : (items : ItemTable) (ticks : ℕ) (has_run : Bool) (old : Drops) (dynamic : Dynamic) (serial : ℕ) (content : Option Dynamic) → is_none content ≡ false →
    Begins items ticks has_run (record { dynamic = dynamic; kind = DropKind.Boxed serial content }) old (with_step (with_level old (Level.Content dynamic)) Inside) (Turn.Visits false None)
entered items ticks has_run old dynamic serial None e = absurd (true≢false e)
entered items ticks has_run old dynamic serial (Some child) e = begins_box items ticks has_run old dynamic child serial

pub returns-then-is_none : goal.returns-then-is_none
returns-then-is_none c = λ items ticks has_run serial. untyped items ticks has_run c.args.self.now c.args.dynamic serial c.args.content (ap not c.if-is_none.ensures)

pub returns : goal.returns
returns c = λ items ticks has_run serial.
    subst (λ new. Begins items ticks has_run (record { dynamic = c.args.dynamic; kind = DropKind.Boxed serial c.args.content }) c.args.self.now new (Turn.Visits false None)) (sym c.in_ok-enter_content.ensures)
    (entered items ticks has_run c.args.self.now c.args.dynamic serial c.args.content (ap not c.if-is_none.ensures))
