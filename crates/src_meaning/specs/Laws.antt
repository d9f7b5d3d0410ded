-- The laws of runs of a source. The fuel by which a run is defined never ends it, so its meaning is that of the rules
-- alone (The Rust Reference, "Loop expressions", "Call expressions").
use Rattle.std.specs.Prelude.{◌≡◌, ℕ, suc, ℤ, ◌<◌, ◌≤◌, List, length, Option}
use Rattle.mir_base.specs.declared.trace.Event.{Event}
use Rattle.mir_ty.specs.declared.ty.TyId.{TyId}
use Rattle.mir_ty.specs.ItemTable.{ItemTable}
use Rattle.store_model.specs.Values.Datum.{Datum}
use Rattle.store_model.specs.Concrete.Bodies.{run_body, GoesOnFrom}
use Rattle.store_model.specs.Abstract.Effects.{AbstractState, abstract_effects}
use Rattle.store_model.specs.Concrete.State.{State}
use Rattle.typed_tree.specs.Tree.{BodyTree, ProgramTree}
use Rattle.src_meaning.specs.Locals.Effects.{at_locals}
use Rattle.src_meaning.specs.Locals.OfBody.{local_of}
use Rattle.src_meaning.specs.Programs.{activation, setting_of, code_of, source}

-- two amounts of fuel for the turns of loops that are greater than the number of choices give the same free run
abbrev pub FuelOfFreeRunsIsIrrelevant : Type 0
FuelOfFreeRunsIsIrrelevant =
    (items : ItemTable) (body : BodyTree) (local_ty : ℕ → Option TyId) (fuel other : ℕ) (w : AbstractState) →
    length w.choices < fuel → length w.choices < other →
    activation items (at_locals (local_of items body) (abstract_effects items local_ty)) fuel body w
    ≡ activation items (at_locals (local_of items body) (abstract_effects items local_ty)) other body w

-- Two amounts of fuel for nesting that are no less than the ticks give the same run of a body; the fuel for turns and
-- for drops goes with it.
abbrev pub FuelOfRunsIsIrrelevant : Type 0
FuelOfRunsIsIrrelevant = (program : ProgramTree) (n m : ℕ) (event : Event) (body : ℕ) (args : List Datum) (w : State) →
    w.ticks ≤ n → w.ticks ≤ m →
    run_body (setting_of program) (code_of program) n event body args w
    ≡ run_body (setting_of program) (code_of program) m event body args w

-- A run that is not out of ticks is the same with one tick more; otherwise its trace is a prefix of that one's.
abbrev pub SourceRunGoesOn : Type 0
SourceRunGoesOn = (program : ProgramTree) (asked : List ℤ) (ticks : ℕ) →
    GoesOnFrom (source program asked ticks) (source program asked (suc ticks))
