-- How a body is entered and left, and the run of a whole program: the same for the source and for a graph, whatever
-- is done within a body (The Rust Reference, "Functions"; "Destructors").
use Rattle.std.specs.Prelude.{◌≡◌, ℕ, zero, suc, ℤ, List, [], ◌∷◌, ◌++◌, position, nat_eq, codes}
use Rattle.std.specs.Cmp.Lexicographic.{pointwise}
use Rattle.std.specs.Option.{option_map_or}
use Rattle.mir_base.specs.declared.trace.End.{End}
use Rattle.mir_base.specs.declared.trace.Event.{Event}
use Rattle.mir_base.specs.Trace.{Trace}
use Rattle.mir_ty.specs.ItemTable.{ItemTable}
use Rattle.store_model.specs.Concrete.Effects.{concrete_effects}
use Rattle.store_model.specs.Values.Datum.{Datum}
use Rattle.store_model.specs.Effects.{Halt, Aborted, OutOfTicks, StuckAt, Out, Go, Unwind, Halts, Effects}
use Rattle.store_model.specs.Concrete.Location.{Setting}
use Rattle.store_model.specs.Concrete.State.{Activation, Cells, cell, State, with_event, tick, with_activation, without_activation, Answer, Returns, Unwinds, HaltsIn, Bodies, beginning}

abbrev pub cells_of_youngest : List Activation → Cells
cells_of_youngest [] = []
cells_of_youngest (a ∷ older) = a.cells

-- a body ends: it returns the value of its result, or it unwinds; its line is the last
abbrev pub ended : ℕ → ℕ → Out State → Answer
ended body answer (Go w) =
    Returns (cell answer (cells_of_youngest w.activations)) (with_event (Event.Return body) (without_activation w))
ended body answer (Unwind w) = Unwinds (with_event (Event.Unwind body) (without_activation w))
ended body answer (Halts halt w) = HaltsIn halt w

abbrev pub after_tick : Out State → (State → Answer) → Answer
after_tick (Go w) next = next w
after_tick (Unwind w) next = Unwinds w
after_tick (Halts halt w) next = HaltsIn halt w

-- A program's bodies: under which numbers each has its arguments and its result, and what is done within it, given the
-- effects and fuel for the turns of a loop.
pub record CodeOfBodies : Type 0 where
  pub arguments : ℕ → List Datum → Cells
  pub answer : ℕ → ℕ
  pub within : Effects State → ℕ → ℕ → State → Out State

-- One tick is spent at each entry, before the line of it. Bodies are nested no deeper than the fuel, which is at least
-- the ticks that are left, so it never ends a run by itself; neither do the fuel for turns and for drops, which are
-- greater than the ticks that are left.
abbrev pub run_body : Setting → CodeOfBodies → ℕ → Bodies
run_body setting code zero event body args w = HaltsIn OutOfTicks w
run_body setting code (suc n) event body args w =
    after_tick (tick w) (λ w. ended body (code.answer body)
    (code.within (concrete_effects setting (run_body setting code n) (suc n)) (suc n) body
    (with_activation (record { body = body; cells = code.arguments body args }) (with_event event w))))

-- how a run ends. A run of a source, and a free run, have no block to be stuck in
abbrev pub end_of_halt : Halt → End
end_of_halt Aborted = End.Aborted
end_of_halt OutOfTicks = End.OutOfTicks
end_of_halt (StuckAt body block) = End.Stuck body block
end_of_halt halt = End.Stuck 0 0

-- what a run tells: its trace and its end
abbrev pub outcome_of : Answer → Trace × End
outcome_of (Returns value w) = (w.trace, End.Returned)
outcome_of (Unwinds w) = (w.trace, End.Panicked)
outcome_of (HaltsIn halt w) = (w.trace, end_of_halt halt)

-- What a run tells later goes on from what it told before: it is the same, but that a run which was out of ticks may
-- have told more.
abbrev pub GoesOnFrom : Trace × End → Trace × End → Type 0
GoesOnFrom (before, End.OutOfTicks) after = (later : Trace) × (after.0 ≡ before ++ later)
GoesOnFrom before after = after ≡ before

-- the body with the name `main`
abbrev pub main_of : ItemTable → ℕ
main_of items = option_map_or (λ n. n) (position (λ sig. pointwise nat_eq sig.name (codes "main")) items.bodies) 0

-- `main` is called with these numbers to be asked and so many ticks
abbrev pub run_of : Setting → CodeOfBodies → ℕ → List ℤ → ℕ → Trace × End
run_of setting code main asked ticks =
    outcome_of (run_body setting code (suc ticks) (Event.Call main) main [] (beginning asked ticks))
