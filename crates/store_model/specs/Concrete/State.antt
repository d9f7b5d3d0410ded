-- What a run has at hand: the numbers that are still to be asked, the ticks that are left, the next serial number, the
-- bodies that run with what their locals hold, and the events so far (The Rust Reference, "Variables", for the locals
-- of a body; asked numbers, ticks and serial numbers are this project's own).
use Rattle.std.specs.Prelude.{ℕ, zero, suc, ◌==◌, ℤ, List, [], ◌∷◌, ◌++◌, Option, Some, None, length, if◌then◌else◌}
use Rattle.mir_base.specs.declared.trace.Event.{Event}
use Rattle.mir_base.specs.Trace.{Trace}
use Rattle.store_model.specs.Values.Datum.{Datum, Gone}
use Rattle.store_model.specs.Effects.{Halt, Out, Go, Halts, OutOfTicks}

-- what the locals of a body hold: gone where nothing is named
abbrev pub Cells : Type 0
Cells = List (ℕ × Datum)

-- a body that runs, or waits for one that it called
pub record Activation : Type 0 where
  pub body : ℕ
  pub cells : Cells

pub record State : Type 0 where
  pub asked : List ℤ
  pub ticks : ℕ
  pub serial : ℕ
  pub activations : List Activation  -- the youngest first; an activation's depth is the number of older ones
  pub trace : Trace

abbrev pub cell : ℕ → Cells → Datum
cell key [] = Gone
cell key (c ∷ cells) = if key == c.0 then c.1 else cell key cells

abbrev pub with_cell : ℕ → Datum → Cells → Cells
with_cell key value [] = (key, value) ∷ []
with_cell key value (c ∷ cells) = if key == c.0 then (key, value) ∷ cells else c ∷ with_cell key value cells

-- the activation of a depth, if one runs
abbrev pub at_depth : ℕ → List Activation → Option Activation
at_depth depth [] = None
at_depth depth (a ∷ older) = if depth == length older then Some a else at_depth depth older

abbrev pub with_cell_at : ℕ → ℕ → Datum → List Activation → List Activation
with_cell_at depth key value [] = []
with_cell_at depth key value (a ∷ older) =
    if depth == length older then (record a { cells = with_cell key value a.cells }) ∷ older else a
    ∷ with_cell_at depth key value older

abbrev pub with_event : Event → State → State
with_event event w = record w { trace = w.trace ++ event ∷ [] }

abbrev pub numbered_next : State → State
numbered_next w = record w { serial = suc w.serial }

-- one tick is spent, or there is none
abbrev pub spend : ℕ → State → Out State
spend zero w = Halts OutOfTicks w
spend (suc n) w = Go (record w { ticks = n })

abbrev pub tick : State → Out State
tick w = spend w.ticks w

abbrev pub with_activation : Activation → State → State
with_activation a w = record w { activations = a ∷ w.activations }

abbrev pub older_of : List Activation → List Activation
older_of [] = []
older_of (a ∷ older) = older

abbrev pub without_activation : State → State
without_activation w = record w { activations = older_of w.activations }

-- how a body that was entered ends
pub data Answer : Type 0 where
  Returns : (value : Datum) (w : State) → Answer
  Unwinds : (w : State) → Answer
  HaltsIn : (halt : Halt) (w : State) → Answer

-- a body is entered with its arguments: the event that tells of it, and its number
abbrev pub Bodies : Type 0
Bodies = Event → ℕ → List Datum → State → Answer

abbrev pub beginning : List ℤ → ℕ → State
beginning asked ticks = record { asked = asked; ticks = ticks; serial = 1; activations = []; trace = [] }
