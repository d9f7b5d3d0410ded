-- Whether each serial number that a trace tells of ends once: a value is made with its number, and it ends as it is
-- dropped, freed or forgotten.
use Rattle.std.specs.Prelude.{◌≡◌, ℕ, ◌≤◌, suc, ◌==◌, List, [], ◌∷◌, ◌++◌, if◌then◌else◌}
use Rattle.mir_base.specs.declared.trace.Event.{Event}
use Rattle.mir_base.specs.Trace.{Trace}

-- the number of a line `make T#k` or `box #k`
abbrev pub serial_made : Event → List ℕ
serial_made (Event.Make adt serial) = serial ∷ []
serial_made (Event.Boxed serial) = serial ∷ []
serial_made event = []

-- the number of a line `drop T#k`, `free #k`, `forget T#k` or `forget #k`
abbrev pub serial_ended : Event → List ℕ
serial_ended (Event.Dropped adt serial) = serial ∷ []
serial_ended (Event.Freed serial) = serial ∷ []
serial_ended (Event.ForgotMade adt serial) = serial ∷ []
serial_ended (Event.ForgotBox serial) = serial ∷ []
serial_ended event = []

-- the numbers that are made in a trace, and those that end in it, each as often as a line says so
abbrev pub made_in : Trace → List ℕ
made_in [] = []
made_in (event ∷ trace) = serial_made event ++ made_in trace

abbrev pub ended_in : Trace → List ℕ
ended_in [] = []
ended_in (event ∷ trace) = serial_ended event ++ ended_in trace

-- how often a number is in a list
abbrev pub times : ℕ → List ℕ → ℕ
times n [] = 0
times n (m ∷ ms) = if n == m then suc (times n ms) else times n ms

-- a line that ends a number comes after one that made it, so no other numbers occur
pub data EndsWhatWasMade : Trace → Type 0 where
  no_line : EndsWhatWasMade []
  a_line : (trace : Trace) (event : Event) → EndsWhatWasMade trace →
      ((serial : ℕ) → serial_ended event ≡ serial ∷ [] → 1 ≤ times serial (made_in trace)) →
      EndsWhatWasMade (trace ++ event ∷ [])

-- no number is made twice, and each number that is made ends exactly once, after it was made
pub record IsOnce (trace : Trace) : Type 0 where
  pub made_once : (serial : ℕ) → times serial (made_in trace) ≤ 1
  pub ends_once : (serial : ℕ) → times serial (ended_in trace) ≡ times serial (made_in trace)
  pub in_order : EndsWhatWasMade trace

-- no number is made twice, and each number that is made ends at most once, after it was made
pub record IsAtMostOnce (trace : Trace) : Type 0 where
  pub made_once : (serial : ℕ) → times serial (made_in trace) ≤ 1
  pub ends_at_most_once : (serial : ℕ) → times serial (ended_in trace) ≤ times serial (made_in trace)
  pub in_order : EndsWhatWasMade trace
