-- What is true after a refusal.
use Rattle.std.specs.Prelude.{◌≡◌, ◌≤◌, ℕ, List, ◌++◌, length, take, Option, Some}
use Rattle.mir_edge.specs.Told.{WhereTold}
use Rattle.mir_machine.specs.declared.error.RunError.{RunError}

-- so much of a text was taken after a refusal: as many bytes as it names, or some first bytes where memory was wanted
abbrev pub TookPart : List ℕ → Option (List ℕ) → Option (List ℕ) → RunError → Type 0
TookPart text old new (RunError.WriteFault written) = WhereTold old (λ taken. new ≡ Some (taken ++ take written text))
TookPart text old new RunError.Memory = WhereTold old (λ taken. (count : ℕ) × (new ≡ Some (taken ++ take count text)))

-- a write has failed
abbrev pub IsWriteFault : RunError → Type 0
IsWriteFault (RunError.WriteFault written) = Unit {0}
IsWriteFault RunError.Memory = ⊥
