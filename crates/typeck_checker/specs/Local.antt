-- Walks that look at the items alone.
use Rattle.std.specs.Prelude.{◌≡◌, ⊤, Result, Ok, Err}
use Rattle.mir_ty.specs.ItemTable.{ItemTable}
use Rattle.typeck_env.specs.Walked.{HasOnlyTypes}
use Rattle.typing_rules.specs.Check.{Check, TypingState, Broken}
use Rattle.typing_rules.specs.Collected.{starting_with}

-- what a walk that began with the items alone gives, where more is known
abbrev pub lifted : {A : Type 0} → TypingState → Result (A × TypingState) Broken → Result (A × TypingState) Broken
lifted s (Ok a) = Ok (a.0, record s { items = a.1.items })
lifted s (Err e) = Err e

-- nothing but types is new
abbrev pub Fixed : {A : Type 0} → ItemTable → Result (A × TypingState) Broken → Type 0
Fixed items (Ok a) = (a.1 ≡ starting_with a.1.items) × HasOnlyTypes items a.1.items
Fixed items (Err e) = ⊤

abbrev pub IsLocal : {A : Type 0} → Check A → Type 0
IsLocal check = (s : TypingState) → (check s ≡ lifted s (check (starting_with s.items))) ×
    Fixed s.items (check (starting_with s.items))
