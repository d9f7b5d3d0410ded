-- The types of the parts of a place, of which a pattern needs as many as it has parts.
use Rattle.std.specs.Prelude.{◌≡◌, ℕ, ⊤, List, length, take, Option, Some, None}
use Rattle.mir_ty.specs.declared.ty.TyId.{TyId}
use Rattle.typeck_patterns.specs.declared.parts.PartTypes.{PartTypes}

-- the first of some types, so many, and how many there are
abbrev pub AreFirst : ℕ → List TyId → PartTypes → Type 0
AreFirst given types parts = (parts.first ≡ take given types) × (parts.count ≡ length types)

abbrev pub AreFirstIf : ℕ → Option (List TyId) → Option PartTypes → Type 0
AreFirstIf given (Some types) (Some parts) = AreFirst given types parts
AreFirstIf given None None = ⊤
AreFirstIf given _ _ = ⊥
