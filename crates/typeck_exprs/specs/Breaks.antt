-- The types of the breaks out of a loop.
use Rattle.std.specs.Prelude.{ℕ, ◌==◌, List, [], ◌∷◌, if◌then◌else◌}
use Rattle.mir_ty.specs.declared.ty.TyId.{TyId}

abbrev pub carried_by : ℕ → List (ℕ × TyId) → List TyId
carried_by loop [] = []
carried_by loop (b ∷ bs) = if b.0 == loop then b.1 ∷ carried_by loop bs else carried_by loop bs
