-- The types in a type that is made are in the table before it.
use Rattle.std.proofs.Common.{◌≡◌, ℕ, zero, suc, ◌≤◌, ◌<◌, [], ◌∷◌, length, Some, Contains, ap, arith}
use Rattle.std.specs.Prelude.{slice_index_or}
use Rattle.std.proofs.lemmas.Option.{slice_get_within}
use Rattle.mir_ty.specs.declared.ty.Ty.{Ty}
use Rattle.mir_ty.specs.declared.ty.TyId.{TyId}
use Rattle.mir_ty.specs.AreItems.{types_in}
use Rattle.mir_ty.specs.ItemTable.{ItemTable}
use Rattle.typing_rules.specs.Promises.{IsKnown}
use Rattle.typing_rules.specs.RowPromises.{IsMade}

single : (inside part : TyId) → Contains (inside ∷ []) part → inside ≡ part
single inside part h = by h.0 h.1 h.2
  where
    by : (k : ℕ) → k < 1 → slice_index_or (inside ∷ []) k part ≡ part → inside ≡ part
    by zero below is = is
    by (suc k) below is = absurd (omega (arith, below))

known : (items : ItemTable) (ty : Ty) → IsMade items ty → (part : TyId) → Contains (types_in ty) part → IsKnown items part
known items (Ty.Tuple parts) made part has = let is = made.held part has in (is.0, is.1)
known items (Ty.Array element count) made part has = let is = made.held part has in (is.0, is.1)
known items (Ty.Boxed inside) made part has =
    let is = (made.inside part (ap Some (single inside part has))).0 in (is.0, is.1)
known items (Ty.Shared to) made part has =
    let is = (made.inside part (ap Some (single to part has))).0 in (is.0, is.1)
known items (Ty.Unique to) made part has =
    let is = (made.inside part (ap Some (single to part has))).0 in (is.0, is.1)
known items _ made part has = absurd (omega (arith, has.1))

pub part_first : (items : ItemTable) (ty : Ty) → IsMade items ty → (part : TyId) → Contains (types_in ty) part → suc
    part.0 ≤ length items.types
part_first items ty made part has = let is = known items ty made part has in slice_get_within items.types part.0 is.0 is.1
