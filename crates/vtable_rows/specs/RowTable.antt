-- What the rows of impls say.
use Rattle.std.specs.Prelude.{◌≡◌, ℕ, Bool, false, List, map, Some, slice_get}
use Rattle.std.specs.Option.{option_map_or}
use Rattle.mir_ty.specs.declared.def.ImplDef.{ImplDef}
use Rattle.mir_ty.specs.declared.ty.Ty.{Ty}
use Rattle.mir_ty.specs.declared.ty.TyId.{TyId}
use Rattle.mir_ty.specs.Facts.{adt_drop_rule, needs_drop}
use Rattle.mir_ty.specs.ItemTable.{ItemTable, type_at}
use Rattle.vtable_rows.specs.declared.table.Row.{Row}

-- a struct or an enum needs dropping where it has a `Drop` impl, or a field whose type does
abbrev pub adt_needs_drop : ItemTable → ℕ → Bool
adt_needs_drop items n = option_map_or (adt_drop_rule (needs_drop items)) (slice_get items.adts n) false

abbrev pub row_of : ItemTable → ImplDef → Row
row_of items impl = record { adt = impl.adt; bodies = impl.bodies; needs_drop = adt_needs_drop items impl.adt }

-- one row an impl
abbrev pub rows_of : ItemTable → List Row
rows_of items = map (row_of items) items.impls

-- a row says that its struct or enum needs dropping exactly where its type does, if it has one in the table
abbrev pub NeedsDropAsItsType : ItemTable → List Row → Type 0
NeedsDropAsItsType items rows = (n : ℕ) (row : Row) (id : TyId) →
    slice_get rows n ≡ Some row → type_at items id ≡ Some (Ty.Adt row.adt) → row.needs_drop ≡ needs_drop items id
