-- How the value of a type is taken apart.
use Rattle.std.specs.Prelude.{◌≡◌, ◌⊎◌, ℕ, true, false, Some, None, length, slice_get}
use Rattle.mir_ty.specs.declared.ty.Ty.{Ty}
use Rattle.mir_ty.specs.declared.ty.TyId.{TyId}
use Rattle.mir_ty.specs.Facts.{has_drop_impl}
use Rattle.mir_ty.specs.ItemTable.{ItemTable, type_at}
use Rattle.mir_ty.specs.Parts.{variants_of}
use Rattle.store_model.specs.Places.Place.{is_enum}
use Rattle.store_model.specs.Places.TypeForms.{box_content}
use Rattle.drop_plans.specs.declared.shape.Shape.{Shape}

-- a type with a `Drop` impl is not taken apart, nor is what is no type
abbrev pub IsShape : ItemTable → TyId → Shape → Type 0
IsShape items id Shape.Whole = (has_drop_impl items id ≡ true) ⊎ (type_at items id ≡ None)
IsShape items id (Shape.Box content) =
    (has_drop_impl items id ≡ false) × (type_at items id ≡ Some (Ty.Boxed content))
IsShape items id (Shape.Enum count) =
    (has_drop_impl items id ≡ false)
    × ((n : ℕ) × (type_at items id ≡ Some (Ty.Adt n)) × (is_enum items (Ty.Adt n) ≡ true)
    × (length (variants_of (slice_get items.adts n)) ≡ count))
IsShape items id Shape.Parts =
    (has_drop_impl items id ≡ false)
    × ((ty : Ty) × (type_at items id ≡ Some ty) × (is_enum items ty ≡ false) × (box_content (Some ty) ≡ None))
