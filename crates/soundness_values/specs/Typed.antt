-- When a value is whole and of a type, with all its parts: what stands as a type has as many parts as that has, each
-- of its type; it has a serial number where its type has a `Drop` impl, and a box of a trait object an impl.
use Rattle.std.specs.Prelude.{◌≡◌, ℕ, suc, ℤ, nat_lt, Bool, true, false, ◌==◌, ◌&&◌, ◌||◌, length, Option, Some, None, is_some, slice_get}
use Rattle.std.specs.Option.{option_map_or}
use Rattle.mir_base.specs.declared.int_kind.IntKind.{IntKind}
use Rattle.mir_ty.specs.declared.ty.Ty.{Ty}
use Rattle.mir_ty.specs.declared.ty.TyId.{TyId}
use Rattle.mir_ty.specs.ItemTable.{ItemTable, type_at}
use Rattle.mir_ty.specs.Parts.{variants_of}
use Rattle.store_model.specs.declared.address.At.TheVariants.{Part, Inside}
use Rattle.store_model.specs.Concrete.Drops.{drop_impl}
use Rattle.store_model.specs.Concrete.Effects.{fits}
use Rattle.store_model.specs.Concrete.Location.{DynamicType, OfType, OfObject, concrete_ty, type_of_part}
use Rattle.store_model.specs.Places.Place.{is_enum, is_reference}
use Rattle.store_model.specs.Places.TypeForms.{int_kind, is_bool, is_unit, is_dyn, box_content}
use Rattle.store_model.specs.Values.Datum.{Datum, Data, Gone, Number, Truth, UnitValue, Aggregate, Box, Address, no_part, a_part}

-- structs, enums, tuples, arrays and closures are made of parts
abbrev pub is_aggregate : Option Ty → Bool
is_aggregate (Some (Ty.Adt n)) = true
is_aggregate (Some (Ty.Tuple parts)) = true
is_aggregate (Some (Ty.Array element count)) = true
is_aggregate (Some (Ty.Closure n)) = true
is_aggregate _ = false

-- an enum has such a variant; what is no enum has the variant 0
abbrev pub has_variant : ItemTable → Option Ty → ℕ → Bool
has_variant items (Some (Ty.Adt n)) variant =
    nat_lt variant (length (variants_of (slice_get items.adts n))) && (is_enum items (Ty.Adt n) || variant == 0)
has_variant items ty variant = variant == 0

-- the impl by which a boxed trait object goes is one of its trait
abbrev pub is_impl_for : ItemTable → Option Ty → Option ℕ → Bool
is_impl_for items (Some (Ty.Dyn n)) (Some impl_no) =
    option_map_or (λ impl. impl.trait_no == n) (slice_get items.impls impl_no) false
is_impl_for items ty impl_no = true

-- what is found as a trait object is one, and is found by an impl of its trait
abbrev pub is_found : ItemTable → DynamicType → Bool
is_found items (OfType id) = true
is_found items (OfObject id impl_no) =
    is_dyn (type_at items id) && is_impl_for items (type_at items id) (Some impl_no)

-- A number of its type. Numbers that are asked may be any; they have the type `i32`.
abbrev pub number_fits : IntKind → ℤ → Bool
number_fits IntKind.I32 number = true
number_fits kind number = fits kind number

module _ (items : ItemTable) where
  abbrev mutual
    pub IsOf : DynamicType → Datum → Type 0
    IsOf found Gone = ⊥
    IsOf found (Number number) = (kind : IntKind) × (int_kind (concrete_ty items found) ≡ Some kind)
        × (number_fits kind number ≡ true)
    IsOf found (Truth truth) = is_bool (concrete_ty items found) ≡ true
    IsOf found UnitValue = is_unit (concrete_ty items found) ≡ true
    IsOf found (Aggregate variant serial parts) =
        (is_some serial ≡ is_some (drop_impl items (concrete_ty items found)))
        × ((is_aggregate (concrete_ty items found) && has_variant items (concrete_ty items found) variant) ≡ true)
        × ArePartsOf (λ n. type_of_part items (Part n) (Aggregate variant serial no_part) found) parts
    IsOf found (Box serial impl_no inside) =
        ((content : TyId) × (box_content (concrete_ty items found) ≡ Some content)
        × (is_some impl_no ≡ is_dyn (type_at items content)) ×
        (is_impl_for items (type_at items content) impl_no ≡ true))
        × ((f : DynamicType) × (type_of_part items Inside (Box serial impl_no Gone) found ≡ Some f) × IsOf f inside)
    IsOf found (Address address) = is_reference (concrete_ty items found) ≡ true

    pub ArePartsOf : (ℕ → Option DynamicType) → Data → Type 0
    ArePartsOf found_at no_part = (n : ℕ) → found_at n ≡ None
    ArePartsOf found_at (a_part first rest) = ((f : DynamicType) × (found_at 0 ≡ Some f) × IsOf f first) × ArePartsOf
        (λ n. found_at (suc n)) rest
