-- When a value is one of its type, as whatever it is found, and what is gone of it is known as gone. Nothing is asked
-- of how large a number is, since a run is given any numbers.
use Rattle.std.specs.Prelude.{◌≡◌, ℕ, suc, ◌==◌, Bool, true, false, Option, Some, None, is_some, slice_get}
use Rattle.std.specs.Option.{option_map_or}
use Rattle.mir_base.specs.declared.int_kind.IntKind.{IntKind}
use Rattle.mir_ty.specs.declared.adt.Adt.{Adt}
use Rattle.mir_ty.specs.declared.ty.Ty.{Ty}
use Rattle.mir_ty.specs.declared.ty.TyId.{TyId}
use Rattle.mir_ty.specs.ItemTable.{ItemTable, type_at}
use Rattle.mir_ty.specs.Parts.{variants_of}
use Rattle.store_model.specs.declared.address.At.TheVariants.{Part, Inside}
use Rattle.store_model.specs.Abstract.Presence.{Presence, is_present, itself_gone, presence_at}
use Rattle.store_model.specs.Concrete.Drops.{drop_impl}
use Rattle.store_model.specs.Concrete.Location.{DynamicType, OfType, OfObject, concrete_ty, type_of_part}
use Rattle.store_model.specs.Places.Place.{Step, ToPart, ToField, ToContent, is_enum, is_reference}
use Rattle.store_model.specs.Places.TypeForms.{int_kind, is_bool, is_unit, is_dyn, is_dyn_of, box_content}
use Rattle.store_model.specs.Values.Datum.{Datum, Data, Gone, Number, Truth, UnitValue, Aggregate, Box, Address, no_part, a_part}

module _ (items : ItemTable) where
  -- it is found as a value of an enum
  abbrev pub is_enum_found : DynamicType → Bool
  is_enum_found found = option_map_or (is_enum items) (concrete_ty items found) false

  -- structs, enums, tuples, arrays and closures are made of parts
  abbrev pub is_aggregate : Option Ty → Bool
  is_aggregate (Some (Ty.Adt n)) = true
  is_aggregate (Some (Ty.Tuple parts)) = true
  is_aggregate (Some (Ty.Array element count)) = true
  is_aggregate (Some (Ty.Closure n)) = true
  is_aggregate _ = false

  -- the variant exists; what is no enum has the variant 0 alone
  abbrev pub variant_if : Bool → Option Adt → ℕ → Bool
  variant_if true adt variant = is_some (slice_get (variants_of adt) variant)
  variant_if false adt variant = variant == 0

  abbrev pub has_variant : Option Ty → ℕ → Bool
  has_variant (Some (Ty.Adt n)) variant = variant_if (is_enum items (Ty.Adt n)) (slice_get items.adts n) variant
  has_variant (Some (Ty.Tuple parts)) variant = variant == 0
  has_variant (Some (Ty.Array element count)) variant = variant == 0
  has_variant (Some (Ty.Closure n)) variant = variant == 0
  has_variant _ variant = false

  -- the impl of a trait object exists, and is one of its trait
  abbrev pub has_impl : Option Ty → Option ℕ → Bool
  has_impl ty None = true
  has_impl ty (Some impl_no) = option_map_or (λ impl. is_dyn_of impl.trait_no ty) (slice_get items.impls impl_no) false

  abbrev pub step_if : Bool → ℕ → ℕ → Step
  step_if true variant n = ToField variant n
  step_if false variant n = ToPart n

  -- by which step a part of a value is named
  abbrev pub part_step : DynamicType → ℕ → ℕ → Step
  part_step found variant n = step_if (is_enum_found found) variant n

  abbrev mutual
    pub Fits : DynamicType → Presence → Datum → Type 0
    Fits found p Gone = itself_gone p ≡ true
    Fits found p (Number number) = (itself_gone p ≡ false)
        × ((kind : IntKind) × (int_kind (concrete_ty items found) ≡ Some kind))
    Fits found p (Truth truth) = (itself_gone p ≡ false) × (is_bool (concrete_ty items found) ≡ true)
    Fits found p UnitValue = (itself_gone p ≡ false) × (is_unit (concrete_ty items found) ≡ true)
    Fits found p (Aggregate variant serial parts) =
        (itself_gone p ≡ false) × (is_some serial ≡ is_some (drop_impl items (concrete_ty items found)))
        × (has_variant (concrete_ty items found) variant ≡ true)
        × PartsFit (λ n. type_of_part items (Part n) (Aggregate variant serial no_part) found)
        (λ n. presence_at (part_step found variant n) p) parts
    Fits found p (Box serial impl_no inside) =
        (itself_gone p ≡ false) × ((content : TyId) × (box_content (concrete_ty items found) ≡ Some content)
        × (is_some impl_no ≡ is_dyn (type_at items content)) × (has_impl (type_at items content) impl_no ≡ true))
        × ((f : DynamicType) × (type_of_part items Inside (Box serial impl_no Gone) found ≡ Some f)
        × Fits f (presence_at ToContent p) inside)
    Fits found p (Address address) = (itself_gone p ≡ false) × (is_reference (concrete_ty items found) ≡ true)

    -- as many parts as there are types for them, each of its type
    pub PartsFit : (ℕ → Option DynamicType) → (ℕ → Presence) → Data → Type 0
    PartsFit found_at presence_of no_part = (n : ℕ) → found_at n ≡ None
    PartsFit found_at presence_of (a_part first rest) =
        ((f : DynamicType) × (found_at 0 ≡ Some f) × Fits f (presence_of 0) first)
        × PartsFit (λ n. found_at (suc n)) (λ n. presence_of (suc n)) rest

  -- found as a type, or as an object of a trait
  pub data Proper : DynamicType → Type 0 where
    a_type : (id : TyId) → Proper (OfType id)
    an_object : (id : TyId) (impl_no n : ℕ) → type_at items id ≡ Some (Ty.Dyn n) →
        has_impl (Some (Ty.Dyn n)) (Some impl_no) ≡ true → Proper (OfObject id impl_no)

  -- a value of its type of which nothing is gone
  abbrev pub IsFull : DynamicType → Datum → Type 0
  IsFull found d = Proper found × Fits found is_present d

  -- a value of its type, whatever is gone in it
  abbrev pub IsTypedAs : DynamicType → Datum → Type 0
  IsTypedAs found d = (p : Presence) × Fits found p d
