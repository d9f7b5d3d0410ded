-- What the rules of typing ask of types (The Rust Reference, "Type system").
use Rattle.std.specs.Prelude.{ℕ, ℤ, int_le, Bool, true, false, ◌==◌, ◌&&◌, ◌||◌, not, List, [], ◌∷◌, Option, Some, None, slice_get, option_and_then, is_some}
use Rattle.std.specs.List.{list_any, list_all}
use Rattle.std.specs.Option.{option_map_or}
use Rattle.mir_base.specs.declared.int_kind.IntKind.{IntKind}
use Rattle.mir_base.specs.IntKind.{least_of, greatest_of}
use Rattle.mir_ty.specs.declared.adt.Adt.{Adt}
use Rattle.mir_ty.specs.declared.adt.Variant.{Variant}
use Rattle.mir_ty.specs.declared.ty.Ty.{Ty}
use Rattle.mir_ty.specs.declared.ty.TyId.{TyId}
use Rattle.mir_ty.specs.ItemTable.{ItemTable, type_at}

-- equal types have one number
abbrev pub is_same : TyId → TyId → Bool
is_same a b = a.0 == b.0

abbrev pub are_same : List TyId → List TyId → Bool
are_same [] [] = true
are_same (a ∷ as_) (b ∷ bs) = is_same a b && are_same as_ bs
are_same _ _ = false

abbrev pub is_unit_ty : Ty → Bool
is_unit_ty Ty.Unit = true
is_unit_ty _ = false

abbrev pub is_bool_ty : Ty → Bool
is_bool_ty Ty.Bool = true
is_bool_ty _ = false

abbrev pub is_never_ty : Ty → Bool
is_never_ty Ty.Never = true
is_never_ty _ = false

abbrev pub kind_in : Ty → Option IntKind
kind_in (Ty.Int kind) = Some kind
kind_in _ = None

abbrev pub adt_in : Ty → Option ℕ
adt_in (Ty.Adt n) = Some n
adt_in _ = None

abbrev pub tuple_in : Ty → Option (List TyId)
tuple_in (Ty.Tuple parts) = Some parts
tuple_in _ = None

abbrev pub array_in : Ty → Option (TyId × ℕ)
array_in (Ty.Array element count) = Some (element, count)
array_in _ = None

abbrev pub boxed_in : Ty → Option TyId
boxed_in (Ty.Boxed content) = Some content
boxed_in _ = None

abbrev pub dyn_in : Ty → Option ℕ
dyn_in (Ty.Dyn n) = Some n
dyn_in _ = None

abbrev pub closure_in : Ty → Option ℕ
closure_in (Ty.Closure n) = Some n
closure_in _ = None

abbrev pub reference_in : Ty → Option (Bool × TyId)
reference_in (Ty.Shared to) = Some (false, to)
reference_in (Ty.Unique to) = Some (true, to)
reference_in _ = None

abbrev pub inside_in : Ty → Option TyId
inside_in (Ty.Boxed content) = Some content
inside_in (Ty.Shared to) = Some to
inside_in (Ty.Unique to) = Some to
inside_in _ = None

module _ (items : ItemTable) where
  abbrev pub is_ty : (Ty → Bool) → TyId → Bool
  is_ty test ty = option_map_or test (type_at items ty) false

  abbrev pub in_ty : {A : Type 0} → (Ty → Option A) → TyId → Option A
  in_ty form ty = option_and_then form (type_at items ty)

  abbrev pub is_unit : TyId → Bool
  is_unit = is_ty is_unit_ty

  abbrev pub is_bool : TyId → Bool
  is_bool = is_ty is_bool_ty

  abbrev pub is_never : TyId → Bool
  is_never = is_ty is_never_ty

  abbrev pub kind_of : TyId → Option IntKind
  kind_of = in_ty kind_in

  -- the number of a struct or an enum
  abbrev pub adt_of : TyId → Option ℕ
  adt_of = in_ty adt_in

  abbrev pub tuple_of : TyId → Option (List TyId)
  tuple_of = in_ty tuple_in

  abbrev pub array_of : TyId → Option (TyId × ℕ)
  array_of = in_ty array_in

  -- the content of a box
  abbrev pub boxed_of : TyId → Option TyId
  boxed_of = in_ty boxed_in

  abbrev pub trait_of : TyId → Option ℕ
  trait_of = in_ty dyn_in

  abbrev pub closure_of : TyId → Option ℕ
  closure_of = in_ty closure_in

  -- whether a reference is unique, and the type that it names
  abbrev pub reference_of : TyId → Option (Bool × TyId)
  reference_of = in_ty reference_in

  -- what a box or a reference leads to
  abbrev pub inside_of : TyId → Option TyId
  inside_of = in_ty inside_in

  abbrev pub is_int : TyId → Bool
  is_int ty = is_some (kind_of ty)

  abbrev pub is_dyn : TyId → Bool
  is_dyn ty = is_some (trait_of ty)

  abbrev pub is_reference : TyId → Bool
  is_reference ty = is_some (reference_of ty)

  -- an expression of type `!` fits every type
  abbrev pub fits : TyId → TyId → Bool
  fits want ty = is_same ty want || is_never ty

  -- the one type of some branches, `!` aside, and `!` where none has another
  abbrev pub is_common : TyId → List TyId → Bool
  is_common ty branches = list_all (fits ty) branches && (is_never ty || list_any (is_same ty) branches)

  abbrev pub adt_at : ℕ → Option Adt
  adt_at n = slice_get items.adts n

  abbrev pub variant_at : ℕ → ℕ → Option Variant
  variant_at adt n = option_and_then (λ def. slice_get def.variants n) (adt_at adt)

  abbrev pub is_enum : ℕ → Bool
  is_enum n = option_map_or (λ def. def.is_enum) (adt_at n) false

  -- a type whose fields stand behind a `.`: a struct or a tuple
  abbrev pub fields_in : Ty → Bool
  fields_in (Ty.Adt n) = not (is_enum n)
  fields_in (Ty.Tuple parts) = true
  fields_in _ = false

  abbrev pub has_fields : TyId → Bool
  has_fields = is_ty fields_in

  -- a struct or an enum has an impl of a trait
  abbrev pub implements : ℕ → ℕ → Bool
  implements adt trait_no = list_any (λ def. def.trait_no == trait_no && def.adt == adt) items.impls

abbrev pub is_within : ℤ → IntKind → Bool
is_within value kind = int_le (least_of kind) value && int_le value (greatest_of kind)

-- a number of an integer type
abbrev pub is_number_of : ItemTable → TyId → ℤ → Bool
is_number_of items ty value = option_map_or (is_within value) (kind_of items ty) false

abbrev pub is_signed_kind : IntKind → Bool
is_signed_kind IntKind.I32 = true
is_signed_kind IntKind.I64 = true
is_signed_kind _ = false

abbrev pub is_signed : ItemTable → TyId → Bool
is_signed items ty = option_map_or is_signed_kind (kind_of items ty) false

abbrev pub is_kind : IntKind → IntKind → Bool
is_kind IntKind.I32 IntKind.I32 = true
is_kind IntKind.Usize IntKind.Usize = true
is_kind _ _ = false

abbrev pub is_i32 : ItemTable → TyId → Bool
is_i32 items ty = option_map_or (is_kind IntKind.I32) (kind_of items ty) false

abbrev pub is_usize : ItemTable → TyId → Bool
is_usize items ty = option_map_or (is_kind IntKind.Usize) (kind_of items ty) false
