-- Types by their forms, where there is a type at all.
use Rattle.std.specs.Prelude.{ℕ, ◌==◌, Bool, true, false, ◌&&◌, ◌||◌, List, Option, Some, None}
use Rattle.std.specs.Cmp.Lexicographic.{pointwise}
use Rattle.mir_base.specs.declared.int_kind.IntKind.{IntKind}
use Rattle.mir_ty.specs.declared.ty.Ty.{Ty}
use Rattle.mir_ty.specs.declared.ty.TyId.{TyId}

-- types are compared by their numbers, since equal types have one number
abbrev pub same_id : TyId → TyId → Bool
same_id a b = a.0 == b.0

abbrev pub same_ids : List TyId → List TyId → Bool
same_ids = pointwise same_id

abbrev pub same_kind : IntKind → IntKind → Bool
same_kind IntKind.I32 IntKind.I32 = true
same_kind IntKind.I64 IntKind.I64 = true
same_kind IntKind.U32 IntKind.U32 = true
same_kind IntKind.U64 IntKind.U64 = true
same_kind IntKind.Usize IntKind.Usize = true
same_kind _ _ = false

-- the integer type of this kind
abbrev pub is_int : IntKind → Option Ty → Bool
is_int kind (Some (Ty.Int other)) = same_kind kind other
is_int kind _ = false

abbrev pub is_bool : Option Ty → Bool
is_bool (Some Ty.Bool) = true
is_bool _ = false

abbrev pub is_unit : Option Ty → Bool
is_unit (Some Ty.Unit) = true
is_unit _ = false

-- `!`
abbrev pub is_never : Option Ty → Bool
is_never (Some Ty.Never) = true
is_never _ = false

-- `dyn` of any trait, and of the trait with this number
abbrev pub is_dyn : Option Ty → Bool
is_dyn (Some (Ty.Dyn n)) = true
is_dyn _ = false

abbrev pub is_dyn_of : ℕ → Option Ty → Bool
is_dyn_of n (Some (Ty.Dyn m)) = n == m
is_dyn_of n _ = false

-- the struct or enum with this number
abbrev pub is_adt : ℕ → Option Ty → Bool
is_adt n (Some (Ty.Adt m)) = n == m
is_adt n _ = false

-- the closure with this number
abbrev pub is_closure : ℕ → Option Ty → Bool
is_closure n (Some (Ty.Closure m)) = n == m
is_closure n _ = false

-- one integer type
abbrev pub same_int : Option Ty → Option Ty → Bool
same_int (Some (Ty.Int kind)) ty = is_int kind ty
same_int _ ty = false

-- one integer type, or both `bool`
abbrev pub are_compared : Option Ty → Option Ty → Bool
are_compared left right = same_int left right || (is_bool left && is_bool right)

-- the integer types with a sign
abbrev pub is_signed : Option Ty → Bool
is_signed ty = is_int IntKind.I32 ty || is_int IntKind.I64 ty

-- the number of a struct or an enum
abbrev pub adt_of : Option Ty → Option ℕ
adt_of (Some (Ty.Adt n)) = Some n
adt_of _ = None

-- the integer type that a type is
abbrev pub int_kind : Option Ty → Option IntKind
int_kind (Some (Ty.Int kind)) = Some kind
int_kind _ = None

abbrev pub tuple_parts : Option Ty → Option (List TyId)
tuple_parts (Some (Ty.Tuple parts)) = Some parts
tuple_parts _ = None

abbrev pub box_content : Option Ty → Option TyId
box_content (Some (Ty.Boxed inside)) = Some inside
box_content _ = None

-- what a reference names, `&mut` where it is unique
abbrev pub referent : Bool → Option Ty → Option TyId
referent false (Some (Ty.Shared to)) = Some to
referent true (Some (Ty.Unique to)) = Some to
referent unique _ = None
