-- When a type is Copy and when it needs dropping: each by its rules, and by a test that finds what the rules give.
-- A rule goes from a type to types that it holds, and never into a box. A type that comes round to itself behind a
-- box is met there for the last time, and a relation holds only of what finitely many steps of its rules show.
use Rattle.std.specs.Prelude.{◌≡◌, ℕ, zero, suc, Bool, true, false, ◌&&◌, ◌||◌, List, Option, Some, None, length, slice_get, nat_lt, Contains, is_some, IsTrue}
use Rattle.std.specs.List.{list_any, list_all}
use Rattle.std.specs.Option.{option_map_or}
use Rattle.mir_ty.specs.declared.ty.Ty.{Ty}
use Rattle.mir_ty.specs.declared.ty.TyId.{TyId}
use Rattle.mir_ty.specs.declared.adt.Adt.{Adt}
use Rattle.mir_ty.specs.declared.def.ClosureDef.{ClosureDef}
use Rattle.mir_ty.specs.ItemTable.{ItemTable, type_at}
use Rattle.mir_ty.specs.Parts.{field_ty}

-- the integers, `bool`, `()`, `!` and references
abbrev pub is_scalar : Ty → Bool
is_scalar (Ty.Int kind) = true
is_scalar Ty.Bool = true
is_scalar Ty.Unit = true
is_scalar Ty.Never = true
is_scalar (Ty.Shared to) = true
is_scalar (Ty.Unique to) = true
is_scalar _ = false

-- a type is Copy where it is a scalar, a struct or enum that derives Copy, or a tuple, an array or a closure all of
-- whose parts are Copy
pub data IsCopy (items : ItemTable) : TyId → Type 0 where
  scalar : {id : TyId} {ty : Ty} → type_at items id ≡ Some ty → IsTrue (is_scalar ty) → IsCopy items id
  derives : {id : TyId} {n : ℕ} {adt : Adt} → type_at items id ≡ Some (Ty.Adt n) → slice_get items.adts n ≡ Some adt →
      IsTrue adt.copy → IsCopy items id
  tuple : {id : TyId} {parts : List TyId} → type_at items id ≡ Some (Ty.Tuple parts) →
      ((part : TyId) → Contains parts part → IsCopy items part) → IsCopy items id
  array : {id element : TyId} {count : ℕ} → type_at items id ≡ Some (Ty.Array element count) → IsCopy items element →
      IsCopy items id
  closure : {id : TyId} {n : ℕ} {def : ClosureDef} → type_at items id ≡ Some (Ty.Closure n) →
      slice_get items.closures n ≡ Some def → ((part : TyId) → Contains def.captures part → IsCopy items part) →
      IsCopy items id

-- whether a struct or an enum has a `Drop` impl
abbrev pub adt_has_drop_impl : Option Adt → Bool
adt_has_drop_impl None = false
adt_has_drop_impl (Some adt) = is_some adt.drop_body

abbrev pub ty_has_drop_impl : ItemTable → Ty → Bool
ty_has_drop_impl items (Ty.Adt n) = adt_has_drop_impl (slice_get items.adts n)
ty_has_drop_impl items _ = false

abbrev pub has_drop_impl : ItemTable → TyId → Bool
has_drop_impl items id = option_map_or (ty_has_drop_impl items) (type_at items id) false

-- a type needs dropping where it is a box, is `dyn`, has a `Drop` impl, or has a part that needs dropping
pub data NeedsDrop (items : ItemTable) : TyId → Type 0 where
  a_box : {id inside : TyId} → type_at items id ≡ Some (Ty.Boxed inside) → NeedsDrop items id
  a_dyn : {id : TyId} {n : ℕ} → type_at items id ≡ Some (Ty.Dyn n) → NeedsDrop items id
  an_impl : {id : TyId} → IsTrue (has_drop_impl items id) → NeedsDrop items id
  a_part : {id part : TyId} (variant n : ℕ) → field_ty items id variant n ≡ Some part → NeedsDrop items part →
      NeedsDrop items id

-- what a rule says of a type, given of which types it is known already
abbrev pub Rule : Type 0
Rule = (TyId → Bool) → Ty → Bool

abbrev pub copy_rule : List Adt → List ClosureDef → Rule
copy_rule adts closures known (Ty.Adt n) = option_map_or (λ adt. adt.copy) (slice_get adts n) false
copy_rule adts closures known (Ty.Tuple parts) = list_all known parts
copy_rule adts closures known (Ty.Array element count) = known element
copy_rule adts closures known (Ty.Closure n) =
    option_map_or (λ def. list_all known def.captures) (slice_get closures n) false
copy_rule adts closures known ty = is_scalar ty

-- a struct or an enum needs dropping where it has a `Drop` impl, or a field of any variant needs dropping
abbrev pub adt_drop_rule : (TyId → Bool) → Adt → Bool
adt_drop_rule known adt = is_some adt.drop_body || list_any (λ variant. list_any known variant.fields) adt.variants

abbrev pub drop_rule : List Adt → List ClosureDef → Rule
drop_rule adts closures known (Ty.Boxed inside) = true
drop_rule adts closures known (Ty.Dyn n) = true
drop_rule adts closures known (Ty.Adt n) = option_map_or (adt_drop_rule known) (slice_get adts n) false
drop_rule adts closures known (Ty.Tuple parts) = list_any known parts
drop_rule adts closures known (Ty.Array element count) = nat_lt 0 count && known element
drop_rule adts closures known (Ty.Closure n) =
    option_map_or (λ def. list_any known def.captures) (slice_get closures n) false
drop_rule adts closures known _ = false

-- what a rule shows of the types of a table in this many rounds, where nothing is known at first
abbrev pub in_rounds : List Ty → Rule → ℕ → TyId → Bool
in_rounds types rule zero id = false
in_rounds types rule (suc rounds) id = option_map_or (rule (in_rounds types rule rounds)) (slice_get types id.0) false

-- each round that shows anything new shows it of one more type, so there are no more rounds than types
abbrev pub by_rule : List Ty → Rule → TyId → Bool
by_rule types rule id = in_rounds types rule (length types) id

abbrev pub is_copy : ItemTable → TyId → Bool
is_copy items id = by_rule items.types (copy_rule items.adts items.closures) id

abbrev pub needs_drop : ItemTable → TyId → Bool
needs_drop items id = by_rule items.types (drop_rule items.adts items.closures) id
