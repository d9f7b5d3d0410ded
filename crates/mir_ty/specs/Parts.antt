-- The parts of a type, in the order in which they are dropped, and what a type holds.
use Rattle.std.specs.Prelude.{◌≡◌, ℕ, ◌==◌, List, [], ◌∷◌, Option, Some, None, if◌then◌else◌, slice_get, replicate, flat_map, Contains, option_and_then}
use Rattle.mir_ty.specs.declared.ty.Ty.{Ty}
use Rattle.mir_ty.specs.declared.ty.TyId.{TyId}
use Rattle.mir_ty.specs.declared.adt.Adt.{Adt}
use Rattle.mir_ty.specs.declared.adt.Variant.{Variant}
use Rattle.mir_ty.specs.declared.def.ClosureDef.{ClosureDef}
use Rattle.mir_ty.specs.ItemTable.{ItemTable, type_at}

-- the fields of a variant, in the order of their declaration; none where there is no such variant
abbrev pub fields_of : Option Variant → List TyId
fields_of None = []
fields_of (Some variant) = variant.fields

-- the variants of a struct or an enum; none where it is not in the table
abbrev pub variants_of : Option Adt → List Variant
variants_of None = []
variants_of (Some adt) = adt.variants

-- the captures of a closure, in the order of the written list; none where it is not in the table
abbrev pub captures_of : Option ClosureDef → List TyId
captures_of None = []
captures_of (Some closure) = closure.captures

-- a type that is no enum has one variant, which is 0
abbrev pub of_one_variant : List TyId → ℕ → List TyId
of_one_variant parts variant = if variant == 0 then parts else []

-- the numbered parts of a type in one of its variants
abbrev pub parts_of : ItemTable → Ty → ℕ → List TyId
parts_of items (Ty.Adt n) variant = fields_of (slice_get (variants_of (slice_get items.adts n)) variant)
parts_of items (Ty.Tuple parts) variant = of_one_variant parts variant
parts_of items (Ty.Array element count) variant = of_one_variant (replicate count element) variant
parts_of items (Ty.Closure n) variant = of_one_variant (captures_of (slice_get items.closures n)) variant
parts_of items _ variant = []

-- the type of a numbered part; none where the type has no such part
abbrev pub field_ty : ItemTable → TyId → ℕ → ℕ → Option TyId
field_ty items id variant part = option_and_then (λ ty. slice_get (parts_of items ty variant) part) (type_at items id)

-- what a type holds at once, neither behind a box nor behind a reference; an array holds its element's type, whatever
-- its length
abbrev pub held_by : ItemTable → Ty → List TyId
held_by items (Ty.Adt n) = flat_map (λ variant. variant.fields) (variants_of (slice_get items.adts n))
held_by items (Ty.Tuple parts) = parts
held_by items (Ty.Array element count) = element ∷ []
held_by items (Ty.Closure n) = captures_of (slice_get items.closures n)
held_by items _ = []

-- what a type holds, at any depth
pub data Holds (items : ItemTable) : TyId → TyId → Type 0 where
  at_once : {a b : TyId} {ty : Ty} → type_at items a ≡ Some ty → Contains (held_by items ty) b → Holds items a b
  within : {a b c : TyId} → Holds items a b → Holds items b c → Holds items a c

-- no type holds itself but through a box
abbrev pub NoneHoldsItself : ItemTable → Type 0
NoneHoldsItself items = (id : TyId) → ¬ Holds items id id
