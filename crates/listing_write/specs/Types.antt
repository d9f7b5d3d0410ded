-- Types as a listing writes them.
use Rattle.std.specs.Prelude.{ℕ, zero, suc, ◌-◌, ◌^◌, List, [], ◌∷◌, ◌++◌, map, codes, Option, Some, None, slice_get}
use Rattle.std.specs.Fmt.{decimal}
use Rattle.mir_base.specs.declared.int_kind.IntKind.{IntKind}
use Rattle.mir_ty.specs.declared.ty.Ty.{Ty}
use Rattle.mir_ty.specs.declared.ty.TyId.{TyId}
use Rattle.mir_ty.specs.declared.def.TraitDef.{TraitDef}
use Rattle.mir_ty.specs.ItemTable.{ItemTable, type_at}
use Rattle.mir_ty.specs.Named.{adt_name}
use Rattle.listing_write.specs.Lists.{in_parentheses}

abbrev pub kind_text : IntKind → List ℕ
kind_text IntKind.I32 = codes "i32"
kind_text IntKind.I64 = codes "i64"
kind_text IntKind.U32 = codes "u32"
kind_text IntKind.U64 = codes "u64"
kind_text IntKind.Usize = codes "usize"

abbrev pub name_of_trait : Option TraitDef → List ℕ
name_of_trait None = []
name_of_trait (Some def) = def.name

abbrev pub trait_name : ItemTable → ℕ → List ℕ
trait_name items n = name_of_trait (slice_get items.traits n)

-- one part has a comma behind it
abbrev pub tuple_text : List (List ℕ) → List ℕ
tuple_text [] = codes "()"
tuple_text (part ∷ []) = codes "(" ++ part ++ codes ",)"
tuple_text (part ∷ next ∷ parts) = in_parentheses (part ∷ next ∷ parts)

-- a type, where the types in it are written so
abbrev pub form_text : ItemTable → (TyId → List ℕ) → Ty → List ℕ
form_text items inner (Ty.Int kind) = kind_text kind
form_text items inner Ty.Bool = codes "bool"
form_text items inner Ty.Unit = codes "()"
form_text items inner Ty.Never = codes "!"
form_text items inner (Ty.Adt n) = adt_name items n
form_text items inner (Ty.Tuple parts) = tuple_text (map inner parts)
form_text items inner (Ty.Array element count) = codes "[" ++ inner element ++ codes "; " ++ decimal count ++ codes "]"
form_text items inner (Ty.Boxed inside) = codes "Box<" ++ inner inside ++ codes ">"
form_text items inner (Ty.Dyn n) = codes "dyn " ++ trait_name items n
form_text items inner (Ty.Shared to) = codes "&" ++ inner to
form_text items inner (Ty.Unique to) = codes "&mut " ++ inner to
form_text items inner (Ty.Closure n) = codes "closure#" ++ decimal n

abbrev pub found_text : ItemTable → (TyId → List ℕ) → Option Ty → List ℕ
found_text items inner None = []
found_text items inner (Some ty) = form_text items inner ty

-- a type with no more than so many types in one another
abbrev pub type_within : ItemTable → ℕ → TyId → List ℕ
type_within items zero id = []
type_within items (suc depth) id = found_text items (type_within items depth) (type_at items id)

-- more types in one another than there can be
abbrev pub deepest : ℕ
deepest = 2 ^ 32 - 1

unfoldable pub type_text : ItemTable → TyId → List ℕ
type_text items id = type_within items deepest id
