-- What is proved of the items of accepted texts.
use Rattle.std.specs.Prelude.{◌≡◌, ℕ, ◌==◌, nat_le, Bool, true, false, ◌&&◌, if◌then◌else◌, List, [], ◌∷◌, map, length, Some, slice_get, IsTrue, ◌||◌, not, is_some, zero, suc, codes, ◌++◌, nat_lt, Option, None}
use Rattle.std.specs.Option.{option_map_or}
use Rattle.std.specs.List.{list_any, list_all}
use Rattle.std.specs.Str.{bytes_eq}
use Rattle.mir_base.specs.declared.place_in_text.Pos.{Pos}
use Rattle.mir_ty.specs.declared.adt.Adt.{Adt}
use Rattle.mir_ty.specs.declared.adt.Variant.{Variant}
use Rattle.mir_ty.specs.declared.def.ClosureDef.{ClosureDef}
use Rattle.mir_ty.specs.declared.def.ImplDef.{ImplDef}
use Rattle.mir_ty.specs.declared.def.Sig.{Sig}
use Rattle.mir_ty.specs.declared.def.TraitDef.{TraitDef}
use Rattle.mir_ty.specs.declared.ty.Ty.{Ty}
use Rattle.mir_ty.specs.declared.ty.TyId.{TyId}
use Rattle.mir_ty.specs.Facts.{is_copy}
use Rattle.mir_ty.specs.ItemTable.{ItemTable, type_at}
use Rattle.src_tree.specs.Layout.{Parts}
use Rattle.typed_tree.specs.Tree.{ProgramTree}
use Rattle.typing_rules.specs.Program.{is_same_truth}
use Rattle.well_typed.specs.Claim.{Claim, fact, ◌&◌, each, some, nothing, Holds}
use Rattle.well_typed.specs.Items.{are_items, is_equal, is_finite, are_distinct_types, stands_alone, is_param}
use Rattle.well_typed.specs.Names.{is_among, are_distinct, built_in, is_word}
use Rattle.well_typed.specs.Types.{adt_of, are_same, is_same, is_unit, reference_of, trait_of}
use Rattle.typing_soundness.specs.Program.{IsAccepted}

-- Equal types of an accepted text have one number, and `bool` and `()` are among them.
abbrev pub TypesDiffer : Type 0
TypesDiffer = (parts : Parts Pos) (items : ItemTable) (p : ProgramTree) → IsAccepted parts items p → IsTrue
    (are_distinct_types p.items.types) × IsTrue (list_any (is_equal Ty.Bool) p.items.types) × IsTrue (list_any (is_equal
    Ty.Unit) p.items.types)

-- No type of an accepted text holds itself: each is finite, as all that it holds is.
abbrev pub TypesAreFinite : Type 0
TypesAreFinite = (parts : Parts Pos) (items : ItemTable) (p : ProgramTree) → IsAccepted parts items p →
    (id : TyId) (ty :
    Ty) → type_at p.items id ≡ Some ty → IsTrue (is_finite p.items id)

-- a tuple has 1 to 12 parts and an array at most 32 elements, and what a type names by its number is there
abbrev pub is_within_limits : ItemTable → Ty → Bool
is_within_limits items (Ty.Tuple parts) = nat_lt 0 (length parts) && nat_le (length parts) 12
is_within_limits items (Ty.Array element count) = nat_le count 32
is_within_limits items (Ty.Adt n) = nat_lt n (length items.adts)
is_within_limits items (Ty.Dyn n) = nat_lt n (length items.traits)
is_within_limits items (Ty.Closure n) = nat_lt n (length items.closures)
is_within_limits items _ = true

-- So are all types of an accepted text.
abbrev pub TypesKeepLimits : Type 0
TypesKeepLimits = (parts : Parts Pos) (items : ItemTable) (p : ProgramTree) → IsAccepted parts items p →
    IsTrue (list_all
    (is_within_limits p.items) p.items.types)

-- parameters of types that may stand there, and a result that stands alone
abbrev pub is_head_typed : ItemTable → Sig → Bool
is_head_typed items head = list_all (is_param items) head.params && stands_alone items head.result

-- So are the heads of all bodies of an accepted text.
abbrev pub HeadsAreTyped : Type 0
HeadsAreTyped = (parts : Parts Pos) (items : ItemTable) (p : ProgramTree) → IsAccepted parts items p → IsTrue (list_all
    (is_head_typed p.items) p.items.bodies)

-- the first parameter is a reference to `dyn` of a trait
abbrev pub begins_with_self : ItemTable → ℕ → List TyId → Bool
begins_with_self items n [] = false
begins_with_self items n (ty ∷ tys) =
    option_map_or (λ (r : Bool × TyId). option_map_or (λ m. m == n) (trait_of items r.1) false) (reference_of items ty)
    false

-- a method of a trait takes `&self` or `&mut self`, and is not called `drop`
abbrev pub is_method_typed : ItemTable → ℕ → Sig → Bool
is_method_typed items n method =
    is_head_typed items method && (begins_with_self items n method.params && not (bytes_eq method.name (codes "drop")))

-- the names of a trait's methods differ
pub record IsTraitTyped (items : ItemTable) (n : ℕ) (def : TraitDef) : Type 0 where
  pub methods : (k : ℕ) (method : Sig) → slice_get def.methods k ≡ Some method → IsTrue (is_method_typed items n method)
  pub names : IsTrue (are_distinct (map (λ m. m.name) def.methods))

-- So are the traits of an accepted text.
abbrev pub TraitsAreTyped : Type 0
TraitsAreTyped = (parts : Parts Pos) (items : ItemTable) (p : ProgramTree) → IsAccepted parts items p → (n : ℕ) (def :
    TraitDef) → slice_get p.items.traits n ≡ Some def → IsTraitTyped p.items n def

-- impls of one trait and of one struct or enum
abbrev pub is_impl_of : ImplDef → ImplDef → Bool
is_impl_of a b = a.trait_no == b.trait_no && a.adt == b.adt

abbrev pub are_distinct_impls : List ImplDef → Bool
are_distinct_impls [] = true
are_distinct_impls (def ∷ defs) = not (list_any (is_impl_of def) defs) && are_distinct_impls defs

-- There are no two of them in an accepted text.
abbrev pub ImplsDiffer : Type 0
ImplsDiffer = (parts : Parts Pos) (items : ItemTable) (p : ProgramTree) → IsAccepted parts items p → IsTrue
    (are_distinct_impls p.items.impls)

-- `main` has no parameters and the result `()`
abbrev pub is_main : ItemTable → Sig → Bool
is_main items head = bytes_eq head.name (codes "main") && (length head.params == 0 && is_unit items head.result)

-- There is such a body in an accepted text.
abbrev pub HasMain : Type 0
HasMain = (parts : Parts Pos) (items : ItemTable) (p : ProgramTree) → IsAccepted parts items p →
    IsTrue (list_any (is_main
    p.items) p.items.bodies)

-- Captures stand alone; the closure has a body, whose head begins with the closure, and whose other parameters stand
-- alone.
pub record IsClosureTyped (items : ItemTable) (n : ℕ) (def : ClosureDef) : Type 0 where
  pub captures : IsTrue (list_all (stands_alone items) def.captures)
  pub head : Sig
  pub is : slice_get items.bodies def.body ≡ Some head
  pub self : TyId
  pub rest : List TyId
  pub params : head.params ≡ self ∷ rest
  pub ty : type_at items self ≡ Some (Ty.Closure n)
  pub alone : IsTrue (list_all (stands_alone items) rest)

-- So are the closures of an accepted text.
abbrev pub ClosuresAreTyped : Type 0
ClosuresAreTyped = (parts : Parts Pos) (items : ItemTable) (p : ProgramTree) → IsAccepted parts items p → (n : ℕ) (def :
    ClosureDef) → slice_get p.items.closures n ≡ Some def → IsClosureTyped p.items n def

-- fields that stand alone, each with a name, 32 at most
abbrev pub is_variant_typed : ItemTable → Variant → Bool
is_variant_typed items v =
    list_all (stands_alone items) v.fields && (length v.field_names == length v.fields && nat_le (length v.fields) 32)

-- a struct has one variant with its name; an enum has at most 64, whose names differ
abbrev pub is_one_variant : List ℕ → List Variant → Bool
is_one_variant name (v ∷ []) = bytes_eq v.name name
is_one_variant name _ = false

abbrev pub has_variants : Adt → Bool
has_variants adt =
    if adt.is_enum then nat_le (length adt.variants) 64 && are_distinct (map (λ v. v.name) adt.variants) else
    is_one_variant adt.name adt.variants

-- what derives `Copy` has no `Drop` impl, and fields that are Copy
abbrev pub may_be_copy : ItemTable → Adt → Bool
may_be_copy items adt =
    not adt.copy || (not (is_some adt.drop_body) && list_all (λ v. list_all (is_copy items) v.fields) adt.variants)

pub record IsAdtTyped (items : ItemTable) (adt : Adt) : Type 0 where
  pub variants : IsTrue (has_variants adt)
  pub fields : (n : ℕ) (v : Variant) → slice_get adt.variants n ≡ Some v → IsTrue (is_variant_typed items v)
  pub copy : IsTrue (may_be_copy items adt)

-- So are the structs and enums of an accepted text.
abbrev pub AdtsAreTyped : Type 0
AdtsAreTyped = (parts : Parts Pos) (items : ItemTable) (p : ProgramTree) → IsAccepted parts items p →
    (n : ℕ) (adt : Adt) →
    slice_get p.items.adts n ≡ Some adt → IsAdtTyped p.items adt

-- Names of the fields of one variant differ, in an accepted text.
abbrev pub FieldsDiffer : Type 0
FieldsDiffer = (parts : Parts Pos) (items : ItemTable) (p : ProgramTree) → IsAccepted parts items p →
    (n : ℕ) (adt : Adt) →
    slice_get p.items.adts n ≡ Some adt → (m : ℕ) (v : Variant) → slice_get adt.variants m ≡ Some v →
    IsTrue (are_distinct
    v.field_names)

-- the names of structs, enums, traits and bodies: functions, methods and closures
abbrev pub item_names : ItemTable → List (List ℕ)
item_names items =
    map (λ adt. adt.name) items.adts ++ map (λ def. def.name) items.traits ++ map (λ head. head.name) items.bodies

-- a word, and not built in
abbrev pub is_item_name : List ℕ → Bool
is_item_name name = is_word name && not (is_among name built_in)

-- So are those of an accepted text.
abbrev pub NamesOfItems : Type 0
NamesOfItems = (parts : Parts Pos) (items : ItemTable) (p : ProgramTree) → IsAccepted parts items p → IsTrue (list_all
    is_item_name (item_names p.items))

-- They differ.
abbrev pub NamesDiffer : Type 0
NamesDiffer = (parts : Parts Pos) (items : ItemTable) (p : ProgramTree) → IsAccepted parts items p →
    IsTrue (are_distinct
    (item_names p.items))

-- ---- `drop` bodies, and the bodies of impls

-- a reference to a struct or an enum
abbrev pub is_to : ItemTable → ℕ → TyId → Bool
is_to items n ty =
    option_map_or (λ (r : Bool × TyId). option_map_or (λ m. m == n) (adt_of items r.1) false) (reference_of items ty)
    false

abbrev pub is_unique : ItemTable → TyId → Bool
is_unique items ty = option_map_or (λ (r : Bool × TyId). r.0) (reference_of items ty) false

-- `fn drop(&mut self)` of a struct or an enum
abbrev pub is_one_self : ItemTable → ℕ → List TyId → Bool
is_one_self items n (ty ∷ []) = is_unique items ty && is_to items n ty
is_one_self items n _ = false

abbrev pub is_drop_head : ItemTable → List ℕ → ℕ → Sig → Claim
is_drop_head items name n head =
    fact (bytes_eq head.name (name ++ codes "::drop")) & fact
    (is_one_self items n head.params && is_unit items head.result)

abbrev pub has_drop_head : ItemTable → List ℕ → ℕ → Option ℕ → Claim
has_drop_head items name n None = nothing
has_drop_head items name n (Some body) = some (slice_get items.bodies body) (is_drop_head items name n)

-- A `drop` body of an accepted text has such a head.
abbrev pub DropsHaveHeads : Type 0
DropsHaveHeads = (parts : Parts Pos) (items : ItemTable) (p : ProgramTree) → IsAccepted parts items p →
    (n : ℕ) (adt : Adt) →
    slice_get p.items.adts n ≡ Some adt → Holds (has_drop_head p.items adt.name n adt.drop_body)

-- the head of a trait's method, with the struct or enum in place of `dyn` of the trait
abbrev pub are_same_params : ItemTable → ℕ → List TyId → List TyId → Bool
are_same_params items adt (self ∷ tys) (own ∷ others) =
    is_to items adt own && (is_same_truth (is_unique items self) (is_unique items own) && are_same tys others)
are_same_params items adt _ _ = false

abbrev pub implements_head : ItemTable → ℕ → List ℕ → Sig → Sig → Claim
implements_head items adt name method head =
    fact (bytes_eq head.name (name ++ codes "::" ++ method.name)) & fact
    (are_same_params items adt method.params head.params &&
    is_same method.result head.result)

-- one body a method of the trait, in its order
abbrev pub implements_all : ItemTable → ℕ → List ℕ → List Sig → List ℕ → Claim
implements_all items adt name [] [] = nothing
implements_all items adt name (method ∷ methods) (body ∷ bodies) =
    some (slice_get items.bodies body) (implements_head items adt name method) & implements_all items adt name methods
    bodies
implements_all items adt name _ _ = fact false

abbrev pub is_impl : ItemTable → ImplDef → Claim
is_impl items def =
    some (slice_get items.traits def.trait_no)
    (λ tr. some (slice_get items.adts def.adt) (λ adt. implements_all items def.adt
    adt.name tr.methods def.bodies))

-- So are the impls of an accepted text.
abbrev pub ImplsAreTyped : Type 0
ImplsAreTyped = (parts : Parts Pos) (items : ItemTable) (p : ProgramTree) → IsAccepted parts items p →
    Holds (each (is_impl
    p.items) p.items.impls)
