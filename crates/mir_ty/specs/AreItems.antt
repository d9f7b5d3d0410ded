-- What is true of all items: what the calls that add to them ask for, and how long their lists can be.
use Rattle.std.specs.Prelude.{◌≡◌, ℕ, ◌-◌, ◌^◌, ◌<◌, List, [], ◌∷◌, Option, Some, None, length, slice_get, All, Contains, MatchOption, IsFalse, ⊤, option_and_then}
use Rattle.mir_ty.specs.declared.ty.Ty.{Ty}
use Rattle.mir_ty.specs.declared.ty.TyId.{TyId}
use Rattle.mir_ty.specs.declared.adt.Adt.{Adt}
use Rattle.mir_ty.specs.declared.adt.Variant.{Variant}
use Rattle.mir_ty.specs.declared.def.TraitDef.{TraitDef}
use Rattle.mir_ty.specs.declared.def.Sig.{Sig}
use Rattle.mir_ty.specs.ItemTable.{ItemTable, item_count}

-- the types that a type names
abbrev pub types_in : Ty → List TyId
types_in (Ty.Tuple parts) = parts
types_in (Ty.Array element count) = element ∷ []
types_in (Ty.Boxed inside) = inside ∷ []
types_in (Ty.Shared to) = to ∷ []
types_in (Ty.Unique to) = to ∷ []
types_in _ = []

-- each of these types is in the table
abbrev pub AreTypes : List Ty → List TyId → Type 0
AreTypes types ids = All (λ id. id.0 < length types) ids

-- a tuple has one part or more
abbrev pub HasParts : Ty → Type 0
HasParts (Ty.Tuple parts) = 0 < length parts
HasParts _ = ⊤

-- the types that a type names are in the table, and a tuple has one part or more
pub record IsTy (types : List Ty) (ty : Ty) : Type 0 where
  pub within : AreTypes types (types_in ty)
  pub parts : HasParts ty

-- the types of the fields are in the table, and there are as many names as fields
pub record IsVariant (types : List Ty) (variant : Variant) : Type 0 where
  pub fields : AreTypes types variant.fields
  pub names : length variant.field_names ≡ length variant.fields

-- a struct has exactly one variant, with its name
abbrev pub HasOneVariant : Adt → Type 0
HasOneVariant adt = (variant : Variant) × (adt.variants ≡ variant ∷ []) × (variant.name ≡ adt.name)

pub record IsAdt (types : List Ty) (adt : Adt) : Type 0 where
  pub variants : All (IsVariant types) adt.variants
  pub of_struct : IsFalse adt.is_enum → HasOneVariant adt

-- the types of the parameters and of the result are in the table
pub record IsSig (types : List Ty) (sig : Sig) : Type 0 where
  pub params : AreTypes types sig.params
  pub answer : sig.result.0 < length types

-- `&dyn` or `&mut dyn` of the trait with this number
abbrev pub IsSelfTy : List Ty → ℕ → Option Ty → Type 0
IsSelfTy types n (Some (Ty.Shared to)) = slice_get types to.0 ≡ Some (Ty.Dyn n)
IsSelfTy types n (Some (Ty.Unique to)) = slice_get types to.0 ≡ Some (Ty.Dyn n)
IsSelfTy types n _ = ⊥

-- the parameters of a method of the trait with this number begin with the type of `self`
abbrev pub BeginsWithSelf : List Ty → ℕ → Sig → Type 0
BeginsWithSelf types n sig = IsSelfTy types n (option_and_then (λ id. slice_get types id.0) (slice_get sig.params 0))

pub record IsMethod (types : List Ty) (n : ℕ) (sig : Sig) : Type 0 where
  pub head : IsSig types sig
  pub receiver : BeginsWithSelf types n sig

-- fewer members than a number of 32 bits can count
abbrev pub IsShort : {A : Type 0} → List A → Type 0
IsShort xs = length xs < 2 ^ 32 - 1

pub record AdtIsShort (adt : Adt) : Type 0 where
  pub variants : IsShort adt.variants
  pub fields : All (λ variant. IsShort variant.fields) adt.variants

pub record TraitIsShort (def : TraitDef) : Type 0 where
  pub methods : IsShort def.methods
  pub params : All (λ sig. IsShort sig.params) def.methods

-- each list of items is short, and so are their structs, enums, traits, impls and closures taken together
pub record AreShort (items : ItemTable) : Type 0 where
  pub types : IsShort items.types
  pub bodies : IsShort items.bodies
  pub others : item_count items < 2 ^ 32 - 1
  pub in_types : All (λ ty. IsShort (types_in ty)) items.types
  pub in_adts : All AdtIsShort items.adts
  pub in_traits : All TraitIsShort items.traits
  pub in_impls : All (λ def. IsShort def.bodies) items.impls
  pub in_closures : All (λ def. IsShort def.captures) items.closures
  pub in_bodies : All (λ sig. IsShort sig.params) items.bodies

-- equal types have one number
abbrev pub AreDistinct : List Ty → Type 0
AreDistinct types = (i j : ℕ) (ty : Ty) → slice_get types i ≡ Some ty → slice_get types j ≡ Some ty → i ≡ j

-- what is found of an element: its number, or that it has none
abbrev pub IsNumberOf : {X : Type 0} → List X → X → Option ℕ → Type 0
IsNumberOf all x found = MatchOption found (¬ Contains all x) (λ n. slice_get all n ≡ Some x)

-- each method of the trait with this number, where there is one
abbrev pub AreMethods : List Ty → ℕ → Option TraitDef → Type 0
AreMethods types n None = ⊤
AreMethods types n (Some def) = All (IsMethod types n) def.methods

pub record AreItems (items : ItemTable) : Type 0 where
  pub distinct : AreDistinct items.types
  pub types : All (IsTy items.types) items.types
  pub adts : All (IsAdt items.types) items.adts
  pub traits : (n : ℕ) → AreMethods items.types n (slice_get items.traits n)
  pub closures : All (λ def. AreTypes items.types def.captures) items.closures
  pub bodies : All (IsSig items.types) items.bodies
  pub short : AreShort items
