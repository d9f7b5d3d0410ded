-- What a contract sees of items: its tables, each in the order of its numbers.
use Rattle.std.specs.Prelude.{◌≡◌, ℕ, ◌+◌, List, [], ◌∷◌, ◌++◌, ◌⊎◌, Option, Some, length, slice_get, Contains}
use Rattle.mir_ty.specs.declared.ty.Ty.{Ty}
use Rattle.mir_ty.specs.declared.ty.TyId.{TyId}
use Rattle.mir_ty.specs.declared.adt.Adt.{Adt}
use Rattle.mir_ty.specs.declared.def.TraitDef.{TraitDef}
use Rattle.mir_ty.specs.declared.def.ImplDef.{ImplDef}
use Rattle.mir_ty.specs.declared.def.ClosureDef.{ClosureDef}
use Rattle.mir_ty.specs.declared.def.Sig.{Sig}

pub record ItemTable : Type 0 where
  pub types : List Ty
  pub adts : List Adt
  pub traits : List TraitDef
  pub impls : List ImplDef
  pub closures : List ClosureDef
  pub bodies : List Sig

abbrev pub no_items : ItemTable
no_items = record { types = []; adts = []; traits = []; impls = []; closures = []; bodies = [] }

abbrev pub with_type : ItemTable → Ty → ItemTable
with_type items ty = record items { types = items.types ++ ty ∷ [] }

abbrev pub with_adt : ItemTable → Adt → ItemTable
with_adt items adt = record items { adts = items.adts ++ adt ∷ [] }

abbrev pub with_trait : ItemTable → TraitDef → ItemTable
with_trait items def = record items { traits = items.traits ++ def ∷ [] }

abbrev pub with_impl : ItemTable → ImplDef → ItemTable
with_impl items def = record items { impls = items.impls ++ def ∷ [] }

abbrev pub with_closure : ItemTable → ClosureDef → ItemTable
with_closure items def = record items { closures = items.closures ++ def ∷ [] }

abbrev pub with_body : ItemTable → Sig → ItemTable
with_body items sig = record items { bodies = items.bodies ++ sig ∷ [] }

-- the type with a number; none where the number is not in the table
abbrev pub type_at : ItemTable → TyId → Option Ty
type_at items id = slice_get items.types id.0

-- how many structs, enums, traits, impls and closures there are
abbrev pub item_count : ItemTable → ℕ
item_count items = length items.adts + length items.traits + length items.impls + length items.closures

-- a type is given the number that it has already, or else the next one
abbrev pub Interns : ItemTable → Ty → ItemTable → TyId → Type 0
Interns old ty new id =
    (type_at new id ≡ Some ty)
    × ((new ≡ old) ⊎ ((¬ Contains old.types ty) × (id.0 ≡ length old.types) × (new ≡ with_type old ty)))
