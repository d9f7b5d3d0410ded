-- The table of the types that were read, and how it grows.
use Rattle.std.specs.Prelude.{◌≡◌, ℕ, ◌<◌, ⊤, List, ◌++◌, length, Some, All, slice_get}
use Rattle.mir_ty.specs.declared.ty.Ty.{Ty}
use Rattle.mir_ty.specs.declared.ty.TyId.{TyId}
use Rattle.mir_ty.specs.AreItems.{types_in}
use Rattle.mir_ty.specs.ItemTable.{ItemTable}
use Rattle.listing_write.specs.Fields.{TyFits}
use Rattle.listing_write.specs.Types.{type_text}

-- the structs, enums and traits that a type names have heads
abbrev pub HasHead : ItemTable → Ty → Type 0
HasHead heads (Ty.Adt n) = n < length heads.adts
HasHead heads (Ty.Dyn n) = n < length heads.traits
HasHead heads _ = ⊤

-- a type that may have this number: those in it have smaller ones
pub record MayStand (heads : ItemTable) (n : ℕ) (ty : Ty) : Type 0 where
  pub below : All (λ id. id.0 < n) (types_in ty)
  pub head : HasHead heads ty
  pub fits : TyFits ty

-- types that were read, one after the other
abbrev pub AreRead : ItemTable → List Ty → Type 0
AreRead heads types = (n : ℕ) (ty : Ty) → slice_get types n ≡ Some ty → MayStand heads n ty

-- with more types, and else as they were
pub record WithTypes (old new : ItemTable) : Type 0 where
  pub more : List Ty
  pub is : new ≡ record old { types = old.types ++ more }

-- what is left of items by a reader of types
pub record Grow (heads old new : ItemTable) : Type 0 where
  pub types : AreRead heads new.types
  pub others : WithTypes old new

-- the types of items, with the names of these heads
abbrev pub under : ItemTable → ItemTable → ItemTable
under heads items = record heads { types = items.types }

-- a type of the items, as it is written under the heads
abbrev pub text_under : ItemTable → ItemTable → TyId → List ℕ
text_under heads items id = type_text (under heads items) id
