-- Types without others in them.
use Rattle.std.specs.Prelude.{◌≡◌, ℕ, ⊤, List, []}
use Rattle.mir_ty.specs.declared.ty.Ty.{Ty}
use Rattle.mir_ty.specs.declared.ty.TyId.{TyId}
use Rattle.mir_ty.specs.AreItems.{HasParts}
use Rattle.mir_ty.specs.ItemTable.{ItemTable}
use Rattle.listing_write.specs.Types.{form_text}
use Rattle.listing_parts.specs.declared.begin.Begin.{Begin}
use Rattle.listing_parts.specs.Table.{MayStand, under}

-- a type that may stand in each table, and is written alike there
pub record IsLeaf (heads : ItemTable) (ty : Ty) : Type 0 where
  pub stands : (n : ℕ) → MayStand heads n ty
  pub parts : HasParts ty
  pub written : (items : ItemTable) (inner : TyId → List ℕ) →
      form_text (under heads items) inner ty ≡ form_text heads (λ id. []) ty

abbrev pub BeginsLeaf : ItemTable → Begin → Type 0
BeginsLeaf heads (Begin.Whole ty) = IsLeaf heads ty
BeginsLeaf heads _ = ⊤
