-- What can be wrong with a type, at any depth of it: it has the number of an item that does not exist, or it has a
-- `dyn` type elsewhere than directly in a box or a reference; and whether a struct, an enum or a closure holds itself.
use Rattle.std.specs.Prelude.{◌≡◌, ◌↔◌, ℕ, Bool, true, false, not, ◌&&◌, ◌||◌, List, Option, Some, length, nat_lt, nat_eq}
use Rattle.std.specs.Option.{option_map_or}
use Rattle.std.specs.List.{list_any, list_all}
use Rattle.mir_ty.specs.declared.ty.Ty.{Ty}
use Rattle.mir_ty.specs.declared.ty.TyId.{TyId}
use Rattle.mir_ty.specs.declared.adt.Adt.{Adt}
use Rattle.mir_ty.specs.AreItems.{types_in}
use Rattle.mir_ty.specs.Facts.{Rule, by_rule}
use Rattle.mir_ty.specs.ItemTable.{ItemTable, type_at}
use Rattle.mir_ty.specs.Parts.{held_by, Holds}
use Rattle.store_model.specs.Places.TypeForms.{is_dyn, is_adt, is_closure}

abbrev pub is_drop_body_of : ℕ → Adt → Bool
is_drop_body_of body adt = option_map_or (nat_eq body) adt.drop_body false

-- a body is that of a `Drop` impl
abbrev pub is_drop_body : ItemTable → ℕ → Bool
is_drop_body items body = list_any (is_drop_body_of body) items.adts

module _ (items : ItemTable) where
  -- the item that a type itself names exists
  abbrev pub own_number_exists : Ty → Bool
  own_number_exists (Ty.Adt n) = nat_lt n (length items.adts)
  own_number_exists (Ty.Dyn n) = nat_lt n (length items.traits)
  own_number_exists (Ty.Closure n) = nat_lt n (length items.closures)
  own_number_exists _ = true

  -- all types in it exist too
  abbrev pub existing : Rule
  existing known ty = own_number_exists ty && list_all known (types_in ty)

  -- a type, and all types in it, are in the table and name items that exist
  abbrev pub ty_exists : TyId → Bool
  ty_exists id = by_rule items.types existing id

  -- behind a box or a reference
  abbrev pub unless_dyn : (TyId → Bool) → TyId → Bool
  unless_dyn known id = not (is_dyn (type_at items id)) && known id

  -- a type itself misplaces a `dyn` type, or one in it does
  abbrev pub misplacing : Rule
  misplacing known (Ty.Dyn n) = true
  misplacing known (Ty.Boxed inside) = unless_dyn known inside
  misplacing known (Ty.Shared to) = unless_dyn known to
  misplacing known (Ty.Unique to) = unless_dyn known to
  misplacing known ty = list_any known (types_in ty)

  -- somewhere in a type a `dyn` type stands elsewhere than directly in a box or a reference
  abbrev pub misplaces_dyn : TyId → Bool
  misplaces_dyn id = by_rule items.types misplacing id

  -- a type is the sought one or holds it
  abbrev pub holding : (Option Ty → Bool) → Rule
  holding sought known ty = sought (Some ty) || list_any known (held_by items ty)

  -- one of these types is the sought one, or holds it at any depth, neither behind a box nor behind a reference
  abbrev pub hold : (Option Ty → Bool) → List TyId → Bool
  hold sought ids = list_any (by_rule items.types (holding sought)) ids

  -- a struct or an enum, and a closure, holds itself
  abbrev pub adt_holds_itself : ℕ → Bool
  adt_holds_itself n = hold (is_adt n) (held_by items (Ty.Adt n))

  abbrev pub closure_holds_itself : ℕ → Bool
  closure_holds_itself n = hold (is_closure n) (held_by items (Ty.Closure n))

-- what the law of holding says: the tests tell exactly the structs, enums and closures that hold themselves
abbrev pub HoldsItself : ItemTable → Ty → Type 0
HoldsItself items ty = (id : TyId) × (type_at items id ≡ Some ty) × Holds items id id

abbrev pub AdtHoldingIsTested : Type 0
AdtHoldingIsTested = (items : ItemTable) (n : ℕ) → adt_holds_itself items n ≡ true ↔ HoldsItself items (Ty.Adt n)

abbrev pub ClosureHoldingIsTested : Type 0
ClosureHoldingIsTested =
    (items : ItemTable) (n : ℕ) → closure_holds_itself items n ≡ true ↔ HoldsItself items (Ty.Closure n)
