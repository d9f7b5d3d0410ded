-- What a type holds, as the tests of a check ask it.
use Rattle.std.specs.Prelude.{◌≡◌, ℕ, Bool, false, not, ◌||◌, nat_lt, List, Ok, Some, slice_index_or}
use Rattle.std.specs.List.{list_any}
use Rattle.mir_ty.specs.Facts.{Rule}
use Rattle.mir_ty.specs.ItemTable.{ItemTable, type_at}
use Rattle.mir_ty.specs.Known.{known_by}
use Rattle.mir_ty.specs.Parts.{held_by}
use Rattle.mir_ty.specs.declared.ty.Ty.{Ty}
use Rattle.mir_ty.specs.declared.ty.TyId.{TyId}
use Rattle.name_table.specs.declared.containment.HoldingQuestion.{HoldingQuestion}
use Rattle.name_table.specs.Forms.{Adt_, all_numbered}
use Rattle.typing_rules.specs.Check.{TypingState, interned}
use Rattle.typing_rules.specs.Collected.{starting_with}
use Rattle.well_typed.specs.Types.{is_same}

-- the place of a type in an order
abbrev pub place_of : List ℕ → TyId → ℕ
place_of order id = slice_index_or order id.0 0

abbrev pub meets : HoldingQuestion → TyId → Bool
meets (HoldingQuestion.Holds part known) h = is_same h part || known_by known.now h
meets (HoldingQuestion.Past order place) h = nat_lt place (place_of order.now h)
meets (HoldingQuestion.NotBefore order place) h = not (nat_lt (place_of order.now h) place)

-- what shows that a type holds a part
abbrev pub hold_rule : ItemTable → TyId → Rule
hold_rule items part known ty = list_any (λ h. is_same h part || known h) (held_by items ty)

-- a type stands before nothing that it holds
abbrev pub IsPlaced : ItemTable → List ℕ → TyId → Type 0
IsPlaced items order id =
    (ty : Ty) → type_at items id ≡ Some ty →
    list_any (λ h. nat_lt (place_of order id) (place_of order h)) (held_by items ty) ≡ false

-- no type stands before what it holds
abbrev pub IsOrder : ItemTable → List ℕ → Type 0
IsOrder items order = (id : TyId) → IsPlaced items order id

-- a type stands behind all that it holds
abbrev pub IsBehind : ItemTable → List ℕ → TyId → Type 0
IsBehind items order id =
    (ty : Ty) → type_at items id ≡ Some ty →
    list_any (λ h. not (nat_lt (place_of order h) (place_of order id))) (held_by items ty) ≡ false

-- an order where this type is among the types
abbrev pub IsOrderWith : ItemTable → List ℕ → Ty → Type 0
IsOrderWith items order ty =
    (id : TyId) (after : TypingState) → interned ty (starting_with items) ≡ Ok (id, after) → IsOrder after.items order

-- an order where structs and enums from this number on are among the types
abbrev pub IsOrderOf : ItemTable → List ℕ → ℕ → List Adt_ → Type 0
IsOrderOf items order n adts =
    (after : TypingState) → all_numbered n adts (starting_with items) ≡ Ok (tt, after) → IsOrder after.items order
