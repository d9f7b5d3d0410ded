-- The operands of a line in a ready body, as its tests say: of the types that the line wants, or of any.
use Rattle.std.proofs.Common.{◌≡◌, ℕ, true, false, List, [], ◌∷◌, map, Option, Some, None, slice_get, ◌∙◌}
use Rattle.mir_ty.specs.declared.ty.TyId.{TyId}
use Rattle.mir_ty.specs.ItemTable.{ItemTable, type_at}
use Rattle.cfg_graph.specs.declared.graph.Body.{Body}
use Rattle.cfg_graph.specs.declared.place.Operand.{Operand}
use Rattle.cfg_graph.specs.declared.place.Place as graph
use Rattle.cfg_graph.specs.Moves.Gone.{is_param}
use Rattle.cfg_graph.specs.NamedPlaces.{references_made, named_by}
use Rattle.cfg_graph.specs.Uses.{PlaceUse}
use Rattle.cfg_graph.specs.WellFormed.Typing.{operands_are}
use Rattle.store_model.specs.declared.address.Addr.{Addr}
use Rattle.store_model.specs.Concrete.State.{State}
use Rattle.store_model.specs.Places.Place.{Place, is_reference}
use Rattle.drop_values.proofs.Touched.{AllNameFull}
use Rattle.drop_elaborate.proofs.OperandLists.{OperandsAre, none_is, each_is, any_is}
use Rattle.drop_elaborate.proofs.OperandTypes.{AllTested, operands-at, operands-any}
use Rattle.drop_elaborate.proofs.ReadyBody.{BodyIsReady}
use Rattle.drop_elaborate.proofs.ReadyReferences.{made-are, made-no-param}
use Rattle.drop_elaborate.proofs.StmtTests.{LineTested}

module _ (items : ItemTable) (local_ty : (body local : ℕ) → Option TyId) (number depth bodies : ℕ) (body : Body)
    (addresses : List Addr) (before : State) (given : AllNameFull items local_ty before addresses)
    (locals_are : (k : ℕ) → local_ty number k ≡ slice_get body.locals k) (ready : BodyIsReady items bodies body) where
  abbrev Are : List Operand → List (Option TyId) → Type 0
  Are operands ids = OperandsAre items local_ty number depth body addresses before given locals_are operands ids

  pub made_are : (k : ℕ) (place : Place) → named_by k (references_made body) ≡ Some place →
      (id : TyId) × (local_ty number k ≡ Some id) × (is_reference (type_at items id) ≡ true)
  made_are k place e =
      let m = made-are items ready.alone body ready.references ready.stmt_typed k place e in
      (m.0, locals_are k ∙ m.1, m.2)

  pub no_param : (r : ℕ) (q : Place) → named_by r (references_made body) ≡ Some q → is_param items body r ≡ false
  no_param r q e = made-no-param items ready.alone body ready.references ready.stmt_typed r q e

  abbrev AllT : List Operand → Type 0
  AllT operands = AllTested items ready.alone local_ty number depth body addresses before given locals_are made_are
      operands

  pub all-tested : (operands : List Operand) (stored : List graph.Place) (others : List (PlaceUse × graph.Place)) →
      LineTested items body operands stored others → AllT operands
  all-tested operands stored others t =
      record { typed = t.operands_typed; stand = t.operands_stand; move = t.operands_move }

  -- the operands of a line, of the types that it wants, or of any
  pub wanted : (ids : List TyId) (operands : List Operand) → operands_are items body.locals ids operands ≡ true →
      AllT operands → Are operands (map Some ids)
  wanted ids operands is t =
      operands-at items ready.alone local_ty number depth body addresses before given locals_are made_are ids operands
      is t

  pub any-one : (operand : Operand) → AllT (operand ∷ []) → (id : Option TyId) × Are (operand ∷ []) (id ∷ [])
  any-one operand t = by (operands-any items ready.alone local_ty number depth body addresses before given locals_are
      made_are (operand ∷ []) t)
    where
      by : (ids : List (Option TyId)) × Are (operand ∷ []) ids → (id : Option TyId) × Are (operand ∷ []) (id ∷ [])
      by (_, each_is _ operands id ids is none_is) = (Some id, each_is operand [] id [] is none_is)
      by (_, any_is _ operands ids constant none_is) = (None, any_is operand [] [] constant none_is)

  pub any-two : (left right : Operand) → AllT (left ∷ right ∷ []) →
      (of : Option TyId) × (other : Option TyId) × Are (left ∷ right ∷ []) (of ∷ other ∷ [])
  any-two left right t = by (operands-any items ready.alone local_ty number depth body addresses before given locals_are
      made_are (left ∷ right ∷ []) t)
    where
      by : (ids : List (Option TyId)) × Are (left ∷ right ∷ []) ids →
          (of : Option TyId) × (other : Option TyId) × Are (left ∷ right ∷ []) (of ∷ other ∷ [])
      by (_, each_is _ operands id ids is (each_is _ more id' ids' is' none_is)) =
          (Some id, Some id', each_is left (right ∷ []) id (Some id' ∷ []) is (each_is right [] id' [] is' none_is))
      by (_, each_is _ operands id ids is (any_is _ more ids' constant none_is)) =
          (Some id, None, each_is left (right ∷ []) id (None ∷ []) is (any_is right [] [] constant none_is))
      by (_, any_is _ operands ids constant (each_is _ more id' ids' is' none_is)) =
          (None, Some id', any_is left (right ∷ []) (Some id' ∷ []) constant (each_is right [] id' [] is' none_is))
      by (_, any_is _ operands ids constant (any_is _ more ids' constant' none_is)) =
          (None, None, any_is left (right ∷ []) (None ∷ []) constant (any_is right [] [] constant' none_is))
