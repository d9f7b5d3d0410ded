-- The operands of a line without a fault, in a body that is ready: each is a constant or a place that is reached in one
-- of its ways, of the type that the line wants, and a moved place may be left gone.
use Rattle.std.proofs.Common.{◌≡◌, ℕ, ◌&&◌, not, Bool, true, false, List, [], ◌∷◌, map, flat_map, Option, Some, None, is_some, slice_get, refl, ap, sym, ◌∙◌, subst}
use Rattle.std.proofs.Math.Path.{fun_ext}
use Rattle.std.specs.Prelude.{option_and_then}
use Rattle.std.specs.List.{list_all}
use Rattle.std.specs.Option.{option_map_or}
use Rattle.std.specs.Cmp.{first_so, second_so}
use Rattle.std.proofs.lemmas.Bool.{false≢true}
use Rattle.std.proofs.lemmas.Bool.Decides.{Decides-eqb}
use Rattle.std.proofs.lemmas.Option.{none-some}
use Rattle.mir_base.specs.declared.int_kind.IntKind.{IntKind}
use Rattle.mir_ty.specs.declared.ty.Ty.{Ty}
use Rattle.mir_ty.specs.declared.ty.TyId.{TyId}
use Rattle.mir_ty.specs.ItemTable.{ItemTable, type_at}
use Rattle.cfg_graph.specs.declared.graph.Body.{Body}
use Rattle.cfg_graph.specs.declared.place.Operand.{Operand}
use Rattle.cfg_graph.specs.declared.place.Place as graph
use Rattle.cfg_graph.specs.NamedPlaces.{references_made, named_by}
use Rattle.cfg_graph.specs.Places.{named, index_locals, place_id}
use Rattle.cfg_graph.specs.Places as places
use Rattle.cfg_graph.specs.Ready.{moves_out_well, references_stand_alone}
use Rattle.cfg_graph.specs.Uses.{operand_uses, place_used}
use Rattle.cfg_graph.specs.WellFormed.Typing.{is_typed_place, is_sized, operand_is, operands_are, operand_stands}
use Rattle.store_model.specs.declared.address.Addr.{Addr}
use Rattle.store_model.specs.Concrete.State.{State}
use Rattle.store_model.specs.Places.Place.{Place, ty_along, is_reference}
use Rattle.store_model.specs.Places.TypeForms.{same_id, same_kind, is_int, is_bool, is_unit, is_dyn, box_content}
use Rattle.drop_values.proofs.Reach.{IndexOk}
use Rattle.drop_values.proofs.Sites.{PlaceIs}
use Rattle.drop_values.proofs.Touched.{AllNameFull}
use Rattle.drop_elaborate.proofs.LinesTyped.{index-ok, is-alone, leavable}
use Rattle.drop_elaborate.proofs.OperandLists.{OperandsAre, none_is, each_is, any_is}
use Rattle.drop_elaborate.proofs.Operands.{PlaceOk, OperandIs, copied, moved, a_number, a_truth, a_unit}
use Rattle.drop_elaborate.proofs.StandAlone.{place-is}

-- ---- types by their forms

pub same-ty : (a b : TyId) → same_id a b ≡ true → a ≡ b
same-ty a b h = ap (λ n. record { 0 = n }) ((Decides-eqb a.0 b.0).0 h)

same-kinds : (a b : IntKind) → same_kind a b ≡ true → a ≡ b
same-kinds IntKind.I32 IntKind.I32 h = refl
same-kinds IntKind.I64 IntKind.I64 h = refl
same-kinds IntKind.U32 IntKind.U32 h = refl
same-kinds IntKind.U64 IntKind.U64 h = refl
same-kinds IntKind.Usize IntKind.Usize h = refl
same-kinds IntKind.I32 IntKind.I64 h = absurd (false≢true h)
same-kinds IntKind.I32 IntKind.U32 h = absurd (false≢true h)
same-kinds IntKind.I32 IntKind.U64 h = absurd (false≢true h)
same-kinds IntKind.I32 IntKind.Usize h = absurd (false≢true h)
same-kinds IntKind.I64 IntKind.I32 h = absurd (false≢true h)
same-kinds IntKind.I64 IntKind.U32 h = absurd (false≢true h)
same-kinds IntKind.I64 IntKind.U64 h = absurd (false≢true h)
same-kinds IntKind.I64 IntKind.Usize h = absurd (false≢true h)
same-kinds IntKind.U32 IntKind.I32 h = absurd (false≢true h)
same-kinds IntKind.U32 IntKind.I64 h = absurd (false≢true h)
same-kinds IntKind.U32 IntKind.U64 h = absurd (false≢true h)
same-kinds IntKind.U32 IntKind.Usize h = absurd (false≢true h)
same-kinds IntKind.U64 IntKind.I32 h = absurd (false≢true h)
same-kinds IntKind.U64 IntKind.I64 h = absurd (false≢true h)
same-kinds IntKind.U64 IntKind.U32 h = absurd (false≢true h)
same-kinds IntKind.U64 IntKind.Usize h = absurd (false≢true h)
same-kinds IntKind.Usize IntKind.I32 h = absurd (false≢true h)
same-kinds IntKind.Usize IntKind.I64 h = absurd (false≢true h)
same-kinds IntKind.Usize IntKind.U32 h = absurd (false≢true h)
same-kinds IntKind.Usize IntKind.U64 h = absurd (false≢true h)

pub int-type : (kind : IntKind) (o : Option Ty) → is_int kind o ≡ true → o ≡ Some (Ty.Int kind)
int-type kind None h = absurd (false≢true h)
int-type kind (Some (Ty.Int other)) h = ap (λ k. Some (Ty.Int k)) (sym (same-kinds kind other h))
int-type kind (Some other) h = absurd (false≢true h)

pub bool-type : (o : Option Ty) → is_bool o ≡ true → o ≡ Some Ty.Bool
bool-type None h = absurd (false≢true h)
bool-type (Some Ty.Bool) h = refl
bool-type (Some other) h = absurd (false≢true h)

pub unit-type : (o : Option Ty) → is_unit o ≡ true → o ≡ Some Ty.Unit
unit-type None h = absurd (false≢true h)
unit-type (Some Ty.Unit) h = refl
unit-type (Some other) h = absurd (false≢true h)

pub box-type : (o : Option Ty) (content : TyId) → box_content o ≡ Some content → o ≡ Some (Ty.Boxed content)
box-type None content h = absurd (none-some content h)
box-type (Some (Ty.Boxed t)) content h = ap (λ t. Some (Ty.Boxed t)) (let x : Some t ≡ Some content = h in
    let y : t ≡ content = cc in y)
box-type (Some other) content h = absurd (none-some content h)

pub not-so : (b : Bool) → not b ≡ true → b ≡ false
not-so false h = refl
not-so true h = absurd (false≢true h)

-- what is so of some value of an option
pub some-so : {A : Type 0} (p : A → Bool) (o : Option A) → option_map_or p o false ≡ true →
    (x : A) × (o ≡ Some x) × (p x ≡ true)
some-so p None h = absurd (false≢true h)
some-so p (Some x) h = (x, refl, h)

pub some-of : {A : Type 0} (o : Option A) → is_some o ≡ true → (x : A) × (o ≡ Some x)
some-of None h = absurd (false≢true h)
some-of (Some x) h = (x, refl)

module _ (items : ItemTable) (alone : references_stand_alone items ≡ true)
    (local_ty : (body local : ℕ) → Option TyId) (number depth : ℕ) (body : Body) (addresses : List Addr)
    (before : State) (given : AllNameFull items local_ty before addresses)
    (locals_are : (k : ℕ) → local_ty number k ≡ slice_get body.locals k)
    (made_are : (k : ℕ) (place : Place) → named_by k (references_made body) ≡ Some place →
    (id : TyId) × (local_ty number k ≡ Some id) × (is_reference (type_at items id) ≡ true)) where
  abbrev Ok : Place → TyId → Type 0
  Ok place id = PlaceOk items local_ty number depth body addresses before given locals_are place id

  abbrev Is : Operand → TyId → Type 0
  Is operand id = OperandIs items local_ty number depth body addresses before given locals_are operand id

  abbrev Are : List Operand → List (Option TyId) → Type 0
  Are operands ids = OperandsAre items local_ty number depth body addresses before given locals_are operands ids

  -- ---- places

  pub place-at : (place : graph.Place) (id : TyId) → place_id items body.locals place ≡ Some id →
      PlaceIs items local_ty number (named place) id
  place-at place id e =
      place-is items alone local_ty number (named place) id
      (ap (option_and_then (ty_along items (named place).steps)) (locals_are place.local) ∙ e)

  pub index-at : (place : graph.Place) → is_typed_place items body.locals place ≡ true →
      IndexOk (local_ty number) (named place).steps
  index-at place t =
      subst (λ f. IndexOk f (named place).steps) (sym (fun_ext locals_are))
      (index-ok items body.locals place.steps
      (second_so (is_some (places.ty_of_place items body.locals place))
      (list_all (λ local. is_int IntKind.Usize (option_and_then (type_at items) (slice_get body.locals local)))
      (index_locals place.steps)) t))

  -- a place with types has one
  pub typed-id : (place : graph.Place) → is_typed_place items body.locals place ≡ true →
      (id : TyId) × (place_id items body.locals place ≡ Some id)
  typed-id place t =
      by (place_id items body.locals place) refl
      (first_so (is_some (places.ty_of_place items body.locals place))
      (list_all (λ local. is_int IntKind.Usize (option_and_then (type_at items) (slice_get body.locals local)))
      (index_locals place.steps)) t)
    where
      by : (o : Option TyId) → place_id items body.locals place ≡ o →
          is_some (option_and_then (type_at items) o) ≡ true →
          (id : TyId) × (place_id items body.locals place ≡ Some id)
      by None e h = absurd (false≢true h)
      by (Some id) e h = (id, e)

  pub place-ok : (place : graph.Place) (id : TyId) → place_id items body.locals place ≡ Some id →
      is_typed_place items body.locals place ≡ true → is_sized items body.locals place ≡ true → Ok (named place) id
  place-ok place id e t s = record {
    is = place-at place id e;
    index = index-at place t;
    sized = ap (λ o. is_dyn (option_and_then (type_at items) o)) (sym e)
        ∙ not-so (is_dyn (places.ty_of_place items body.locals place)) s;
    alone = is-alone items alone local_ty number (named place) id (place-at place id e);
  }

  -- ---- operands

  -- what is tested of an operand
  pub record Tested (operand : Operand) : Type 0 where
    pub typed : list_all (is_typed_place items body.locals) (map place_used (operand_uses operand)) ≡ true
    pub stands : operand_stands items body.locals operand ≡ true
    pub moves : moves_out_well items body operand ≡ true

  and-true : (b : Bool) → (b && true) ≡ true → b ≡ true
  and-true b h = first_so b true h

  pub copied-at : (place : graph.Place) (id : TyId) → place_id items body.locals place ≡ Some id →
      Tested (Operand.Copied place) → Is (Operand.Copied place) id
  copied-at place id e t =
      copied place id (place-ok place id e (and-true (is_typed_place items body.locals place) t.typed)
      (and-true (is_sized items body.locals place) t.stands))

  pub moved-at : (place : graph.Place) (id : TyId) → place_id items body.locals place ≡ Some id →
      Tested (Operand.Moved place) → Is (Operand.Moved place) id
  moved-at place id e t =
      let l = leavable items alone local_ty number body locals_are made_are place id (place-at place id e) t.moves in
      moved place id l.start (place-ok place id e (and-true (is_typed_place items body.locals place) t.typed)
      (and-true (is_sized items body.locals place) t.stands)) l.typed l.plain l.no_body l.itself

  -- of the type that is wanted
  pub operand-at : (operand : Operand) (id : TyId) → operand_is items body.locals id operand ≡ true → Tested operand →
      Is operand id
  operand-at (Operand.Copied place) id is t =
      let e = some-so (same_id id) (place_id items body.locals place) is in
      copied-at place id (e.1 ∙ ap Some (sym (same-ty id e.0 e.2))) t
  operand-at (Operand.Moved place) id is t =
      let e = some-so (same_id id) (place_id items body.locals place) is in
      moved-at place id (e.1 ∙ ap Some (sym (same-ty id e.0 e.2))) t
  operand-at (Operand.Number value kind) id is t = a_number value kind id (int-type kind (type_at items id) is)
  operand-at (Operand.Truth value) id is t = a_truth value id (bool-type (type_at items id) is)
  operand-at Operand.Unit id is t = a_unit id (unit-type (type_at items id) is)

  -- ---- lists of operands

  -- what is tested of all of them
  pub record AllTested (operands : List Operand) : Type 0 where
    pub typed : list_all (is_typed_place items body.locals) (map place_used (flat_map operand_uses operands)) ≡ true
    pub stand : list_all (operand_stands items body.locals) operands ≡ true
    pub move : list_all (moves_out_well items body) operands ≡ true

  pub first-tested : (operand : Operand) (operands : List Operand) → AllTested (operand ∷ operands) →
      Tested operand × AllTested operands
  first-tested (Operand.Copied place) operands t = (
    record {
      typed = both (is_typed_place items body.locals place) (first_so (is_typed_place items body.locals place)
          (list_all (is_typed_place items body.locals) (map place_used (flat_map operand_uses operands))) t.typed);
      stands = first_so (operand_stands items body.locals (Operand.Copied place))
          (list_all (operand_stands items body.locals) operands) t.stand;
      moves = refl;
    },
    record {
      typed = second_so (is_typed_place items body.locals place)
          (list_all (is_typed_place items body.locals) (map place_used (flat_map operand_uses operands))) t.typed;
      stand = second_so (operand_stands items body.locals (Operand.Copied place))
          (list_all (operand_stands items body.locals) operands) t.stand;
      move = t.move;
    },
  )
    where
      both : (b : Bool) → b ≡ true → (b && true) ≡ true
      both b h = ap (λ x. x && true) h
  first-tested (Operand.Moved place) operands t = (
    record {
      typed = both (is_typed_place items body.locals place) (first_so (is_typed_place items body.locals place)
          (list_all (is_typed_place items body.locals) (map place_used (flat_map operand_uses operands))) t.typed);
      stands = first_so (operand_stands items body.locals (Operand.Moved place))
          (list_all (operand_stands items body.locals) operands) t.stand;
      moves = first_so (moves_out_well items body (Operand.Moved place))
          (list_all (moves_out_well items body) operands) t.move;
    },
    record {
      typed = second_so (is_typed_place items body.locals place)
          (list_all (is_typed_place items body.locals) (map place_used (flat_map operand_uses operands))) t.typed;
      stand = second_so (operand_stands items body.locals (Operand.Moved place))
          (list_all (operand_stands items body.locals) operands) t.stand;
      move = second_so (moves_out_well items body (Operand.Moved place))
          (list_all (moves_out_well items body) operands) t.move;
    },
  )
    where
      both : (b : Bool) → b ≡ true → (b && true) ≡ true
      both b h = ap (λ x. x && true) h
  first-tested (Operand.Number value kind) operands t = (
    record {
      typed = refl;
      stands = first_so (operand_stands items body.locals (Operand.Number value kind))
          (list_all (operand_stands items body.locals) operands) t.stand;
      moves = refl;
    },
    record {
      typed = t.typed;
      stand = second_so (operand_stands items body.locals (Operand.Number value kind))
          (list_all (operand_stands items body.locals) operands) t.stand;
      move = t.move;
    },
  )
  first-tested (Operand.Truth value) operands t = (
    record { typed = refl; stands = refl; moves = refl },
    record { typed = t.typed; stand = t.stand; move = t.move },
  )
  first-tested Operand.Unit operands t = (
    record { typed = refl; stands = refl; moves = refl },
    record { typed = t.typed; stand = t.stand; move = t.move },
  )

  -- each of the type that is wanted
  pub operands-at : (ids : List TyId) (operands : List Operand) → operands_are items body.locals ids operands ≡ true →
      AllTested operands → Are operands (map Some ids)
  operands-at [] [] is t = none_is
  operands-at [] (operand ∷ operands) is t = absurd (false≢true is)
  operands-at (id ∷ ids) [] is t = absurd (false≢true is)
  operands-at (id ∷ ids) (operand ∷ operands) is t =
      let f = first-tested operand operands t in
      each_is operand operands id (map Some ids)
      (operand-at operand id (first_so (operand_is items body.locals id operand)
      (operands_are items body.locals ids operands) is) f.0)
      (operands-at ids operands (second_so (operand_is items body.locals id operand)
      (operands_are items body.locals ids operands) is) f.1)

  -- of any types
  pub operands-any : (operands : List Operand) → AllTested operands → (ids : List (Option TyId)) × Are operands ids
  operands-any [] t = ([], none_is)
  operands-any (Operand.Copied place ∷ operands) t =
      let f = first-tested (Operand.Copied place) operands t in
      let i = typed-id place (and-true (is_typed_place items body.locals place) f.0.typed) in
      let r = operands-any operands f.1 in
      (Some i.0 ∷ r.0, each_is (Operand.Copied place) operands i.0 r.0 (copied-at place i.0 i.1 f.0) r.1)
  operands-any (Operand.Moved place ∷ operands) t =
      let f = first-tested (Operand.Moved place) operands t in
      let i = typed-id place (and-true (is_typed_place items body.locals place) f.0.typed) in
      let r = operands-any operands f.1 in
      (Some i.0 ∷ r.0, each_is (Operand.Moved place) operands i.0 r.0 (moved-at place i.0 i.1 f.0) r.1)
  operands-any (Operand.Number value kind ∷ operands) t =
      let r = operands-any operands (first-tested (Operand.Number value kind) operands t).1 in
      (None ∷ r.0, any_is (Operand.Number value kind) operands r.0 tt r.1)
  operands-any (Operand.Truth value ∷ operands) t =
      let r = operands-any operands (first-tested (Operand.Truth value) operands t).1 in
      (None ∷ r.0, any_is (Operand.Truth value) operands r.0 tt r.1)
  operands-any (Operand.Unit ∷ operands) t =
      let r = operands-any operands (first-tested Operand.Unit operands t).1 in
      (None ∷ r.0, any_is Operand.Unit operands r.0 tt r.1)

  -- an operand that is a box
  pub record BoxOperand (operand : Operand) : Type 0 where
    pub id : TyId
    pub is : Is operand id
    pub typed : places.ty_of_operand items body.locals operand ≡ type_at items id
    pub inner : TyId
    pub box_is : type_at items id ≡ Some (Ty.Boxed inner)

  pub box-operand : (operand : Operand) → is_some (box_content (places.ty_of_operand items body.locals operand)) ≡
      true →
      Tested operand → BoxOperand operand
  box-operand (Operand.Copied place) b t =
      let i = typed-id place (and-true (is_typed_place items body.locals place) t.typed) in
      let typed : places.ty_of_place items body.locals place ≡ type_at items i.0 = ap (option_and_then (type_at
      items)) i.1
      in
      let c = some-of (box_content (type_at items i.0)) (ap (λ o. is_some (box_content o)) (sym typed) ∙ b) in record {
        id = i.0;
        is = copied-at place i.0 i.1 t;
        typed = typed;
        inner = c.0;
        box_is = box-type (type_at items i.0) c.0 c.1;
      }
  box-operand (Operand.Moved place) b t =
      let i = typed-id place (and-true (is_typed_place items body.locals place) t.typed) in
      let typed : places.ty_of_place items body.locals place ≡ type_at items i.0 = ap (option_and_then (type_at
      items)) i.1
      in
      let c = some-of (box_content (type_at items i.0)) (ap (λ o. is_some (box_content o)) (sym typed) ∙ b) in record {
        id = i.0;
        is = moved-at place i.0 i.1 t;
        typed = typed;
        inner = c.0;
        box_is = box-type (type_at items i.0) c.0 c.1;
      }
  box-operand (Operand.Number value kind) b t = absurd (false≢true b)
  box-operand (Operand.Truth value) b t = absurd (false≢true b)
  box-operand Operand.Unit b t = absurd (false≢true b)
