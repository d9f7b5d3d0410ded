-- What the names of a pattern move may be moved, by the rules of typing, where the place that is matched may be.
use Rattle.std.proofs.Common.{◌≡◌, ℕ, suc, ◌&&◌, ◌||◌, not, Bool, true, false, List, [], ◌∷◌, ◌++◌, Option, Some, None, is_some, if◌then◌else◌, refl, ap, sym, ◌∙◌, subst}
use Rattle.std.specs.Prelude.{slice_get, option_and_then, replicate}
use Rattle.std.specs.Option.{option_map_or}
use Rattle.std.proofs.lemmas.Bool.{false≢true}
use Rattle.std.proofs.lemmas.Option.{none-some}
use Rattle.mir_base.specs.declared.place_in_text.Pos.{Pos}
use Rattle.mir_ty.specs.declared.ty.Ty.{Ty}
use Rattle.mir_ty.specs.declared.ty.TyId.{TyId}
use Rattle.mir_ty.specs.Facts.{is_copy, has_drop_impl}
use Rattle.mir_ty.specs.ItemTable.{ItemTable, type_at}
use Rattle.mir_ty.specs.Parts.{field_ty}
use Rattle.store_model.specs.Concrete.Drops.{drop_impl}
use Rattle.store_model.specs.Places.Place.{Step, ToPart, ToField, Place}
use Rattle.typed_tree.specs.declared.node.Use.{Use}
use Rattle.typed_tree.specs.Tree as tree
use Rattle.typed_tree.specs.Tree.{Node, node, Form, Nodes, no_node, a_node, Fields, no_field, a_field, BodyTree}
use Rattle.src_meaning.specs.Shape as shapes
use Rattle.src_meaning.specs.Shape.{BoundName, head, extended, shape, shape_of, moves}
use Rattle.well_typed.specs.Claim.{Holds, fact}
use Rattle.well_typed.specs.Patterns as patterns
use Rattle.well_typed.specs.Patterns.{Matched}
use Rattle.well_typed.specs.Places.{is_by, taking}
use Rattle.well_typed.specs.Types as types
use Rattle.soundness_cells.proofs.PassCellNames.{PlaceOk, further_ok}
use Rattle.soundness_cells.proofs.PassCellPatterns.{Told}
use Rattle.soundness_cells.proofs.PassCellTaken as taken
use Rattle.soundness_cells.proofs.PassCellTypes as facts
use Rattle.soundness.proofs.PassMovable.{Movable, NoImpl, no_impl, movable_further, is_index}
use Rattle.soundness_values.proofs.PlaceTypes.{some_holds, same_type}

module _ (items : ItemTable) (body : BodyTree) where
  abbrev pub AllMovable : List BoundName → Type 0
  AllMovable [] = Unit {0}
  AllMovable (b ∷ bounds) = (b.takes ≡ true → Movable items body b.site.place) × AllMovable bounds

  both_movable : (a b : List BoundName) → AllMovable a → AllMovable b → AllMovable (a ++ b)
  both_movable [] b f g = g
  both_movable (x ∷ a) b f g = (f.0, both_movable a b f.1 g)

  -- what is moved is not `Copy`
  moved_by : (b : Bool) (by : Option Use) → is_by (if b then Use.Copy else Use.Move) by ≡ true → moves by ≡ true →
      b ≡ false
  moved_by false by h m = refl
  moved_by true (Some Use.Move) h m = absurd (false≢true h)
  moved_by true (Some Use.Copy) h m = absurd (false≢true m)
  moved_by true (Some Use.Borrow) h m = absurd (false≢true m)
  moved_by true (Some Use.BorrowMut) h m = absurd (false≢true m)
  moved_by true (Some Use.Test) h m = absurd (false≢true m)
  moved_by true (Some Use.Store) h m = absurd (false≢true m)
  moved_by true None h m = absurd (false≢true m)

  movable_so : (c d e : Bool) → c ≡ false → (c || (d && e)) ≡ true → d ≡ true
  movable_so true d e x h = absurd (false≢true (sym x))
  movable_so false d e x h = facts.left_of d e h

  tuple_no_impl : (o : Option Ty) (tys : List TyId) → option_and_then types.tuple_in o ≡ Some tys →
      is_some (drop_impl items o) ≡ false
  tuple_no_impl None tys e = absurd (none-some tys e)
  tuple_no_impl (Some (Ty.Adt n)) tys e = absurd (none-some tys e)
  tuple_no_impl (Some ty) tys e = refl

  unit_no_impl : (o : Option Ty) → option_map_or types.is_unit_ty o false ≡ true → is_some (drop_impl items o) ≡ false
  unit_no_impl None e = absurd (false≢true e)
  unit_no_impl (Some (Ty.Adt n)) e = absurd (false≢true e)
  unit_no_impl (Some ty) e = refl

  tuple_types_no_impl : (ty : TyId) (tys : List TyId) (b : Bool) → types.is_unit items ty ≡ b →
      (if b then Some [] else types.tuple_of items ty) ≡ Some tys → NoImpl items ty
  tuple_types_no_impl ty tys true u e = unit_no_impl (type_at items ty) u
  tuple_types_no_impl ty tys false u e = tuple_no_impl (type_at items ty) tys e

  array_no_impl : (o : Option Ty) (a : TyId × ℕ) → option_and_then types.array_in o ≡ Some a →
      is_some (drop_impl items o) ≡ false
  array_no_impl None a e = absurd (none-some a e)
  array_no_impl (Some (Ty.Adt n)) a e = absurd (none-some a e)
  array_no_impl (Some ty) a e = refl

  within_so : (drops m : Bool) → (not drops && m) ≡ true → (drops ≡ false) × (m ≡ true)
  within_so true m h = absurd (false≢true h)
  within_so false m h = (refl, h)

  module _ (told : Told items) where
    -- a place that may be moved, as a part of which the type has no `Drop` impl
    abbrev Whole : Bool → TyId → Place → Type 0
    Whole m ty place = m ≡ true → Movable items body place × NoImpl items ty

    further : (m : Bool) (ty : TyId) (place : Place) (step : Step) → Whole m ty place → PlaceOk items body ty place →
        is_index step ≡ false → m ≡ true → Movable items body (extended step place)
    further m ty place step w ok i e =
        movable_further items body ty place step (w e).0 ok.typed i (w e).1

    mutual
      pub names_movable : (p : Node) (m : Matched) (want : TyId) → Holds (patterns.pattern items m want p) →
          (place : Place) → PlaceOk items body want place → (m.may_move ≡ true → Movable items body place) →
          AllMovable ((shape items p).bindings place)
      names_movable (node id at ty by form) m want h place ok w = form_movable form m id at ty by h.1 place
          (subst (λ i. PlaceOk items body i place) (sym (same_type ty want h.0)) ok) w

      form_movable : (form : Form) (m : Matched) (id : ℕ) (at : Pos) (ty : TyId) (by : Option Use) →
          Holds (patterns.pattern_row items m ty by form) → (place : Place) → PlaceOk items body ty place →
          (m.may_move ≡ true → Movable items body place) →
          AllMovable ((shape_of items form (head id ty by)).bindings place)
      form_movable (tree.Binding name) m id at ty by h place ok w = (
        (λ e. w (movable_so (is_copy items ty) m.may_move (not (types.is_dyn items ty))
            (moved_by (is_copy items ty) by h.0 e) h.1)),
        tt,
      )
      form_movable (tree.StructPattern fields) m id at ty by h place ok w =
          let n = some_holds (types.adt_of items ty) (λ n. fact (not (types.is_enum items n))) h.1.0 in
          fields_movable fields _ ty 0 ToPart (λ j. refl) h.1.1.1 place ok
          (λ e. let d = within_so (has_drop_impl items ty) m.may_move e in (w d.1, no_impl items ty d.0))
          (λ j t e. (taken.struct_goes items ty n.0 n.1.0 n.1.1 j t e, refl))
      form_movable (tree.VariantPattern variant is_test fields) m id at ty by h place ok w =
          fields_movable fields _ ty variant (ToField variant) (λ j. refl) h.1.1.1 place ok
          (λ e. let d = within_so (has_drop_impl items ty) m.may_move e in (w d.1, no_impl items ty d.0))
          (λ j t e. (taken.variant_goes items ty variant (taken.enum_of items body told ty variant _ h.1.0) j t e, refl))
      form_movable (tree.TuplePattern parts) m id at ty by h place ok w =
          let t = some_holds (patterns.tuple_types items ty) (λ tys. patterns.part_patterns items m tys parts) h.1 in
          parts_movable parts m t.0 0 ty t.1.1 place ok
          (λ e. (w e, tuple_types_no_impl ty t.0 (types.is_unit items ty) refl t.1.0))
          (λ j u e. (taken.tuple_goes items ty t.0 (types.is_unit items ty) t.1.0 j u e, refl))
      form_movable (tree.ArrayPattern elements) m id at ty by h place ok w =
          let t = some_holds (types.array_of items ty)
          (λ a. patterns.part_patterns items m (replicate a.1 a.0) elements) h.1 in
          parts_movable elements m (replicate t.0.1 t.0.0) 0 ty t.1.1 place ok
          (λ e. (w e, array_no_impl (type_at items ty) t.0 t.1.0))
          (λ j u e. (taken.array_goes items ty t.0 t.1.0 j u e, refl))
      form_movable form m id at ty by h place ok w = tt

      fields_movable : (fs : Fields) (m : Matched) (ty : TyId) (variant : ℕ) (step : ℕ → Step) →
          ((j : ℕ) → is_index (step j) ≡ false) → Holds (patterns.field_patterns items m ty variant fs) →
          (place : Place) → PlaceOk items body ty place → Whole m.may_move ty place →
          taken.Goes items body told (field_ty items ty variant) step ty →
          AllMovable ((shapes.in_fields items fs step).bindings place)
      fields_movable no_field m ty variant step i h place ok w g = tt
      fields_movable (a_field number value rest) m ty variant step i h place ok w g =
          let t = some_holds (field_ty items ty variant number) (λ want. patterns.pattern items m want value) h.0 in
          let s = g number t.0 t.1.0 in
          both_movable ((shape items value).bindings (extended (step number) place))
          ((shapes.in_fields items rest step).bindings place)
          (names_movable value m t.0 t.1.1 (extended (step number) place)
          (further_ok items body ty t.0 place (step number) ok s.0 s.1)
          (further m.may_move ty place (step number) w ok (i number)))
          (fields_movable rest m ty variant step i h.1 place ok w g)

      parts_movable : (ns : Nodes) (m : Matched) (tys : List TyId) (n : ℕ) (ty : TyId) →
          Holds (patterns.part_patterns items m tys ns) → (place : Place) → PlaceOk items body ty place →
          Whole m.may_move ty place →
          taken.Goes items body told (slice_get tys) (λ j. ToPart (taken.from_number j n)) ty →
          AllMovable ((shapes.in_parts items ns n).bindings place)
      parts_movable no_node m tys n ty h place ok w g = tt
      parts_movable (a_node one rest) m [] n ty h place ok w g = absurd (false≢true h)
      parts_movable (a_node one rest) m (t ∷ tys) n ty h place ok w g =
          let s = g 0 t refl in
          both_movable ((shape items one).bindings (extended (ToPart n) place))
          ((shapes.in_parts items rest (suc n)).bindings place)
          (names_movable one m t h.0 (extended (ToPart n) place)
          (further_ok items body ty t place (ToPart n) ok s.0 s.1)
          (further m.may_move ty place (ToPart n) w ok refl))
          (parts_movable rest m tys (suc n) ty h.1 place ok w (λ j u e. g (suc j) u e))
