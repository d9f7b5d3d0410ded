-- The names of a pattern stand in their cells, and are no references where the pattern as a whole is none: so a name that
-- is declared without a value may be emptied.
use Rattle.std.proofs.Common.{◌≡◌, ℕ, suc, ◌&&◌, true, false, List, [], ◌∷◌, ◌++◌, Option, refl, ap, ◌∙◌}
use Rattle.std.specs.Prelude.{replicate}
use Rattle.std.specs.List.{list_all}
use Rattle.std.proofs.lemmas.Bool.{false≢true}
use Rattle.mir_base.specs.declared.place_in_text.Pos.{Pos}
use Rattle.mir_ty.specs.declared.ty.TyId.{TyId}
use Rattle.mir_ty.specs.ItemTable.{ItemTable}
use Rattle.mir_ty.specs.Parts.{field_ty}
use Rattle.store_model.specs.Places.Place.{Step, ToPart, ToField, Place}
use Rattle.typed_tree.specs.declared.node.Use.{Use}
use Rattle.typed_tree.specs.Tree as tree
use Rattle.typed_tree.specs.Tree.{Node, node, Form, Nodes, no_node, a_node, Fields, no_field, a_field, BodyTree}
use Rattle.src_meaning.specs.Locals.OfBody.{cells, all_cells, cells_of_fields}
use Rattle.src_meaning.specs.Shape as shapes
use Rattle.src_meaning.specs.Shape.{BoundName, head, extended, shape, shape_of}
use Rattle.well_typed.specs.Claim.{Holds, fact}
use Rattle.well_typed.specs.Items.{stands_alone}
use Rattle.well_typed.specs.Nodes as typing
use Rattle.well_typed.specs.Patterns as patterns
use Rattle.well_typed.specs.Patterns.{Matched}
use Rattle.well_typed.specs.Types as types
use Rattle.soundness_cells.proofs.PassCellActs.{Cell}
use Rattle.soundness_cells.proofs.PassCellPatterns.{Told, Has, inside, has_left, has_right, name_cell}
use Rattle.soundness_cells.proofs.PassCellTaken.{plain_part, all_alike, tuple_plain}
use Rattle.soundness_values.proofs.PlaceTypes.{some_holds, same_type}

module _ (items : ItemTable) (body : BodyTree) where
  abbrev pub AllPlain : List BoundName → Type 0
  AllPlain [] = Unit {0}
  AllPlain (b ∷ bounds) =
      (Cell items body b.key b.ty × (types.is_reference items b.ty ≡ false)) × AllPlain bounds

  both_plain : (a b : List BoundName) → AllPlain a → AllPlain b → AllPlain (a ++ b)
  both_plain [] b f g = g
  both_plain (x ∷ a) b f g = (f.0, both_plain a b f.1 g)

  module _ (told : Told items) where
    mutual
      pub names_plain : (p : Node) (m : Matched) (want : TyId) → Holds (patterns.pattern items m want p) →
          (typing.is_one_name p ≡ true → types.is_reference items want ≡ false) → Has items body (cells items true p) →
          (place : Place) → AllPlain ((shape items p).bindings place)
      names_plain (node id at ty by form) m want h r k place =
          form_plain form m id at ty by h.1 (λ e. ap (types.is_reference items) (same_type ty want h.0) ∙ r e) k place

      form_plain : (form : Form) (m : Matched) (id : ℕ) (at : Pos) (ty : TyId) (by : Option Use) →
          Holds (patterns.pattern_row items m ty by form) →
          (typing.is_one_name (node id at ty by form) ≡ true → types.is_reference items ty ≡ false) →
          Has items body (cells items true (node id at ty by form)) → (place : Place) →
          AllPlain ((shape_of items form (head id ty by)).bindings place)
      form_plain (tree.Binding name) m id at ty by h r k place =
          ((name_cell items body told id at ty by name k, r refl), tt)
      form_plain (tree.StructPattern fields) m id at ty by h r k place =
          fields_plain fields _ ty 0 ToPart h.1.1.1
          (inside items body true (node id at ty by (tree.StructPattern fields)) k) place
      form_plain (tree.VariantPattern variant is_test fields) m id at ty by h r k place =
          fields_plain fields _ ty variant (ToField variant) h.1.1.1
          (inside items body true (node id at ty by (tree.VariantPattern variant is_test fields)) k) place
      form_plain (tree.TuplePattern parts) m id at ty by h r k place =
          let t = some_holds (patterns.tuple_types items ty) (λ tys. patterns.part_patterns items m tys parts) h.1 in
          parts_plain parts m t.0 0 t.1.1 (tuple_plain items body told (types.is_unit items ty) ty t.0 t.1.0)
          (inside items body true (node id at ty by (tree.TuplePattern parts)) k) place
      form_plain (tree.ArrayPattern elements) m id at ty by h r k place =
          let t = some_holds (types.array_of items ty)
          (λ a. patterns.part_patterns items m (replicate a.1 a.0) elements) h.1 in
          parts_plain elements m (replicate t.0.1 t.0.0) 0 t.1.1
          (all_alike items body told t.0.0 t.0.1 (told.arrays ty t.0 t.1.0))
          (inside items body true (node id at ty by (tree.ArrayPattern elements)) k) place
      form_plain form m id at ty by h r k place = tt

      fields_plain : (fs : Fields) (m : Matched) (ty : TyId) (variant : ℕ) (step : ℕ → Step) →
          Holds (patterns.field_patterns items m ty variant fs) → Has items body (cells_of_fields items fs) →
          (place : Place) → AllPlain ((shapes.in_fields items fs step).bindings place)
      fields_plain no_field m ty variant step h k place = tt
      fields_plain (a_field number value rest) m ty variant step h k place =
          let t = some_holds (field_ty items ty variant number) (λ want. patterns.pattern items m want value) h.0 in
          both_plain ((shape items value).bindings (extended (step number) place))
          ((shapes.in_fields items rest step).bindings place)
          (names_plain value m t.0 t.1.1 (λ e. told.fields ty variant number t.0 t.1.0)
          (has_left items body (cells items true value) (cells_of_fields items rest) k) (extended (step number) place))
          (fields_plain rest m ty variant step h.1
          (has_right items body (cells items true value) (cells_of_fields items rest) k) place)

      parts_plain : (ns : Nodes) (m : Matched) (tys : List TyId) (n : ℕ) →
          Holds (patterns.part_patterns items m tys ns) → list_all (stands_alone items) tys ≡ true →
          Has items body (all_cells items ns) → (place : Place) →
          AllPlain ((shapes.in_parts items ns n).bindings place)
      parts_plain no_node m tys n h p k place = tt
      parts_plain (a_node one rest) m [] n h p k place = absurd (false≢true h)
      parts_plain (a_node one rest) m (t ∷ tys) n h p k place =
          both_plain ((shape items one).bindings (extended (ToPart n) place))
          ((shapes.in_parts items rest (suc n)).bindings place)
          (names_plain one m t h.0 (λ e. (plain_part items body told t tys p).0)
          (has_left items body (cells items true one) (all_cells items rest) k) (extended (ToPart n) place))
          (parts_plain rest m tys (suc n) h.1 (plain_part items body told t tys p).1
          (has_right items body (cells items true one) (all_cells items rest) k) place)
