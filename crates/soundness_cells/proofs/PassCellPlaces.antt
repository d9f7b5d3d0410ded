-- The place of each node of a well typed body leads on by the types, and is of the type of the node: by what is in scope,
-- by the names of guards, and by the cells of temporaries.
use Rattle.std.proofs.Common.{◌≡◌, ℕ, ◌==◌, ◌&&◌, Bool, true, false, Option, Some, None, is_none, refl, sym, ◌∙◌, subst}
use Rattle.std.specs.Prelude.{option_and_then}
use Rattle.std.specs.Option.{option_map_or}
use Rattle.std.proofs.lemmas.Bool.{false≢true}
use Rattle.std.proofs.lemmas.Bool.Decides.{Decides-eqb}
use Rattle.std.proofs.lemmas.Option.{none-some}
use Rattle.mir_ty.specs.declared.ty.Ty.{Ty}
use Rattle.mir_ty.specs.declared.ty.TyId.{TyId}
use Rattle.mir_ty.specs.ItemTable.{ItemTable, type_at}
use Rattle.mir_ty.specs.Parts.{field_ty}
use Rattle.store_model.specs.Concrete.Location.{named_by}
use Rattle.store_model.specs.Places.Place.{ToPart, ToContent, ToElement, whole_local, step_ty, is_reference}
use Rattle.typed_tree.specs.declared.node.Use.{Use}
use Rattle.typed_tree.specs.Nodes.{number_of}
use Rattle.typed_tree.specs.Tree as tree
use Rattle.typed_tree.specs.Tree.{Node, node, Form, BodyTree}
use Rattle.src_meaning.specs.Forms.{is_never}
use Rattle.src_meaning.specs.Locals.OfBody.{cells, reached_cells, cells_in, local_of}
use Rattle.src_meaning.specs.Shape.{Aliases, NodeHead, head, shape, shape_of, extended, place_of_key}
use Rattle.well_typed.specs.Claim.{Holds, fact, both, some}
use Rattle.well_typed.specs.Nodes as typing
use Rattle.well_typed.specs.Places.{InScope, Context, entry_with, ty_of, form_of, is_place, is_borrow, Standing, Base}
use Rattle.well_typed.specs.Types as types
use Rattle.soundness_values.proofs.CheckedBodies.{is_reference_param}
use Rattle.soundness_cells.proofs.PassCellActs.{Cell}
use Rattle.soundness_cells.proofs.PassCellEffects.{marked_run}
use Rattle.soundness_cells.proofs.PassCellNames.{PlaceOk, cell_ok, further_ok, named_ok, goes, Names}
use Rattle.soundness_cells.proofs.PassCellNodes as nodes
use Rattle.soundness_cells.proofs.PassCellPatterns as cells_of
use Rattle.soundness_cells.proofs.PassCellPlainTypes as pass_cell_plain_types
use Rattle.soundness_cells.proofs.PassCellPlain.{form_plain}
use Rattle.soundness_cells.proofs.PassListed.{Listed}
use Rattle.soundness_cells.proofs.PassCellPatterns.{Told, Has}
use Rattle.soundness_cells.proofs.PassCellStands as stand
use Rattle.soundness_cells.proofs.PassCellTypes as facts
use Rattle.soundness_cells.proofs.PassFacts.{Standpoint, context}
use Rattle.soundness_values.proofs.PassHeads.{number_is}
use Rattle.soundness_values.proofs.PlaceTypes.{some_holds, same_type, field_step, element_step, content_step}

-- ---- what is in scope

-- what is of a reference type is a parameter
abbrev pub Root : ItemTable → BodyTree → ℕ → TyId → Type 0
Root items body key ty = is_reference (type_at items ty) ≡ true →
    is_reference_param items body (local_of items body key) ≡ true

module _ (items : ItemTable) (body : BodyTree) where
  -- each name in scope stands in a cell of its type, which is in the table, and is a parameter if it is a reference; so
  -- does the value of a closure
  pub record Scoped (x : Standpoint) : Type 0 where
    pub names : (key : ℕ) (y : InScope) → entry_with key x.entries ≡ Some y → Cell items body key y.ty
    pub roots : (key : ℕ) (y : InScope) → entry_with key x.entries ≡ Some y → Root items body key y.ty
    pub listed : Listed items x
    pub closure : (y : InScope) → x.closure ≡ Some y →
        Cell items body y.key y.ty × ((n : ℕ) × (type_at items y.ty ≡ Some (Ty.Closure n)))

module _ (items : ItemTable) (body : BodyTree) (told : Told items) (fuel : ℕ) where
  abbrev K : Standpoint → Context
  K = context items

  plain : (id : TyId) → types.is_reference items id ≡ false → is_reference (type_at items id) ≡ false
  plain id h = sym (facts.reference_by (type_at items id)) ∙ h

  no_reference : (o : Option Ty) → option_map_or (types.fields_in items) o false ≡ true → is_reference o ≡ false
  no_reference None e = absurd (false≢true e)
  no_reference (Some (Ty.Shared to)) e = absurd (false≢true e)
  no_reference (Some (Ty.Unique to)) e = absurd (false≢true e)
  no_reference (Some ty) e = refl

  fields_made : (o : Option Ty) → option_map_or (types.fields_in items) o false ≡ true →
      Rattle.store_model.specs.Places.TypeForms.is_never o ≡ false
  fields_made None e = absurd (false≢true e)
  fields_made (Some Ty.Never) e = absurd (false≢true e)
  fields_made (Some ty) e = refl

  inside_made : (o : Option Ty) (t : TyId) → option_and_then types.inside_in o ≡ Some t →
      Rattle.store_model.specs.Places.TypeForms.is_never o ≡ false
  inside_made None t e = absurd (none-some t e)
  inside_made (Some Ty.Never) t e = absurd (none-some t e)
  inside_made (Some ty) t e = refl

  goes_inside : (o : Option Ty) (t : TyId) → option_and_then types.inside_in o ≡ Some t → is_reference o ≡ false →
      goes ToContent o ≡ true
  goes_inside None t e r = absurd (none-some t e)
  goes_inside (Some (Ty.Boxed inside)) t e r = refl
  goes_inside (Some (Ty.Shared to)) t e r = absurd (false≢true (sym r))
  goes_inside (Some (Ty.Unique to)) t e r = absurd (false≢true (sym r))
  goes_inside (Some ty) t e r = absurd (none-some t e)

  named_inside : (o : Option Ty) (t : TyId) → option_and_then types.inside_in o ≡ Some t → is_reference o ≡ true →
      named_by o ≡ Some t
  named_inside None t e r = absurd (none-some t e)
  named_inside (Some (Ty.Shared to)) t e r = e
  named_inside (Some (Ty.Unique to)) t e r = e
  named_inside (Some ty) t e r = absurd (false≢true r)

  boxed_inside : (o : Option Ty) (t : TyId) → option_and_then types.inside_in o ≡ Some t → is_reference o ≡ false →
      option_and_then types.boxed_in o ≡ Some t
  boxed_inside None t e r = absurd (none-some t e)
  boxed_inside (Some (Ty.Boxed inside)) t e r = e
  boxed_inside (Some (Ty.Shared to)) t e r = absurd (false≢true (sym r))
  boxed_inside (Some (Ty.Unique to)) t e r = absurd (false≢true (sym r))
  boxed_inside (Some ty) t e r = absurd (none-some t e)

  -- ---- what is no place

  pub value_place : (form : Form) (h : NodeHead) (aliases : Aliases) → is_place form ≡ false →
      (shape_of items form h).place aliases ≡ whole_local h.id
  value_place (tree.Variable key) h aliases p = absurd (false≢true (sym p))
  value_place (tree.Captured closure part name) h aliases p = absurd (false≢true (sym p))
  value_place (tree.Field base part) h aliases p = absurd (false≢true (sym p))
  value_place (tree.Index base index length) h aliases p = absurd (false≢true (sym p))
  value_place (tree.Deref base) h aliases p = absurd (false≢true (sym p))
  value_place form h aliases p = refl

  -- stands in the cell of its number, if it is made
  pub value_cell : (id : ℕ) (at : Rattle.mir_base.specs.declared.place_in_text.Pos.Pos) (ty : TyId) (by : Option Use)
      (form : Form) (x : Standpoint) (standing : Standing) →
      Holds (typing.typed (K x) standing (node id at ty by form)) → is_place form ≡ false →
      Has items body (reached_cells items (node id at ty by form)) → is_never items ty ≡ false →
      Cell items body id ty
  value_cell id at ty by form x standing h p k made =
      subst (λ l. Cell items body l ty) (number_is items (marked_run items body) fuel (node id at ty by form))
      (nodes.node_cell items body fuel (node id at ty by form) ty
      (stand.own_dest items body told fuel (node id at ty by form) x standing h
      (cells_of.reached_own items body id at ty by form p k))
      (nodes.made_node items body fuel (node id at ty by form) made) refl)

  -- and is no reference
  pub base_plain : (n : Node) (x : Standpoint) → Holds (typing.typed (K x) Base n) → Scoped items body x →
      is_place (form_of n) ≡ false → is_reference (type_at items (ty_of n)) ≡ false
  base_plain (node id at ty by form) x h s p = plain ty (pass_cell_plain_types.no_reference items told ty (form_plain items told form
      (x, s.listed) id at ty by h.1 p (facts.is_false (is_borrow form) (facts.right_of (is_none by) _ h.0))))

  abbrev InPlace : ℕ → TyId → Form → Type 0
  InPlace id ty form = (aliases : Aliases) → Names items body aliases →
      PlaceOk items body ty ((shape_of items form (head id ty None)).place aliases)

  -- ---- places

  mutual
    -- a node that is no reference
    pub node_place : (n : Node) (x : Standpoint) (standing : Standing) → Holds (typing.typed (K x) standing n) →
        Scoped items body x → Has items body (reached_cells items n) →
        (is_place (form_of n) ≡ false → is_never items (ty_of n) ≡ false) →
        is_reference (type_at items (ty_of n)) ≡ false → (aliases : Aliases) → Names items body aliases →
        PlaceOk items body (ty_of n) ((shape items n).place aliases)
    node_place (node id at ty by form) x standing h s k made r aliases names = of_kind (is_place form) refl
        (λ p. form_place form x id ty by h.1 p s (cells_of.reached_inside items body (node id at ty by form) k) r
        aliases names)
      where
        of_kind : (b : Bool) → is_place form ≡ b →
            (is_place form ≡ true → PlaceOk items body ty ((shape_of items form (head id ty by)).place aliases)) →
            PlaceOk items body ty ((shape_of items form (head id ty by)).place aliases)
        of_kind true p later = later p
        of_kind false p later = subst (PlaceOk items body ty) (sym (value_place form (head id ty by) aliases p))
            (cell_ok items body id ty (value_cell id at ty by form x standing h p k (made p)) r)

    pub form_place : (form : Form) (x : Standpoint) (id : ℕ) (ty : TyId) (by : Option Use) →
        Holds (typing.row (K x) id ty form) → is_place form ≡ true → Scoped items body x →
        Has items body (cells_in items form) → is_reference (type_at items ty) ≡ false → (aliases : Aliases) →
        Names items body aliases → PlaceOk items body ty ((shape_of items form (head id ty by)).place aliases)
    form_place (tree.Variable key) x id ty by h p s k r aliases names =
        let y = some_holds (entry_with key x.entries) (λ y. fact (types.is_same ty y.ty)) h in
        let same = same_type ty y.0.ty y.1.1 in
        subst (λ t. PlaceOk items body t (place_of_key key aliases)) (sym same)
        (names.stands key y.0.ty (s.names key y.0 y.1.0)
        (subst (λ t. is_reference (type_at items t) ≡ false) same r))
    form_place (tree.Captured closure part name) x id ty by h p s k r aliases names =
        let y = some_holds x.closure (λ y. both (fact (y.key == closure))
        (some (field_ty items y.ty 0 part) (λ t. fact (types.is_same ty t)))) h in
        let t = some_holds (field_ty items y.0.ty 0 part) (λ t. fact (types.is_same ty t)) y.1.1.1 in
        let c = s.closure y.0 y.1.0 in
        subst (λ i. PlaceOk items body i (extended (ToPart part) (place_of_key closure aliases)))
        (sym (same_type ty t.0 t.1.1))
        (further_ok items body y.0.ty t.0 (place_of_key closure aliases) (ToPart part)
        (subst (λ z. PlaceOk items body y.0.ty (place_of_key z aliases)) ((Decides-eqb y.0.key closure).0 y.1.1.0)
        (names.stands y.0.key y.0.ty c.0
        (subst (λ o. is_reference o ≡ false) (sym c.1.1) refl)))
        (subst (λ o. option_and_then (step_ty items (ToPart part)) o ≡ Some t.0) (sym c.1.1)
        (subst (λ o. option_and_then (λ ty. Rattle.std.specs.Prelude.slice_get
        (Rattle.mir_ty.specs.Parts.parts_of items ty 0) part) o ≡ Some t.0) c.1.1 t.1.0)) refl)
    form_place (tree.Field base part) x id ty by h p s k r aliases names =
        let t = some_holds (field_ty items (ty_of base) 0 part) (λ t. fact (types.is_same ty t)) h.1.1 in
        subst (λ i. PlaceOk items body i (extended (ToPart part) ((shape items base).place aliases)))
        (sym (same_type ty t.0 t.1.1))
        (further_ok items body (ty_of base) t.0 ((shape items base).place aliases) (ToPart part)
        (node_place base x Base h.0 s k (λ q. fields_made (type_at items (ty_of base)) h.1.0)
        (no_reference (type_at items (ty_of base)) h.1.0) aliases names)
        (field_step items (ty_of base) t.0 part h.1.0 t.1.0) refl)
    form_place (tree.Index base index count) x id ty by h p s k r aliases names =
        let a = some_holds (types.array_of items (ty_of base))
        (λ a. fact (types.is_same ty a.0 && count == a.1)) h.1.1.1 in
        let is_array = (facts.array_by (type_at items (ty_of base)) a.0 a.1.0).0 in
        subst (λ i. PlaceOk items body i (extended (ToElement (number_of index)) ((shape items base).place aliases)))
        (sym (same_type ty a.0.0 (facts.left_of (types.is_same ty a.0.0) _ a.1.1)))
        (further_ok items body (ty_of base) a.0.0 ((shape items base).place aliases) (ToElement (number_of index))
        (node_place base x Base h.0 s (cells_of.has_left items body (reached_cells items base) (cells items true index) k)
        (λ q. subst (λ o. Rattle.store_model.specs.Places.TypeForms.is_never o ≡ false) (sym is_array) refl)
        (subst (λ o. is_reference o ≡ false) (sym is_array) refl) aliases names)
        (element_step items (ty_of base) a.0 (number_of index) a.1.0)
        (subst (λ o. goes (ToElement (number_of index)) o ≡ true) (sym is_array) refl))
    form_place (tree.Deref base) x id ty by h p s k r aliases names =
        let t = some_holds (types.inside_of items (ty_of base)) (λ t. fact (types.is_same ty t)) h.1 in
        subst (λ i. PlaceOk items body i (extended ToContent ((shape items base).place aliases)))
        (sym (same_type ty t.0 t.1.1))
        (of_kind (is_reference (type_at items (ty_of base))) refl t.0 t.1.0
        (λ e. node_place base x Base h.0 s k (λ q. inside_made (type_at items (ty_of base)) t.0 t.1.0) e aliases names)
        (λ to n. node_named base x to h.0 s k n aliases names))
      where
        of_kind : (b : Bool) → is_reference (type_at items (ty_of base)) ≡ b → (t : TyId) →
            types.inside_of items (ty_of base) ≡ Some t →
            (is_reference (type_at items (ty_of base)) ≡ false →
            PlaceOk items body (ty_of base) ((shape items base).place aliases)) →
            ((to : TyId) → named_by (type_at items (ty_of base)) ≡ Some to →
            PlaceOk items body to (extended ToContent ((shape items base).place aliases))) →
            PlaceOk items body t (extended ToContent ((shape items base).place aliases))
        of_kind false e t i own behind = further_ok items body (ty_of base) t ((shape items base).place aliases) ToContent
            (own e) (content_step items (ty_of base) t i) (goes_inside (type_at items (ty_of base)) t i e)
        of_kind true e t i own behind = behind t (named_inside (type_at items (ty_of base)) t i e)
    form_place form x id ty by h p s k r aliases names = absurd (false≢true p)

    -- what a node names that is a reference: a name
    node_named : (n : Node) (x : Standpoint) (to : TyId) → Holds (typing.typed (K x) Base n) → Scoped items body x →
        Has items body (reached_cells items n) → named_by (type_at items (ty_of n)) ≡ Some to → (aliases : Aliases) →
        Names items body aliases → PlaceOk items body to (extended ToContent ((shape items n).place aliases))
    node_named (node id at ty by form) x to h s k n aliases names = of_kind (is_place form) refl
      where
        reference : (o : Option Ty) → named_by o ≡ Some to → is_reference o ≡ true
        reference None e = absurd (none-some to e)
        reference (Some (Ty.Shared t)) e = refl
        reference (Some (Ty.Unique t)) e = refl
        reference (Some ty) e = absurd (none-some to e)

        never : {A : Type 0} → types.is_reference items ty ≡ false → A
        never e = absurd (false≢true (sym (plain ty e) ∙ reference (type_at items ty) n))

        of_form : (form : Form) → Holds (typing.row (K x) id ty form) → is_place form ≡ true →
            PlaceOk items body to (extended ToContent ((shape_of items form (head id ty by)).place aliases))
        of_form (tree.Variable key) h p =
            let y = some_holds (entry_with key x.entries) (λ y. fact (types.is_same ty y.ty)) h in
            let same = same_type ty y.0.ty y.1.1 in
            let c = s.names key y.0 y.1.0 in
            subst (λ z. PlaceOk items body to (extended ToContent z))
            (sym (names.itself key y.0.ty c
            (subst (λ t. is_reference (type_at items t) ≡ true) same (reference (type_at items ty) n))))
            (named_ok items body key y.0.ty to c (subst (λ t. named_by (type_at items t) ≡ Some to) same n)
            (s.roots key y.0 y.1.0
            (subst (λ t. is_reference (type_at items t) ≡ true) same (reference (type_at items ty) n))))
        of_form (tree.Captured closure part name) h p =
            let y = some_holds x.closure (λ y. both (fact (y.key == closure))
            (some (field_ty items y.ty 0 part) (λ t. fact (types.is_same ty t)))) h in
            let t = some_holds (field_ty items y.0.ty 0 part) (λ t. fact (types.is_same ty t)) y.1.1.1 in
            never (subst (λ i. types.is_reference items i ≡ false) (sym (same_type ty t.0 t.1.1))
            (told.fields y.0.ty 0 part t.0 t.1.0))
        of_form (tree.Field base part) h p =
            let t = some_holds (field_ty items (ty_of base) 0 part) (λ t. fact (types.is_same ty t)) h.1.1 in
            never (subst (λ i. types.is_reference items i ≡ false) (sym (same_type ty t.0 t.1.1))
            (told.fields (ty_of base) 0 part t.0 t.1.0))
        of_form (tree.Index base index count) h p =
            let a = some_holds (types.array_of items (ty_of base))
            (λ a. fact (types.is_same ty a.0 && count == a.1)) h.1.1.1 in
            never (subst (λ i. types.is_reference items i ≡ false)
            (sym (same_type ty a.0.0 (facts.left_of (types.is_same ty a.0.0) _ a.1.1)))
            (facts.is_false (types.is_reference items a.0.0) (facts.right_of _ _ (facts.right_of _ _
            (told.arrays (ty_of base) a.0 a.1.0)))))
        of_form (tree.Deref base) h p =
            let t = some_holds (types.inside_of items (ty_of base)) (λ t. fact (types.is_same ty t)) h.1 in
            never (subst (λ i. types.is_reference items i ≡ false) (sym (same_type ty t.0 t.1.1))
            (inside (is_reference (type_at items (ty_of base))) refl t.0 t.1.0))
          where
            inside : (b : Bool) → is_reference (type_at items (ty_of base)) ≡ b → (t : TyId) →
                types.inside_of items (ty_of base) ≡ Some t → types.is_reference items t ≡ false
            inside true e t i = told.referents (ty_of base) t (named_inside (type_at items (ty_of base)) t i e)
            inside false e t i = told.boxes (ty_of base) t (boxed_inside (type_at items (ty_of base)) t i e)
        of_form form h p = absurd (false≢true p)

        of_kind : (b : Bool) → is_place form ≡ b →
            PlaceOk items body to (extended ToContent ((shape_of items form (head id ty by)).place aliases))
        of_kind true p = of_form form h.1 p
        of_kind false p = never (pass_cell_plain_types.no_reference items told ty (form_plain items told form (x, s.listed) id at ty by h.1 p
            (facts.is_false (is_borrow form) (facts.right_of (is_none by) _ h.0))))
