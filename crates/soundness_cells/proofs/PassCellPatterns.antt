-- The cells of the nodes of a body, as entries that stand in their locals; and the names and tests of patterns, which
-- go to cells of their types.
use Rattle.std.proofs.Common.{◌≡◌, ℕ, zero, suc, ◌&&◌, ◌||◌, not, Bool, true, false, List, [], ◌∷◌, ◌++◌, Option, Some, None, slice_get, if◌then◌else◌, refl, ap, sym, ◌∙◌, subst, is_some}
use Rattle.std.specs.Prelude.{replicate}
use Rattle.std.specs.List.{list_all}
use Rattle.std.proofs.lemmas.Bool.{false≢true}
use Rattle.mir_base.specs.declared.place_in_text.Pos.{Pos}
use Rattle.mir_ty.specs.declared.def.ClosureDef.{ClosureDef}
use Rattle.mir_ty.specs.declared.def.Sig.{Sig}
use Rattle.mir_ty.specs.declared.def.TraitDef.{TraitDef}
use Rattle.mir_base.specs.declared.operator.Cmp.{Cmp}
use Rattle.mir_ty.specs.declared.ty.Ty.{Ty}
use Rattle.mir_ty.specs.declared.ty.TyId.{TyId}
use Rattle.mir_ty.specs.Facts.{is_copy, needs_drop}
use Rattle.mir_ty.specs.ItemTable.{ItemTable, type_at}
use Rattle.mir_ty.specs.Parts.{field_ty, parts_of}
use Rattle.mir_ty.specs.declared.adt.Variant.{Variant}
use Rattle.soundness_values.specs.Typed.{has_variant}
use Rattle.store_model.specs.Effects as effects
use Rattle.store_model.specs.Effects.{EffectSite}
use Rattle.store_model.specs.Concrete.Location.{named_by}
use Rattle.store_model.specs.Places.Place.{Step, ToPart, ToField, Place}
use Rattle.store_model.specs.Places.TypeForms as type_forms
use Rattle.typed_tree.specs.declared.node.Use.{Use}
use Rattle.typed_tree.specs.Tree as tree
use Rattle.typed_tree.specs.Tree.{Node, node, Form, Nodes, no_node, a_node, Fields, no_field, a_field, BodyTree}
use Rattle.src_meaning.specs.Forms.{is_never, site_of_key, moved}
use Rattle.src_meaning.specs.Locals.OfBody.{cells, reached_cells, cells_in, all_cells, cells_of_fields, is_place_form, bool_ty}
use Rattle.src_meaning.specs.Scopes.{Entry}
use Rattle.src_meaning.specs.Shape as shapes
use Rattle.src_meaning.specs.Shape.{kind_of, head, shape, shape_of, BoundName, PatternTests, no_test, a_test, Alternatives, moves, copied_or_moved, extended, followed_by, site_at}
use Rattle.well_typed.specs.Claim.{Holds}
use Rattle.well_typed.specs.Items.{stands_alone, is_param}
use Rattle.well_typed.specs.Nodes as typing
use Rattle.well_typed.specs.Patterns as patterns
use Rattle.well_typed.specs.Patterns.{Matched}
use Rattle.well_typed.specs.Places.{form_of}
use Rattle.well_typed.specs.Types as types
use Rattle.soundness_values.proofs.Leaving.{AllOf}
use Rattle.soundness_cells.proofs.PassCellNames.{Names}
use Rattle.soundness_cells.proofs.PassCellActs as acts
use Rattle.soundness_cells.proofs.PassCellActs.{Cell}
use Rattle.soundness_cells.proofs.PassCellEffects.{marked_run, may_end, Acts, Tests, Drops, Made, does_well}
use Rattle.soundness_cells.proofs.PassCellNodes as nodes
use Rattle.soundness_cells.proofs.PassCellNodes.{May}
use Rattle.soundness_cells.proofs.PassCellTypes as facts
use Rattle.soundness_cells.proofs.PassCellTypes.{Alone}
use Rattle.soundness_cells.proofs.PassCells.{is_literal, made_ty}
use Rattle.soundness_cells.proofs.PassWellBranches as branches
use Rattle.soundness_values.proofs.PlaceTypes.{some_holds, same_type}

-- what the items of a well typed program tell of types
pub record Told (items : ItemTable) : Type 0 where
  pub results : (n : ℕ) (sig : Sig) → slice_get items.bodies n ≡ Some sig → Alone items sig.result
  pub params : (n : ℕ) (sig : Sig) → slice_get items.bodies n ≡ Some sig → list_all (is_param items) sig.params ≡ true
  pub methods : (t m : ℕ) (def : TraitDef) (sig : Sig) → slice_get items.traits t ≡ Some def →
      slice_get def.methods m ≡ Some sig → Alone items sig.result × (list_all (is_param items) sig.params ≡ true)
  pub fields : (id : TyId) (variant n : ℕ) (t : TyId) → field_ty items id variant n ≡ Some t →
      types.is_reference items t ≡ false
  pub variants : (adt variant : ℕ) (v : Variant) → types.variant_at items adt variant ≡ Some v →
      (has_variant items (Some (Ty.Adt adt)) variant ≡ true)
      × ((parts_of items (Ty.Adt adt) variant ≡ v.fields) × (list_all (stands_alone items) v.fields ≡ true))
  pub tuples : (id : TyId) (tys : List TyId) → types.tuple_of items id ≡ Some tys →
      list_all (stands_alone items) tys ≡ true
  pub arrays : (id : TyId) (a : TyId × ℕ) → types.array_of items id ≡ Some a → stands_alone items a.0 ≡ true
  pub captures : (n : ℕ) (def : ClosureDef) → slice_get items.closures n ≡ Some def →
      list_all (stands_alone items) def.captures ≡ true
  pub closures : (n : ℕ) (def : ClosureDef) (sig : Sig) (ty : TyId) (rest : List TyId) →
      slice_get items.closures n ≡ Some def → slice_get items.bodies def.body ≡ Some sig → sig.params ≡ ty ∷ rest →
      types.closure_of items ty ≡ Some n
  pub copies : (id : TyId) → is_copy items id ≡ true → needs_drop items id ≡ false
  pub boxes : (id inside : TyId) → types.boxed_of items id ≡ Some inside → types.is_reference items inside ≡ false
  pub referents : (id to : TyId) → named_by (type_at items id) ≡ Some to → types.is_reference items to ≡ false
  pub bools : (a b : TyId) → types.is_bool items a ≡ true → types.is_bool items b ≡ true → a ≡ b
  pub units : (a b : TyId) → types.is_unit items a ≡ true → types.is_unit items b ≡ true → a ≡ b
  pub truth : type_forms.is_bool (type_at items (bool_ty items)) ≡ true
  -- these are in the table
  pub listed_results : (n : ℕ) (sig : Sig) → slice_get items.bodies n ≡ Some sig →
      is_some (type_at items sig.result) ≡ true
  pub listed_methods : (t m : ℕ) (def : TraitDef) (sig : Sig) → slice_get items.traits t ≡ Some def →
      slice_get def.methods m ≡ Some sig → is_some (type_at items sig.result) ≡ true
  pub listed_fields : (id : TyId) (variant n : ℕ) (t : TyId) → field_ty items id variant n ≡ Some t →
      is_some (type_at items t) ≡ true
  pub listed_inside : (id t : TyId) → types.inside_of items id ≡ Some t → is_some (type_at items t) ≡ true

-- ---- which nodes have a cell

abbrev pub has_value : Form → Bool
has_value (tree.Let pattern initialiser) = false
has_value (tree.Evaluate expression) = false
has_value (tree.Arm pattern guard body) = false
has_value tree.Wildcard = false
has_value (tree.StructPattern fields) = false
has_value (tree.VariantPattern variant is_test fields) = false
has_value (tree.TuplePattern parts) = false
has_value (tree.ArrayPattern elements) = false
has_value (tree.OrPattern alternatives) = false
has_value form = true

abbrev is_call : Form → Bool
is_call (tree.Call body args) = true
is_call (tree.MethodCall body receiver args) = true
is_call (tree.VirtualCall trait_no method receiver args) = true
is_call (tree.ClosureCall body callee args) = true
is_call form = false

abbrev is_name : Form → Bool
is_name (tree.Binding name) = true
is_name form = false

-- of type `!` a call and the use of a place name a cell, and a name has one
abbrev pub made_of_never : Form → Bool
made_of_never form = is_place_form form || (is_call form || is_name form)

abbrev is_made : (own never : Bool) → Form → Bool
is_made own true form = made_of_never form
is_made own false form = own && has_value form

abbrev made_if : Bool → Entry → List Entry
made_if true e = e ∷ []
made_if false e = []

module _ (items : ItemTable) (body : BodyTree) where
  -- entries stand in their locals
  abbrev pub Has : List Entry → Type 0
  Has es = AllOf (λ (e : Entry). Cell items body e.key e.ty) es

  pub has_left : (a b : List Entry) → Has (a ++ b) → Has a
  has_left [] b h = tt
  has_left (e ∷ a) b h = (h.0, has_left a b h.1)

  pub has_right : (a b : List Entry) → Has (a ++ b) → Has b
  has_right [] b h = h
  has_right (e ∷ a) b h = has_right a b h.1

  behind : (made : Bool) (e : Entry) (es : List Entry) → Has (made_if made e ++ es) → Has es
  behind true e es h = h.1
  behind false e es h = h

  first : (made : Bool) (e : Entry) (es : List Entry) → made ≡ true → Has (made_if made e ++ es) →
      Cell items body e.key e.ty
  first true e es m h = h.0
  first false e es m h = absurd (false≢true m)

  abbrev entry : ℕ → TyId → Form → Entry
  entry id ty form = record { key = id; ty = made_ty items (is_literal form) ty }

  pub inside : (own : Bool) (n : Node) → Has (cells items own n) → Has (cells_in items (form_of n))
  inside own (node id at ty by form) h = behind _ (entry id ty form) (cells_in items form) h

  pub reached_inside : (n : Node) → Has (reached_cells items n) → Has (cells_in items (form_of n))
  reached_inside (node id at ty by form) h = behind _ (entry id ty form) (cells_in items form) h

  -- the cell of a node, besides those inside
  pub with_own : (id : ℕ) (at : Pos) (ty : TyId) (by : Option Use) (form : Form) →
      Cell items body id (made_ty items (is_literal form) ty) → Has (cells_in items form) →
      Has (cells items true (node id at ty by form))
  with_own id at ty by form c k = own_too (is_made true (is_never items ty) form)
    where
      own_too : (made : Bool) → Has (made_if made (entry id ty form) ++ cells_in items form)
      own_too true = (c, k)
      own_too false = k

  -- a cell of its own is more than that of another
  pub fewer : (n : Node) → Has (cells items true n) → Has (cells items false n)
  fewer (node id at ty by form) h = of_never (is_never items ty) h
    where
      of_never : (never : Bool) → Has (made_if (is_made true never form) (entry id ty form) ++ cells_in items form) →
          Has (made_if (is_made false never form) (entry id ty form) ++ cells_in items form)
      of_never true h = h
      of_never false h = behind (has_value form) (entry id ty form) (cells_in items form) h

  -- the cell of a node of type `!`, where it has one
  pub never_cell : (own : Bool) (id : ℕ) (at : Pos) (ty : TyId) (by : Option Use) (form : Form) →
      is_literal form ≡ false →
      Has (cells items own (node id at ty by form)) → is_never items ty ≡ true → made_of_never form ≡ true →
      Cell items body id ty
  never_cell own id at ty by form plain h n m = of_never (is_never items ty) n h
    where
      of_never : (never : Bool) → never ≡ true →
          Has (made_if (is_made own never form) (entry id ty form) ++ cells_in items form) → Cell items body id ty
      of_never true e h = subst (λ b. Cell items body id (made_ty items b ty)) plain
          (first (made_of_never form) (entry id ty form) (cells_in items form) m h)
      of_never false e h = absurd (false≢true e)

  pub own_cell : (id : ℕ) (at : Pos) (ty : TyId) (by : Option Use) (form : Form) → has_value form ≡ true →
      Has (cells items true (node id at ty by form)) → is_never items ty ≡ false →
      Cell items body id (made_ty items (is_literal form) ty)
  own_cell id at ty by form v h n = of_never (is_never items ty) n h
    where
      of_never : (never : Bool) → never ≡ false →
          Has (made_if (is_made true never form) (entry id ty form) ++ cells_in items form) →
          Cell items body id (made_ty items (is_literal form) ty)
      of_never true e h = absurd (false≢true (sym e))
      of_never false e h = first (has_value form) (entry id ty form) (cells_in items form) v h

  -- a value that is reached has a cell of its own
  pub reached_own : (id : ℕ) (at : Pos) (ty : TyId) (by : Option Use) (form : Form) → is_place_form form ≡ false →
      Has (reached_cells items (node id at ty by form)) → Has (cells items true (node id at ty by form))
  reached_own id at ty by form p h = of_place (is_place_form form) p h
    where
      of_place : (place : Bool) → place ≡ false →
          Has (made_if (not place && is_made true (is_never items ty) form) (entry id ty form) ++ cells_in items form) →
          Has (made_if (is_made true (is_never items ty) form) (entry id ty form) ++ cells_in items form)
      of_place true e h = absurd (false≢true (sym e))
      of_place false e h = h

  module _ (told : Told items) where
    pub name_cell : (id : ℕ) (at : Pos) (ty : TyId) (by : Option Use) (name : List ℕ) →
        Has (cells items true (node id at ty by (tree.Binding name))) → Cell items body id ty
    name_cell id at ty by name k = of_never (is_never items ty) refl
      where
        of_never : (never : Bool) → is_never items ty ≡ never → Cell items body id ty
        of_never true e = never_cell true id at ty by (tree.Binding name) refl k e refl
        of_never false e = own_cell id at ty by (tree.Binding name) refl k e
