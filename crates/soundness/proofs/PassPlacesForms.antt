-- The pass over the forms for the half on places, in guards and outside: no node fails for want of what is known of a
-- place, and none leaves a place waiting. A place is known where it has been reached. One line a form.
use Rattle.std.proofs.Common.{◌≡◌, inl, inr, ℕ, ◌==◌, ◌&&◌, not, true, false, List, [], ◌∷◌, ◌++◌, length, Option, Some, None, slice_get, refl, ap, sym, ◌∙◌, subst}
use Rattle.std.proofs.lemmas.Bool.{false≢true}
use Rattle.mir_base.specs.declared.place_in_text.Pos.{Pos}
use Rattle.mir_base.specs.declared.trace.Why.{Why}
use Rattle.mir_ty.specs.declared.ty.TyId.{TyId}
use Rattle.mir_ty.specs.ItemTable.{ItemTable, type_at}
use Rattle.store_model.specs.Effects as effects
use Rattle.store_model.specs.Effects.{OfTuple, OfArray, OfVariant, OfClosure, Effects}
use Rattle.store_model.specs.Places.Place.{Place, whole_local, is_reference}
use Rattle.typed_tree.specs.declared.node.Use.{Use}
use Rattle.typed_tree.specs.Nodes.{nodes_of, nodes_in, nodes_among, nodes_of_fields, nodes_if_any}
use Rattle.typed_tree.specs.Tree as tree
use Rattle.typed_tree.specs.Tree.{Node, node, Form, Nodes, no_node, a_node, Fields, no_field, a_field, MaybeNode, absent, present, BodyTree}
use Rattle.src_meaning.specs.Evaluation as evaluation
use Rattle.src_meaning.specs.Evaluation.{meanings, fields_of, meaning_if_any, values_of, in_number_order, to_own_key}
use Rattle.src_meaning.specs.Forms as forms
use Rattle.src_meaning.specs.Forms.{Destination, Into, coerced, LoopsAndGuards, Meaning, in_loop, loop_destination, moved, all_moved, is_never}
use Rattle.src_meaning.specs.Locals.OfBody.{cells, reached_cells, cells_in, all_cells, cells_of_fields, cells_if_any}
use Rattle.src_meaning.specs.Scopes.{Entry, Breaks, Returns, Does}
use Rattle.src_meaning.specs.Shape.{NodeHead, head, Shape, shape_of, kind_of, moves}
use Rattle.well_typed.specs.Claim.{Claim, Holds, fact, both}
use Rattle.well_typed.specs.Names.{are_distinct_numbers}
use Rattle.well_typed.specs.Nodes as typing
use Rattle.well_typed.specs.Patterns as patterns
use Rattle.well_typed.specs.Patterns.{Matched, entries_of}
use Rattle.well_typed.specs.Places.{LoopAround, Context, loop_with, ty_of, is_place, borrow_by, may_move_by, Standing, Taken, Wanted, Passed, Base, Used, Stored}
use Rattle.well_typed.specs.Types as types
use Rattle.soundness_values.proofs.AlsoTests.{Also}
use Rattle.soundness_values.proofs.Checked.{Checking}
use Rattle.soundness_values.proofs.Facts.{Facts}
use Rattle.soundness_cells.proofs.PassCellNames.{PlaceOk}
use Rattle.soundness_cells.proofs.PassCellParts as at_nodes
use Rattle.soundness_cells.proofs.PassCellPatterns as cells_of
use Rattle.soundness_cells.proofs.PassCellPatterns.{Told, Has}
use Rattle.soundness_cells.proofs.PassCellPlaces as places
use Rattle.soundness_cells.proofs.PassCellPlaces.{Scoped}
use Rattle.soundness_cells.proofs.PassCellPlain.{used_listed}
use Rattle.soundness_cells.proofs.PassCellScoped as scoped_by
use Rattle.soundness_cells.proofs.PassCellStands as stand
use Rattle.soundness_cells.proofs.PassCellTypes as facts_of
use Rattle.soundness_cells.proofs.PassFacts.{Standpoint, context, with_names, in_a_loop, behind, beside}
use Rattle.soundness_values.proofs.PassHeads.{number_is, shape_is, type_is}
use Rattle.soundness.proofs.PassKnownPlaces.{cell_known}
use Rattle.soundness_cells.proofs.PassListed.{Lists}
use Rattle.soundness.proofs.PassMadeForms as made
use Rattle.soundness.proofs.PassMovable.{Movable}
use Rattle.soundness_cells.proofs.PassNumbers.{numbered_left, numbered_right, rises_apart}
use Rattle.soundness.proofs.PassPlacesCalm.{watching, Calm, safe, none_so}
use Rattle.soundness.proofs.PassPlacesLooked.{Looked, looked_left, looked_right, looked_beside, looked_so}
use Rattle.soundness.proofs.PassPlacesMatch as matching
use Rattle.soundness.proofs.PassPlacesNodes as at_places
use Rattle.soundness.proofs.PassPlacesNodes.{M, Of, P, PF, Outside, Es, Rs, AllE, Asked, Made, Own}
use Rattle.soundness.proofs.PassPlacesParts as parts
use Rattle.soundness.proofs.PassPlacesReach as reach
use Rattle.soundness.proofs.PassPlacesReach.{Kept, Keeps, Brings, KeepsIf, Led}
use Rattle.soundness.proofs.PassPlacesRules as rules
use Rattle.soundness.proofs.PassPlacesScope as scope
use Rattle.soundness.proofs.PassPlacesScope.{Stood, Bindings}
use Rattle.soundness_cells.proofs.PassRefilled.{not_mark}
use Rattle.soundness_frame.proofs.PassTold.{ids, IsValue, named_loop}
use Rattle.typing_rules.specs.Accesses as accesses
use Rattle.typing_rules.specs.Accesses.{CollectedAccesses, ◌⊕◌}
use Rattle.soundness_frame.proofs.PassWithin.{Outer, DestIn, also_among, further_in}
use Rattle.soundness_values.proofs.PlaceTypes.{some_holds}
use Rattle.soundness.proofs.PassPlacesInside as pass_places_inside
use Rattle.soundness.proofs.PassPlacesInside.{lt, rt, lo, hi, unbound, inside_free, argument_free, receiver_free, home, itself, into_in, branch_in, coerced_in, inner, looped, statement_out, behind_out, behind_in, goes_home}

module _ (items : ItemTable) (body : BodyTree) (also : Also) (told : Told items) (fuel : ℕ)
    (bs : Bindings items body) (asked : Asked items body also told fuel bs) where
  abbrev V : Type 0
  V = Checking Facts

  abbrev K : Standpoint → Context
  K = context items

  abbrev r : Effects V
  r = watching items body also bs.aliases

  abbrev N : Node → Meaning V
  N = M items body also told fuel bs

  abbrev Ns : Nodes → List (Meaning V)
  Ns = meanings items (watching items body also bs.aliases) fuel

  abbrev Nf : Fields → List (ℕ × Meaning V)
  Nf = fields_of items (watching items body also bs.aliases) fuel

  abbrev Ni : MaybeNode → Option (Meaning V)
  Ni = meaning_if_any items (watching items body also bs.aliases) fuel

  abbrev F : Form → ℕ → TyId → Option Use → Meaning V
  F = Of items body also told fuel bs

  abbrev E : Outer → Meaning V → Type 0
  E = Es items body also told fuel bs

  abbrev Own_ : Outer → Meaning V → Type 0
  Own_ = Own items body also told fuel bs

  abbrev R : Outer → Place → Meaning V → Type 0
  R = Rs items body also told fuel bs

  abbrev L : Outer → List (Meaning V) → Type 0
  L = AllE items body also told fuel bs

  abbrev Out : Outer → LoopsAndGuards → Type 0
  Out = Outside items body also told fuel bs

  abbrev Pn : Node → Place
  Pn = P items body also told fuel bs

  abbrev Is : Node → Type 0
  Is = Made items body also told fuel bs

  abbrev H : List Entry → Type 0
  H = Has items body

  abbrev left : (a b : List Entry) → H (a ++ b) → H a
  left = cells_of.has_left items body

  abbrev right : (a b : List Entry) → H (a ++ b) → H b
  right = cells_of.has_right items body

  abbrev here_left : (x : Standpoint) (a b : List Node) → Stood items body bs x (a ++ b) → Stood items body bs x a
  here_left = scope.stood_left items body bs

  abbrev here_right : (x : Standpoint) (a b : List Node) → Stood items body bs x (a ++ b) → Stood items body bs x b
  here_right = scope.stood_right items body bs

  abbrev Fine : CollectedAccesses → Type 0
  Fine = scope.Free items body bs

  abbrev Free : Node → Type 0
  Free n = Fine (accesses.told bs.outer n)

  abbrev FreeInside : Node → Type 0
  FreeInside n = Fine (accesses.inside bs.outer n)

  abbrev FreeIn : Form → Type 0
  FreeIn form = (at : Pos) × Fine (accesses.told_form bs.outer at form)

  abbrev T : Node → CollectedAccesses
  T = accesses.told bs.outer

  abbrev Goes : Form → ℕ → Standpoint → Meaning V → Type 0
  Goes = pass_places_inside.Goes items body also told fuel bs asked

  -- ---- the forms

  mutual
    pub node_kept : (n : Node) → Free n → (x : Standpoint) → Scoped items body x → Stood items body bs x (nodes_of n) →
        (standing : Standing) → at_places.IsHanded items body also told fuel bs standing →
        Holds (typing.typed (K x) standing n) → H (cells items false n) → E (ids x) (N n)
    node_kept (node id at ty by form) fr x s g standing v h k around na own to d =
        let value = at_places.handed_value items body also told fuel bs standing v in
        form_kept form (at, lt items body also told fuel bs asked _ _ _ _ fr) (beside id x) (scope.scoped_beside items body bs id x s)
        (scope.stood_beside items body bs x (node id at ty by form) (nodes_in form) g) id ty by h.1
        (λ p. at_places.plain_of items body also told fuel bs ty (stand.place_alone items body told fuel x standing ty
        by form (at_places.valued items body also told fuel bs standing value) h.0 p))
        (λ p m. at_places.moved_use items body also told fuel bs x standing ty by form value h.0 p m)
        (cells_of.inside items body false (node id at ty by form) k) around (inner items body also told fuel bs asked id x around na) own to (
          (
            subst (λ z. DestIn (z ∷ x.outside) to) (number_is items r fuel (node id at ty by form)) d,
            itself items body also told fuel bs asked id
                x.outside,
          ),
          λ b. absurd (false≢true (sym (at_places.handed_loose items body also told fuel bs x standing ty
              by form v h.0) ∙ b)),
        )

    pub own_kept : (n : Node) → Free n → (x : Standpoint) → Scoped items body x → Stood items body bs x (nodes_of n) →
        (standing : Standing) → IsValue standing → Holds (typing.typed (K x) standing n) → H (cells items true n) →
        Own_ (ids x) (N n)
    own_kept (node id at ty by form) fr x s g standing v h k around na own =
        form_kept form (at, lt items body also told fuel bs asked _ _ _ _ fr) (beside id x) (scope.scoped_beside items body bs id x s)
        (scope.stood_beside items body bs x (node id at ty by form) (nodes_in form) g) id ty by h.1
        (λ p. at_places.plain_of items body also told fuel bs ty (stand.place_alone items body told fuel x standing ty
        by form (at_places.valued items body also told fuel bs standing v) h.0 p))
        (λ p m. at_places.moved_use items body also told fuel bs x standing ty by form v h.0 p m)
        (cells_of.inside items body true (node id at ty by form) k) around (inner items body also told fuel bs asked id x around na) own
        (Into (F form id ty by).head.id) (goes_home items body also told fuel bs asked (node id at ty by form) x g)

    pub node_reached : (n : Node) → FreeInside n → (x : Standpoint) → Scoped items body x → Stood items body bs x
        (nodes_of n) → (standing : Standing) → Holds (typing.typed (K x) standing n) → H (reached_cells items n) →
        R (ids x) (Pn n) (N n)
    node_reached (node id at ty by form) fr x s g standing h k =
        at_nodes.either_reached items body told fuel (is_place form) form refl
        (λ p around na. place_reached form (at, fr) (beside id x) (scope.scoped_beside items body bs id x s)
        (scope.stood_beside items body bs x (node id at ty by form) (nodes_in form) g) id ty by h.1 p
        (cells_of.reached_inside items body (node id at ty by form) k) around (inner items body also told fuel bs asked id x around na))
        (λ p around na S v c. rules.always_brings items r (not_mark 5) (Calm items body also bs.aliases) (safe items
        body also bs.aliases) (Led items body also bs.aliases (Pn (node id at ty by form))) ((F form id ty by).reach
        around S v) (λ w. subst (λ z. Led items body also bs.aliases z w)
        (sym (places.value_place items body told fuel form (head id ty by) bs.aliases p)) (cell_known items body
        w.facts id)) (subst (λ (reach_ : LoopsAndGuards → Does V). Kept items body also bs.aliases (reach_ around S v))
        (sym (at_places.temporary_meant items body also told fuel bs form id ty by p))
        (rules.temporary_kept items r (not_mark 5) (Calm items body also bs.aliases) (safe items body also bs.aliases)
        (F form id ty by).head (F form id ty by).shape (F form id ty by).evaluate around
        (form_kept form (at, fr) (beside id x) (scope.scoped_beside items body bs id x s)
        (scope.stood_beside items body bs x (node id at ty by form) (nodes_in form) g) id ty by h.1
        (λ e. absurd (false≢true (sym p ∙ e))) (λ e m. absurd (false≢true (sym p ∙ e)))
        (cells_of.reached_inside items body (node id at ty by form) k) around (inner items body also told fuel bs asked id x around na) false
        (Into (F form id ty by).head.id) (goes_home items body also told fuel bs asked (node id at ty by form) x g))
        S v c)))

    place_reached : (form : Form) → FreeIn form → (x : Standpoint) → Scoped items body x → Stood items body bs x
        (nodes_in form) → (id : ℕ) (ty : TyId) (by : Option Use) → Holds (typing.row (K x) id ty form) → is_place form
        ≡ true → H (cells_in items form) → R (ids x) (PF items body also told fuel bs form id ty by) (F form id ty by)
    place_reached (tree.Variable key) fr x s g id ty by h p k = parts.variable_reached items body also told fuel bs
        asked (ids x) key id ty by
    place_reached (tree.Captured closure part name) fr x s g id ty by h p k = parts.captured_reached items body also
        told fuel bs asked (ids x) closure part name id ty by
    place_reached (tree.Field base part) fr x s g id ty by h p k =
        parts.field_reached items body also told fuel bs asked (ids x) base part id ty by (node_reached base fr.1 x s
        g Base h.0 k)
    place_reached (tree.Index base index count) fr x s g id ty by h p k = parts.index_reached items body also told
        fuel bs asked base index (lt items body also told fuel bs asked _ _ _ _ (rt items body also told fuel bs asked _ _ _ _ fr.1)) count x s g id ty by h k (node_reached base (lt items body also told fuel bs asked _ _ _
        _ fr.1) x s (here_left x (nodes_of base) (nodes_of index) g) Base h.0 (left (reached_cells items base) (cells
        items true index) k)) (own_kept index (lt items body also told fuel bs asked _ _ _ _ (rt items body also told fuel bs asked _ _ _ _ fr.1)) x s (here_right x (nodes_of base)
        (nodes_of index) g) Taken tt h.1.0 (right (reached_cells items base) (cells items true index) k))
    place_reached (tree.Deref base) fr x s g id ty by h p k =
        parts.deref_reached items body also told fuel bs asked (ids x) base id ty by (node_reached base fr.1 x s g
        Base h.0 k)
    place_reached form fr x s g id ty by h p k = absurd (false≢true p)

    pub form_kept : (form : Form) → FreeIn form → (x : Standpoint) → Scoped items body x → Stood items body bs x
        (nodes_in form) → (id : ℕ) (ty : TyId) (by : Option Use) → Holds (typing.row (K x) id ty form) →
        (is_place form ≡ true → is_reference (type_at items ty) ≡ false) →
        (is_place form ≡ true → moves by ≡ true → may_move_by (K x) form ≡ true) → H (cells_in items form) →
        Goes form id x (F form id ty by)
    form_kept (tree.Number value) fr x s g id ty by h pl mv k around na own to go = at_places.effect_kept items body
        also told fuel bs (ids x) (head id ty by) (shape_of items (tree.Number value) (head id ty by))
        (λ site. effects.Put site (effects.Number value (kind_of items ty))) (λ site. refl) around na own to
    form_kept (tree.Truth value) fr x s g id ty by h pl mv k around na own to go = at_places.effect_kept items body
        also told fuel bs (ids x) (head id ty by) (shape_of items (tree.Truth value) (head id ty by))
        (λ site. effects.Put site (effects.Truth value)) (λ site. refl) around na own to
    form_kept tree.UnitValue fr x s g id ty by h pl mv k around na own to go = at_places.effect_kept items body also
        told fuel bs (ids x) (head id ty by) (shape_of items tree.UnitValue (head id ty by))
        (λ site. effects.Put site effects.UnitValue) (λ site. refl) around na own to
    form_kept (tree.Variable key) fr x s g id ty by h pl mv k around na own to go =
        parts.used_with items body also told fuel bs asked (tree.Variable key) x s _ g id ty by h refl (pl refl) (mv
        refl) k (parts.variable_reached items body also told fuel bs asked (ids x) key id ty by) around na own to
    form_kept (tree.Captured closure part name) fr x s g id ty by h pl mv k around na own to go =
        parts.used_with items body also told fuel bs asked (tree.Captured closure part name) x s _ g id ty by h refl
        (pl refl) (mv refl) k (parts.captured_reached items body also told fuel bs asked (ids x) closure part name id
        ty by) around na own to
    form_kept (tree.Field base part) fr x s g id ty by h pl mv k around na own to go =
        parts.used_with items body also told fuel bs asked (tree.Field base part) x s _ g id ty by h refl (pl refl)
        (mv refl) k (parts.field_reached items body also told fuel bs asked (ids x) base part id ty by (node_reached
        base fr.1 x s g Base h.0 k)) around na own to
    form_kept (tree.Index base index count) fr x s g id ty by h pl mv k around na own to go =
        parts.used_with items body also told fuel bs asked (tree.Index base index count) x s _ g id ty by h refl (pl
        refl) (mv refl) k (parts.index_reached items body also told fuel bs asked base index (lt items body also told fuel bs asked _ _ _ _ (rt items body also told fuel bs asked _ _ _ _
        fr.1)) count x s g id ty by h k (node_reached base (lt items body also told fuel bs asked _ _ _ _ fr.1) x s (here_left x (nodes_of base)
        (nodes_of index) g) Base h.0 (left (reached_cells items base) (cells items true index) k))
        (own_kept index (lt items body also told fuel bs asked _ _ _ _ (rt items body also told fuel bs asked _ _ _ _ fr.1)) x s (here_right x (nodes_of base) (nodes_of index) g) Taken tt
        h.1.0 (right (reached_cells items base) (cells items true index) k))) around na own to
    form_kept (tree.Deref base) fr x s g id ty by h pl mv k around na own to go =
        parts.used_with items body also told fuel bs asked (tree.Deref base) x s _ g id ty by h refl (pl refl) (mv
        refl) k (parts.deref_reached items body also told fuel bs asked (ids x) base id ty by (node_reached base fr.1
        x s g Base h.0 k)) around na own to
    form_kept (tree.Not operand) fr x s g id ty by h pl mv k around na own to go = at_places.operands_kept items body
        also told fuel bs (ids x) (head id ty by) (shape_of items (tree.Not operand) (head id ty by)) (N operand ∷ [])
        (λ site. effects.Not site (moved id (N operand).head.id))
        (parts.one_of items body also told fuel bs asked (ids x) (N operand) (own_kept operand fr.1 x s g Taken tt h.0
        k)) (λ site. refl) around na own to
    form_kept (tree.Negate operand) fr x s g id ty by h pl mv k around na own to go = at_places.operands_kept items
        body also told fuel bs (ids x) (head id ty by) (shape_of items (tree.Negate operand) (head id ty by)) (N
        operand ∷ []) (λ site. effects.Negate site (moved id (N operand).head.id))
        (parts.one_of items body also told fuel bs asked (ids x) (N operand) (own_kept operand fr.1 x s g Taken tt h.0
        k)) (λ site. refl) around na own to
    form_kept (tree.Arithmetic operator a b) fr x s g id ty by h pl mv k around na own to go = at_places.operands_kept
        items body also told fuel bs (ids x) (head id ty by) (shape_of items (tree.Arithmetic operator a b) (head id
        ty by)) (N a ∷ N b ∷ []) (λ site. effects.Compute site operator (moved id (N a).head.id) (moved id (N
        b).head.id)) (parts.more_of items body also told fuel bs asked (ids x) (N a) (N b ∷ [])
        (own_kept a (lt items body also told fuel bs asked _ _ _ _ fr.1) x s (here_left x (nodes_of a) (nodes_of b) g) (Wanted ty) tt h.0
        (left (cells items true a) (cells items true b) k))
        (parts.one_of items body also told fuel bs asked (ids x) (N b) (own_kept b (rt items body also told fuel bs asked _ _ _ _ fr.1) x s (here_right x
        (nodes_of a) (nodes_of b) g) (Wanted ty) tt h.1.0 (right (cells items true a) (cells items true b) k))))
        (λ site. refl) around na own to
    form_kept (tree.Comparison operator a b) fr x s g id ty by h pl mv k around na own to go = at_places.operands_kept
        items body also told fuel bs (ids x) (head id ty by) (shape_of items (tree.Comparison operator a b) (head id
        ty by)) (N a ∷ N b ∷ []) (λ site. effects.Compare site operator (moved id (N a).head.id) (moved id (N
        b).head.id)) (parts.more_of items body also told fuel bs asked (ids x) (N a) (N b ∷ [])
        (own_kept a (lt items body also told fuel bs asked _ _ _ _ fr.1) x s (here_left x (nodes_of a) (nodes_of b) g) Taken tt h.0
        (left (cells items true a) (cells items true b) k))
        (parts.one_of items body also told fuel bs asked (ids x) (N b) (own_kept b (rt items body also told fuel bs asked _ _ _ _ fr.1) x s (here_right x
        (nodes_of a) (nodes_of b) g) Taken tt h.1.0 (right (cells items true a) (cells items true b) k)))) (λ site.
        refl) around na own to
    form_kept (tree.And a b) fr x s g id ty by h pl mv k around na own to go =
        let ea = own_kept a (lt items body also told fuel bs asked _ _ _ _ fr.1) x s (here_left x (nodes_of a) (nodes_of b) g) Taken tt h.0
        (left (cells items true a) (cells items false b) k) in
        let eb = node_kept b (rt items body also told fuel bs asked _ _ _ _ fr.1) x s (here_right x (nodes_of a) (nodes_of b) g) Taken tt h.1.0
        (right (cells items true a) (cells items false b) k) in
        let into = to_own_key (is_never items ty) id to in
        parts.own_of items body also told fuel bs asked (head id ty by) own _ (parts.condition_of items body also told
        fuel bs asked (ids x) (N a) ea around na (forms.alone items r around (N b) into) (evaluation.shortcut items r
        fuel (head id ty by) false into) (parts.alone_of items body also told fuel bs asked (ids x) (N b) eb around na
        into (branch_in items body also told fuel bs asked b x.outside (is_never items ty) id to go.0)) (parts.truth_of items body also told fuel bs
        asked (head id ty by) false into))
    form_kept (tree.Or a b) fr x s g id ty by h pl mv k around na own to go =
        let ea = own_kept a (lt items body also told fuel bs asked _ _ _ _ fr.1) x s (here_left x (nodes_of a) (nodes_of b) g) Taken tt h.0
        (left (cells items true a) (cells items false b) k) in
        let eb = node_kept b (rt items body also told fuel bs asked _ _ _ _ fr.1) x s (here_right x (nodes_of a) (nodes_of b) g) Taken tt h.1.0
        (right (cells items true a) (cells items false b) k) in
        let into = to_own_key (is_never items ty) id to in
        parts.own_of items body also told fuel bs asked (head id ty by) own _ (parts.condition_of items body also told
        fuel bs asked (ids x) (N a) ea around na (evaluation.shortcut items r fuel (head id ty by) true into)
        (forms.alone items r around (N b) into) (parts.truth_of items body also told fuel bs asked (head id ty by)
        true into) (parts.alone_of items body also told fuel bs asked (ids x) (N b) eb around na into (branch_in items body also told fuel bs asked b
        x.outside (is_never items ty) id to go.0)))
    form_kept (tree.Assign target value) fr x s g id ty by h pl mv k around na own to go =
        let kp = left (reached_cells items target) (cells items true value) k in
        let kv = right (reached_cells items target) (cells items true value) k in
        let gp = here_left x (nodes_of target) (nodes_of value) g in
        let gv = here_right x (nodes_of target) (nodes_of value) g in
        let at_ = at_places.placed items body also told fuel bs target around na.0 in
        let so = parts.stored_so items body also told fuel bs asked target x h.0 in
        reach.assigning_kept items body also bs.aliases (is_never items (ty_of value) ≡ false) (head id ty by) (N
        target) (N value) around own (to_own_key (is_never items ty) id to)
        (λ T w c. parts.made_evaluated items body also told fuel bs asked (is_never items (ty_of value))
        ((N value).evaluate around false (Into (N value).head.id) T w)
        (own_kept value (lt items body also told fuel bs asked _ _ _ _ fr.1) x s gv (Wanted (ty_of target)) tt h.1.1.0 kv around na false T w c)
        (λ never. none_so items body also bs.aliases fuel value around false (Into (N value).head.id) T w
        (made.never_ends items body also told fuel value x (Wanted (ty_of target)) h.1.1.0
        (cells_of.fewer items body value kv) never around false (Into (N value).head.id) T w)))
        (subst (λ z. Brings items body also bs.aliases (Led items body also bs.aliases z) ((N target).reach around))
        (sym at_) (node_reached target (lt items body also told fuel bs asked _ _ _ _ (rt items body also told fuel bs asked _ _ _ _ fr.1)) x s gp Stored h.0 kp around na))
        (λ made w l. subst (λ z. Rattle.soundness.proofs.PassKnownStores.Replaced items body also w.facts z
        (N value).head.id) (sym at_) (subst (λ z. Rattle.soundness.proofs.PassKnownStores.Replaced items body also
        w.facts (Pn target) z) (sym (number_is items r fuel value))
        (at_places.replaced_so items body also told fuel bs target value x h.0 so.1 h.1.0 so.0 h.1.1.0 s g kp kv made
        (λ key same u. unbound items body also told fuel bs asked target value fr.0 fr.1 key same u) w.facts
        (subst (λ z. Led items body also bs.aliases z w) at_ l))))
        (λ e. subst (λ z. Rattle.soundness_values.proofs.Checks.needs items (Rattle.src_meaning.specs.Locals.OfBody.local_ty
        items body) (Rattle.soundness_values.proofs.CheckedBodies.is_reference_param items body)
        (Rattle.src_meaning.specs.Locals.Effects.place_at (Rattle.src_meaning.specs.Locals.OfBody.local_of items body)
        z) ≡ false) (sym at_) (at_places.needs_so items body also told fuel bs target x h.0 so.1 so.0 s kp
        (ap (Rattle.mir_ty.specs.Facts.needs_drop items) (sym (type_is items r fuel target)) ∙ e)))
    form_kept (tree.Call callee args) fr x s g id ty by h pl mv k around na own to go =
        let t = some_holds (slice_get items.bodies callee)
        (λ sig. both (fact (types.is_same ty sig.result)) (typing.arguments (K x) sig.params args)) h.0 in
        at_places.operands_kept items body also told fuel bs (ids x) (head id ty by)
        (shape_of items (tree.Call callee args) (head id ty by)) (Ns args)
        (λ site. effects.Call site callee (all_moved id (Ns args))) (args_kept t.0.params args (lt items body also told fuel bs asked _ _ _ _ fr.1) x s g
        t.1.1.1 k) (λ site. refl) around na own to
    form_kept (tree.MethodCall callee receiver args) fr x s g id ty by h pl mv k around na own to go =
        let t = some_holds (slice_get items.bodies callee) (λ sig. both (fact (types.is_same ty sig.result))
        (typing.first_and_rest (λ t. typing.typed (K x) (Passed t) receiver) (λ ts. typing.arguments (K x) ts args)
        sig.params)) h.0 in
        at_places.operands_kept items body also told fuel bs (ids x) (head id ty by)
        (shape_of items (tree.MethodCall callee receiver args) (head id ty by)) (N receiver ∷ Ns args)
        (λ site. effects.Call site callee (all_moved id (N receiver ∷ Ns args)))
        (parts.passed_with items body also told fuel bs asked t.0.params receiver args x t.1.1.1 (λ t' j. own_kept
        receiver (receiver_free items body also told fuel bs asked receiver (lt items body also told fuel bs asked _ _ _ _ (lt items body also told fuel bs asked _ _ _ _ fr.1))) x s (here_left x (nodes_of receiver)
        (nodes_among args) g) (Passed t') tt j (left (cells items true receiver) (all_cells items args) k)) (λ ts j.
        args_kept ts args (hi items body also told fuel bs asked (accesses.receiver_of bs.outer receiver (T receiver)).told (accesses.all_told
        (accesses.arguments bs.outer args)) (lt items body also told fuel bs asked _ _ _ _ fr.1)) x s (here_right x (nodes_of receiver) (nodes_among
        args) g) j (right (cells items true receiver) (all_cells items args) k))) (λ site. refl) around na own to
    form_kept (tree.VirtualCall trait_no method receiver args) fr x s g id ty by h pl mv k around na own to go =
        let d = some_holds (slice_get items.traits trait_no) (λ def. Rattle.well_typed.specs.Claim.some
        (slice_get def.methods method) (λ sig. both (fact (types.is_same ty sig.result))
        (typing.first_and_rest (λ t. typing.typed (K x) (Passed t) receiver) (λ ts. typing.arguments (K x) ts args)
        sig.params))) h in
        let t = some_holds (slice_get d.0.methods method) (λ sig. both (fact (types.is_same ty sig.result))
        (typing.first_and_rest (λ t. typing.typed (K x) (Passed t) receiver) (λ ts. typing.arguments (K x) ts args)
        sig.params)) d.1.1 in
        at_places.operands_kept items body also told fuel bs (ids x) (head id ty by)
        (shape_of items (tree.VirtualCall trait_no method receiver args) (head id ty by)) (N receiver ∷ Ns args)
        (λ site. effects.CallVirtual site trait_no method (all_moved id (N receiver ∷ Ns args)))
        (parts.passed_with items body also told fuel bs asked t.0.params receiver args x t.1.1.1 (λ t' j. own_kept
        receiver (receiver_free items body also told fuel bs asked receiver (lt items body also told fuel bs asked _ _ _ _ (lt items body also told fuel bs asked _ _ _ _ fr.1))) x s (here_left x (nodes_of receiver)
        (nodes_among args) g) (Passed t') tt j (left (cells items true receiver) (all_cells items args) k)) (λ ts j.
        args_kept ts args (hi items body also told fuel bs asked (accesses.receiver_of bs.outer receiver (T receiver)).told (accesses.all_told
        (accesses.arguments bs.outer args)) (lt items body also told fuel bs asked _ _ _ _ fr.1)) x s (here_right x (nodes_of receiver) (nodes_among
        args) g) j (right (cells items true receiver) (all_cells items args) k))) (λ site. refl) around na own to
    form_kept (tree.ClosureCall callee inside args) fr x s g id ty by h pl mv k around na own to go =
        let t = some_holds (slice_get items.bodies callee) (λ sig. both (fact (types.is_same ty sig.result))
        (typing.first_and_rest (λ t. typing.typed (K x) (Passed t) inside) (λ ts. typing.arguments (K x) ts args)
        sig.params)) h.0 in
        at_places.operands_kept items body also told fuel bs (ids x) (head id ty by)
        (shape_of items (tree.ClosureCall callee inside args) (head id ty by)) (N inside ∷ Ns args)
        (λ site. effects.Call site callee (all_moved id (N inside ∷ Ns args)))
        (parts.passed_with items body also told fuel bs asked t.0.params inside args x t.1.1.1 (λ t' j. own_kept
        inside (lt items body also told fuel bs asked _ _ _ _ fr.1) x s (here_left x (nodes_of inside) (nodes_among args) g) (Passed t') tt j
        (left (cells items true inside) (all_cells items args) k)) (λ ts j. args_kept ts args (lt items body also told fuel bs asked _ _ _ _ (rt items body also told fuel bs asked _ _ _ _
        fr.1)) x s (here_right x (nodes_of inside) (nodes_among args) g) j (right (cells items true inside) (all_cells
        items args) k))) (λ site. refl) around na own to
    form_kept (tree.Make adt variant fields) fr x s g id ty by h pl mv k around na own to go =
        let t = some_holds (types.variant_at items adt variant) (λ v. both
        (fact (are_distinct_numbers (patterns.field_numbers fields)
        && length (patterns.field_numbers fields) == length v.fields))
        (typing.made_fields (K x) v.fields fields)) h.1 in
        at_places.operands_kept items body also told fuel bs (ids x) (head id ty by)
        (shape_of items (tree.Make adt variant fields) (head id ty by)) (values_of (Nf fields))
        (λ site. effects.Build site (OfVariant adt variant) (all_moved id (values_of (in_number_order (Nf fields)))))
        (fields_kept t.0.fields fields fr.1 x s g t.1.1.1 k) (λ site. refl) around na own to
    form_kept (tree.Tuple parts) fr x s g id ty by h pl mv k around na own to go =
        let t = some_holds (types.tuple_of items ty) (λ tys. typing.made_parts (K x) tys parts) h in
        at_places.operands_kept items body also told fuel bs (ids x) (head id ty by)
        (shape_of items (tree.Tuple parts) (head id ty by)) (Ns parts)
        (λ site. effects.Build site OfTuple (all_moved id (Ns parts))) (parts_kept t.0 parts fr.1 x s g t.1.1 k)
        (λ site. refl) around na own to
    form_kept (tree.Array elements) fr x s g id ty by h pl mv k around na own to go =
        let t = some_holds (types.array_of items ty) (λ a. both (fact (patterns.count_of elements == a.1))
        (typing.elements_of (K x) a.0 elements)) h in
        at_places.operands_kept items body also told fuel bs (ids x) (head id ty by)
        (shape_of items (tree.Array elements) (head id ty by)) (Ns elements)
        (λ site. effects.Build site OfArray (all_moved id (Ns elements))) (elements_kept t.0.0 elements fr.1 x s g
        t.1.1.1 k) (λ site. refl) around na own to
    form_kept (tree.Closure closure captures) fr x s g id ty by h pl mv k around na own to go =
        let t = some_holds (slice_get items.closures closure) (λ def. typing.captured (K x) def.captures captures) h.1
        in
        at_places.operands_kept items body also told fuel bs (ids x) (head id ty by)
        (shape_of items (tree.Closure closure captures) (head id ty by)) (Ns captures)
        (λ site. effects.Build site (OfClosure closure) (all_moved id (Ns captures)))
        (captures_kept t.0.captures captures fr.1 x s g t.1.1 k) (λ site. refl) around na own to
    form_kept (tree.NewBox content) fr x s g id ty by h pl mv k around na own to go =
        let t = some_holds (types.boxed_of items ty) (λ inside. both (typing.typed (K x) (Wanted inside) content)
        (fact (not (types.is_dyn items inside)))) h in
        at_places.operands_kept items body also told fuel bs (ids x) (head id ty by)
        (shape_of items (tree.NewBox content) (head id ty by)) (N content ∷ [])
        (λ site. effects.NewBox site (moved id (N content).head.id))
        (parts.one_of items body also told fuel bs asked (ids x) (N content) (own_kept content fr.1 x s g (Wanted t.0)
        tt t.1.1.0 k)) (λ site. refl) around na own to
    form_kept (tree.Print operand) fr x s g id ty by h pl mv k around na own to go = at_places.gives_unit_kept items
        body also told fuel bs (ids x) (head id ty by) (shape_of items (tree.Print operand) (head id ty by)) (N
        operand) effects.Print (parts.one_of items body also told fuel bs asked (ids x) (N operand) (own_kept operand
        fr.1 x s g Taken tt h.0 k)) refl around na own to
    form_kept tree.Ask fr x s g id ty by h pl mv k around na own to go = at_places.effect_kept items body also told
        fuel bs (ids x) (head id ty by) (shape_of items tree.Ask (head id ty by)) effects.Ask (λ site. refl) around na
        own to
    form_kept (tree.DropValue operand) fr x s g id ty by h pl mv k around na own to go =
        rules.dropping_kept items r (not_mark 5) (Calm items body also bs.aliases) (safe items body also bs.aliases)
        (head id ty by) around own (N operand) (forms.put_unit items r (head id ty by) (to_own_key (is_never items ty)
        id to)) (own_kept operand fr.1 x s g Taken tt h.0 k around na false)
        (parts.unit_of items body also told fuel bs asked (head id ty by) (to_own_key (is_never items ty) id to))
    form_kept (tree.Forget operand) fr x s g id ty by h pl mv k around na own to go = at_places.gives_unit_kept items
        body also told fuel bs (ids x) (head id ty by) (shape_of items (tree.Forget operand) (head id ty by)) (N
        operand) effects.Forget (parts.one_of items body also told fuel bs asked (ids x) (N operand) (own_kept operand
        fr.1 x s g Taken tt h.0 k)) refl around na own to
    form_kept tree.Panic fr x s g id ty by h pl mv k around na own to go =
        rules.panics_kept items r (not_mark 5) (Calm items body also bs.aliases) (safe items body also bs.aliases)
        Why.Explicit
    form_kept (tree.Borrow unique base) fr x s g id ty by h pl mv k around na own to go =
        reach.borrowing_kept items body also bs.aliases (head id ty by) unique (N base) around own
        (to_own_key (is_never items ty) id to) id (home items body also told fuel bs asked (is_never items ty) id to (go.1 refl).0) (go.1 refl).1
        (subst (λ z. Brings items body also bs.aliases (Led items body also bs.aliases z) ((N base).reach around))
        (sym (at_places.placed items body also told fuel bs base around na.0))
        (node_reached base (lt items body also told fuel bs asked _ _ _ _ fr.1) x s g (Used (borrow_by unique)) h.0 k around na))
    form_kept (tree.Unsize trait_no operand) fr x s g id ty by h pl mv k around na own to go =
        node_kept operand fr.1 x s g Taken tt h.0 (cells_of.fewer items body operand k) around na own
        (coerced (N operand).head.id trait_no (to_own_key (is_never items ty) id to))
        (coerced_in items body also told fuel bs asked (N operand).head.id trait_no x.outside (to_own_key (is_never items ty) id to)
        (into_in items body also told fuel bs asked x.outside (is_never items ty) id to go.0))
    form_kept (tree.Block stmts tail) fr x s g id ty by h pl mv k around na own to go =
        let ks = left (all_cells items stmts) (cells_if_any items false tail) k in
        rules.block_kept items r (not_mark 5) (Calm items body also bs.aliases) (safe items body also bs.aliases)
        (head id ty by) (Ns stmts) (Ni tail) around own (to_own_key (is_never items ty) id to) (λ w. typing.ends_in
        items stmts ≡ false) (statements_bring stmts (lt items body also told fuel bs asked _ _ _ _ fr.1) x s (here_left x (nodes_among stmts)
        (nodes_if_any tail) g) (λ d. typing.tail_of d tail) h.0 ks around na)
        (λ S v c e. tail_kept tail (rt items body also told fuel bs asked _ _ _ _ fr.1) (behind x stmts) (scoped_by.scoped_behind items body told stmts x
        (λ d. typing.tail_of d tail) h.0 e ks s) (scope.stood_behind items body bs stmts x (nodes_if_any tail) g)
        (at_nodes.behind_holds items body told fuel stmts x (λ d. typing.tail_of d tail) h.0)
        (right (all_cells items stmts) (cells_if_any items false tail) k) (head id ty by) around (behind_out items body also told fuel bs asked stmts x
        around na) (to_own_key (is_never items ty) id to) (behind_in items body also told fuel bs asked stmts x (to_own_key (is_never items ty) id to)
        (into_in items body also told fuel bs asked x.outside (is_never items ty) id to go.0)) S v c)
    form_kept (tree.If test consequent absent) fr x s g id ty by h pl mv k around na own to go =
        let kc = left (cells items true test ++ cells items false consequent) [] k in
        let g2 = here_left x (nodes_of test ++ nodes_of consequent) [] g in
        let into = to_own_key (is_never items ty) id to in
        parts.own_of items body also told fuel bs asked (head id ty by) own _ (parts.condition_of items body also told
        fuel bs asked (ids x) (N test) (own_kept test (lt items body also told fuel bs asked _ _ _ _ fr.1) x s (here_left x (nodes_of test) (nodes_of
        consequent) g2) Taken tt h.0 (left (cells items true test) (cells items false consequent) kc)) around na
        (forms.alone items r around (N consequent) into) (evaluation.otherwise_unit items r fuel (head id ty by) None
        around into) (parts.alone_of items body also told fuel bs asked (ids x) (N consequent) (node_kept consequent
        (lt items body also told fuel bs asked _ _ _ _ (rt items body also told fuel bs asked _ _ _ _ fr.1)) x s (here_right x (nodes_of test) (nodes_of consequent) g2) Taken tt h.1.1.0
        (right (cells items true test) (cells items false consequent) kc)) around na into (branch_in items body also told fuel bs asked consequent
        x.outside (is_never items ty) id to go.0)) (parts.unit_of items body also told fuel bs asked (head id ty by)
        into))
    form_kept (tree.If test consequent (present otherwise)) fr x s g id ty by h pl mv k around na own to go =
        let kc = left (cells items true test ++ cells items false consequent) (cells items false otherwise) k in
        let g2 = here_left x (nodes_of test ++ nodes_of consequent) (nodes_of otherwise) g in
        let into = to_own_key (is_never items ty) id to in
        parts.own_of items body also told fuel bs asked (head id ty by) own _ (parts.condition_of items body also told
        fuel bs asked (ids x) (N test) (own_kept test (lt items body also told fuel bs asked _ _ _ _ fr.1) x s (here_left x (nodes_of test) (nodes_of
        consequent) g2) Taken tt h.0 (left (cells items true test) (cells items false consequent) kc)) around na
        (forms.alone items r around (N consequent) into) (evaluation.otherwise_unit items r fuel (head id ty by) (Some
        (N otherwise)) around into) (parts.alone_of items body also told fuel bs asked (ids x) (N consequent)
        (node_kept consequent (lt items body also told fuel bs asked _ _ _ _ (rt items body also told fuel bs asked _ _ _ _ fr.1)) x s (here_right x (nodes_of test) (nodes_of consequent)
        g2) Taken tt h.1.1.0 (right (cells items true test) (cells items false consequent) kc)) around na into
        (branch_in items body also told fuel bs asked consequent x.outside (is_never items ty) id to go.0)) (parts.alone_of items body also told fuel bs
        asked (ids x) (N otherwise) (node_kept otherwise (hi items body also told fuel bs asked (T consequent) (T otherwise) (rt items body also told fuel bs asked _ _ _ _ fr.1)) x s
        (here_right x (nodes_of test ++ nodes_of consequent) (nodes_of otherwise) g) Taken tt h.1.1.1.0 (right (cells
        items true test ++ cells items false consequent) (cells items false otherwise) k)) around na into (branch_in items body also told fuel bs asked
        otherwise x.outside (is_never items ty) id to go.0)))
    form_kept (tree.IfLet p scrutinee consequent absent) fr x s g id ty by h pl mv k around na own to go =
        let k3 = left ((cells items true p ++ reached_cells items scrutinee) ++ cells items false consequent) [] k in
        let g3 = here_left x (nodes_of p ++ nodes_of scrutinee ++ nodes_of consequent) [] g in
        let into = to_own_key (is_never items ty) id to in
        let k2 = left (cells items true p ++ reached_cells items scrutinee) (cells items false consequent) k3 in
        let g2 = here_left x (nodes_of p ++ nodes_of scrutinee) (nodes_of consequent) g3 in
        parts.own_of items body also told fuel bs asked (head id ty by) own _ (parts.taken_with items body also told
        fuel bs asked p scrutinee consequent x s g3 h.0 h.1.0 k2 (node_reached scrutinee (inside_free items body also told fuel bs asked scrutinee (lt items body also told fuel bs asked _
        _ _ _ fr.1)) x s (here_right x (nodes_of p) (nodes_of scrutinee) g2) (Used Use.Borrow) h.0 (right (cells items
        true p) (reached_cells items scrutinee) k2)) (head id ty by) around na into (parts.alone_of items body also
        told fuel bs asked (ids x) (N consequent) (node_kept consequent (lo items body also told fuel bs asked (T consequent) accesses.quiet
        (hi items body also told fuel bs asked (accesses.of_scrutinee bs.outer p scrutinee) (T consequent ⊕ accesses.quiet) (rt items body also told fuel bs asked _ _ _ _ fr.1)))
        (with_names (entries_of p) x) (parts.taken_scoped items body also told fuel bs asked p scrutinee x s h.0 h.1.0
        k2) (scope.stood_names items body bs x p (nodes_of scrutinee) (nodes_of consequent) g3) Taken tt h.1.1.0
        (right (cells items true p ++ reached_cells items scrutinee) (cells items false consequent) k3)) around na
        into (branch_in items body also told fuel bs asked consequent x.outside (is_never items ty) id to go.0)) (evaluation.otherwise_unit items r fuel
        (head id ty by) None around into) (parts.unit_of items body also told fuel bs asked (head id ty by) into))
    form_kept (tree.IfLet p scrutinee consequent (present otherwise)) fr x s g id ty by h pl mv k around na own to go =
        let k3 = left ((cells items true p ++ reached_cells items scrutinee) ++ cells items false consequent)
        (cells items false otherwise) k in
        let g3 = here_left x (nodes_of p ++ nodes_of scrutinee ++ nodes_of consequent) (nodes_of otherwise) g in
        let into = to_own_key (is_never items ty) id to in
        let k2 = left (cells items true p ++ reached_cells items scrutinee) (cells items false consequent) k3 in
        let g2 = here_left x (nodes_of p ++ nodes_of scrutinee) (nodes_of consequent) g3 in
        parts.own_of items body also told fuel bs asked (head id ty by) own _ (parts.taken_with items body also told
        fuel bs asked p scrutinee consequent x s g3 h.0 h.1.0 k2 (node_reached scrutinee (inside_free items body also told fuel bs asked scrutinee (lt items body also told fuel bs asked _
        _ _ _ fr.1)) x s (here_right x (nodes_of p) (nodes_of scrutinee) g2) (Used Use.Borrow) h.0 (right (cells items
        true p) (reached_cells items scrutinee) k2)) (head id ty by) around na into (parts.alone_of items body also
        told fuel bs asked (ids x) (N consequent) (node_kept consequent (lo items body also told fuel bs asked (T consequent) (T otherwise)
        (hi items body also told fuel bs asked (accesses.of_scrutinee bs.outer p scrutinee) (T consequent ⊕ T otherwise) (rt items body also told fuel bs asked _ _ _ _ fr.1))) (with_names
        (entries_of p) x) (parts.taken_scoped items body also told fuel bs asked p scrutinee x s h.0 h.1.0 k2)
        (scope.stood_names items body bs x p (nodes_of scrutinee) (nodes_of consequent) g3) Taken tt h.1.1.0 (right
        (cells items true p ++ reached_cells items scrutinee) (cells items false consequent) k3)) around na into
        (branch_in items body also told fuel bs asked consequent x.outside (is_never items ty) id to go.0)) (evaluation.otherwise_unit items r fuel (head
        id ty by) (Some (N otherwise)) around into) (parts.alone_of items body also told fuel bs asked (ids x) (N
        otherwise) (node_kept otherwise (hi items body also told fuel bs asked (T consequent) (T otherwise) (hi items body also told fuel bs asked (accesses.of_scrutinee bs.outer p
        scrutinee) (T consequent ⊕ T otherwise) (rt items body also told fuel bs asked _ _ _ _ fr.1))) x s (here_right x (nodes_of p ++ nodes_of
        scrutinee ++ nodes_of consequent) (nodes_of otherwise) g) Taken tt h.1.1.1.0 (right ((cells items true p ++
        reached_cells items scrutinee) ++ cells items false consequent) (cells items false otherwise) k)) around na into
        (branch_in items body also told fuel bs asked otherwise x.outside (is_never items ty) id to go.0)))
    form_kept (tree.Match scrutinee arms) fr x s g id ty by h pl mv k around na own to go =
        let ks = left (reached_cells items scrutinee) (all_cells items arms) k in
        let gs = here_left x (nodes_of scrutinee) (nodes_among arms) g in
        let plain = at_nodes.used_plain items body told fuel x Use.Borrow scrutinee h.0 in
        let into = to_own_key (is_never items ty) id to in
        matching.matching_kept items body also bs.aliases told (Is scrutinee) (head id ty by) (N scrutinee) (Ns arms)
        around own into (parts.made_so items body also told fuel bs asked scrutinee x (Used Use.Borrow) h.0 ks
        (node_reached scrutinee (inside_free items body also told fuel bs asked scrutinee (lt items body also told fuel bs asked _ _ _ _ fr.1)) x s gs (Used Use.Borrow) h.0 ks) around na)
        (λ made. subst (λ z. matching.AllArms items body also bs.aliases told z around into (Ns arms))
        (sym (at_places.placed items body also told fuel bs scrutinee around na.0))
        (arms_kept arms (accesses.place_of bs.outer scrutinee) (rt items body also told fuel bs asked _ _ _ _ fr.1) x s (here_right x (nodes_of
        scrutinee) (nodes_among arms) g) (typing.matched_in false (K x) scrutinee) (ty_of scrutinee) h.1.0 plain
        (used_listed items told scrutinee (x, s.listed) h.0)
        (right (reached_cells items scrutinee) (all_cells items arms) k) (Pn scrutinee)
        (looked_so items body bs told fuel scrutinee x (Used Use.Borrow) h.0 (nodes_among arms) g)
        (at_places.node_ok items body also told fuel bs scrutinee x (Used Use.Borrow) h.0 s ks made plain)
        (λ m. at_places.node_moved items body also told fuel bs scrutinee x (Used Use.Borrow) h.0 (nodes_of scrutinee)
        gs s ks made plain m)
        (parts.lies_all items body also told fuel bs asked scrutinee x (Used Use.Borrow) h.0 (nodes_among arms)
        (nodes_of scrutinee ++ nodes_among arms) g gs (λ key n. numbered_right (nodes_of scrutinee) (nodes_among arms)
        key n) (λ key n m. rises_apart (nodes_of scrutinee) (nodes_among arms) g.here.rises key n m)) around na into
        (into_in items body also told fuel bs asked x.outside (is_never items ty) id to go.0)))
    form_kept (tree.Loop looping) fr x s g id ty by h pl mv k around na own to go =
        let a = at_nodes.around_a items body told fuel id ty true in
        let into = to_own_key (is_never items ty) id to in
        let nl = looped items body also told fuel bs asked a x into around na (into_in items body also told fuel bs asked x.outside (is_never items ty) id to go.0) in
        parts.own_of items body also told fuel bs asked (head id ty by) own _ (rules.turns_kept items r (not_mark 5)
        (Calm items body also bs.aliases) (safe items body also bs.aliases) fuel id (evaluation.body_in items r fuel
        (N looping) (in_loop id into around)) (parts.alone_of items body also told fuel bs asked (ids (in_a_loop a x))
        (N looping) (node_kept looping fr.1 (in_a_loop a x) (scoped_by.scoped_loop items body a x s) (scope.stood_loop
        items body bs a x (nodes_of looping) g) Taken tt h.0 (cells_of.fewer items body looping k)) (in_loop id into
        around) nl (Into (N looping).head.id) (itself items body also told fuel bs asked (N looping).head.id x.outside)))
    form_kept (tree.While test looping) fr x s g id ty by h pl mv k around na own to go =
        let a = at_nodes.around_a items body told fuel id ty false in
        let into = to_own_key (is_never items ty) id to in
        let nl = looped items body also told fuel bs asked a x into around na (into_in items body also told fuel bs asked x.outside (is_never items ty) id to go.0) in
        let z = scoped_by.scoped_loop items body a x s in
        let g2 = scope.stood_loop items body bs a x (nodes_of test ++ nodes_of looping) g in
        parts.own_of items body also told fuel bs asked (head id ty by) own _ (rules.turns_kept items r (not_mark 5)
        (Calm items body also bs.aliases) (safe items body also bs.aliases) fuel id _ (parts.condition_of items body
        also told fuel bs asked (ids (in_a_loop a x)) (N test) (own_kept test (lt items body also told fuel bs asked _ _ _ _ fr.1) (in_a_loop a x) z
        (here_left (in_a_loop a x) (nodes_of test) (nodes_of looping) g2) Taken tt h.0 (left (cells items true test)
        (cells items true looping) k)) (in_loop id into around) nl (evaluation.body_in items r fuel (N looping)
        (in_loop id into around)) (forms.ends_loop items r (head id ty by) into) (parts.alone_of items body also told
        fuel bs asked (ids (in_a_loop a x)) (N looping) (node_kept looping (rt items body also told fuel bs asked _ _ _ _ fr.1) (in_a_loop a x) z
        (here_right (in_a_loop a x) (nodes_of test) (nodes_of looping) g2) Taken tt h.1.1.0 (cells_of.fewer items body
        looping (right (cells items true test) (cells items true looping) k))) (in_loop id into around) nl (Into (N
        looping).head.id) (itself items body also told fuel bs asked (N looping).head.id x.outside)) (rules.ends_kept items r (not_mark 5) (Calm items
        body also bs.aliases) (safe items body also bs.aliases) (head id ty by) into)))
    form_kept (tree.WhileLet p scrutinee looping) fr x s g id ty by h pl mv k around na own to go =
        let a = at_nodes.around_a items body told fuel id ty false in
        let into = to_own_key (is_never items ty) id to in
        let nl = looped items body also told fuel bs asked a x into around na (into_in items body also told fuel bs asked x.outside (is_never items ty) id to go.0) in
        let g3 = scope.stood_loop items body bs a x (nodes_of p ++ nodes_of scrutinee ++ nodes_of looping) g in
        let y = in_a_loop a x in
        let z = scoped_by.scoped_loop items body a x s in
        let k2 = left (cells items true p ++ reached_cells items scrutinee) (cells items true looping) k in
        let g2 = here_left y (nodes_of p ++ nodes_of scrutinee) (nodes_of looping) g3 in
        parts.own_of items body also told fuel bs asked (head id ty by) own _ (rules.turns_kept items r (not_mark 5)
        (Calm items body also bs.aliases) (safe items body also bs.aliases) fuel id _ (parts.taken_with items body
        also told fuel bs asked p scrutinee looping y z g3 h.0 h.1.0 k2 (node_reached scrutinee (inside_free items body also told fuel bs asked scrutinee
        (lt items body also told fuel bs asked _ _ _ _ fr.1)) y z (here_right y (nodes_of p) (nodes_of scrutinee) g2) (Used Use.Borrow) h.0 (right (cells
        items true p) (reached_cells items scrutinee) k2)) (head id ty by) (in_loop id into around) nl (Into (N
        looping).head.id) (parts.alone_of items body also told fuel bs asked (ids y) (N looping)
        (node_kept looping (hi items body also told fuel bs asked (accesses.of_scrutinee bs.outer p scrutinee) (T looping) (rt items body also told fuel bs asked _ _ _ _ fr.1)) (with_names
        (entries_of p) y) (parts.taken_scoped items body also told fuel bs asked p scrutinee y z h.0 h.1.0 k2)
        (scope.stood_names items body bs y p (nodes_of scrutinee) (nodes_of looping) g3) Taken tt h.1.1.0
        (cells_of.fewer items body looping (right (cells items true p ++ reached_cells items scrutinee) (cells items
        true looping) k))) (in_loop id into around) nl (Into (N looping).head.id) (itself items body also told fuel bs asked (N looping).head.id
        x.outside)) (forms.ends_loop items r (head id ty by) into)
        (rules.ends_kept items r (not_mark 5) (Calm items body also bs.aliases) (safe items body also bs.aliases)
        (head id ty by) into)))
    form_kept (tree.Break loop value) fr x s g id ty by h pl mv k around na own to go =
        let t = some_holds (loop_with loop x.loops) (λ a. typing.carries (K x) a value) h.0 in
        parts.own_of items body also told fuel bs asked (head id ty by) own _ (rules.jumping_kept items r (not_mark 5)
        (Calm items body also bs.aliases) (safe items body also bs.aliases) (Breaks loop) (head id ty by) (Ni value)
        around (loop_destination loop around.loops) (carried_kept value fr.1 x s g t.0 t.1.1 k (head id ty by) around
        na (loop_destination loop around.loops) (na.1.1 loop (named_loop loop x.loops t.0 t.1.0))))
    form_kept (tree.Continue loop) fr x s g id ty by h pl mv k around na own to go = λ S v c. c
    form_kept (tree.Return value) fr x s g id ty by h pl mv k around na own to go =
        parts.own_of items body also told fuel bs asked (head id ty by) own _ (rules.jumping_kept items r (not_mark 5)
        (Calm items body also bs.aliases) (safe items body also bs.aliases) Returns (head id ty by) (Ni value) around
        around.answer (returned_kept value fr.1 x s g h.0 k (head id ty by) around na around.answer na.1.0))
    form_kept form fr x s g id ty by h pl mv k around na own to go = absurd (false≢true h)

    -- ---- patterns

    arms_kept : (arms : Nodes) (sc : Option accesses.AccessPlace) → Fine (accesses.told_arms bs.outer sc arms) → (x :
        Standpoint) → Scoped items body x → Stood items body bs x (nodes_among arms) → (m : Matched) (want : TyId) →
        Holds (typing.arms_of (K x) m want arms) → types.is_reference items want ≡ false →
        Lists items want → H (all_cells items arms) → (place : Place) →
        Looked items body bs x (nodes_among arms) sc place → PlaceOk items body want place →
        (m.may_move ≡ true → Movable items body place) → parts.LiesAll items body also told fuel bs asked (nodes_among
        arms) place → (around : LoopsAndGuards) → Out (ids x) around → (to : Destination) → DestIn x.outside to →
        matching.AllArms items body also bs.aliases told place around to (Ns arms)
    arms_kept no_node sc fr x s g m want h plain l k place looked ok moved_ lies around na to d = tt
    arms_kept (a_node (node id at ty by form) rest) sc fr x s g m want h plain l k place looked ok moved_ lies around
        na to d = (
          arm_kept form sc id at ty by (lt items body also told fuel bs asked _ _ _ _ fr) (beside id x) (scope.scoped_beside items body bs id x s)
              (scope.stood_beside items body bs x (node id at ty by form) (nodes_in form)
              (here_left x (nodes_of (node id at ty by form)) (nodes_among rest) g)) m want h.0 plain l
              (cells_of.inside items body true (node id at ty by form)
              (left (cells items true (node id at ty by form)) (all_cells items rest) k)) place
              (looked_beside items body bs x (node id at ty by form) (nodes_in form) sc place
              (looked_left items body bs x (nodes_of (node id at ty by form)) (nodes_among rest) sc place looked)) ok
              moved_ (λ pattern i. lies pattern (λ key n. numbered_left (nodes_of (node id at ty by form))
              (nodes_among rest) key (inr (i key n)))) around (inner items body also told fuel bs asked id x around na) to (further_in id x.outside to d),
          arms_kept rest sc (rt items body also told fuel bs asked _ _ _ _ fr) x s (here_right x (nodes_of (node id at ty by form)) (nodes_among rest) g) m
              want h.1 plain l (right (cells items true (node id at ty by form)) (all_cells items rest) k) place
              (looked_right items body bs x (nodes_of (node id at ty by form)) (nodes_among rest) sc place looked) ok
              moved_ (λ pattern i. lies pattern (λ key n. numbered_right (nodes_of (node id at ty by form))
              (nodes_among rest) key (i key n))) around na to d,
        )

    arm_kept : (form : Form) (sc : Option accesses.AccessPlace) (id : ℕ) (at : Pos) (ty : TyId) (by : Option Use) →
        Fine (accesses.told_arm bs.outer sc (node id at ty by form)) → (x : Standpoint) → Scoped items body x → Stood
        items body bs x (nodes_in form) → (m : Matched) (want : TyId) →
        Holds (typing.arm (K x) m want (node id at ty by form)) → types.is_reference items want ≡ false →
        Lists items want → H (cells_in items form) → (place : Place) →
        Looked items body bs x (nodes_in form) sc place → PlaceOk items body want place →
        (m.may_move ≡ true → Movable items body place) → parts.LiesAll items body also told fuel bs asked (nodes_in
        form) place → (around : LoopsAndGuards) → Out (ids x) around → (to : Destination) → DestIn x.outside to →
        (otherwise : Does V) →
        KeepsIf items body also bs.aliases (Led items body also bs.aliases place) otherwise →
        KeepsIf items body also bs.aliases (Led items body also bs.aliases place) ((F form id ty by).arm place
        otherwise around to)
    arm_kept (tree.Arm p guard inside) sc id at ty by fr x s g m want h plain l k place looked ok moved_ lies around na
        to d otherwise o =
        let k2 = left (cells items true p ++ cells_if_any items true guard) (cells items false inside) k in
        let kp = left (cells items true p) (cells_if_any items true guard) k2 in
        let lp = lies (nodes_of p) (λ key n. numbered_left (nodes_of p ++ nodes_if_any guard) (nodes_of inside) key
        (numbered_left (nodes_of p) (nodes_if_any guard) key n)) in
        matching.arm_kept items body also bs.aliases told (head id ty by) (N p) (Ni guard) (N inside) place otherwise
        around to (subst (λ (z : Shape). matching.Tested items body also bs.aliases told (z.tests place) place
        (z.bindings place)) (sym (shape_is items r fuel p))
        (parts.pattern_tested items body also told fuel bs asked p p x s m want h.1.1.0 plain kp place ok moved_ lp))
        (parts.guarded_kept items body also told fuel bs asked guard p sc (lt items body also told fuel bs asked _ _ _ _ fr) x s (here_left x (nodes_of p
        ++ nodes_if_any guard) (nodes_of inside) g) m want plain l h.1.1.0 h.1.1.1.0 kp (right (cells items true p)
        (cells_if_any items true guard) k2) place (looked_left items body bs x (nodes_of p ++ nodes_if_any guard)
        (nodes_of inside) sc place looked) ok moved_ lp around na) (node_kept inside (hi items body also told fuel bs asked (accesses.accesses_of
        (accesses.bound sc p)) (T inside) (rt items body also told fuel bs asked _ _ _ _ fr)) (with_names (entries_of p) x) (scoped_by.scoped_names items
        body told p m want x h.1.1.0 (inl plain) l kp s) (scope.stood_names items body bs x p (nodes_if_any guard)
        (nodes_of inside) g) Taken tt h.1.1.1.1.0 (right (cells items true p ++ cells_if_any items true guard) (cells
        items false inside) k) around na true to (further_in (N inside).head.id x.outside to d)) o
    arm_kept form sc id at ty by fr x s g m want h plain l k place looked ok moved_ lies around na to d otherwise o =
        absurd (false≢true h)

    -- ---- lists

    args_kept : (tys : List TyId) (ns : Nodes) → Fine (accesses.all_told (accesses.arguments bs.outer ns)) → (x :
        Standpoint) → Scoped items body x → Stood items body bs x (nodes_among ns) → Holds (typing.arguments (K x) tys
        ns) → H (all_cells items ns) → L (ids x) (Ns ns)
    args_kept tys no_node fr x s g h k around na = tt
    args_kept [] (a_node first rest) fr x s g h k around na = absurd (false≢true h)
    args_kept (ty ∷ tys) (a_node first rest) fr x s g h k around na = (
      own_kept first (argument_free items body also told fuel bs asked first ((lt items body also told fuel bs asked _ _ _ _ fr))) x s (here_left x (nodes_of first) (nodes_among rest) g)
          (Passed ty) tt h.0 (left (cells items true first) (all_cells items rest) k) around na false,
      args_kept tys rest (rt items body also told fuel bs asked _ _ _ _ fr) x s (here_right x (nodes_of first) (nodes_among rest) g) h.1
          (right (cells items true first) (all_cells items rest) k) around na,
    )

    parts_kept : (tys : List TyId) (ns : Nodes) → Fine (accesses.told_all bs.outer ns) → (x : Standpoint) → Scoped
        items body x → Stood items body bs x (nodes_among ns) → Holds (typing.made_parts (K x) tys ns) → H (all_cells
        items ns) → L (ids x) (Ns ns)
    parts_kept tys no_node fr x s g h k around na = tt
    parts_kept [] (a_node first rest) fr x s g h k around na = absurd (false≢true h)
    parts_kept (ty ∷ tys) (a_node first rest) fr x s g h k around na = (
      own_kept first (lt items body also told fuel bs asked _ _ _ _ fr) x s (here_left x (nodes_of first) (nodes_among rest) g) (Wanted ty) tt h.0
          (left (cells items true first) (all_cells items rest) k) around na false,
      parts_kept tys rest (rt items body also told fuel bs asked _ _ _ _ fr) x s (here_right x (nodes_of first) (nodes_among rest) g) h.1
          (right (cells items true first) (all_cells items rest) k) around na,
    )

    elements_kept : (ty : TyId) (ns : Nodes) → Fine (accesses.told_all bs.outer ns) → (x : Standpoint) → Scoped items
        body x → Stood items body bs x (nodes_among ns) → Holds (typing.elements_of (K x) ty ns) → H (all_cells items
        ns) → L (ids x) (Ns ns)
    elements_kept ty no_node fr x s g h k around na = tt
    elements_kept ty (a_node first rest) fr x s g h k around na = (
      own_kept first (lt items body also told fuel bs asked _ _ _ _ fr) x s (here_left x (nodes_of first) (nodes_among rest) g) (Wanted ty) tt h.0
          (left (cells items true first) (all_cells items rest) k) around na false,
      elements_kept ty rest (rt items body also told fuel bs asked _ _ _ _ fr) x s (here_right x (nodes_of first) (nodes_among rest) g) h.1
          (right (cells items true first) (all_cells items rest) k) around na,
    )

    captures_kept : (tys : List TyId) (ns : Nodes) → Fine (accesses.told_all bs.outer ns) → (x : Standpoint) → Scoped
        items body x → Stood items body bs x (nodes_among ns) → Holds (typing.captured (K x) tys ns) → H (all_cells
        items ns) → L (ids x) (Ns ns)
    captures_kept tys no_node fr x s g h k around na = tt
    captures_kept [] (a_node first rest) fr x s g h k around na = absurd (false≢true h)
    captures_kept (ty ∷ tys) (a_node first rest) fr x s g h k around na = (
      own_kept first (lt items body also told fuel bs asked _ _ _ _ fr) x s (here_left x (nodes_of first) (nodes_among rest) g) Taken tt h.0
          (left (cells items true first) (all_cells items rest) k) around na false,
      captures_kept tys rest (rt items body also told fuel bs asked _ _ _ _ fr) x s (here_right x (nodes_of first) (nodes_among rest) g) h.1.1
          (right (cells items true first) (all_cells items rest) k) around na,
    )

    fields_kept : (tys : List TyId) (fields : Fields) → Fine (accesses.told_fields bs.outer fields) → (x : Standpoint)
        → Scoped items body x → Stood items body bs x (nodes_of_fields fields) → Holds (typing.made_fields (K x) tys
        fields) → H (cells_of_fields items fields) → L (ids x) (values_of (Nf fields))
    fields_kept tys no_field fr x s g h k around na = tt
    fields_kept tys (a_field number value rest) fr x s g h k around na =
        let t = some_holds (slice_get tys number) (λ ty. typing.typed (K x) (Wanted ty) value) h.0 in (
          own_kept value (lt items body also told fuel bs asked _ _ _ _ fr) x s (here_left x (nodes_of value) (nodes_of_fields rest) g) (Wanted t.0) tt
              t.1.1 (left (cells items true value) (cells_of_fields items rest) k) around na false,
          fields_kept tys rest (rt items body also told fuel bs asked _ _ _ _ fr) x s (here_right x (nodes_of value) (nodes_of_fields rest) g) h.1
              (right (cells items true value) (cells_of_fields items rest) k) around na,
        )

    carried_kept : (value : MaybeNode) → Fine (accesses.told_maybe bs.outer value) → (x : Standpoint) → Scoped items
        body x → Stood items body bs x (nodes_if_any value) → (a : LoopAround) → Holds (typing.carries (K x) a value)
        → H (cells_if_any items false value) → (h : NodeHead) (around : LoopsAndGuards) → Out (ids x) around → (to :
        Destination) → DestIn x.outside to → Keeps items body also bs.aliases (forms.value_of_jump items r h (Ni
        value) around to)
    carried_kept absent fr x s g a j k h around na to d = parts.unit_of items body also told fuel bs asked h to
    carried_kept (present value) fr x s g a j k h around na to d =
        node_kept value fr x s g (Wanted a.ty) tt j.1 k around na false to (further_in (N value).head.id x.outside to d)

    returned_kept : (value : MaybeNode) → Fine (accesses.told_maybe bs.outer value) → (x : Standpoint) → Scoped items
        body x → Stood items body bs x (nodes_if_any value) → Holds (typing.returned (K x) value) → H (cells_if_any
        items false value) → (h : NodeHead) (around : LoopsAndGuards) → Out (ids x) around → (to : Destination) →
        DestIn x.outside to →
        Keeps items body also bs.aliases (forms.value_of_jump items r h (Ni value) around to)
    returned_kept absent fr x s g j k h around na to d = parts.unit_of items body also told fuel bs asked h to
    returned_kept (present value) fr x s g j k h around na to d =
        node_kept value fr x s g (Wanted x.answer) tt j k around na false to (further_in (N value).head.id x.outside
        to d)

    -- ---- blocks

    tail_kept : (tail : MaybeNode) → Fine (accesses.told_maybe bs.outer tail) → (x : Standpoint) → Scoped items body x
        → Stood items body bs x (nodes_if_any tail) → Holds (typing.tail_of (K x) tail) → H (cells_if_any items false
        tail) → (h : NodeHead) (around : LoopsAndGuards) → Out (ids x) around → (to : Destination) → DestIn x.outside
        to →
        Keeps items body also bs.aliases (forms.tail_of items r h (Ni tail) around to)
    tail_kept absent fr x s g j k h around na to d = rules.unit_if_kept items r (not_mark 5) (Calm items body also
        bs.aliases) (safe items body also bs.aliases) (is_never items h.ty) h to
    tail_kept (present tail) fr x s g j k h around na to d =
        parts.alone_of items body also told fuel bs asked (ids x) (N tail) (node_kept tail fr x s g Taken tt j k)
        around na to (further_in (N tail).head.id x.outside to d)

    statements_bring : (ns : Nodes) → Fine (accesses.told_all bs.outer ns) → (x : Standpoint) → Scoped items body x →
        Stood items body bs x (nodes_among ns) → (rest : Context → Claim) → Holds (typing.statements (K x) ns rest) →
        H (all_cells items ns) → (around : LoopsAndGuards) → Out (ids x) around →
        Brings items body also bs.aliases (λ w. typing.ends_in items ns ≡ false) (forms.statements items r around (Ns
        ns))
    statements_bring no_node fr x s g rest h k around na S v c = (c, refl)
    statements_bring (a_node (node id at ty by form) more) fr x s g rest h k around na S v c =
        let first = node id at ty by form in
        let kf = cells_of.inside items body true first (left (cells items true first) (all_cells items more) k) in
        rules.brought_more items r (not_mark 5) (Calm items body also bs.aliases) (safe items body also bs.aliases)
        (λ w. typing.ends_by items form ≡ false) (λ w. typing.ends_in items (a_node first more) ≡ false)
        ((N first).evaluate around false (Into (N first).head.id) S v) (forms.statements items r around (Ns more))
        (statement_brings form (at, (lt items body also told fuel bs asked _ _ _ _ ((lt items body also told fuel bs asked _ _ _ _ fr)))) (beside id x) (scope.scoped_beside items body bs
        id x s) (scope.stood_beside items body bs x first (nodes_in form)
        (here_left x (nodes_of first) (nodes_among more) g)) id ty by h.1.0 kf around (inner items body also told fuel bs asked id x around na) S v c)
        (λ T w d e. rules.brought_as items r (not_mark 5) (Calm items body also bs.aliases) (safe items body also
        bs.aliases) (λ w. typing.ends_in items more ≡ false) (λ w. typing.ends_in items (a_node first more) ≡ false)
        (forms.statements items r around (Ns more) T w)
        (λ u f. at_nodes.either_false items body told fuel (typing.ends_by items form) (typing.ends_in items more) e f)
        (statements_bring more (rt items body also told fuel bs asked _ _ _ _ fr) (with_names (typing.entries_in form) x)
        (scoped_by.scoped_statement items body told form x h.1.0 e kf s)
        (scope.stood_next items body bs first x (nodes_among more) g) rest h.1.1
        (right (cells items true first) (all_cells items more) k) around (statement_out items body also told fuel bs asked form x around na) T w d))

    statement_brings : (form : Form) → FreeIn form → (x : Standpoint) → Scoped items body x → Stood items body bs x
        (nodes_in form) → (id : ℕ) (ty : TyId) (by : Option Use) → Holds (typing.statement (K x) form) → H (cells_in
        items form) → (around : LoopsAndGuards) → Out (ids x) around →
        Brings items body also bs.aliases (λ w. typing.ends_by items form ≡ false)
        ((F form id ty by).evaluate around false (Into (F form id ty by).head.id))
    statement_brings (tree.Let p absent) fr x s g id ty by h k around na S v c =
        rules.always_brings items r (not_mark 5) (Calm items body also bs.aliases) (safe items body also bs.aliases)
        (λ w. typing.ends_by items (tree.Let p absent) ≡ false)
        (forms.declared items r ((N p).shape.bindings (whole_local 0)) S v) (λ w. refl)
        (rules.declared_kept items r (not_mark 5) (Calm items body also bs.aliases) (safe items body also bs.aliases)
        ((N p).shape.bindings (whole_local 0)) S v c)
    statement_brings (tree.Let (node pid pat pty pby (tree.Binding name)) (present value)) fr x s g id ty by h k
        around na S v c =
        let p = node pid pat pty pby (tree.Binding name) in
        let kv = right (cells items true p) (cells items false value) k in
        parts.made_evaluated items body also told fuel bs asked (typing.ends_by items (tree.Let p (present value)))
        (forms.let_name items r (head id ty by) (head pid pty pby) (N value) around S v)
        (rules.let_name_kept items r (not_mark 5) (Calm items body also bs.aliases) (safe items body also bs.aliases)
        (head id ty by) (head pid pty pby) (N value) around
        (node_kept value (lt items body also told fuel bs asked _ _ _ _ fr.1) (beside pid x) (scope.scoped_beside items body bs pid x s)
        (scope.stood_beside items body bs x p (nodes_of value) g) (Wanted pty) tt h.0 kv around (inner items body also told fuel bs asked pid x around
        na) false (Into pid) (also_among (N value).head.id (pid ∷ x.outside) pid (itself items body also told fuel bs asked pid x.outside))) S v c)
        (λ e. rules.let_name_none items r (not_mark 5) (Calm items body also bs.aliases) (safe items body also
        bs.aliases) (head id ty by) (head pid pty pby) (N value) around
        (λ T w. none_so items body also bs.aliases fuel value around false (Into pid) T w
        (made.never_ends items body also told fuel value x (Wanted pty) h.0 kv
        (parts.never_by items body also told fuel bs asked value e) around false (Into pid) T w)) S v)
    statement_brings (tree.Let (node pid pat pty pby pform) (present value)) fr x s g id ty by h k around na S v c =
        let kv = right (cells items true (node pid pat pty pby pform)) (reached_cells items value) k in
        parts.parted_with items body also told fuel bs asked (node pid pat pty pby pform) value pty x s g id ty by
        refl h.0 h.1 refl (left (cells items true (node pid pat pty pby pform)) (reached_cells items value) k) kv
        (node_reached value (inside_free items body also told fuel bs asked value (lt items body also told fuel bs asked _ _ _ _ fr.1)) x s (here_right x (nodes_of (node pid pat pty pby
        pform)) (nodes_of value) g) Base h.0 kv) around na S v c
    statement_brings (tree.Evaluate expression) fr x s g id ty by h k around na S v c =
        parts.made_evaluated items body also told fuel bs asked (types.is_never items (ty_of expression))
        (forms.evaluating items r (head id ty by) (N expression) around S v)
        (rules.evaluating_kept items r (not_mark 5) (Calm items body also bs.aliases) (safe items body also
        bs.aliases) (head id ty by) (N expression) around (own_kept expression fr.1 x s g Taken tt h k around na
        false) S v c) (λ e. rules.evaluating_none items r (not_mark 5) (Calm items body also bs.aliases) (safe items
        body also bs.aliases) (head id ty by) (N expression) around (λ T w. none_so items body also bs.aliases fuel
        expression around false (Into (N expression).head.id) T w (made.never_ends items body also told fuel
        expression x Taken h (cells_of.fewer items body expression k) (sym (facts_of.never_same items (ty_of
        expression)) ∙ e) around false (Into (N expression).head.id) T w)) S v)
    statement_brings form fr x s g id ty by h k around na S v c = absurd (false≢true h)
