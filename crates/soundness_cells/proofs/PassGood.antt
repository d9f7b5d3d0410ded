-- What the pass over scopes asks of a body, from the rules of typing: the cell of each node needs no dropping where the
-- type of the node needs none; parameters and the result stand in cells of their types.
use Rattle.std.proofs.Common.{◌≡◌, ◌⊎◌, inl, inr, ℕ, zero, suc, ◌≤◌, Bool, true, false, List, [], ◌∷◌, ◌++◌, map, length, Option, Some, None, refl, ap, sym, ◌∙◌, subst, arith}
use Rattle.std.specs.Prelude.{slice_get, position}
use Rattle.std.specs.Option.{option_map_or}
use Rattle.std.proofs.lemmas.Bool.{false≢true}
use Rattle.std.proofs.lemmas.List.Quantifiers.{position-Some}
use Rattle.std.proofs.lemmas.Option.{slice_get-get_or, slice_get_past}
use Rattle.mir_ty.specs.declared.ty.Ty.{Ty}
use Rattle.mir_ty.specs.declared.ty.TyId.{TyId}
use Rattle.mir_ty.specs.Facts.{needs_drop, drop_rule, in_rounds}
use Rattle.mir_ty.specs.ItemTable.{ItemTable, type_at}
use Rattle.store_model.specs.Places.TypeForms.{is_bool}
use Rattle.typed_tree.specs.declared.node.Use.{Use}
use Rattle.typed_tree.specs.Nodes.{number_of, nodes_of, nodes_in, param_nodes}
use Rattle.typed_tree.specs.Tree as tree
use Rattle.typed_tree.specs.Tree.{Node, node, Form, ParamTree}
use Rattle.src_meaning.specs.Locals.OfBody.{cells_in, bool_ty, local_among}
use Rattle.src_meaning.specs.Scopes.{Entry}
use Rattle.well_typed.specs.Claim.{Holds}
use Rattle.well_typed.specs.Names.{do_rise}
use Rattle.well_typed.specs.Patterns as patterns
use Rattle.well_typed.specs.Patterns.{Matched}
use Rattle.well_typed.specs.Places.{form_of, ty_of}
use Rattle.well_typed.specs.Program.{are_params}
use Rattle.soundness_values.proofs.Leaving.{all_append}
use Rattle.soundness_cells.proofs.PassCells.{NodeIn, node_left, node_right, and_right, one_node, apart_from, without_middle, is_literal, made_ty, made_in, CellOf, AreCells, wider, together, in_are, param_entry, inside, inside_params, parts}
use Rattle.soundness_cells.proofs.PassLocals.{EntryIn, entry_of_all, keys, tys, Standing, found_or_none, has_local}
use Rattle.soundness_values.proofs.PlaceTypes.{same_type}

-- every value of its type is taken, and may be moved
abbrev pub whole : Matched
whole = record { takes_all = true; may_move = true }

-- each parameter is of the type of its pattern, which takes every value of the type
abbrev pub TypedParams : ItemTable → List ParamTree → Type 0
TypedParams items [] = Unit {0}
TypedParams items (param ∷ params) =
    Holds (patterns.pattern items whole param.ty param.pattern) × TypedParams items params

pub typed_params : (items : ItemTable) (ids : List TyId) (params : List ParamTree) →
    Holds (are_params items ids params) →
    TypedParams items params
typed_params items [] [] h = tt
typed_params items [] (param ∷ params) h = absurd (false≢true h)
typed_params items (id ∷ ids) [] h = tt
typed_params items (id ∷ ids) (param ∷ params) h = (h.0.1.0, typed_params items ids params h.1)

module _ (items : ItemTable) where
  -- ---- `bool` needs no dropping

  abbrev is_bool_if_any : Option Ty → Bool
  is_bool_if_any None = true
  is_bool_if_any (Some ty) = is_bool (Some ty)

  undropped : (id : TyId) → is_bool_if_any (type_at items id) ≡ true → needs_drop items id ≡ false
  undropped id h = rounds (length items.types)
    where
      rule : (k : ℕ) (o : Option Ty) → is_bool_if_any o ≡ true →
          option_map_or (drop_rule items.adts items.closures
          (in_rounds items.types (drop_rule items.adts items.closures) k)) o false ≡ false
      rule k None h = refl
      rule k (Some Ty.Bool) h = refl
      rule k (Some ty) h = absurd (false≢true h)

      rounds : (k : ℕ) → in_rounds items.types (drop_rule items.adts items.closures) k id ≡ false
      rounds zero = refl
      rounds (suc k) = rule k (type_at items id) h

  abbrev tests_bool : Ty → Bool
  tests_bool ty = is_bool (Some ty)

  abbrev numbered : Option ℕ → TyId
  numbered o = record { 0 = option_map_or (λ n. n) o (length items.types) }

  bool_at : (o : Option ℕ) → position tests_bool items.types ≡ o → is_bool_if_any (type_at items (numbered o)) ≡ true
  bool_at None e = ap is_bool_if_any (slice_get_past items.types (length items.types) (least (length items.types)))
    where
      least : (n : ℕ) → n ≤ n
      least n = omega arith
  bool_at (Some i) e =
      let s = position-Some tests_bool items.types i Ty.Bool e in
      ap is_bool_if_any (slice_get-get_or items.types i Ty.Bool s.0) ∙ s.1

  pub bool_undropped : needs_drop items (bool_ty items) ≡ false
  bool_undropped = undropped (bool_ty items) (bool_at (position tests_bool items.types) refl)

  -- ---- parameters

  plain_pattern : (form : Form) (ty : TyId) (by : Option Use) → Holds (patterns.pattern_row items whole ty by form) →
      is_literal form ≡ false
  plain_pattern (tree.NumberPattern value) ty by h = absurd (false≢true (and_right _ _ h.0))
  plain_pattern (tree.TruthPattern value) ty by h = absurd (false≢true (and_right _ _ h.0))
  plain_pattern form ty by h = refl

  pub param_made : (n : Node) (want : TyId) → Holds (patterns.pattern items whole want n) → made_in items n ≡ want
  param_made (node id at ty by form) want h =
      ap (λ b. made_ty items b ty) (plain_pattern form ty by h.1) ∙ same_type ty want h.0

  own_first : (n : Node) → NodeIn (nodes_of n) n
  own_first (node id at ty by form) = inl refl

  inside_are : (n : Node) → AreCells items (nodes_of n) (inside items n)
  inside_are (node id at ty by form) =
      wider items (nodes_in form) (node id at ty by form ∷ nodes_in form) (λ n i. inr i) (cells_in items form)
      (in_are items form)

  params_are : (params : List ParamTree) → TypedParams items params →
      AreCells items (param_nodes params) (map (param_entry items) params)
  params_are [] h = tt
  params_are (param ∷ params) h = (
    (
      param.pattern,
      (
        node_left (nodes_of param.pattern) (param_nodes params) param.pattern (own_first param.pattern),
        (refl, param_made param.pattern param.ty h.0),
      ),
    ),
    wider items (param_nodes params) (nodes_of param.pattern ++ param_nodes params)
        (node_right (nodes_of param.pattern) (param_nodes params)) (map (param_entry items) params)
        (params_are params h.1),
  )

  inside_params_are : (params : List ParamTree) → AreCells items (param_nodes params) (inside_params items params)
  inside_params_are [] = tt
  inside_params_are (param ∷ params) = together items (nodes_of param.pattern) (param_nodes params)
      (inside items param.pattern) (inside_params items params) (inside_are param.pattern) (inside_params_are params)

  -- ---- the locals of a body, whose block is a node

  opened : (block : Node) → nodes_of block ≡ block ∷ nodes_in (form_of block)
  opened (node id at ty by form) = refl

  module _ (params : List ParamTree) (answer : TyId) (block : Node)
      (rise : do_rise (map number_of (param_nodes params ++ nodes_of block)) ≡ true)
      (typed : TypedParams items params) where
    -- all nodes but the block
    abbrev pub others : List Node
    others = param_nodes params ++ nodes_in (form_of block)

    rises : do_rise (map number_of (param_nodes params ++ (block ∷ nodes_in (form_of block)))) ≡ true
    rises = subst (λ l. do_rise (map number_of (param_nodes params ++ l)) ≡ true) (opened block) rise

    abbrev rest : List Entry
    rest = (map (param_entry items) params ++ inside_params items params) ++ inside items block

    rest_are : AreCells items others rest
    rest_are = together items (param_nodes params) (nodes_in (form_of block))
        (map (param_entry items) params ++ inside_params items params) (inside items block)
        (all_append (CellOf items (param_nodes params)) (map (param_entry items) params) (inside_params items params)
        (params_are params typed) (inside_params_are params)) (in_are items (form_of block))

    other_than_block : (n : Node) → NodeIn others n → number_of n ≡ number_of block → ⊥
    other_than_block n i e = apart_from (param_nodes params) block (nodes_in (form_of block)) rises n i e

    one_of_others : (a b : Node) → NodeIn others a → NodeIn others b → number_of a ≡ number_of b → a ≡ b
    one_of_others a b i j e = one_node (param_nodes params ++ (block ∷ nodes_in (form_of block))) rises a b
        (without_middle (param_nodes params) block (nodes_in (form_of block)) a i)
        (without_middle (param_nodes params) block (nodes_in (form_of block)) b j) e

    -- entries with one key have one type
    one_type : (a b : Entry) → EntryIn (parts items params answer block) a →
        EntryIn (parts items params answer block) b →
        a.key ≡ b.key → a.ty ≡ b.ty
    one_type a b (inl x) (inl y) e = ap (λ (z : Entry). z.ty) (sym x ∙ y)
    one_type a b (inl x) (inr y) e =
        let c = entry_of_all (CellOf items others) rest b rest_are y in
        absurd (other_than_block c.0 c.1.0 (c.1.1.0 ∙ sym e ∙ sym (ap (λ (z : Entry). z.key) x)))
    one_type a b (inr x) (inl y) e =
        let c = entry_of_all (CellOf items others) rest a rest_are x in
        absurd (other_than_block c.0 c.1.0 (c.1.1.0 ∙ e ∙ sym (ap (λ (z : Entry). z.key) y)))
    one_type a b (inr x) (inr y) e =
        let c = entry_of_all (CellOf items others) rest a rest_are x in
        let d = entry_of_all (CellOf items others) rest b rest_are y in
        sym c.1.1.1 ∙ ap (made_in items) (one_of_others c.0 d.0 c.1.0 d.1.0 (c.1.1.0 ∙ e ∙ sym d.1.1.0)) ∙ d.1.1.1

    abbrev pub found_ty : ℕ → Option TyId
    found_ty key = slice_get (tys (parts items params answer block))
        (local_among (keys (parts items params answer block)) key)

    -- each entry stands in the local of its key
    pub entry_local : (e : Entry) → EntryIn (parts items params answer block) e → found_ty e.key ≡ Some e.ty
    entry_local e i = has_local (parts items params answer block) one_type e i

    pub answer_local : found_ty (number_of block) ≡ Some answer
    answer_local = entry_local (record { key = number_of block; ty = answer }) (inl refl)

    -- what stands in the local of a node's number
    pub node_local : (n : Node) → NodeIn others n →
        (found_ty (number_of n) ≡ Some (made_in items n)) ⊎ (found_ty (number_of n) ≡ None)
    node_local n i = by (found_or_none (parts items params answer block) (number_of n))
      where
        by : Standing (parts items params answer block) (number_of n) ⊎ (found_ty (number_of n) ≡ None) →
            (found_ty (number_of n) ≡ Some (made_in items n)) ⊎ (found_ty (number_of n) ≡ None)
        by (inr none) = inr none
        by (inl (e, (inl first, (same, at)))) =
            absurd (other_than_block n i (sym same ∙ sym (ap (λ (z : Entry). z.key) first)))
        by (inl (e, (inr later, (same, at)))) =
            let c = entry_of_all (CellOf items others) rest e rest_are later in
            inl (at ∙ ap Some (sym c.1.1.1
            ∙ ap (made_in items) (one_of_others c.0 n c.1.0 i (c.1.1.0 ∙ same))))

    pub node_needs : (n : Node) → NodeIn others n → needs_drop items (ty_of n) ≡ false →
        option_map_or (needs_drop items) (found_ty (number_of n)) false ≡ false
    node_needs n i h = by (node_local n i)
      where
        made : (b : Bool) → needs_drop items (made_ty items b (ty_of n)) ≡ false
        made true = bool_undropped
        made false = h

        by : (found_ty (number_of n) ≡ Some (made_in items n)) ⊎ (found_ty (number_of n) ≡ None) →
            option_map_or (needs_drop items) (found_ty (number_of n)) false ≡ false
        by (inl e) = ap (λ o. option_map_or (needs_drop items) o false) e ∙ made (is_literal (form_of n))
        by (inr e) = ap (λ o. option_map_or (needs_drop items) o false) e
