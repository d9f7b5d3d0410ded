-- A raw body of a well typed program keeps to references in locals: each local of a reference type is a parameter, which
-- is not stored into, or its reference is made by one borrow, or no line names it.
use Rattle.std.proofs.Common.{◌≡◌, ◌⊎◌, inl, inr, ℕ, zero, suc, ◌+◌, ◌≤◌, ◌<◌, ◌==◌, ◌&&◌, ◌||◌, not, nat_lt, nat_le, Bool, true, false, List, [], ◌∷◌, ◌++◌, length, map, Option, Some, None, slice_get, cond, if◌then◌else◌, refl, sym, ap, subst, ◌∙◌, arith}
use Rattle.std.proofs.lemmas.Bool.{lt-ltb, ltb-true, eqb-true, le-leb, leb-true}
use Rattle.std.proofs.lemmas.Option.{none-some, same_Some, slice_get_within, slice_get-map}
use Rattle.std.specs.Prelude.{option_map, option_and_then}
use Rattle.std.specs.List.{flat_map, list_all, range_with_len}
use Rattle.cfg_graph.specs.declared.graph.Body.{Body}
use Rattle.cfg_graph.specs.declared.graph.Kind.{Kind}
use Rattle.cfg_graph.specs.declared.terminator.Term.{Term}
use Rattle.cfg_graph.specs.Moves.Gone.{is_param}
use Rattle.cfg_graph.specs.Places.{named}
use Rattle.cfg_graph.specs.Ready.{times_stored, times_made, is_unnamed, holds_reference_well, local_well, references_in_locals}
use Rattle.mir_ty.specs.declared.def.ClosureDef.{ClosureDef}
use Rattle.mir_ty.specs.declared.def.Sig.{Sig}
use Rattle.mir_ty.specs.declared.ty.TyId.{TyId}
use Rattle.mir_ty.specs.ItemTable.{type_at}
use Rattle.store_model.specs.Places.Place.{Place, whole_local, is_reference}
use Rattle.typed_tree.specs.Nodes.{number_of, nodes_of, param_nodes, body_nodes}
use Rattle.typed_tree.specs.Tree as tree
use Rattle.typed_tree.specs.Tree.{Node, Form, ParamTree, BodyTree, ProgramTree}
use Rattle.src_meaning.specs.Forms.{LoopsAndGuards, Into}
use Rattle.src_meaning.specs.Locals.OfBody.{cells, cells_in, locals, local_of, local_tys, param_key, answer_key}
use Rattle.src_meaning.specs.Scopes.{Entry, innermost, with_entry}
use Rattle.src_meaning.specs.Shape.{shape}
use Rattle.well_typed.specs.Claim.{Claim, Holds, fact, nothing, ◌&◌}
use Rattle.well_typed.specs.Nodes as typing
use Rattle.well_typed.specs.Patterns as patterns
use Rattle.well_typed.specs.Patterns.{Matched, entries_of}
use Rattle.well_typed.specs.Places.{InScope, Context, Wanted, entry_with, ty_of, form_of}
use Rattle.well_typed.specs.Program.{WellTyped, is_body, is_inside, closure_with}
use Rattle.well_typed.specs.Types as types
use Rattle.lower_rules.specs.Spots.{body_ways}
use Rattle.lower_rules.specs.Build.{LoweringFrame, BlockRest, Building, Lowers, ending, reserved}
use Rattle.lower_rules.specs.Lower as lower
use Rattle.lower_rules.specs.Lower.{body_of}
use Rattle.lower_rules.proofs.Lines as lines
use Rattle.lower_laws.specs.Lines.{LocalsHaveNoFault}
use Rattle.lower_laws.proofs.Base as base
use Rattle.lower_laws.proofs.Base.{Ground, untrue, and_first, and_second, same_id, found}
use Rattle.lower_laws.proofs.Facts as facts
use Rattle.lower_laws.proofs.LineCells as cells_apart
use Rattle.lower_laws.proofs.LineCells.{OfKeys, Distinct}
use Rattle.lower_laws.proofs.Names as names
use Rattle.lower_ready.proofs.Counted as counted
use Rattle.lower_ready.proofs.Once as once
use Rattle.lower_ready.proofs.Once.{About}
use Rattle.lower_ready.proofs.OnceForms as forms
use Rattle.lower_ready.proofs.OncePatterns as pattern_rules
use Rattle.lower_ready.proofs.OnceStanding as standing
use Rattle.lower_ready.proofs.OnceRules as by_rule
use Rattle.lower_ready.proofs.OnceUses.{EachUsesWell}
use Rattle.lower_ready.proofs.Alone.{same_reference}
use Rattle.lower_ready.proofs.AloneParts.{both_so, not_true, either_first, either_second, truth_not, fields_not, tuples_not, arrays_not, results_not, methods_not}
use Rattle.lower_ready.proofs.CellKeys.{key_at, own_slot, one_key, rising}
use Rattle.lower_ready.proofs.OnceCounts as counts

-- ---- the lines of a body
module _ (p : ProgramTree) (w : WellTyped p) (n : ℕ) (body : BodyTree) (at_n : slice_get p.bodies n ≡ Some body) (clean : LocalsHaveNoFault p.items (length p.bodies) (body_of p.items body)) where
  abbrev g : Ground
  g = record {
    items = p.items;
    local_of = local_of p.items body;
    tys = local_tys p.items body;
    bodies = length p.bodies;
    known = λ local id e. facts.local_known p.items (length p.bodies) id (clean local id e);
    callable = facts.callable p w;
    entered = facts.entered p w;
    parts = facts.parts_there p w;
    contents = facts.content_there p w;
    elements = facts.element_there p w;
    rows = facts.row_there p w;
    unique = facts.one_number p w;
    traits = facts.trait_there p w;
  }

  abbrev F : LoweringFrame
  F = base.F g

  typed : (sig : Sig) × (slice_get p.items.bodies n ≡ Some sig) × Holds (is_body p.items n sig body)
  typed = facts.body_at p w n body at_n

  rise : base.Rise g (body_nodes body)
  rise = rising g (body_nodes body) typed.2.1.1.1.0

  distinct : Distinct (locals p.items body)
  distinct = cells_apart.all_distinct g body rise

  all_cells : base.CellsOk g (locals p.items body)
  all_cells = each (locals p.items body) (λ i e is. cells_apart.finds (locals p.items body) i e is distinct)
    where
      each : (es : List Entry) → ((i : ℕ) (e : Entry) → slice_get es i ≡ Some e → base.KeyIs g e.key e.ty) → base.CellsOk g es
      each [] all = tt
      each (e ∷ es) all = (all 0 e refl, each es (λ i d is. all (suc i) d is))

  answer_cell : base.KeyIs g (answer_key body) body.answer
  answer_cell = all_cells.0

  abbrev entry_of_param : ParamTree → Entry
  entry_of_param param = record { key = param_key param; ty = param.ty }

  abbrev cells_of_params : List ParamTree → List Entry
  cells_of_params [] = []
  cells_of_params (param ∷ params) = cells_in p.items (form_of param.pattern) ++ cells_of_params params

  front_cells : base.CellsOk g (map entry_of_param body.params ++ cells_of_params body.params)
  front_cells = base.cells_first g (map entry_of_param body.params ++ cells_of_params body.params) (cells_in p.items (form_of body.block)) all_cells.1

  param_cells : base.CellsOk g (map entry_of_param body.params)
  param_cells = base.cells_first g (map entry_of_param body.params) (cells_of_params body.params) front_cells

  inner_cells : base.CellsOk g (cells_of_params body.params)
  inner_cells = base.cells_second g (map entry_of_param body.params) (cells_of_params body.params) front_cells

  block_cells : base.CellsOk g (cells_in p.items (form_of body.block))
  block_cells = base.cells_second g (map entry_of_param body.params ++ cells_of_params body.params) (cells_in p.items (form_of body.block)) all_cells.1

  abbrev whole : Matched
  whole = record { takes_all = true; may_move = true }

  abbrev NameOrWildcard : Form → Bool
  NameOrWildcard tree.Wildcard = true
  NameOrWildcard (tree.Binding name) = true
  NameOrWildcard _ = false

  abbrev ParamIs : TyId → ParamTree → Claim
  ParamIs ty param = fact (types.is_same param.ty ty) & patterns.pattern p.items whole param.ty param.pattern & fact (NameOrWildcard (form_of param.pattern) || not (types.is_reference p.items param.ty))

  abbrev ParamsAre : List TyId → List ParamTree → Claim
  ParamsAre [] [] = nothing
  ParamsAre (ty ∷ tys) (param ∷ params) = ParamIs ty param & ParamsAre tys params
  ParamsAre tys params = fact false

  params_are : Holds (ParamsAre typed.0.params body.params)
  params_are = typed.2.1.1.0

  -- the cells of a pattern whose own cell is that of its parameter
  pattern_cells : (q : Node) (want : TyId) → Holds (patterns.pattern p.items whole want q) → base.KeyIs g (number_of q) want → base.CellsOk g (cells_in p.items (form_of q)) → base.CellsOk g (cells p.items true q)
  pattern_cells (tree.node id at ty by tree.Wildcard) want h k d = base.by_never g ty (λ v. simp (v) d) (λ v. simp (v) d)
  pattern_cells (tree.node id at ty by (tree.Binding name)) want h k d = let key = subst (base.KeyIs g id) (sym (same_id ty want h.0)) k in base.by_never g ty (λ v. simp (v) (key, tt)) (λ v. simp (v) (key, tt))
  pattern_cells (tree.node id at ty by (tree.NumberPattern value)) want h k d = absurd (untrue (and_second _ _ h.1.0))
  pattern_cells (tree.node id at ty by (tree.TruthPattern value)) want h k d = absurd (untrue (and_second _ _ h.1.0))
  pattern_cells (tree.node id at ty by (tree.StructPattern fields)) want h k d = base.by_never g ty (λ v. simp (v) d) (λ v. simp (v) d)
  pattern_cells (tree.node id at ty by (tree.VariantPattern variant is_test fields)) want h k d = base.by_never g ty (λ v. simp (v) d) (λ v. simp (v) d)
  pattern_cells (tree.node id at ty by (tree.TuplePattern parts)) want h k d = base.by_never g ty (λ v. simp (v) d) (λ v. simp (v) d)
  pattern_cells (tree.node id at ty by (tree.ArrayPattern elements)) want h k d = base.by_never g ty (λ v. simp (v) d) (λ v. simp (v) d)
  pattern_cells (tree.node id at ty by (tree.OrPattern alternatives)) want h k d = base.by_never g ty (λ v. simp (v) d) (λ v. simp (v) d)
  pattern_cells (tree.node id at ty by _) want h k d = absurd (untrue h.1)

  -- a block has no cell of its own
  abbrev IsBlock : Form → Bool
  IsBlock (tree.Block statements tail) = true
  IsBlock _ = false

  own_cells : (q : Node) → IsBlock (form_of q) ≡ true → cells p.items false q ≡ cells_in p.items (form_of q)
  own_cells (tree.node id at ty by (tree.Block stmts tail)) h = base.by_never g ty (λ v. simp (v) refl) (λ v. simp (v) refl)
  own_cells (tree.node id at ty by _) h = absurd (untrue h)

  abbrev entries_of_params : List ParamTree → List InScope
  entries_of_params params = flat_map (λ q. entries_of q.pattern) params

  is_block : IsBlock (form_of body.block) ≡ true
  is_block = typed.2.1.1.1.1.1.0

  below_append : (xs ys : List Entry) (i : ℕ) (e : Entry) → slice_get xs i ≡ Some e → slice_get (xs ++ ys) i ≡ Some e
  below_append [] ys i e q = absurd (none-some e q)
  below_append (x ∷ xs) ys zero e q = q
  below_append (x ∷ xs) ys (suc i) e q = below_append xs ys i e q

  -- ---- a local of a reference type
  module _ (L : ℕ) (e : Entry) (is : slice_get (locals p.items body) L ≡ Some e) (ref : types.is_reference p.items e.ty ≡ true) where
    abbrev K : ℕ
    K = e.key

    local_is : local_of p.items body K ≡ L
    local_is = own_slot (locals p.items body) L e is distinct

    about : About g L K
    about = record {
      only = λ k q. one_key (map (λ (e : Entry). e.key) (locals p.items body)) L k K (key_at (locals p.items body) L e is) (eqb-true (local_of p.items body k) L q);
      here = names.equal_too (local_of p.items body K) L local_is;
      ty = e.ty;
      typed = slice_get-map (λ (e : Entry). e.ty) (locals p.items body) L ∙ ap (option_map (λ (e : Entry). e.ty)) is;
      is_ref = ref;
      truth = truth_not p w;
      fields = fields_not p w;
      tuples = tuples_not p w;
      arrays = arrays_not p w;
      results = results_not p w;
      methods = methods_not p w;
    }

    abbrev Q : Type 0
    Q = is_param p.items (body_of p.items body) L ≡ false

    abbrev Free : Type 0
    Free = Unit {0}

    abbrev Once : Lowers → ℕ → Type 0
    Once P m = once.Once g L K about Q Free [] P m

    abbrev W : Bool → lines.Wanted F
    W = once.W g L K about Q

    abbrev occ : List Entry → ℕ
    occ es = by_rule.occ g L K about Q es

    -- ---- how often the key stands among the cells
    none_occurs : (es : List Entry) (x : Entry) → x.key ≡ K → OfKeys (λ k. (x.key == k) ≡ false) es → occ es ≡ 0
    none_occurs [] x same h = refl
    none_occurs (d ∷ es) x same h =
        let i = none_occurs es x same h.1 in
        let z : by_rule.one_if g L K about Q (d.key == K) ≡ 0 = ap (λ (b : Bool). by_rule.one_if g L K about Q b) (names.differ_too K d.key (subst (λ (z : ℕ). (z == d.key) ≡ false) same h.0)) in
        let r : by_rule.one_if g L K about Q (d.key == K) + occ es ≡ 0 = omega (i, z, arith) in r

    occurs_once : (es : List Entry) → Distinct es → occ es ≤ 1
    occurs_once [] h = let r : 0 ≤ 1 = omega arith in r
    occurs_once (d ∷ es) h = by (d.key == K) refl (occurs_once es h.1)
      where
        by : (b : Bool) → (d.key == K) ≡ b → occ es ≤ 1 → by_rule.one_if g L K about Q b + occ es ≤ 1
        by true q i = let z = none_occurs es d (eqb-true d.key K q) h.0 in let r : 1 + occ es ≤ 1 = omega (z, arith) in r
        by false q i = let r : 0 + occ es ≤ 1 = omega (i, arith) in r

    occurs_at : (es : List Entry) (i : ℕ) (d : Entry) → slice_get es i ≡ Some d → d.key ≡ K → 1 ≤ occ es
    occurs_at [] i d q same = absurd (none-some d q)
    occurs_at (x ∷ es) zero d q same =
        let z : by_rule.one_if g L K about Q (x.key == K) ≡ 1 = ap (λ (b : Bool). by_rule.one_if g L K about Q b) (names.equal_too x.key K (ap (λ (z : Entry). z.key) (same_Some x d q) ∙ same)) in
        let r : 1 ≤ by_rule.one_if g L K about Q (x.key == K) + occ es = omega (z, arith) in r
    occurs_at (x ∷ es) (suc i) d q same = let z = occurs_at es i d q same in let r : 1 ≤ by_rule.one_if g L K about Q (x.key == K) + occ es = omega (z, arith) in r

    abbrev front : List Entry
    front = map entry_of_param body.params ++ cells_of_params body.params

    abbrev inside : List Entry
    inside = cells_in p.items (form_of body.block)

    sums : occ (front ++ inside) ≡ occ front + occ inside
    sums = by_rule.occ_append g L K about Q front inside

    block_once_at_most : occ inside ≤ 1
    block_once_at_most = let a = occurs_once (front ++ inside) distinct.1 in let b = sums in let r : occ inside ≤ 1 = omega (a, b, arith) in r

    -- ---- parameters
    abbrev ParamsAway : List ParamTree → Type 0
    ParamsAway [] = Unit {0}
    ParamsAway (param ∷ params) = (Q → param_key param ≡ K → ⊥) × ParamsAway params

    away_all : (ps : List ParamTree) → ((i : ℕ) (param : ParamTree) → slice_get ps i ≡ Some param → Q → param_key param ≡ K → ⊥) → ParamsAway ps
    away_all [] h = tt
    away_all (param ∷ ps) h = (h 0 param refl, away_all ps (λ i q e. h (suc i) q e))

    one_away : (i : ℕ) (param : ParamTree) → slice_get body.params i ≡ Some param → Q → param_key param ≡ K → ⊥
    one_away i param at q same =
        let here = below_append front inside i (entry_of_param param) (below_append (map entry_of_param body.params) (cells_of_params body.params) i (entry_of_param param) (slice_get-map entry_of_param body.params i ∙ ap (option_map entry_of_param) at)) in
        let slot_is : local_of p.items body (param_key param) ≡ suc i = own_slot (locals p.items body) (suc i) (entry_of_param param) here distinct in
        let same_slot : suc i ≡ L = sym slot_is ∙ ap (local_of p.items body) same ∙ local_is in
        let l = slice_get_within body.params i param at in
        untrue (sym q ∙ both_so (nat_lt 0 L) (nat_le L (length body.params)) (lt-ltb 0 L (omega (same_slot, arith))) (le-leb L (length body.params) (omega (same_slot, l, arith))))

    params_away : ParamsAway body.params
    params_away = away_all body.params one_away

    -- ---- parameters are entered, and take their parts
    named_once : (q : Node) (a : Bool) (place : Place) → NameOrWildcard (form_of q) ≡ true → Once (lower.names_of_param F ((shape p.items q).is_binding) ((shape p.items q).bindings place)) 0
    named_once (tree.node id at ty by tree.Wildcard) a place h = once.nothing_done g L K about Q Free []
    named_once (tree.node id at ty by (tree.Binding name)) a place h = once.nothing_done g L K about Q Free []
    named_once (tree.node id at ty by _) a place h = absurd (untrue h)

    bound_once : (b : Bool) (q : Node) (place : Place) → by_rule.BoundsWell g L K about Q ((shape p.items q).bindings place) → Once (lower.names_of_param F b ((shape p.items q).bindings place)) 0
    bound_once true q place h = once.nothing_done g L K about Q Free []
    bound_once false q place h = by_rule.binds g L K about Q [] innermost (by_rule.inner g L K about Q) ((shape p.items q).bindings place) h

    param_once : (param : ParamTree) (ty : TyId) → Holds (ParamIs ty param) → base.KeyIs g (param_key param) param.ty → base.CellsOk g (cells_in p.items (form_of param.pattern)) → Once (lower.names_of_param F ((shape p.items param.pattern).is_binding) ((shape p.items param.pattern).bindings (whole_local (param_key param)))) 0
    param_once param ty h k d = elim (base.either (NameOrWildcard (form_of param.pattern)) _ h.1.1) [
      | inl named ↦ named_once param.pattern true (whole_local (param_key param)) named
      | inr other ↦
          let nr = not_true (types.is_reference p.items param.ty) other in
          bound_once ((shape p.items param.pattern).is_binding) param.pattern (whole_local (param_key param))
          ((pattern_rules.pattern_is g L K about Q (truth_not p w) param.pattern whole param.ty nr h.1.0 (pattern_cells param.pattern param.ty h.1.0 k d)).bounds (whole_local (param_key param)) (by_rule.other_whole g L K about Q (param_key param) (by_rule.keyed_away g L K about Q (param_key param) param.ty k nr)))
    ]

    params_once : (tys : List TyId) (ps : List ParamTree) → Holds (ParamsAre tys ps) → base.CellsOk g (map entry_of_param ps) → base.CellsOk g (cells_of_params ps) → Once (lower.params_entered F ps) 0
    params_once tys [] h c d = once.nothing_done g L K about Q Free []
    params_once [] (param ∷ ps) h c d = absurd (untrue h)
    params_once (ty ∷ tys) (param ∷ ps) h c d =
        once.changed g L K about Q Free [] (innermost (with_entry (entry_of_param param))) _ 0
        (λ b S o. by_rule.inner g L K about Q b (with_entry (entry_of_param param)) (lines.entry_keeps F (W b) (entry_of_param param) (by_rule.entered g L K about Q (entry_of_param param) (λ x. c.0))) S o)
        (once.more g L K about Q Free [] _ (0 + 0) 0 (by_rule.no_more g L K about Q 0)
        (once.and_then g L K about Q Free [] _ _ 0 0 (param_once param ty h.0 c.0 (base.cells_first g (cells_in p.items (form_of param.pattern)) (cells_of_params ps) d))
        (λ z. params_once tys ps h.1 c.1 (base.cells_second g (cells_in p.items (form_of param.pattern)) (cells_of_params ps) d))))

    -- ---- what is in scope
    abbrev EntriesWell : List InScope → Type 0
    EntriesWell [] = Unit {0}
    EntriesWell (x ∷ es) = (x.key ≡ K → (Q → ⊥) × by_rule.IsRef g L K about Q x.ty) × EntriesWell es

    others_well : (es : List InScope) → by_rule.Others g L K about Q es → EntriesWell es
    others_well [] h = tt
    others_well (x ∷ es) h = (λ k. absurd (h.0 k), others_well es h.1)

    well_append : (xs ys : List InScope) → EntriesWell xs → EntriesWell ys → EntriesWell (xs ++ ys)
    well_append [] ys h k = k
    well_append (x ∷ xs) ys h k = (h.0, well_append xs ys h.1 k)

    name_entries : (q : Node) (want : TyId) → Holds (patterns.pattern p.items whole want q) → NameOrWildcard (form_of q) ≡ true → (number_of q ≡ K → (Q → ⊥) × by_rule.IsRef g L K about Q want) → EntriesWell (entries_of q)
    name_entries (tree.node id at ty by tree.Wildcard) want t h f = tt
    name_entries (tree.node id at ty by (tree.Binding name)) want t h f = (λ k. let it = f k in (it.0, subst (by_rule.IsRef g L K about Q) (sym (same_id ty want t.0)) it.1), tt)
    name_entries (tree.node id at ty by _) want t h f = absurd (untrue h)

    param_entries : (param : ParamTree) (ty : TyId) → Holds (ParamIs ty param) → base.KeyIs g (param_key param) param.ty → base.CellsOk g (cells_in p.items (form_of param.pattern)) → (Q → param_key param ≡ K → ⊥) → EntriesWell (entries_of param.pattern)
    param_entries param ty h k d out = elim (base.either (NameOrWildcard (form_of param.pattern)) _ h.1.1) [
      | inl named ↦ name_entries param.pattern param.ty h.1.0 named (λ same. (λ q. out q same, by_rule.keyed_ref g L K about Q (param_key param) param.ty k same))
      | inr other ↦ others_well (entries_of param.pattern) (pattern_rules.pattern_is g L K about Q (truth_not p w) param.pattern whole param.ty (not_true (types.is_reference p.items param.ty) other) h.1.0 (pattern_cells param.pattern param.ty h.1.0 k d)).entries
    ]

    params_entries : (tys : List TyId) (ps : List ParamTree) → Holds (ParamsAre tys ps) → base.CellsOk g (map entry_of_param ps) → base.CellsOk g (cells_of_params ps) → ParamsAway ps → EntriesWell (entries_of_params ps)
    params_entries tys [] h c d out = tt
    params_entries [] (param ∷ ps) h c d out = absurd (untrue h)
    params_entries (ty ∷ tys) (param ∷ ps) h c d out =
        well_append (entries_of param.pattern) (entries_of_params ps) (param_entries param ty h.0 c.0 (base.cells_first g (cells_in p.items (form_of param.pattern)) (cells_of_params ps) d) out.0)
        (params_entries tys ps h.1 c.1 (base.cells_second g (cells_in p.items (form_of param.pattern)) (cells_of_params ps) d) out.1)

    well_second : (xs ys : List InScope) → EntriesWell (xs ++ ys) → EntriesWell ys
    well_second [] ys h = h
    well_second (x ∷ xs) ys h = well_second xs ys h.1

    in_scope : (es : List InScope) → EntriesWell es → (key : ℕ) (x : InScope) → entry_with key es ≡ Some x → key ≡ K → (Q → ⊥) × by_rule.IsRef g L K about Q x.ty
    in_scope [] h key x q k = absurd (none-some x q)
    in_scope (d ∷ es) h key x q k = by (d.key == key) refl q (λ c. in_scope es h.1 key x c k)
      where
        by : (b : Bool) → (d.key == key) ≡ b → cond b (Some d) (entry_with key es) ≡ Some x → (entry_with key es ≡ Some x → (Q → ⊥) × by_rule.IsRef g L K about Q x.ty) → (Q → ⊥) × by_rule.IsRef g L K about Q x.ty
        by true q c rest = let it = h.0 (eqb-true d.key key q ∙ k) in (it.0, subst (λ (z : InScope). by_rule.IsRef g L K about Q z.ty) (same_Some d x c) it.1)
        by false q c rest = rest c

    -- ---- the block
    abbrev context : Option InScope → List ParamTree → Context
    context closure ps = record { items = p.items; entries = entries_of_params ps; closure = closure; loops = []; answer = body.answer }

    abbrev around : LoopsAndGuards
    around = lower.around_body F body

    abbrev SelfAway : Option InScope → Type 0
    SelfAway closure = (x : InScope) → closure ≡ Some x → Q → x.key ≡ K → ⊥

    answer_dest : by_rule.Dest g L K about Q (Into (answer_key body)) body.answer
    answer_dest nr made = by_rule.keyed_away g L K about Q (answer_key body) body.answer answer_cell nr

    block_once : (closure : Option InScope) → SelfAway closure → (ps : List ParamTree) → EntriesWell (entries_of_params ps) → Holds (typing.typed (context closure ps) (Wanted body.answer) body.block) → Once ((lower.lower F body.block).evaluates around false (Into (answer_key body))) (occ inside)
    block_once closure self ps well h =
        let c = forms.wanted_child g L K about Q (context closure ps) body.answer body.block h (base.rise_second g (param_nodes body.params) (nodes_of body.block) rise) in
        let ar : by_rule.Around g L K about Q (context closure ps) around = record {
          names = in_scope (entries_of_params ps) well;
          aliases = tt;
          self = self;
          answer = answer_dest;
          loops = λ loop l at. absurd (none-some l at);
        } in
        subst (λ (es : List Entry). Once ((lower.lower F body.block).evaluates around false (Into (answer_key body))) (occ es)) (own_cells body.block is_block)
        (c.known.evaluates false (subst (base.CellsOk g) (sym (own_cells body.block is_block)) block_cells) (standing.wanted_stands g L K about Q (context closure ps) body.answer body.block h).valued around ar false (Into (answer_key body))
        (by_rule.dest_fits g L K about Q (Into (answer_key body)) body.answer (ty_of body.block) (base.fits g body.answer (ty_of body.block) (standing.wanted_fits g L K about Q (context closure ps) body.answer body.block h)) answer_dest))

    entire_block : Once ((lower.lower F body.block).evaluates around false (Into (answer_key body))) (occ inside)
    entire_block = of (closure_with p.items n) refl body.params refl typed.2.1.1.1.1.1.1
      where
        all_well : EntriesWell (entries_of_params body.params)
        all_well = params_entries typed.0.params body.params params_are param_cells inner_cells params_away

        of : (o : Option ClosureDef) → closure_with p.items n ≡ o → (ps : List ParamTree) → body.params ≡ ps → Holds (is_inside p.items o body ps) → Once ((lower.lower F body.block).evaluates around false (Into (answer_key body))) (occ inside)
        of None q ps same h = block_once None (λ d z. absurd (none-some d z)) ps (subst (λ (z : List ParamTree). EntriesWell (entries_of_params z)) same all_well) h.0
        of (Some def) q [] same h = absurd (untrue h)
        of (Some def) q (self ∷ ps) same h =
            block_once (Some (record { key = param_key self; ty = self.ty; is_in_guard = false }))
            (λ x z. subst (λ (y : InScope). Q → y.key ≡ K → ⊥) (same_Some (record { key = param_key self; ty = self.ty; is_in_guard = false }) x z) (subst ParamsAway same params_away).0) ps
            (well_second (entries_of self.pattern) (entries_of_params ps) (subst (λ (z : List ParamTree). EntriesWell (entries_of_params z)) same all_well)) h.0

    function_once : Once (lower.entire_function F body) (occ inside)
    function_once =
        once.scoped g L K about Q Free [] (answer_key body) true _ (occ inside)
        (once.more g L K about Q Free [] _ (0 + occ inside) (occ inside) (let r : 0 + occ inside ≤ occ inside = omega arith in r)
        (once.and_then g L K about Q Free [] _ _ 0 (occ inside) (params_once typed.0.params body.params params_are param_cells inner_cells) (λ z. entire_block)))

    -- ---- what is built
    abbrev last : BlockRest
    last = ending (Term.Goto 1) 0

    abbrev code : BlockRest × Building
    code = (lower.entire_function F body).build (body_ways 1) (lower.answer_scope F body) last (lower.start F body)

    abbrev total : Building → ℕ
    total x = counted.total F (once.borrows g L K about Q) (λ site value. refl) x

    first_free : slice_get code.1.blocks 0 ≡ Some None
    first_free = (function_once.adds.grows (body_ways 1) (lower.answer_scope F body) last (lower.start F body)).keeps 0 (omega arith)

    all_counted : total (lower.built F body) ≡ function_once.count
    all_counted =
        let f = counted.filled_total F (once.borrows g L K about Q) (λ site value. refl) Kind.Plain 0 code.0 code.1 first_free in
        let a = function_once.adds.adds (body_ways 1) (lower.answer_scope F body) last (lower.start F body) in
        let z = counted.if_end_none F (once.borrows g L K about Q) (λ site value. refl) (lower.entire_function F body).has_end in
        let r : total (lower.built F body) ≡ function_once.count = omega (f, a, z, arith) in r

    begun_ok : (b : Bool) → lines.Ok F (W b) (lower.start F body)
    begun_ok b = lines.closed_ok F (W b) Kind.Plain (ending Term.Return (answer_key body)) (reserved (record { blocks = []; shared = λ i. [] })) (lines.reserved_ok F (W b) (record { blocks = []; shared = λ i. [] }) none) (tt, once.return_is g L K about Q b)
      where
        none : lines.Ok F (W b) (record { blocks = []; shared = λ i. [] })
        none = record { blocks = λ n m e. absurd (none-some (Some m) e) }

    built_ok : (b : Bool) → once.Sound g L K about Q b (lower.entire_function F body) → lines.Ok F (W b) (lower.built F body)
    built_ok b sound =
        let x = sound.lines (body_ways 1) refl (lower.answer_scope F body) last (lower.start F body) ((by_rule.entered g L K about Q (record { key = answer_key body; ty = body.answer }) (λ d. answer_cell), tt), tt, tt) (begun_ok b) (tt, once.goto_is g L K about Q b 1) in
        lines.filled_ok F (W b) Kind.Plain 0 code.0 code.1 x.0 x.1

    -- ---- so the local is well
    abbrev raw : Body
    raw = body_of p.items body

    stored_is : times_stored p.items raw L ≡ function_once.count
    stored_is = counts.blocks_stored g L K about Q (lower.built F body).blocks (built_ok false function_once.plain).blocks ∙ all_counted

    made_is : times_made p.items raw L ≡ function_once.count
    made_is = counts.blocks_made g L K about Q (lower.built F body).blocks ∙ all_counted

    unnamed : Q → function_once.count ≡ 0 → is_unnamed p.items raw L ≡ true
    unnamed q z = let it = counts.blocks_unnamed g L K about Q (lower.built F body).blocks (built_ok true (function_once.quiet tt q z)).blocks in both_so _ _ it.0 it.1

    zero_or_one : (n : ℕ) → n ≤ 1 → (n ≡ 0) ⊎ (n ≡ 1)
    zero_or_one zero h = inl refl
    zero_or_one (suc zero) h = inr refl
    zero_or_one (suc (suc n)) h = absurd (let never : ⊥ = omega (h, arith) in never)

    most_one : function_once.count ≤ 1
    most_one = let a = function_once.bound in let b = block_once_at_most in let r : function_once.count ≤ 1 = omega (a, b, arith) in r

    no_answer : L ≡ 0 → ⊥
    no_answer z =
        let first : (record { key = answer_key body; ty = body.answer }) ≡ e = same_Some (record { key = answer_key body; ty = body.answer }) e (sym (ap (slice_get (locals p.items body)) z) ∙ is) in
        untrue (sym (ap (types.is_reference p.items) (same_id body.answer typed.0.result typed.2.1.0) ∙ results_not p w n typed.0 typed.1) ∙ ap (λ (x : Entry). types.is_reference p.items x.ty) first ∙ ref)

    param_at : is_param p.items raw L ≡ true → 1 ≤ occ front
    param_at h =
        let low = ltb-true 0 L (and_first (nat_lt 0 L) _ h) in
        let high = leb-true L (length body.params) (and_second (nat_lt 0 L) _ h) in
        by L refl low high
      where
        by : (k : ℕ) → L ≡ k → 0 < k → k ≤ length body.params → 1 ≤ occ front
        by zero q low high = absurd (let never : ⊥ = omega (low, arith) in never)
        by (suc k) q low high =
            let here = of body.params k (omega (high, arith)) in
            let at = below_append (map entry_of_param body.params) (cells_of_params body.params) k (entry_of_param here.0) (slice_get-map entry_of_param body.params k ∙ ap (option_map entry_of_param) here.1) in
            let same : entry_of_param here.0 ≡ e = same_Some (entry_of_param here.0) e (sym (below_append front inside k (entry_of_param here.0) at) ∙ ap (slice_get (locals p.items body)) (sym q) ∙ is) in
            occurs_at front k (entry_of_param here.0) at (ap (λ (x : Entry). x.key) same)
          where
            of : (ps : List ParamTree) (k : ℕ) → k < length ps → (param : ParamTree) × (slice_get ps k ≡ Some param)
            of [] k h = absurd (let never : ⊥ = omega (h, arith) in never)
            of (param ∷ ps) zero h = (param, refl)
            of (param ∷ ps) (suc k) h = of ps k (omega (h, arith))

    param_none : is_param p.items raw L ≡ true → function_once.count ≡ 0
    param_none h =
        let a = param_at h in
        let b = occurs_once (front ++ inside) distinct.1 in
        let c = sums in
        let d = function_once.bound in
        let r : function_once.count ≡ 0 = omega (a, b, c, d, arith) in r

    well : holds_reference_well p.items raw L ≡ true
    well = by (is_param p.items raw L) refl
      where
        not_zero : not (L == 0) ≡ true
        not_zero = ap not (names.unequal L 0 no_answer)

        by : (b : Bool) → is_param p.items raw L ≡ b → (if b then times_stored p.items raw L == 0 else not (L == 0) && ((times_stored p.items raw L == 1) && (times_made p.items raw L == 1) || is_unnamed p.items raw L)) ≡ true
        by true q = names.equal_too (times_stored p.items raw L) 0 (stored_is ∙ param_none q)
        by false q = both_so _ _ not_zero (elim (zero_or_one function_once.count most_one) [
          | inl none ↦ either_second _ _ (unnamed q none)
          | inr one ↦ either_first _ _ (both_so _ _ (names.equal_too (times_stored p.items raw L) 1 (stored_is ∙ one)) (names.equal_too (times_made p.items raw L) 1 (made_is ∙ one)))
        ])

    -- where a reference is made, it is made once, and each line uses it well
    made_uses : (times_made p.items raw L ≡ 0 → ⊥) → (times_made p.items raw L ≡ 1) × EachUsesWell L raw
    made_uses some_made = by (is_param p.items raw L) refl (zero_or_one function_once.count most_one)
      where
        by : (b : Bool) → is_param p.items raw L ≡ b → (function_once.count ≡ 0) ⊎ (function_once.count ≡ 1) → (times_made p.items raw L ≡ 1) × EachUsesWell L raw
        by b q (inl none) = absurd (some_made (made_is ∙ none))
        by true q (inr one) = absurd (some_made (made_is ∙ param_none q))
        by false q (inr one) = (made_is ∙ one, counts.blocks_used g L K about Q (lower.built F body).blocks (built_ok false function_once.plain).blocks q)

  pub made_once : (L : ℕ) (e : Entry) → slice_get (locals p.items body) L ≡ Some e → types.is_reference p.items e.ty ≡ true → (times_made p.items (body_of p.items body) L ≡ 0 → ⊥) → (times_made p.items (body_of p.items body) L ≡ 1) × EachUsesWell L (body_of p.items body)
  made_once L e is ref some_made = made_uses L e is ref some_made

  -- ---- all locals
  of_local : (L : ℕ) → L < length (local_tys p.items body) → local_well p.items (body_of p.items body) L ≡ true
  of_local L h = by (slice_get (locals p.items body) L) refl
    where
      by : (o : Option Entry) → slice_get (locals p.items body) L ≡ o → local_well p.items (body_of p.items body) L ≡ true
      by None q = ap (λ (z : Option TyId). not (is_reference (option_and_then (type_at p.items) z)) || holds_reference_well p.items (body_of p.items body) L) (slice_get-map (λ (e : Entry). e.ty) (locals p.items body) L ∙ ap (option_map (λ (e : Entry). e.ty)) q)
      by (Some e) q =
          ap (λ (z : Option TyId). not (is_reference (option_and_then (type_at p.items) z)) || holds_reference_well p.items (body_of p.items body) L) (slice_get-map (λ (e : Entry). e.ty) (locals p.items body) L ∙ ap (option_map (λ (e : Entry). e.ty)) q)
          ∙ on (is_reference (type_at p.items e.ty)) refl
        where
          on : (b : Bool) → is_reference (type_at p.items e.ty) ≡ b → not b || holds_reference_well p.items (body_of p.items body) L ≡ true
          on true r = well L e q (same_reference (type_at p.items e.ty) ∙ r)
          on false r = refl

  all_under : (test : ℕ → Bool) (from count most : ℕ) → from + count ≤ most → ((L : ℕ) → L < most → test L ≡ true) → list_all test (range_with_len from count) ≡ true
  all_under test from zero most h all = refl
  all_under test from (suc count) most h all = both_so _ _ (all from (omega (h, arith))) (all_under test (from + 1) count most (omega (h, arith)) all)

  pub references_are_well : references_in_locals p.items (body_of p.items body) ≡ true
  references_are_well = all_under (local_well p.items (body_of p.items body)) 0 (length (local_tys p.items body)) (length (local_tys p.items body)) (omega arith) of_local
