-- The law: no line of a lowered body has a fault, where its program is well typed and its locals have none.
use Rattle.std.proofs.Common.{◌≡◌, inl, inr, ℕ, zero, suc, ◌==◌, ◌&&◌, ◌||◌, not, nat_lt, Bool, true, false, List, [], ◌∷◌, ◌++◌, length, map, Option, Some, None, slice_get, cond, refl, sym, ap, subst, ◌∙◌, arith}
use Rattle.std.proofs.lemmas.Bool.{lt-ltb, ltb-true, eqb-true}
use Rattle.std.proofs.lemmas.Option.{none-some, same_Some}
use Rattle.std.specs.Prelude.{unwrap_or, Contains}
use Rattle.std.specs.List.{flat_map, list_all, position_or_len}
use Rattle.std.proofs.lemmas.List.Folds.{find_at}
use Rattle.std.specs.Option.{option_map_or}
use Rattle.cfg_graph.specs.declared.graph.Block.{Block}
use Rattle.cfg_graph.specs.declared.graph.Kind.{Kind}
use Rattle.cfg_graph.specs.declared.statement.Stmt.{Stmt}
use Rattle.cfg_graph.specs.declared.terminator.Term.{Term}
use Rattle.cfg_graph.specs.Edges.{targets, lowers, is_turn}
use Rattle.cfg_graph.specs.Ready.{moves_out_well, moves_well}
use Rattle.cfg_graph.specs.Uses.{operands_of_stmt, operands_of_term}
use Rattle.cfg_graph.specs.WellFormed.Broken.{broken}
use Rattle.cfg_graph.specs.WellFormed.Cleanup.{edges_lower}
use Rattle.cfg_graph.specs.WellFormed.LineFaults.{term_numbers_exist}
use Rattle.mir_ty.specs.declared.def.ClosureDef.{ClosureDef}
use Rattle.mir_ty.specs.declared.def.Sig.{Sig}
use Rattle.mir_ty.specs.declared.ty.Ty.{Ty}
use Rattle.mir_ty.specs.declared.ty.TyId.{TyId}
use Rattle.mir_ty.specs.ItemTable.{type_at}
use Rattle.store_model.specs.Places.Place.{whole_local, is_enum}
use Rattle.typed_tree.specs.Nodes.{number_of, nodes_of, param_nodes, body_nodes}
use Rattle.typed_tree.specs.Tree as tree
use Rattle.typed_tree.specs.Tree.{Node, Form, ParamTree, BodyTree, ProgramTree}
use Rattle.src_meaning.specs.Forms.{LoopsAndGuards, Into}
use Rattle.src_meaning.specs.Locals.OfBody.{cells, cells_in, locals, local_of, local_tys, param_key, answer_key}
use Rattle.src_meaning.specs.Scopes.{Entry, innermost, with_entry}
use Rattle.src_meaning.specs.Shape.{shape}
use Rattle.well_typed.specs.Claim.{Claim, Holds, fact, nothing, ◌&◌}
use Rattle.well_typed.specs.Names.{do_rise}
use Rattle.well_typed.specs.Nodes as typing
use Rattle.well_typed.specs.Patterns as patterns
use Rattle.well_typed.specs.Patterns.{Matched, entries_of}
use Rattle.well_typed.specs.Places.{InScope, Context, Wanted, entry_with, form_of}
use Rattle.well_typed.specs.Program.{WellTyped, is_body, is_inside, closure_with}
use Rattle.well_typed.specs.Types as types
use Rattle.lower_rules.specs.Spots.{body_ways}
use Rattle.lower_rules.specs.Build.{LoweringFrame, BlockRest, MadeBlock, ending, reserved}
use Rattle.lower_rules.specs.Laws.{NamesItsLoops}
use Rattle.lower_rules.specs.Lower as lower
use Rattle.lower_rules.specs.Lower.{body_of}
use Rattle.lower_rules.proofs.Bodies.{lowered_is_ranked, lowered_keeps_to_cleanup}
use Rattle.lower_rules.proofs.Lines as lines
use Rattle.lower_rules.proofs.Stops as stops
use Rattle.lower_rules.proofs.Typed.{well_typed_names_loops}
use Rattle.lower_laws.specs.Lines.{LocalsHaveNoFault, LinesHaveNoFault, LoweredLinesHaveNoFault}
use Rattle.lower_rules.proofs.TypedLines as typed_lines
use Rattle.lower_laws.proofs.Base as base
use Rattle.lower_laws.proofs.Base.{Ground, untrue, and_first, and_second, same_id}
use Rattle.lower_laws.proofs.LineCells as cells_apart
use Rattle.lower_laws.proofs.Facts as facts
use Rattle.lower_laws.proofs.FormTypes as form_types
use Rattle.lower_laws.proofs.Forms as forms_of
use Rattle.lower_laws.proofs.Names as names
use Rattle.lower_laws.proofs.Patterns as pattern_lines
use Rattle.lower_laws.proofs.Rules as rules

-- ---- numbers that rise, one after the other, rise above all before them
abbrev FirstOver : ℕ → List ℕ → Bool
FirstOver n [] = true
FirstOver n (m ∷ ns) = nat_lt n m

all_over : (g : Ground) (n : ℕ) (ns : List Node) → do_rise (n ∷ map number_of ns) ≡ true → base.Over g n ns
all_over g n [] h = tt
all_over g n (m ∷ ns) h =
    let less = and_first (FirstOver n (map number_of (m ∷ ns))) _ h in
    let rest = and_second (FirstOver n (map number_of (m ∷ ns))) _ h in (
      less,
      further n (number_of m) ns less (all_over g (number_of m) ns rest),
    )
  where
    further : (n m : ℕ) (ns : List Node) → nat_lt n m ≡ true → base.Over g m ns → base.Over g n ns
    further n m [] less h = tt
    further n m (k ∷ ns) less h = (lt-ltb n (number_of k) (let a = ltb-true n m less in let b = ltb-true m (number_of k) h.0 in omega (a, b, arith)), further n m ns less h.1)

rising : (g : Ground) (ns : List Node) → do_rise (map number_of ns) ≡ true → base.Rise g ns
rising g [] h = tt
rising g (n ∷ ns) h = (all_over g (number_of n) ns h, rising g ns (and_second (FirstOver (number_of n) (map number_of ns)) _ h))

-- ---- the lines of a body
module _ (p : ProgramTree) (w : WellTyped p) (n : ℕ) (body : BodyTree) (at_n : slice_get p.bodies n ≡ Some body) (clean : LocalsHaveNoFault p.items (length p.bodies) (body_of p.items body)) where
  abbrev g : Ground
  g = record {
    items = p.items;
    local_of = local_of p.items body;
    tys = local_tys p.items body;
    bodies = length p.bodies;
    known = λ local id e. facts.local_known p.items (length p.bodies) id (clean local id e);
    callable = facts.callable p w;
    entered = facts.entered p w;
    parts = facts.parts_there p w;
    contents = facts.content_there p w;
    elements = facts.element_there p w;
    rows = facts.row_there p w;
    unique = facts.one_number p w;
    traits = facts.trait_there p w;
  }

  abbrev F : LoweringFrame
  F = base.F g

  typed : (sig : Sig) × (slice_get p.items.bodies n ≡ Some sig) × Holds (is_body p.items n sig body)
  typed = facts.body_at p w n body at_n

  rise : base.Rise g (body_nodes body)
  rise = rising g (body_nodes body) typed.2.1.1.1.0

  -- ---- each cell is found by its key
  all_cells : base.CellsOk g (locals p.items body)
  all_cells = each (locals p.items body) (λ i e is. cells_apart.finds (locals p.items body) i e is (cells_apart.all_distinct g body rise))
    where
      each : (es : List Entry) → ((i : ℕ) (e : Entry) → slice_get es i ≡ Some e → base.KeyIs g e.key e.ty) → base.CellsOk g es
      each [] all = tt
      each (e ∷ es) all = (all 0 e refl, each es (λ i d is. all (suc i) d is))

  answer_cell : base.KeyIs g (answer_key body) body.answer
  answer_cell = all_cells.0

  abbrev entry_of_param : ParamTree → Entry
  entry_of_param param = record { key = param_key param; ty = param.ty }

  abbrev cells_of_params : List ParamTree → List Entry
  cells_of_params [] = []
  cells_of_params (param ∷ params) = cells_in p.items (form_of param.pattern) ++ cells_of_params params

  front_cells : base.CellsOk g (map entry_of_param body.params ++ cells_of_params body.params)
  front_cells = base.cells_first g (map entry_of_param body.params ++ cells_of_params body.params) (cells_in p.items (form_of body.block)) all_cells.1

  param_cells : base.CellsOk g (map entry_of_param body.params)
  param_cells = base.cells_first g (map entry_of_param body.params) (cells_of_params body.params) front_cells

  inner_cells : base.CellsOk g (cells_of_params body.params)
  inner_cells = base.cells_second g (map entry_of_param body.params) (cells_of_params body.params) front_cells

  block_cells : base.CellsOk g (cells_in p.items (form_of body.block))
  block_cells = base.cells_second g (map entry_of_param body.params ++ cells_of_params body.params) (cells_in p.items (form_of body.block)) all_cells.1

  -- ---- parameters
  abbrev whole : Matched
  whole = record { takes_all = true; may_move = true }

  abbrev NameOrWildcard : Form → Bool
  NameOrWildcard tree.Wildcard = true
  NameOrWildcard (tree.Binding name) = true
  NameOrWildcard _ = false

  abbrev ParamIs : TyId → ParamTree → Claim
  ParamIs ty param = fact (types.is_same param.ty ty) & patterns.pattern p.items whole param.ty param.pattern & fact (NameOrWildcard (form_of param.pattern) || not (types.is_reference p.items param.ty))

  abbrev ParamsAre : List TyId → List ParamTree → Claim
  ParamsAre [] [] = nothing
  ParamsAre (ty ∷ tys) (param ∷ params) = ParamIs ty param & ParamsAre tys params
  ParamsAre tys params = fact false

  -- the cells of a pattern whose own cell is that of its parameter
  pattern_cells : (q : Node) (want : TyId) → Holds (patterns.pattern p.items whole want q) → base.KeyIs g (number_of q) want → base.CellsOk g (cells_in p.items (form_of q)) → base.CellsOk g (cells p.items true q)
  pattern_cells (tree.node id at ty by tree.Wildcard) want h k d = base.by_never g ty (λ v. simp (v) d) (λ v. simp (v) d)
  pattern_cells (tree.node id at ty by (tree.Binding name)) want h k d = let key = subst (base.KeyIs g id) (sym (same_id ty want h.0)) k in base.by_never g ty (λ v. simp (v) (key, tt)) (λ v. simp (v) (key, tt))
  pattern_cells (tree.node id at ty by (tree.NumberPattern value)) want h k d = absurd (untrue (and_second _ _ h.1.0))
  pattern_cells (tree.node id at ty by (tree.TruthPattern value)) want h k d = absurd (untrue (and_second _ _ h.1.0))
  pattern_cells (tree.node id at ty by (tree.StructPattern fields)) want h k d = base.by_never g ty (λ v. simp (v) d) (λ v. simp (v) d)
  pattern_cells (tree.node id at ty by (tree.VariantPattern variant is_test fields)) want h k d = base.by_never g ty (λ v. simp (v) d) (λ v. simp (v) d)
  pattern_cells (tree.node id at ty by (tree.TuplePattern parts)) want h k d = base.by_never g ty (λ v. simp (v) d) (λ v. simp (v) d)
  pattern_cells (tree.node id at ty by (tree.ArrayPattern elements)) want h k d = base.by_never g ty (λ v. simp (v) d) (λ v. simp (v) d)
  pattern_cells (tree.node id at ty by (tree.OrPattern alternatives)) want h k d = base.by_never g ty (λ v. simp (v) d) (λ v. simp (v) d)
  pattern_cells (tree.node id at ty by other) want h k d = absurd (untrue h.1)

  params_sound : (tys : List TyId) (params : List ParamTree) → Holds (ParamsAre tys params) → base.CellsOk g (map entry_of_param params) → base.CellsOk g (cells_of_params params) → base.Sound g (lower.params_entered F params)
  params_sound tys [] h c d = base.nothing_done g
  params_sound [] (param ∷ params) h c d = absurd (untrue h)
  params_sound (ty ∷ tys) (param ∷ params) h c d =
      lines.changed_sound F (base.wanted g) (innermost (with_entry (entry_of_param param))) _ (rules.inner g (with_entry (entry_of_param param)) (lines.entry_keeps F (base.wanted g) (entry_of_param param) (λ x. c.0)))
      (base.and_then g _ _ (bound (shape p.items param.pattern).is_binding) (λ e. params_sound tys params h.1 c.1 (base.cells_second g (cells_in p.items (form_of param.pattern)) (cells_of_params params) d)))
    where
      bound : (b : Bool) → base.Sound g (lower.names_of_param F b ((shape p.items param.pattern).bindings (whole_local (param_key param))))
      bound true = base.nothing_done g
      bound false = rules.bind_sound g innermost (rules.inner g) _
          (pattern_lines.pattern_ok g param.pattern whole param.ty h.0.1.0 (pattern_cells param.pattern param.ty h.0.1.0 c.0 (base.cells_first g (cells_in p.items (form_of param.pattern)) (cells_of_params params) d)) (whole_local (param_key param)) (base.key_typed g (param_key param) param.ty c.0) (λ w. base.left_whole g (param_key param))).1

  abbrev entries_of_params : List ParamTree → List InScope
  entries_of_params params = flat_map (λ q. entries_of q.pattern) params

  keyed_append : (xs ys : List InScope) → names.Keyed g xs → names.Keyed g ys → names.Keyed g (xs ++ ys)
  keyed_append [] ys h k = k
  keyed_append (x ∷ xs) ys h k = (h.0, keyed_append xs ys h.1 k)

  keyed_second : (xs ys : List InScope) → names.Keyed g (xs ++ ys) → names.Keyed g ys
  keyed_second [] ys h = h
  keyed_second (x ∷ xs) ys h = keyed_second xs ys h.1

  params_keyed : (tys : List TyId) (params : List ParamTree) → Holds (ParamsAre tys params) → base.CellsOk g (map entry_of_param params) → base.CellsOk g (cells_of_params params) → names.Keyed g (entries_of_params params)
  params_keyed tys [] h c d = tt
  params_keyed [] (param ∷ params) h c d = absurd (untrue h)
  params_keyed (ty ∷ tys) (param ∷ params) h c d =
      keyed_append (entries_of param.pattern) (entries_of_params params)
      (names.keyed g param.pattern whole param.ty h.0.1.0 (pattern_cells param.pattern param.ty h.0.1.0 c.0 (base.cells_first g (cells_in p.items (form_of param.pattern)) (cells_of_params params) d)))
      (params_keyed tys params h.1 c.1 (base.cells_second g (cells_in p.items (form_of param.pattern)) (cells_of_params params) d))

  params_are : Holds (ParamsAre typed.0.params body.params)
  params_are = typed.2.1.1.0

  -- ---- the block
  abbrev IsBlock : Form → Bool
  IsBlock (tree.Block statements tail) = true
  IsBlock _ = false

  -- a block has no cell of its own
  own_cells : (q : Node) → IsBlock (form_of q) ≡ true → base.CellsOk g (cells_in p.items (form_of q)) → base.CellsOk g (cells p.items false q)
  own_cells (tree.node id at ty by (tree.Block stmts tail)) h c = base.by_never g ty (λ v. simp (v) c) (λ v. simp (v) c)
  own_cells (tree.node id at ty by other) h c = absurd (untrue h)

  in_scope : (es : List InScope) → names.Keyed g es → (key : ℕ) (e : InScope) → entry_with key es ≡ Some e → base.Typed g (whole_local key) e.ty
  in_scope [] h key e is = absurd (none-some e is)
  in_scope (d ∷ es) h key e is = by (in_scope es h.1 key e) (d.key == key) refl is
    where
      by : (entry_with key es ≡ Some e → base.Typed g (whole_local key) e.ty) → (b : Bool) → (d.key == key) ≡ b → cond b (Some d) (entry_with key es) ≡ Some e → base.Typed g (whole_local key) e.ty
      by again true q k =
          subst (λ (z : InScope). base.Typed g (whole_local key) z.ty) (same_Some d e k)
          (subst (λ (z : ℕ). base.Typed g (whole_local z) d.ty) (eqb-true d.key key q) (base.key_typed g d.key d.ty h.0))
      by again false q k = again k

  abbrev context : Option InScope → List ParamTree → Context
  context closure params = record { items = p.items; entries = entries_of_params params; closure = closure; loops = []; answer = body.answer }

  abbrev around : LoopsAndGuards
  around = lower.around_body F body

  -- what is known of a closure's value
  abbrev SelfOk : Option InScope → Type 0
  SelfOk closure = (e : InScope) → closure ≡ Some e → base.KeyIs g e.key e.ty × ((ty : Ty) → type_at p.items e.ty ≡ Some ty → (is_enum p.items ty ≡ false) × (base.holds_back g (Some ty) ≡ false)) × base.Over g e.key (nodes_of body.block)

  block_fine : (closure : Option InScope) → SelfOk closure → (params : List ParamTree) → names.Keyed g (entries_of_params params) → base.Fine g (context closure params) around (nodes_of body.block)
  block_fine closure self params keyed = record {
    around = record {
      names = in_scope (entries_of_params params) keyed;
      self = λ e is. base.key_typed g e.key e.ty (self e is).0;
      captures = λ e ty is known. ((self e is).1 ty known).0;
      lets_go = λ key e is out. base.left_whole g key;
      self_lets_go = λ e is. base.left_whole g e.key;
      captured_out = λ e ty is known. ((self e is).1 ty known).1;
      answer = λ m. answer_cell;
      loops = λ loop l is. absurd (none-some l is);
    };
    fresh = tt;
    apart = over closure refl;
  }
    where
      over : (o : Option InScope) → closure ≡ o → base.SelfOver g o (nodes_of body.block)
      over None q = tt
      over (Some e) q = (self e q).2

  block_sound : (closure : Option InScope) → SelfOk closure → (params : List ParamTree) → names.Keyed g (entries_of_params params) → Holds (typing.typed (context closure params) (Wanted body.answer) body.block) → base.Sound g ((lower.lower F body.block).evaluates around false (Into (answer_key body)))
  block_sound closure self params keyed h =
      let k = forms_of.node_good g (context closure params) body.block (Wanted body.answer) refl h (base.rise_second g (param_nodes body.params) (nodes_of body.block) rise) in
      k.evaluates false (own_cells body.block typed.2.1.1.1.1.1.0 block_cells) around (block_fine closure self params keyed) false (Into (answer_key body))
      (λ m. elim (form_types.wanted_fits g (context closure params) body.answer body.block h) [
        | inl same ↦ subst (base.KeyIs g (answer_key body)) (sym (k.ty_is ∙ same)) answer_cell
        | inr never ↦ absurd (base.never_and_made g (lower.lower F body.block).head.ty (subst (base.Never g) (sym k.ty_is) never) m)
      ])

  below_head : (q : Node) (rest ys : List Node) → base.Below g (nodes_of q ++ rest) ys → base.Over g (number_of q) ys
  below_head (tree.node id at ty by form) rest ys h = h.0

  -- the place of a closure's value
  self_ok : (def : ClosureDef) (self : ParamTree) (params : List ParamTree) → closure_with p.items n ≡ Some def → body.params ≡ self ∷ params → SelfOk (Some (record { key = param_key self; ty = self.ty; is_in_guard = false }))
  self_ok def self params is ps e same =
      subst (λ (z : InScope). base.KeyIs g z.key z.ty × ((ty : Ty) → type_at p.items z.ty ≡ Some ty → (is_enum p.items ty ≡ false) × (base.holds_back g (Some ty) ≡ false)) × base.Over g z.key (nodes_of body.block))
      (same_Some (record { key = param_key self; ty = self.ty; is_in_guard = false }) e same) (cell, not_enum, over)
    where
      cell : base.KeyIs g (param_key self) self.ty
      cell = (subst (λ (z : List ParamTree). base.CellsOk g (map entry_of_param z)) ps param_cells).0

      over : base.Over g (param_key self) (nodes_of body.block)
      over = below_head self.pattern (param_nodes params) (nodes_of body.block) (subst (λ (z : List ParamTree). base.Below g (param_nodes z) (nodes_of body.block)) ps (base.rise_across g (param_nodes body.params) (nodes_of body.block) rise))

      i : ℕ
      i = position_or_len (λ (def : ClosureDef). def.body == n) p.items.closures

      at_i : slice_get p.items.closures i ≡ Some def
      at_i = sym (find_at (λ (def : ClosureDef). def.body == n) p.items.closures) ∙ is

      begins : (sig : Sig) × (slice_get p.items.bodies def.body ≡ Some sig) × ((ty : TyId) × (tys : List TyId) × (k : ℕ) × (sig.params ≡ ty ∷ tys) × (type_at p.items ty ≡ Some (Ty.Closure k)))
      begins = facts.closure_first p w n def i at_i

      first_ty : (tys : List TyId) → Holds (ParamsAre tys (self ∷ params)) → (ty : TyId) → slice_get tys 0 ≡ Some ty → self.ty ≡ ty
      first_ty [] h ty e = absurd (untrue h)
      first_ty (x ∷ tys) h ty e = same_id self.ty x h.0.0 ∙ same_Some x ty e

      own_ty : self.ty ≡ begins.2.0
      own_ty =
          let sig = same_Some begins.0 typed.0 (sym begins.1 ∙ ap (slice_get p.items.bodies) (eqb-true def.body n (pattern_lines.found_so (λ (def : ClosureDef). def.body == n) p.items.closures def is)) ∙ typed.1) in
          first_ty typed.0.params (subst (λ (z : List ParamTree). Holds (ParamsAre typed.0.params z)) ps params_are) begins.2.0 (ap (λ (s : Sig). slice_get s.params 0) (sym sig) ∙ ap (λ (l : List TyId). slice_get l 0) begins.2.3)

      not_enum : (ty : Ty) → type_at p.items self.ty ≡ Some ty → (is_enum p.items ty ≡ false) × (base.holds_back g (Some ty) ≡ false)
      not_enum ty known = subst (λ (z : Ty). (is_enum p.items z ≡ false) × (base.holds_back g (Some z) ≡ false)) (same_Some (Ty.Closure begins.2.2) ty (sym (ap (type_at p.items) own_ty ∙ begins.2.4) ∙ known)) (refl, refl)

  entire_block : base.Sound g ((lower.lower F body.block).evaluates around false (Into (answer_key body)))
  entire_block = of (closure_with p.items n) refl body.params refl typed.2.1.1.1.1.1.1
    where
      of : (o : Option ClosureDef) → closure_with p.items n ≡ o → (ps : List ParamTree) → body.params ≡ ps → Holds (is_inside p.items o body ps) → base.Sound g ((lower.lower F body.block).evaluates around false (Into (answer_key body)))
      of None q ps e h = block_sound None (λ d same. absurd (none-some d same)) ps (subst (λ (z : List ParamTree). names.Keyed g (entries_of_params z)) e (params_keyed typed.0.params body.params params_are param_cells inner_cells)) h.0
      of (Some def) q [] e h = absurd (untrue h)
      of (Some def) q (self ∷ params) e h =
          block_sound (Some (record { key = param_key self; ty = self.ty; is_in_guard = false })) (self_ok def self params q e) params
          (keyed_second (entries_of self.pattern) (entries_of_params params) (subst (λ (z : List ParamTree). names.Keyed g (entries_of_params z)) e (params_keyed typed.0.params body.params params_are param_cells inner_cells))) h.0

  function_sound : base.Sound g (lower.entire_function F body)
  function_sound = base.scoped g (answer_key body) true _ (base.and_then g _ _ (params_sound typed.0.params body.params params_are param_cells inner_cells) (λ e. entire_block))

  -- ---- its blocks
  abbrev W : lines.Wanted F
  W = base.wanted g

  abbrev last : BlockRest
  last = ending (Term.Goto 1) 0

  begun_ok : lines.Ok F W (lower.start F body)
  begun_ok = lines.closed_ok F W Kind.Plain (ending Term.Return (answer_key body)) (reserved (record { blocks = []; shared = λ i. [] })) (lines.reserved_ok F W (record { blocks = []; shared = λ i. [] }) none) (tt, (typed_lines.return_ok p.items (length p.bodies) (base.B g), refl))
    where
      none : lines.Ok F W (record { blocks = []; shared = λ i. [] })
      none = record { blocks = λ n m e. absurd (none-some (Some m) e) }

  built_ok : lines.Ok F W (lower.built F body)
  built_ok =
      let x = function_sound.lines (body_ways 1) refl (lower.answer_scope F body) last (lower.start F body) (((λ d. answer_cell), tt), tt, tt) begun_ok (tt, (typed_lines.goto_ok p.items (length p.bodies) (base.B g) 1, refl)) in
      let code = (lower.entire_function F body).build (body_ways 1) (lower.answer_scope F body) last (lower.start F body) in
      lines.filled_ok F W Kind.Plain 0 code.0 code.1 x.0 x.1

  line_in : (stmts : List Stmt) (term : Term) (nodes : List ℕ) → lines.BlockOk F W stmts term nodes → (line : ℕ) (stmt : Stmt) → slice_get stmts line ≡ Some stmt → base.StmtOk g stmt
  line_in [] term nodes h line stmt e = absurd (none-some stmt e)
  line_in (x ∷ stmts) term [] h line stmt e = absurd h
  line_in (x ∷ stmts) term (n ∷ nodes) h zero stmt e = subst (base.StmtOk g) (same_Some x stmt e) h.0.0
  line_in (x ∷ stmts) term (n ∷ nodes) h (suc line) stmt e = line_in stmts term nodes h.1 line stmt e

  term_in : (stmts : List Stmt) (term : Term) (nodes : List ℕ) → lines.BlockOk F W stmts term nodes → base.TermOk g term
  term_in [] term [] h = absurd h
  term_in [] term (n ∷ nodes) h = h
  term_in (x ∷ stmts) term [] h = absurd h
  term_in (x ∷ stmts) term (n ∷ nodes) h = term_in stmts term nodes h.1

  from_mapped : {X Y : Type 0} (f : X → Y) (xs : List X) (n : ℕ) (y : Y) → slice_get (map f xs) n ≡ Some y → (x : X) × (slice_get xs n ≡ Some x) × (f x ≡ y)
  from_mapped f [] n y e = absurd (none-some y e)
  from_mapped f (x ∷ xs) zero y e = (x, refl, same_Some (f x) y e)
  from_mapped f (x ∷ xs) (suc n) y e = from_mapped f xs n y e

  abbrev Clean : Block → Type 0
  Clean block = ((line : ℕ) (stmt : Stmt) → slice_get block.stmts line ≡ Some stmt → base.StmtOk g stmt) × base.TermOk g block.term

  of_blocks : (k : ℕ) (block : Block) → slice_get (body_of p.items body).blocks k ≡ Some block → Clean block
  of_blocks k block e = let h = from_mapped _ (lower.built F body).blocks k block e in by_made h.0 h.1 h.2
    where
      by_made : (o : Option MadeBlock) → slice_get (lower.built F body).blocks k ≡ Some o → (unwrap_or o lower.unmade).block ≡ block → Clean block
      by_made None q h = subst Clean h ((λ line stmt d. absurd (none-some stmt d)), (typed_lines.return_ok p.items (length p.bodies) (base.B g), refl))
      by_made (Some m) q h = subst Clean h (line_in m.block.stmts m.block.term m.nodes (built_ok.blocks k m q), term_in m.block.stmts m.block.term m.nodes (built_ok.blocks k m q))

  -- ---- what stands behind a store of a value of type `!`: nothing but the way to the block that returns
  abbrev pub Stands : List Stmt → Term → Type 0
  Stands [] term = Unit {0}
  Stands (stmt ∷ stmts) term = stops.Behind F (λ key. ⊥) stmt stmts term × Stands stmts term

  stands_in : (stmts : List Stmt) (term : Term) (nodes : List ℕ) → lines.BlockOk F W stmts term nodes → Stands stmts term
  stands_in [] term nodes h = tt
  stands_in (x ∷ stmts) term [] h = absurd h
  stands_in (x ∷ stmts) term (n ∷ nodes) h = (h.0.1, stands_in stmts term nodes h.1)

  pub stands_behind : (k : ℕ) (block : Block) → slice_get (body_of p.items body).blocks k ≡ Some block → Stands block.stmts block.term
  stands_behind k block e = let h = from_mapped _ (lower.built F body).blocks k block e in by_made h.0 h.1 h.2
    where
      by_made : (o : Option MadeBlock) → slice_get (lower.built F body).blocks k ≡ Some o → (unwrap_or o lower.unmade).block ≡ block → Stands block.stmts block.term
      by_made None q h = subst (λ (b : Block). Stands b.stmts b.term) h tt
      by_made (Some m) q h = subst (λ (b : Block). Stands b.stmts b.term) h (stands_in m.block.stmts m.block.term m.nodes (built_ok.blocks k m q))

  -- ---- edges
  named : NamesItsLoops body
  named = well_typed_names_loops p w n body at_n

  all_pass : (test : ℕ → Bool) (xs : List ℕ) → ((m : ℕ) → Contains xs m → test m ≡ true) → list_all test xs ≡ true
  all_pass test [] h = refl
  all_pass test (x ∷ xs) h = both (test x) _ (h x (0, omega arith, refl)) (all_pass test xs (λ m c. h m (suc c.0, omega (arith, c.1), c.2)))
    where
      both : (a b : Bool) → a ≡ true → b ≡ true → a && b ≡ true
      both true b e d = d
      both false b e d = e

  edges_exist : (k : ℕ) (block : Block) → slice_get (body_of p.items body).blocks k ≡ Some block → list_all (λ m. nat_lt m (length (body_of p.items body).blocks)) (targets block.term) ≡ true
  edges_exist k block e = all_pass (λ m. nat_lt m (length (body_of p.items body).blocks)) (targets block.term) (λ m c. lt-ltb m (length (body_of p.items body).blocks) ((lowered_keeps_to_cleanup p.items body named k block e).1 m c))

  edges_rank : (k : ℕ) (block : Block) → slice_get (body_of p.items body).blocks k ≡ Some block → edges_lower (body_of p.items body) block ≡ true
  edges_rank k block e = all_pass (λ m. option_map_or (lowers block) (slice_get (body_of p.items body).blocks m) true) (targets block.term) (λ m c. by m c (slice_get (body_of p.items body).blocks m) refl)
    where
      turns : (m : ℕ) → Contains (targets block.term) m → (to : Block) → slice_get (body_of p.items body).blocks m ≡ Some to → (b : Bool) → is_turn to ≡ b → b || nat_lt to.rank block.rank ≡ true
      turns m c to at true q = refl
      turns m c to at false q = lt-ltb to.rank block.rank (lowered_is_ranked p.items body named k m block to e c at q)

      by : (m : ℕ) → Contains (targets block.term) m → (o : Option Block) → slice_get (body_of p.items body).blocks m ≡ o → option_map_or (lowers block) o true ≡ true
      by m c None q = refl
      by m c (Some to) q = turns m c to q (is_turn to) refl

  numbers_same : (term : Term) → typed_lines.numbers_exist p.items (length p.bodies) (base.B g) term ≡ true → term_numbers_exist p.items (length p.bodies) term ≡ true
  numbers_same (Term.Call to callee args next unwind) h = h
  numbers_same (Term.Virtual to trait_no method args next unwind) h = h
  numbers_same other h = refl

  none_broken : (a b c d e : Bool) → a ≡ true → b ≡ true → c ≡ true → d ≡ true → e ≡ true → broken ((1, a) ∷ (2, b) ∷ (3, c) ∷ (4, d) ∷ (5, e) ∷ []) ≡ []
  none_broken true true true true true h1 h2 h3 h4 h5 = refl
  none_broken false b c d e h1 h2 h3 h4 h5 = absurd (untrue h1)
  none_broken true false c d e h1 h2 h3 h4 h5 = absurd (untrue h2)
  none_broken true true false d e h1 h2 h3 h4 h5 = absurd (untrue h3)
  none_broken true true true false e h1 h2 h3 h4 h5 = absurd (untrue h4)
  none_broken true true true true false h1 h2 h3 h4 h5 = absurd (untrue h5)

  both_so : (a b : Bool) → a ≡ true → b ≡ true → a && b ≡ true
  both_so true b e d = d
  both_so false b e d = e

  pub no_fault : LinesHaveNoFault p.items (length p.bodies) (body_of p.items body)
  no_fault k block e =
      let it = of_blocks k block e in (
        (λ line stmt d. (it.0 line stmt d).0),
        none_broken _ _ _ _ _ (both_so _ _ (numbers_same block.term it.1.0.0) (edges_exist k block e)) it.1.0.1 it.1.0.2 (edges_rank k block e) (lowered_keeps_to_cleanup p.items body named k block e).0,
      )

  -- ---- moves
  stmts_so : (test : Stmt → Bool) (stmts : List Stmt) → ((line : ℕ) (stmt : Stmt) → slice_get stmts line ≡ Some stmt → test stmt ≡ true) → list_all test stmts ≡ true
  stmts_so test [] h = refl
  stmts_so test (stmt ∷ stmts) h = both_so _ _ (h 0 stmt refl) (stmts_so test stmts (λ line later e. h (suc line) later e))

  blocks_so : (test : Block → Bool) (blocks : List Block) → ((k : ℕ) (block : Block) → slice_get blocks k ≡ Some block → test block ≡ true) → list_all test blocks ≡ true
  blocks_so test [] h = refl
  blocks_so test (block ∷ blocks) h = both_so _ _ (h 0 block refl) (blocks_so test blocks (λ k later e. h (suc k) later e))

  pub moves_are_well : moves_well p.items (body_of p.items body) ≡ true
  moves_are_well =
      both_so _ _
      (blocks_so (λ block. list_all (λ stmt. list_all (moves_out_well p.items (body_of p.items body)) (operands_of_stmt stmt)) block.stmts) (body_of p.items body).blocks
      (λ k block e. stmts_so (λ stmt. list_all (moves_out_well p.items (body_of p.items body)) (operands_of_stmt stmt)) block.stmts (λ line stmt d. ((of_blocks k block e).0 line stmt d).1)))
      (blocks_so (λ block. list_all (moves_out_well p.items (body_of p.items body)) (operands_of_term block.term)) (body_of p.items body).blocks (λ k block e. (of_blocks k block e).1.1))

pub lowered_lines_have_no_fault : LoweredLinesHaveNoFault
lowered_lines_have_no_fault program w n body at clean = no_fault program w n body at clean
