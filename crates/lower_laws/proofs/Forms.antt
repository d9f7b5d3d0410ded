-- What is lowered of a well typed node has well typed lines, and no end where the node is of type `!`: one line a form.
use Rattle.std.proofs.Common.{◌≡◌, inl, inr, ℕ, not, Bool, true, false, List, [], ◌∷◌, ◌++◌, Option, slice_get, refl, sym, ap, subst, ◌∙◌}
use Rattle.std.proofs.lemmas.Bool.{eqb-true}
use Rattle.std.proofs.lemmas.Option.{same_Some}
use Rattle.std.specs.Prelude.{option_and_then}
use Rattle.cfg_graph.specs.declared.graph.Body.{Body}
use Rattle.std.specs.List.{list_all}
use Rattle.mir_base.specs.declared.int_kind.IntKind.{IntKind}
use Rattle.mir_base.specs.declared.place_in_text.Pos.{Pos}
use Rattle.mir_base.specs.declared.trace.Why.{Why}
use Rattle.mir_ty.specs.declared.ty.Ty.{Ty}
use Rattle.mir_ty.specs.declared.ty.TyId.{TyId}
use Rattle.mir_ty.specs.Facts.{has_drop_impl}
use Rattle.store_model.specs.Effects as effects
use Rattle.store_model.specs.Effects.{OfTuple, OfArray, OfVariant, OfClosure}
use Rattle.store_model.specs.Places.Place.{whole_local}
use Rattle.typed_tree.specs.declared.node.Use.{Use}
use Rattle.typed_tree.specs.Nodes.{nodes_of, nodes_in, nodes_among, nodes_of_fields, nodes_if_any}
use Rattle.typed_tree.specs.Tree as tree
use Rattle.typed_tree.specs.Tree.{Node, Form, Nodes, no_node, a_node, Fields, no_field, a_field, MaybeNode, absent, present}
use Rattle.src_meaning.specs.Evaluation.{in_number_order}
use Rattle.src_meaning.specs.Forms.{Into, LoopsAndGuards, loop_destination, moved}
use Rattle.src_meaning.specs.Locals.OfBody.{cells, reached_cells, cells_in, all_cells, cells_of_fields, cells_if_any}
use Rattle.src_meaning.specs.Scopes.{Entry, Breaks, Continues, Returns, innermost}
use Rattle.src_meaning.specs.Shape.{NodeHead, head, Shape, kind_of, shape, shape_of}
use Rattle.src_meaning.specs.FieldKeys.{field_keys, moved_fields}
use Rattle.well_typed.specs.Claim.{Claim, Holds}
use Rattle.well_typed.specs.Nodes as typing
use Rattle.well_typed.specs.Patterns as patterns
use Rattle.well_typed.specs.Patterns.{Matched, entries_of}
use Rattle.well_typed.specs.Places as scopes
use Rattle.well_typed.specs.Places.{LoopAround, Context, Standing, Taken, Wanted, Passed, Base, Used, Stored, with_entries, within, loop_with, ty_of}
use Rattle.well_typed.specs.Types as types
use Rattle.lower_rules.specs.Build as build
use Rattle.lower_rules.specs.Build.{LoweringFrame, then_lower}
use Rattle.lower_rules.specs.Lower as lower
use Rattle.lower_rules.specs.Lower.{NodeLower}
use Rattle.lower_rules.proofs.KnownTypes.{bool_known, tuple_known, array_known, boxed_known, i32_known, signed_known}
use Rattle.lower_rules.proofs.Lines as lines
use Rattle.lower_rules.proofs.TypedLines as typed_lines
use Rattle.lower_laws.proofs.Base as base
use Rattle.lower_laws.proofs.Base.{Ground, untrue, and_first, and_second, either, same_id, found}
use Rattle.lower_laws.proofs.Rules as rules
use Rattle.lower_laws.proofs.Branches as branches
use Rattle.lower_laws.proofs.Names as names
use Rattle.lower_laws.proofs.Fields as taken_fields
use Rattle.lower_laws.proofs.MovedOut as moved_out
use Rattle.lower_laws.proofs.FormTypes.{made_as, wanted_fits, passed_fits, fits_itself, is_bool_or, unit_made, bool_made, int_at, never_too, made_not, compared_types, sized, boxes, adt_is, closure_is}
use Rattle.lower_laws.proofs.FormValues.{value, scoped_value, effect_value, fine_in, operands_value, unit_value, reached_place, variable_place, captured_place, field_place, content_place, fits_head, one_operand, two_operands, never_last}
use Rattle.lower_laws.proofs.FormEffects.{number_made, number_put, truth_put, unit_put_at, given_moved, SameTypes, given_elements, count_moved, called, not_drop_body, called_virtually, made_adt, wants_of}
use Rattle.lower_laws.proofs.FormPlaces.{index_good, assign_good, borrow_good, unsize_good}
use Rattle.lower_laws.proofs.FormStatements.{block_ended, block_type, TailGood, no_tail, StmtGood, StmtsGood, statement_keyed, fine_statement, behind_context, shape_same, shaped_for, parts_let}
use Rattle.lower_laws.proofs.FormBranching.{and_good, or_good, if_good, if_else_good, if_let_good, if_let_else_good, match_good, loop_good, while_good, while_let_good, break_good, return_good}

module _ (g : Ground) where
  abbrev F : LoweringFrame
  F = base.F g

  abbrev B : Body
  B = base.B g

  abbrev K : Context → Context
  K x = record x { items = g.items }

  abbrev L : Node → NodeLower
  L n = lower.lower F n

  abbrev S_of : Form → NodeHead → Shape
  S_of form h = shape_of g.items form h

  abbrev Cells : List Entry → Type 0
  Cells = base.CellsOk g

  abbrev Good : Context → Node → NodeLower → Type 0
  Good = rules.Good g

  -- a first argument and the others
  receiver_given : (x : Context) (receiver : Node) (args : Nodes) (tys : List TyId) → ((t : TyId) → Holds (typing.typed (K x) (Passed t) receiver) → Good x receiver (L receiver)) →
      ((ts : List TyId) → Holds (typing.arguments (K x) ts args) → rules.Operands g x (nodes_among args) (lower.lower_all F args) ts) → Holds (typing.first_and_rest (λ t. typing.typed (K x) (Passed t) receiver) (λ ts. typing.arguments (K x) ts args) tys) →
      Cells (cells g.items true receiver) → rules.Operands g x (nodes_of receiver ++ nodes_among args) (L receiver ∷ lower.lower_all F args) tys
  receiver_given x receiver args [] one rest h c = absurd (untrue h)
  receiver_given x receiver args (ty ∷ tys) one rest h c =
      rules.an_operand (nodes_of receiver) (nodes_among args) (L receiver) (lower.lower_all F args) ty tys (rules.operand_of g x receiver (L receiver) (one ty h.0) c ty (passed_fits g x ty receiver h.0)) (rest tys h.1)

  -- a place that may be moved out may be left gone
  reached_goes : (x : Context) (n : Node) → Good x n (L n) → scopes.may_move (K x) n ≡ true → Cells (reached_cells g.items n) → (a : LoopsAndGuards) → base.Fine g x a (nodes_of n) → ((L n).reaches a).has_end ≡ true → base.Left g ((shape g.items n).place a.aliases)
  reached_goes x n k w c a f e = subst (λ (z : Shape). base.Left g (z.place a.aliases)) k.shape_is (k.lets_go w c a f e)

  -- ---- the forms
  mutual
    pub node_good : (x : Context) (n : Node) (st : Standing) → moved_out.is_fair g st ≡ true → Holds (typing.typed (K x) st n) → base.Rise g (nodes_of n) → Good x n (L n)
    node_good x (tree.node id at ty by form) st fair h r = form_good form x id at ty by (moved_out.freed g x st fair ty by form h.0) h.1 r.1

    form_good : (form : Form) (x : Context) (id : ℕ) (at : Pos) (ty : TyId) (by : Option Use) → moved_out.Freed g x by form → Holds (typing.row (K x) id ty form) → base.Rise g (nodes_in form) → Good x (tree.node id at ty by form) (lower.lower_form F form (head id ty by) (S_of form (head id ty by)))
    form_good (tree.Number number) x id at ty by u h r =
        effect_value g x (tree.node id at ty by (tree.Number number)) (head id ty by) (S_of (tree.Number number) (head id ty by)) (λ site. effects.Put site (effects.Number number (kind_of g.items ty))) (record { id_is = refl; ty_is = refl; shape_is = refl; whole = λ a. refl; reached_so = λ c. c; cell = λ c m. (rw m at c).0 }) (number_made g ty number h) (λ key k. number_put g id ty number key k h)
    form_good (tree.Truth truth) x id at ty by u h r =
        effect_value g x (tree.node id at ty by (tree.Truth truth)) (head id ty by) (S_of (tree.Truth truth) (head id ty by)) (λ site. effects.Put site (effects.Truth truth)) (record { id_is = refl; ty_is = refl; shape_is = refl; whole = λ a. refl; reached_so = λ c. c; cell = λ c m. (rw m at c).0 }) (λ v. base.never_and_made g ty v (bool_made g ty h)) (λ key k. truth_put g id ty truth key k h)
    form_good tree.UnitValue x id at ty by u h r =
        effect_value g x (tree.node id at ty by tree.UnitValue) (head id ty by) (S_of tree.UnitValue (head id ty by)) (λ site. effects.Put site effects.UnitValue) (record { id_is = refl; ty_is = refl; shape_is = refl; whole = λ a. refl; reached_so = λ c. c; cell = λ c m. (rw m at c).0 }) (λ v. base.never_and_made g ty v (unit_made g ty h)) (λ key k. unit_put_at g id ty key k h)
    form_good tree.Ask x id at ty by u h r =
        effect_value g x (tree.node id at ty by tree.Ask) (head id ty by) (S_of tree.Ask (head id ty by)) effects.Ask (record { id_is = refl; ty_is = refl; shape_is = refl; whole = λ a. refl; reached_so = λ c. c; cell = λ c m. (rw m at c).0 }) (made_as g ty (Ty.Int IntKind.I32) (i32_known g.items ty h) refl) (λ key k n u. (typed_lines.ask_ok g.items g.bodies B _ ty (base.key_at g key ty (Ty.Int IntKind.I32) k (i32_known g.items ty h)) n u, refl))
    form_good (tree.Variable key) x id at ty by u h r =
        rules.place_good g x (tree.node id at ty by (tree.Variable key)) (head id ty by) (S_of (tree.Variable key) (head id ty by)) (λ around. build.nothing) (record { id_is = refl; ty_is = refl; shape_is = refl; marked = refl; is_place = refl; reached_so = λ o c. base.cells_second g _ (cells_in g.items (tree.Variable key)) c; cell = λ c m. (rw m at c).0; never = λ o c v. (rw v at c).0; leaves = λ c a. record { spares = tt }; sound = λ c a f. base.nothing_done g; place = λ c a f e. variable_place g x key ty h a f.around; moved = u; lets_go = λ w c a f e. moved_out.variable_goes g x key ty h w a f.around })
    form_good (tree.Captured closure part name) x id at ty by u h r =
        rules.place_good g x (tree.node id at ty by (tree.Captured closure part name)) (head id ty by) (S_of (tree.Captured closure part name) (head id ty by)) (λ around. build.nothing) (record { id_is = refl; ty_is = refl; shape_is = refl; marked = refl; is_place = refl; reached_so = λ o c. base.cells_second g _ (cells_in g.items (tree.Captured closure part name)) c; cell = λ c m. (rw m at c).0; never = λ o c v. (rw v at c).0; leaves = λ c a. record { spares = tt }; sound = λ c a f. base.nothing_done g; place = λ c a f e. captured_place g x closure part name ty h a f.around; moved = u; lets_go = λ w c a f e. moved_out.captured_goes g x closure part name ty h a f.around })
    form_good (tree.Field inner part) x id at ty by u h r =
        let b = node_good x inner Base refl h.0 r in
        rules.place_good g x (tree.node id at ty by (tree.Field inner part)) (head id ty by) (S_of (tree.Field inner part) (head id ty by)) (L inner).reaches (record {
          id_is = refl;
          ty_is = refl;
          shape_is = refl;
          marked = refl;
          is_place = refl;
          reached_so = λ o c. base.cells_second g _ (cells_in g.items (tree.Field inner part)) c;
          cell = λ c m. (rw m at c).0;
          never = λ o c v. (rw v at c).0;
          leaves = λ c a. b.reach_leaves c a;
          sound = λ c a f. b.reaches c a (fine_in g x a (tree.node id at ty by (tree.Field inner part)) (nodes_of inner) f);
          place = λ c a f e. field_place g ((shape g.items inner).place a.aliases) (ty_of inner) part ty (reached_place g x inner b c a (fine_in g x a (tree.node id at ty by (tree.Field inner part)) (nodes_of inner) f) e) h.1.0 h.1.1;
          moved = u;
          lets_go = λ w c a f e. let d = fine_in g x a (tree.node id at ty by (tree.Field inner part)) (nodes_of inner) f in
              moved_out.field_goes g ((shape g.items inner).place a.aliases) (ty_of inner) part (reached_place g x inner b c a d e) h.1.0 (base.not_true (has_drop_impl g.items (ty_of inner)) (and_first _ _ w)) (reached_goes x inner b (and_second (not (has_drop_impl g.items (ty_of inner))) _ w) c a d e);
        })
    form_good (tree.Deref inner) x id at ty by u h r =
        let b = node_good x inner Base refl h.0 r in
        rules.place_good g x (tree.node id at ty by (tree.Deref inner)) (head id ty by) (S_of (tree.Deref inner) (head id ty by)) (L inner).reaches (record {
          id_is = refl;
          ty_is = refl;
          shape_is = refl;
          marked = refl;
          is_place = refl;
          reached_so = λ o c. base.cells_second g _ (cells_in g.items (tree.Deref inner)) c;
          cell = λ c m. (rw m at c).0;
          never = λ o c v. (rw v at c).0;
          leaves = λ c a. b.reach_leaves c a;
          sound = λ c a f. b.reaches c a (fine_in g x a (tree.node id at ty by (tree.Deref inner)) (nodes_of inner) f);
          place = λ c a f e. content_place g ((shape g.items inner).place a.aliases) (ty_of inner) ty (reached_place g x inner b c a (fine_in g x a (tree.node id at ty by (tree.Deref inner)) (nodes_of inner) f) e) h.1;
          moved = u;
          lets_go = λ w c a f e. let d = fine_in g x a (tree.node id at ty by (tree.Deref inner)) (nodes_of inner) f in
              moved_out.content_goes g ((shape g.items inner).place a.aliases) (ty_of inner) (reached_place g x inner b c a d e) (base.not_true (types.is_reference g.items (ty_of inner)) (and_first _ _ w)) (moved_out.only_there g (types.inside_of g.items (ty_of inner)) _ h.1) (reached_goes x inner b (and_second (not (types.is_reference g.items (ty_of inner))) _ w) c a d e);
        })
    form_good (tree.Index inner index count) x id at ty by u h r =
        index_good g x inner index (node_good x inner Base refl h.0 (base.rise_first g (nodes_of inner) (nodes_of index) r)) (node_good x index Taken refl h.1.0 (base.rise_second g (nodes_of inner) (nodes_of index) r)) id at ty by count h.1.1.0 h.1.1.1 u
        (λ o c. base.cells_second g _ (cells_in g.items (tree.Index inner index count)) c) (λ c m. (rw m at c).0) (λ o c v. (rw v at c).0)
    form_good (tree.Not operand) x id at ty by u h r =
        let k = node_good x operand Taken refl h.0 r in
        operands_value g x id at ty by (tree.Not operand) (S_of (tree.Not operand) (head id ty by)) (L operand ∷ []) (ty_of operand ∷ []) (λ site. effects.Not site (moved id (L operand).head.id)) (record { id_is = refl; ty_is = refl; shape_is = refl; whole = λ a. refl; reached_so = λ c. c; cell = λ c m. (rw m at c).0 }) (λ o c. one_operand g x operand k (base.cells_second g _ (cells_in g.items (tree.Not operand)) c) (ty_of operand) (fits_itself g (ty_of operand)))
        (never_last g (tree.node id at ty by (tree.Not operand)) id ty (λ site. effects.Not site (moved id (L operand).head.id)) Ty.Bool (bool_known g.items ty h.1.1) refl)
        (λ given key l. (typed_lines.negated_truth g.items g.bodies B _ _ ty (ty_of operand) (base.key_at g key ty Ty.Bool l (bool_known g.items ty h.1.1)) (base.key_at g (L operand).head.id (ty_of operand) Ty.Bool given.0.0 (rules.bool_if_made g (ty_of operand) (is_bool_or g (ty_of operand) h.1.0) given.0.1)), refl))
    form_good (tree.Negate operand) x id at ty by u h r =
        let k = node_good x operand Taken refl h.0 r in
        let s = signed_known g.items ty h.1.1 in
        operands_value g x id at ty by (tree.Negate operand) (S_of (tree.Negate operand) (head id ty by)) (L operand ∷ []) (ty ∷ []) (λ site. effects.Negate site (moved id (L operand).head.id)) (record { id_is = refl; ty_is = refl; shape_is = refl; whole = λ a. refl; reached_so = λ c. c; cell = λ c m. (rw m at c).0 }) (λ o c. one_operand g x operand k (base.cells_second g _ (cells_in g.items (tree.Negate operand)) c) ty (inl (sym (same_id ty (ty_of operand) h.1.0))))
        (never_last g (tree.node id at ty by (tree.Negate operand)) id ty (λ site. effects.Negate site (moved id (L operand).head.id)) (Ty.Int s.0) s.1 refl)
        (λ given key l n u. (typed_lines.negate_ok g.items g.bodies B _ _ ty ty s.0 (base.key_at g key ty (Ty.Int s.0) l s.1) (base.key_at g (L operand).head.id ty (Ty.Int s.0) given.0.0 s.1) s.2 n u, refl))
    form_good (tree.Arithmetic operator left right) x id at ty by u h r =
        let k = node_good x left (Wanted ty) refl h.0 (base.rise_first g (nodes_of left) (nodes_of right) r) in
        let l = node_good x right (Wanted ty) refl h.1.0 (base.rise_second g (nodes_of left) (nodes_of right) r) in
        let s = int_at g ty h.1.1.0 in
        operands_value g x id at ty by (tree.Arithmetic operator left right) (S_of (tree.Arithmetic operator left right) (head id ty by)) (L left ∷ L right ∷ []) (ty ∷ ty ∷ []) (λ site. effects.Compute site operator (moved id (L left).head.id) (moved id (L right).head.id)) (record { id_is = refl; ty_is = refl; shape_is = refl; whole = λ a. refl; reached_so = λ c. c; cell = λ c m. (rw m at c).0 }) (λ o c. two_operands g x left right k l (base.cells_second g _ (cells_in g.items (tree.Arithmetic operator left right)) c) ty ty (wanted_fits g x ty left h.0) (wanted_fits g x ty right h.1.0))
        (never_last g (tree.node id at ty by (tree.Arithmetic operator left right)) id ty (λ site. effects.Compute site operator (moved id (L left).head.id) (moved id (L right).head.id)) (Ty.Int s.0) s.1 refl)
        (λ given key q n u. (typed_lines.math_ok g.items g.bodies B _ _ _ operator ty ty ty s.0 (base.key_at g key ty (Ty.Int s.0) q s.1) (base.key_at g (L left).head.id ty (Ty.Int s.0) given.0.0 s.1) (base.key_at g (L right).head.id ty (Ty.Int s.0) given.1.0.0 s.1) n u, refl))
    form_good (tree.Comparison operator left right) x id at ty by u h r =
        let k = node_good x left Taken refl h.0 (base.rise_first g (nodes_of left) (nodes_of right) r) in
        let l = node_good x right Taken refl h.1.0 (base.rise_second g (nodes_of left) (nodes_of right) r) in
        operands_value g x id at ty by (tree.Comparison operator left right) (S_of (tree.Comparison operator left right) (head id ty by)) (L left ∷ L right ∷ []) (ty_of left ∷ ty_of right ∷ []) (λ site. effects.Compare site operator (moved id (L left).head.id) (moved id (L right).head.id)) (record { id_is = refl; ty_is = refl; shape_is = refl; whole = λ a. refl; reached_so = λ c. c; cell = λ c m. (rw m at c).0 }) (λ o c. two_operands g x left right k l (base.cells_second g _ (cells_in g.items (tree.Comparison operator left right)) c) (ty_of left) (ty_of right) (fits_itself g (ty_of left)) (fits_itself g (ty_of right)))
        (never_last g (tree.node id at ty by (tree.Comparison operator left right)) id ty (λ site. effects.Compare site operator (moved id (L left).head.id) (moved id (L right).head.id)) Ty.Bool (bool_known g.items ty h.1.1.1) refl)
        (λ given key q. let t = compared_types g (ty_of left) (ty_of right) given.0.1 given.1.0.1 h.1.1.0 in (
          typed_lines.compared g.items g.bodies B _ _ _ operator ty (ty_of left) (ty_of right) t.0 t.0 (base.key_at g key ty Ty.Bool q (bool_known g.items ty h.1.1.1)) (base.key_at g (L left).head.id (ty_of left) t.0 given.0.0 t.1) (base.key_at g (L right).head.id (ty_of right) t.0 given.1.0.0 t.2) t.3
              (sized g (L left).head.id (ty_of left) t.0 given.0.0 t.1) (sized g (L right).head.id (ty_of right) t.0 given.1.0.0 t.2),
          refl,
        ))
    form_good (tree.And left right) x id at ty by u h r =
        and_good g x left right id at ty by h (node_good x left Taken refl h.0 (base.rise_first g (nodes_of left) (nodes_of right) r)) (node_good x right Taken refl h.1.0 (base.rise_second g (nodes_of left) (nodes_of right) r))
    form_good (tree.Or left right) x id at ty by u h r =
        or_good g x left right id at ty by h (node_good x left Taken refl h.0 (base.rise_first g (nodes_of left) (nodes_of right) r)) (node_good x right Taken refl h.1.0 (base.rise_second g (nodes_of left) (nodes_of right) r))
    form_good (tree.Assign target value_) x id at ty by u h r =
        assign_good g x target value_ (node_good x target Stored refl h.0 (base.rise_first g (nodes_of target) (nodes_of value_) r)) (node_good x value_ (Wanted (ty_of target)) refl h.1.1.0 (base.rise_second g (nodes_of target) (nodes_of value_) r)) id at ty by (record { id_is = refl; ty_is = refl; shape_is = refl; whole = λ a. refl; reached_so = λ c. c; cell = λ c m. (rw m at c).0 })
        (wanted_fits g x (ty_of target) value_ h.1.1.0) h.1.1.1 (λ o c. base.cells_second g _ (cells_in g.items (tree.Assign target value_)) c)
    form_good (tree.Call callee args) x id at ty by u h r =
        let sig = found (slice_get g.items.bodies callee) _ h.0 in
        operands_value g x id at ty by (tree.Call callee args) (S_of (tree.Call callee args) (head id ty by)) (lower.lower_all F args) sig.0.params (λ site. effects.Call site callee (lower.all_moved id (lower.lower_all F args))) (record { id_is = refl; ty_is = refl; shape_is = refl; whole = λ a. refl; reached_so = λ c. c; cell = λ c m. (rw m at c).0 }) (λ o c. args_given x args sig.0.params sig.2.1 r (base.cells_second g _ (cells_in g.items (tree.Call callee args)) c))
        (λ o c v. ((rw v at c).0, rules.call_last g id id callee (lower.all_moved id (lower.lower_all F args)) ty ((rw v at c).0) v))
        (λ given key k. called g id callee key ty sig.0 (lower.lower_all F args) sig.1 sig.2.0 (not_drop_body g callee h.1) given k)
    form_good (tree.MethodCall callee receiver args) x id at ty by u h r =
        let sig = found (slice_get g.items.bodies callee) _ h.0 in
        operands_value g x id at ty by (tree.MethodCall callee receiver args) (S_of (tree.MethodCall callee receiver args) (head id ty by)) (L receiver ∷ lower.lower_all F args) sig.0.params (λ site. effects.Call site callee (lower.all_moved id (L receiver ∷ lower.lower_all F args))) (record { id_is = refl; ty_is = refl; shape_is = refl; whole = λ a. refl; reached_so = λ c. c; cell = λ c m. (rw m at c).0 }) (λ o c. receiver_given x receiver args sig.0.params (λ t k. node_good x receiver (Passed t) refl k (base.rise_first g (nodes_of receiver) (nodes_among args) r)) (λ ts k. args_given x args ts k (base.rise_second g (nodes_of receiver) (nodes_among args) r) (base.cells_second g (cells g.items true receiver) (all_cells g.items args) (base.cells_second g _ (cells_in g.items (tree.MethodCall callee receiver args)) c))) sig.2.1 (base.cells_first g (cells g.items true receiver) (all_cells g.items args) (base.cells_second g _ (cells_in g.items (tree.MethodCall callee receiver args)) c)))
        (λ o c v. ((rw v at c).0, rules.call_last g id id callee (lower.all_moved id (L receiver ∷ lower.lower_all F args)) ty ((rw v at c).0) v))
        (λ given key k. called g id callee key ty sig.0 (L receiver ∷ lower.lower_all F args) sig.1 sig.2.0 (not_drop_body g callee h.1) given k)
    form_good (tree.ClosureCall callee closure args) x id at ty by u h r =
        let sig = found (slice_get g.items.bodies callee) _ h.0 in
        operands_value g x id at ty by (tree.ClosureCall callee closure args) (S_of (tree.ClosureCall callee closure args) (head id ty by)) (L closure ∷ lower.lower_all F args) sig.0.params (λ site. effects.Call site callee (lower.all_moved id (L closure ∷ lower.lower_all F args))) (record { id_is = refl; ty_is = refl; shape_is = refl; whole = λ a. refl; reached_so = λ c. c; cell = λ c m. (rw m at c).0 }) (λ o c. receiver_given x closure args sig.0.params (λ t k. node_good x closure (Passed t) refl k (base.rise_first g (nodes_of closure) (nodes_among args) r)) (λ ts k. args_given x args ts k (base.rise_second g (nodes_of closure) (nodes_among args) r) (base.cells_second g (cells g.items true closure) (all_cells g.items args) (base.cells_second g _ (cells_in g.items (tree.ClosureCall callee closure args)) c))) sig.2.1 (base.cells_first g (cells g.items true closure) (all_cells g.items args) (base.cells_second g _ (cells_in g.items (tree.ClosureCall callee closure args)) c)))
        (λ o c v. ((rw v at c).0, rules.call_last g id id callee (lower.all_moved id (L closure ∷ lower.lower_all F args)) ty ((rw v at c).0) v))
        (λ given key k. called g id callee key ty sig.0 (L closure ∷ lower.lower_all F args) sig.1 sig.2.0 (g.entered callee h.1) given k)
    form_good (tree.VirtualCall trait_no method receiver args) x id at ty by u h r =
        let def = found (slice_get g.items.traits trait_no) _ h in
        let sig = found (slice_get def.0.methods method) _ def.2 in
        operands_value g x id at ty by (tree.VirtualCall trait_no method receiver args) (S_of (tree.VirtualCall trait_no method receiver args) (head id ty by)) (L receiver ∷ lower.lower_all F args) sig.0.params (λ site. effects.CallVirtual site trait_no method (lower.all_moved id (L receiver ∷ lower.lower_all F args))) (record { id_is = refl; ty_is = refl; shape_is = refl; whole = λ a. refl; reached_so = λ c. c; cell = λ c m. (rw m at c).0 }) (λ o c. receiver_given x receiver args sig.0.params (λ t k. node_good x receiver (Passed t) refl k (base.rise_first g (nodes_of receiver) (nodes_among args) r)) (λ ts k. args_given x args ts k (base.rise_second g (nodes_of receiver) (nodes_among args) r) (base.cells_second g (cells g.items true receiver) (all_cells g.items args) (base.cells_second g _ (cells_in g.items (tree.VirtualCall trait_no method receiver args)) c))) sig.2.1 (base.cells_first g (cells g.items true receiver) (all_cells g.items args) (base.cells_second g _ (cells_in g.items (tree.VirtualCall trait_no method receiver args)) c)))
        (λ o c v. ((rw v at c).0, rules.virtual_last g id id trait_no method (lower.all_moved id (L receiver ∷ lower.lower_all F args)) ty ((rw v at c).0) v))
        (λ given key k. called_virtually g id trait_no method key ty sig.0 (L receiver ∷ lower.lower_all F args) (ap (option_and_then (λ def. slice_get def.methods method)) def.1 ∙ sig.1) sig.2.0 given k)
    form_good (tree.Make adt variant fields) x id at ty by u h r =
        let v = found (types.variant_at g.items adt variant) _ h.1 in
        operands_value g x id at ty by (tree.Make adt variant fields) (S_of (tree.Make adt variant fields) (head id ty by)) (lower.lower_fields F fields) (wants_of g x fields v.0.fields v.2.1) (λ site. effects.Build site (OfVariant adt variant) (moved_fields id (in_number_order (field_keys fields)))) (record { id_is = refl; ty_is = refl; shape_is = refl; whole = λ a. refl; reached_so = λ c. c; cell = λ c m. (rw m at c).0 }) (λ o c. fields_given x fields v.0.fields v.2.1 r (base.cells_second g _ (cells_in g.items (tree.Make adt variant fields)) c))
        (never_last g (tree.node id at ty by (tree.Make adt variant fields)) id ty (λ site. effects.Build site (OfVariant adt variant) (moved_fields id (in_number_order (field_keys fields)))) (Ty.Adt adt) (adt_is g ty adt h.0) refl)
        (λ given key k. made_adt g id ty adt variant fields v.0 key h.0 v.1 v.2.0 k (fields_keyed x fields v.0.fields v.2.1 r given))
    form_good (tree.Tuple parts) x id at ty by u h r =
        let tys = found (types.tuple_of g.items ty) _ h in
        operands_value g x id at ty by (tree.Tuple parts) (S_of (tree.Tuple parts) (head id ty by)) (lower.lower_all F parts) tys.0 (λ site. effects.Build site OfTuple (lower.all_moved id (lower.lower_all F parts))) (record { id_is = refl; ty_is = refl; shape_is = refl; whole = λ a. refl; reached_so = λ c. c; cell = λ c m. (rw m at c).0 }) (λ o c. parts_given x parts tys.0 tys.2 r (base.cells_second g _ (cells_in g.items (tree.Tuple parts)) c))
        (never_last g (tree.node id at ty by (tree.Tuple parts)) id ty (λ site. effects.Build site OfTuple (lower.all_moved id (lower.lower_all F parts))) (Ty.Tuple tys.0) (tuple_known g.items ty tys.0 tys.1) refl)
        (λ given key k. (typed_lines.tuple_made g.items g.bodies B _ ty _ tys.0 (base.key_at g key ty (Ty.Tuple tys.0) k (tuple_known g.items ty tys.0 tys.1)) (given_moved g id (lower.lower_all F parts) tys.0 given), base.moved_well g id (lower.keys_of (lower.lower_all F parts))))
    form_good (tree.Array elements) x id at ty by u h r =
        let e = found (types.array_of g.items ty) _ h in
        operands_value g x id at ty by (tree.Array elements) (S_of (tree.Array elements) (head id ty by)) (lower.lower_all F elements) (SameTypes g e.0.0 elements) (λ site. effects.Build site OfArray (lower.all_moved id (lower.lower_all F elements))) (record { id_is = refl; ty_is = refl; shape_is = refl; whole = λ a. refl; reached_so = λ c. c; cell = λ c m. (rw m at c).0 }) (λ o c. elements_given x elements e.0.0 e.2.1 r (base.cells_second g _ (cells_in g.items (tree.Array elements)) c))
        (never_last g (tree.node id at ty by (tree.Array elements)) id ty (λ site. effects.Build site OfArray (lower.all_moved id (lower.lower_all F elements))) (Ty.Array e.0.0 e.0.1) (array_known g.items ty e.0 e.1) refl)
        (λ given key k. (typed_lines.array_made g.items g.bodies B _ ty e.0.0 e.0.1 _ (base.key_at g key ty (Ty.Array e.0.0 e.0.1) k (array_known g.items ty e.0 e.1)) (count_moved g id elements ∙ eqb-true (patterns.count_of elements) e.0.1 e.2.0) (given_elements g id e.0.0 elements given), base.moved_well g id (lower.keys_of (lower.lower_all F elements))))
    form_good (tree.Closure closure captures) x id at ty by u h r =
        let def = found (slice_get g.items.closures closure) _ h.1 in
        operands_value g x id at ty by (tree.Closure closure captures) (S_of (tree.Closure closure captures) (head id ty by)) (lower.lower_all F captures) def.0.captures (λ site. effects.Build site (OfClosure closure) (lower.all_moved id (lower.lower_all F captures))) (record { id_is = refl; ty_is = refl; shape_is = refl; whole = λ a. refl; reached_so = λ c. c; cell = λ c m. (rw m at c).0 }) (λ o c. captures_given x captures def.0.captures def.2 r (base.cells_second g _ (cells_in g.items (tree.Closure closure captures)) c))
        (never_last g (tree.node id at ty by (tree.Closure closure captures)) id ty (λ site. effects.Build site (OfClosure closure) (lower.all_moved id (lower.lower_all F captures))) (Ty.Closure closure) (closure_is g ty closure h.0) refl)
        (λ given key k. (typed_lines.closure_made g.items g.bodies B _ ty closure def.0 _ (base.key_at g key ty (Ty.Closure closure) k (closure_is g ty closure h.0)) def.1 (given_moved g id (lower.lower_all F captures) def.0.captures given), base.moved_well g id (lower.keys_of (lower.lower_all F captures))))
    form_good (tree.NewBox content) x id at ty by u h r =
        let e = found (types.boxed_of g.items ty) _ h in
        let k = node_good x content (Wanted e.0) refl e.2.0 r in
        operands_value g x id at ty by (tree.NewBox content) (S_of (tree.NewBox content) (head id ty by)) (L content ∷ []) (e.0 ∷ []) (λ site. effects.NewBox site (moved id (L content).head.id)) (record { id_is = refl; ty_is = refl; shape_is = refl; whole = λ a. refl; reached_so = λ c. c; cell = λ c m. (rw m at c).0 }) (λ o c. one_operand g x content k (base.cells_second g _ (cells_in g.items (tree.NewBox content)) c) e.0 (wanted_fits g x e.0 content e.2.0))
        (never_last g (tree.node id at ty by (tree.NewBox content)) id ty (λ site. effects.NewBox site (moved id (L content).head.id)) (Ty.Boxed e.0) (boxed_known g.items ty e.0 e.1) refl)
        (λ given key q. let t = g.known (g.local_of (L content).head.id) e.0 given.0.0 in
        (typed_lines.boxed g.items g.bodies B _ _ ty e.0 t.0 (base.key_at g key ty (Ty.Boxed e.0) q (boxed_known g.items ty e.0 e.1)) (base.key_at g (L content).head.id e.0 t.0 given.0.0 t.1) t.2, refl))
    form_good (tree.Print operand) x id at ty by u h r =
        unit_value g x id at ty by (tree.Print operand) (S_of (tree.Print operand) (head id ty by)) operand effects.Print (record { id_is = refl; ty_is = refl; shape_is = refl; whole = λ a. refl; reached_so = λ c. c; cell = λ c m. (rw m at c).0 }) refl h.1.1 (node_good x operand Taken refl h.0 r) (λ o c. base.cells_second g _ (cells_in g.items (tree.Print operand)) c)
        (λ k m. (
          typed_lines.printed g.items g.bodies B _ (ty_of operand) (base.key_at g (L operand).head.id (ty_of operand) (Ty.Int IntKind.I32) k
              (elim (either (types.is_i32 g.items (ty_of operand)) (types.is_never g.items (ty_of operand)) h.1.0) [ inl is ↦ i32_known g.items (ty_of operand) is | inr v ↦ absurd (made_not g (ty_of operand) m v) ])),
          refl,
        ))
    form_good (tree.Forget operand) x id at ty by u h r =
        unit_value g x id at ty by (tree.Forget operand) (S_of (tree.Forget operand) (head id ty by)) operand effects.Forget (record { id_is = refl; ty_is = refl; shape_is = refl; whole = λ a. refl; reached_so = λ c. c; cell = λ c m. (rw m at c).0 }) refl h.1 (node_good x operand Taken refl h.0 r) (λ o c. base.cells_second g _ (cells_in g.items (tree.Forget operand)) c)
        (λ k m. let t = g.known (g.local_of (L operand).head.id) (ty_of operand) k in (typed_lines.forgotten g.items g.bodies B _ (ty_of operand) t.0 (base.key_at g (L operand).head.id (ty_of operand) t.0 k t.1) t.2, refl))
    form_good (tree.DropValue operand) x id at ty by u h r =
        let k = node_good x operand Taken refl h.0 r in
        let op = λ (o : Bool) (c : Cells (cells g.items o (tree.node id at ty by (tree.DropValue operand)))). rules.operand_of g x operand (L operand) k (base.cells_second g _ (cells_in g.items (tree.DropValue operand)) c) (ty_of operand) (fits_itself g (ty_of operand)) in
        value g x (tree.node id at ty by (tree.DropValue operand)) (head id ty by) (S_of (tree.DropValue operand) (head id ty by)) _ (record { id_is = refl; ty_is = refl; shape_is = refl; whole = λ a. refl; reached_so = λ c. c; cell = λ c m. (rw m at c).0 }) (λ o c v a own. absurd (base.never_and_made g ty v (unit_made g ty h.1)))
        (λ o c a own to. rules.leaves_scope g x.loops id own _ (base.leaves_then g x.loops _ _ (rules.operand_leaves g x (nodes_of operand) (L operand) (ty_of operand) (op o c) a) (λ e. rules.leaves_deliver g x.loops id (head id ty by) (λ site. effects.Put site effects.UnitValue) to)))
        (λ o c a f own to ar. base.scoped g id own _ (base.and_then g _ _ (rules.operand_sound g x (nodes_of operand) (L operand) (ty_of operand) (op o c) a (fine_in g x a (tree.node id at ty by (tree.DropValue operand)) (nodes_of operand) f)) (λ e. rules.unit_put g (head id ty by) to ar h.1)))
    form_good tree.Panic x id at ty by u h r =
        value g x (tree.node id at ty by tree.Panic) (head id ty by) (S_of tree.Panic (head id ty by)) _ (record { id_is = refl; ty_is = refl; shape_is = refl; whole = λ a. refl; reached_so = λ c. c; cell = λ c m. (rw m at c).0 }) (λ o c v a own. refl) (λ o c a own to. record { spares = tt }) (λ o c a f own to ar. lines.panics_sound F (base.wanted g) id Why.Explicit (λ u. ((typed_lines.panic_ok g.items g.bodies B u).0, refl)))
    form_good (tree.Borrow unique inner) x id at ty by u h r =
        borrow_good g x inner (node_good x inner (Used (scopes.borrow_by unique)) (moved_out.fair_borrow g unique) h.0 r) id at ty by unique (record { id_is = refl; ty_is = refl; shape_is = refl; whole = λ a. refl; reached_so = λ c. c; cell = λ c m. (rw m at c).0 }) h.1.1 (λ o c. base.cells_second g _ (cells_in g.items (tree.Borrow unique inner)) c)
    form_good (tree.Unsize trait_no operand) x id at ty by u h r =
        unsize_good g x operand (node_good x operand Taken refl h.0 r) id at ty by trait_no (record { id_is = refl; ty_is = refl; shape_is = refl; whole = λ a. refl; reached_so = λ c. c; cell = λ c m. (rw m at c).0 }) (boxes g ty (ty_of operand) trait_no h.1.1) (λ o c. base.cells_second g _ (cells_in g.items (tree.Unsize trait_no operand)) c)
    form_good (tree.Block stmts tail) x id at ty by u h r =
        let rs = base.rise_first g (nodes_among stmts) (nodes_if_any tail) r in
        let b = λ (c : Cells (all_cells g.items stmts)). behind_context g x stmts (λ d. typing.tail_of d tail) h.0 c in
        let one = λ (o : Bool) (c : Cells (cells g.items o (tree.node id at ty by (tree.Block stmts tail)))). base.cells_first g (all_cells g.items stmts) (cells_if_any g.items false tail) (base.cells_second g _ (cells_in g.items (tree.Block stmts tail)) c) in
        let two = λ (o : Bool) (c : Cells (cells g.items o (tree.node id at ty by (tree.Block stmts tail)))). base.cells_second g (all_cells g.items stmts) (cells_if_any g.items false tail) (base.cells_second g _ (cells_in g.items (tree.Block stmts tail)) c) in
        let st = λ (o : Bool) (c : Cells (cells g.items o (tree.node id at ty by (tree.Block stmts tail)))). stmts_good x stmts (λ d. typing.tail_of d tail) h.0 rs (one o c) in
        let tl = λ (o : Bool) (c : Cells (cells g.items o (tree.node id at ty by (tree.Block stmts tail)))). let y = b (one o c) in tail_good y.0 tail y.1 (base.rise_second g (nodes_among stmts) (nodes_if_any tail) r) (two o c) id ty by in
        value g x (tree.node id at ty by (tree.Block stmts tail)) (head id ty by) (S_of (tree.Block stmts tail) (head id ty by)) (lower.block F (head id ty by) (lower.lower_all F stmts) (lower.lower_if_any F tail)) (record { id_is = refl; ty_is = refl; shape_is = refl; whole = λ a. refl; reached_so = λ c. c; cell = λ c m. (rw m at c).0 })
        (λ o c v a own. rules.no_end_scope g id own (then_lower (lower.statements F a (lower.lower_all F stmts)) (lower.tail_of F (head id ty by) (lower.lower_if_any F tail) a (Into id))) (block_ended g ty stmts tail h.1 v (lower.statements F a (lower.lower_all F stmts)) (lower.tail_of F (head id ty by) (lower.lower_if_any F tail) a (Into id)) (λ e. (st o c).ended e a) (λ s. (tl o c).ended s v a (Into id))))
        (λ o c a own to. rules.leaves_scope g x.loops id own _ (base.leaves_then g x.loops _ _ ((st o c).leaves a) (λ e. subst (λ (z : List LoopAround). base.Leaves g z (lower.tail_of F (head id ty by) (lower.lower_if_any F tail) a to)) (b (one o c)).2 ((tl o c).leaves a to))))
        (λ o c a f own to ar. let d = fine_in g x a (tree.node id at ty by (tree.Block stmts tail)) (nodes_among stmts ++ nodes_if_any tail) f in
        base.scoped g id own _ (base.and_then g _ _ ((st o c).sound a (base.fine_first g x a (nodes_among stmts) (nodes_if_any tail) d))
        (λ e. (tl o c).sound a ((b (one o c)).3 a (nodes_if_any tail) (base.fine_first g x a (nodes_among stmts) (nodes_if_any tail) d) (base.fine_second g x a (nodes_among stmts) (nodes_if_any tail) d)) to (block_type g ty stmts tail h.1) ar)))
    form_good (tree.If condition consequent absent) x id at ty by u h r =
        let rr = base.rise_first g (nodes_of condition ++ nodes_of consequent) [] r in
        if_good g x condition consequent id at ty by h (node_good x condition Taken refl h.0 (base.rise_first g (nodes_of condition) (nodes_of consequent) rr)) (node_good x consequent Taken refl h.1.1.0 (base.rise_second g (nodes_of condition) (nodes_of consequent) rr))
    form_good (tree.If condition consequent (present otherwise)) x id at ty by u h r =
        let rr = base.rise_first g (nodes_of condition ++ nodes_of consequent) (nodes_of otherwise) r in
        if_else_good g x condition consequent otherwise id at ty by h (node_good x condition Taken refl h.0 (base.rise_first g (nodes_of condition) (nodes_of consequent) rr)) (node_good x consequent Taken refl h.1.1.0 (base.rise_second g (nodes_of condition) (nodes_of consequent) rr)) (node_good x otherwise Taken refl h.1.1.1.0 (base.rise_second g (nodes_of condition ++ nodes_of consequent) (nodes_of otherwise) r))
    form_good (tree.IfLet pattern scrutinee consequent absent) x id at ty by u h r =
        let y = with_entries (entries_of pattern) x in
        let n1 = nodes_of pattern ++ nodes_of scrutinee in
        let r1 = base.rise_first g (n1 ++ nodes_of consequent) [] r in
        let r2 = base.rise_first g n1 (nodes_of consequent) r1 in
        if_let_good g x pattern scrutinee consequent id at ty by h (node_good x scrutinee (Used Use.Borrow) refl h.0 (base.rise_second g (nodes_of pattern) (nodes_of scrutinee) r2)) (node_good y consequent Taken refl h.1.1.0 (base.rise_second g n1 (nodes_of consequent) r1))
    form_good (tree.IfLet pattern scrutinee consequent (present otherwise)) x id at ty by u h r =
        let y = with_entries (entries_of pattern) x in
        let n1 = nodes_of pattern ++ nodes_of scrutinee in
        let r1 = base.rise_first g (n1 ++ nodes_of consequent) (nodes_of otherwise) r in
        let r2 = base.rise_first g n1 (nodes_of consequent) r1 in
        if_let_else_good g x pattern scrutinee consequent otherwise id at ty by h (node_good x scrutinee (Used Use.Borrow) refl h.0 (base.rise_second g (nodes_of pattern) (nodes_of scrutinee) r2)) (node_good y consequent Taken refl h.1.1.0 (base.rise_second g n1 (nodes_of consequent) r1)) (node_good x otherwise Taken refl h.1.1.1.0 (base.rise_second g (n1 ++ nodes_of consequent) (nodes_of otherwise) r))
    form_good (tree.Match scrutinee arms) x id at ty by u h r =
        match_good g x scrutinee arms id at ty by h (node_good x scrutinee (Used Use.Borrow) refl h.0 (base.rise_first g (nodes_of scrutinee) (nodes_among arms) r)) (λ (o : Bool) (c : Cells (cells g.items o (tree.node id at ty by (tree.Match scrutinee arms)))). arms_good x (typing.matched_in false (K x) scrutinee) (ty_of scrutinee) ty arms h.1.0 (base.rise_second g (nodes_of scrutinee) (nodes_among arms) r) (base.cells_second g (reached_cells g.items scrutinee) (all_cells g.items arms) (base.cells_second g _ (cells_in g.items (tree.Match scrutinee arms)) c)) (and_first _ _ h.1.1.0))
    form_good (tree.Loop inner) x id at ty by u h r =
        let l : LoopAround = record { loop = id; ty = ty; has_value = true } in
        loop_good g x inner id at ty by h (node_good (within l x) inner Taken refl h.0 r)
    form_good (tree.While condition inner) x id at ty by u h r =
        let l : LoopAround = record { loop = id; ty = ty; has_value = false } in
        while_good g x condition inner id at ty by h (node_good (within l x) condition Taken refl h.0 (base.rise_first g (nodes_of condition) (nodes_of inner) r)) (node_good (within l x) inner Taken refl h.1.1.0 (base.rise_second g (nodes_of condition) (nodes_of inner) r))
    form_good (tree.WhileLet pattern scrutinee inner) x id at ty by u h r =
        let l : LoopAround = record { loop = id; ty = ty; has_value = false } in
        let z = within l x in
        let y = with_entries (entries_of pattern) z in
        let n1 = nodes_of pattern ++ nodes_of scrutinee in
        let r1 = base.rise_first g n1 (nodes_of inner) r in
        while_let_good g x pattern scrutinee inner id at ty by h (node_good z scrutinee (Used Use.Borrow) refl h.0 (base.rise_second g (nodes_of pattern) (nodes_of scrutinee) r1)) (node_good y inner Taken refl h.1.1.0 (base.rise_second g n1 (nodes_of inner) r))
    form_good (tree.Break loop absent) x id at ty by u h r =
        let l = found (loop_with loop x.loops) _ h.0 in
        scoped_value g x (tree.node id at ty by (tree.Break loop absent)) (head id ty by) (S_of (tree.Break loop absent) (head id ty by)) (λ a to. build.jump F id (Breaks loop) (lower.put_unit F (head id ty by) (loop_destination loop a.loops))) (record { id_is = refl; ty_is = refl; shape_is = refl; whole = λ a. refl; reached_so = λ c. c; cell = λ c m. (rw m at c).0 })
        (λ o c v a. base.and_false _)
        (λ o c a to. branches.jump_leaves g x.loops id (Breaks loop) _ (rules.leaves_deliver g x.loops id (head id ty by) (λ site. effects.Put site effects.UnitValue) (loop_destination loop a.loops)) (λ e. ((λ other is. subst (λ (z : LoopAround). base.Made g z.ty) (same_Some l.0 other (sym l.1 ∙ is)) (unit_made g l.0.ty l.2)), tt)))
        (λ o c a f to ar. lines.jump_sound F (base.wanted g) id (Breaks loop) _ (base.delivered g id (head id ty by) (λ site. effects.Put site effects.UnitValue) (loop_destination loop a.loops) l.0.ty (f.around.loops loop l.0 l.1 (unit_made g l.0.ty l.2)) (λ key k. unit_put_at g id l.0.ty key k l.2)))
    form_good (tree.Break loop (present value_)) x id at ty by u h r =
        let l = found (loop_with loop x.loops) _ h.0 in
        break_good g x loop value_ id at ty by h (node_good x value_ (Wanted l.0.ty) refl l.2.1 r)
    form_good (tree.Continue loop) x id at ty by u h r =
        value g x (tree.node id at ty by (tree.Continue loop)) (head id ty by) (S_of (tree.Continue loop) (head id ty by)) _ (record { id_is = refl; ty_is = refl; shape_is = refl; whole = λ a. refl; reached_so = λ c. c; cell = λ c m. (rw m at c).0 }) (λ o c v a own. refl) (λ o c a own to. record { spares = (tt, tt) }) (λ o c a f own to ar. lines.jump_sound F (base.wanted g) id (Continues loop) build.nothing (base.nothing_done g))
    form_good (tree.Return absent) x id at ty by u h r =
        scoped_value g x (tree.node id at ty by (tree.Return absent)) (head id ty by) (S_of (tree.Return absent) (head id ty by)) (λ a to. build.jump F id Returns (lower.put_unit F (head id ty by) a.answer)) (record { id_is = refl; ty_is = refl; shape_is = refl; whole = λ a. refl; reached_so = λ c. c; cell = λ c m. (rw m at c).0 }) (λ o c v a. base.and_false _)
        (λ o c a to. branches.jump_leaves g x.loops id Returns _ (rules.leaves_deliver g x.loops id (head id ty by) (λ site. effects.Put site effects.UnitValue) a.answer) (λ e. tt))
        (λ o c a f to ar. lines.jump_sound F (base.wanted g) id Returns _ (base.delivered g id (head id ty by) (λ site. effects.Put site effects.UnitValue) a.answer x.answer (f.around.answer (unit_made g x.answer h.0)) (λ key k. unit_put_at g id x.answer key k h.0)))
    form_good (tree.Return (present value_)) x id at ty by u h r =
        return_good g x value_ id at ty by h (node_good x value_ (Wanted x.answer) refl h.0 r)
    form_good other x id at ty by u h r = absurd (untrue h)

    -- ---- lists of operands
    args_given : (x : Context) (ns : Nodes) (tys : List TyId) → Holds (typing.arguments (K x) tys ns) → base.Rise g (nodes_among ns) → Cells (all_cells g.items ns) → rules.Operands g x (nodes_among ns) (lower.lower_all F ns) tys
    args_given x no_node [] h r c = rules.no_operand
    args_given x no_node (ty ∷ tys) h r c = absurd (untrue h)
    args_given x (a_node first rest) [] h r c = absurd (untrue h)
    args_given x (a_node first rest) (ty ∷ tys) h r c =
        rules.an_operand (nodes_of first) (nodes_among rest) (L first) (lower.lower_all F rest) ty tys
        (rules.operand_of g x first (L first) (node_good x first (Passed ty) refl h.0 (base.rise_first g (nodes_of first) (nodes_among rest) r)) (base.cells_first g (cells g.items true first) (all_cells g.items rest) c) ty (passed_fits g x ty first h.0))
        (args_given x rest tys h.1 (base.rise_second g (nodes_of first) (nodes_among rest) r) (base.cells_second g (cells g.items true first) (all_cells g.items rest) c))

    parts_given : (x : Context) (ns : Nodes) (tys : List TyId) → Holds (typing.made_parts (K x) tys ns) → base.Rise g (nodes_among ns) → Cells (all_cells g.items ns) → rules.Operands g x (nodes_among ns) (lower.lower_all F ns) tys
    parts_given x no_node [] h r c = rules.no_operand
    parts_given x no_node (ty ∷ tys) h r c = absurd (untrue h)
    parts_given x (a_node first rest) [] h r c = absurd (untrue h)
    parts_given x (a_node first rest) (ty ∷ tys) h r c =
        rules.an_operand (nodes_of first) (nodes_among rest) (L first) (lower.lower_all F rest) ty tys
        (rules.operand_of g x first (L first) (node_good x first (Wanted ty) refl h.0 (base.rise_first g (nodes_of first) (nodes_among rest) r)) (base.cells_first g (cells g.items true first) (all_cells g.items rest) c) ty (wanted_fits g x ty first h.0))
        (parts_given x rest tys h.1 (base.rise_second g (nodes_of first) (nodes_among rest) r) (base.cells_second g (cells g.items true first) (all_cells g.items rest) c))

    elements_given : (x : Context) (ns : Nodes) (ty : TyId) → Holds (typing.elements_of (K x) ty ns) → base.Rise g (nodes_among ns) → Cells (all_cells g.items ns) → rules.Operands g x (nodes_among ns) (lower.lower_all F ns) (SameTypes g ty ns)
    elements_given x no_node ty h r c = rules.no_operand
    elements_given x (a_node first rest) ty h r c =
        rules.an_operand (nodes_of first) (nodes_among rest) (L first) (lower.lower_all F rest) ty (SameTypes g ty rest)
        (rules.operand_of g x first (L first) (node_good x first (Wanted ty) refl h.0 (base.rise_first g (nodes_of first) (nodes_among rest) r)) (base.cells_first g (cells g.items true first) (all_cells g.items rest) c) ty (wanted_fits g x ty first h.0))
        (elements_given x rest ty h.1 (base.rise_second g (nodes_of first) (nodes_among rest) r) (base.cells_second g (cells g.items true first) (all_cells g.items rest) c))

    captures_given : (x : Context) (ns : Nodes) (tys : List TyId) → Holds (typing.captured (K x) tys ns) → base.Rise g (nodes_among ns) → Cells (all_cells g.items ns) → rules.Operands g x (nodes_among ns) (lower.lower_all F ns) tys
    captures_given x no_node [] h r c = rules.no_operand
    captures_given x no_node (ty ∷ tys) h r c = absurd (untrue h)
    captures_given x (a_node first rest) [] h r c = absurd (untrue h)
    captures_given x (a_node first rest) (ty ∷ tys) h r c =
        rules.an_operand (nodes_of first) (nodes_among rest) (L first) (lower.lower_all F rest) ty tys
        (rules.operand_of g x first (L first) (node_good x first Taken refl h.0 (base.rise_first g (nodes_of first) (nodes_among rest) r)) (base.cells_first g (cells g.items true first) (all_cells g.items rest) c) ty (inl (sym (same_id ty (ty_of first) (and_second _ _ h.1.0)))))
        (captures_given x rest tys h.1.1 (base.rise_second g (nodes_of first) (nodes_among rest) r) (base.cells_second g (cells g.items true first) (all_cells g.items rest) c))

    fields_given : (x : Context) (fs : Fields) (tys : List TyId) (h : Holds (typing.made_fields (K x) tys fs)) → base.Rise g (nodes_of_fields fs) → Cells (cells_of_fields g.items fs) → rules.Operands g x (nodes_of_fields fs) (lower.lower_fields F fs) (wants_of g x fs tys h)
    fields_given x no_field tys h r c = rules.no_operand
    fields_given x (a_field number value_ rest) tys h r c =
        let want = found (slice_get tys number) _ h.0 in
        rules.an_operand (nodes_of value_) (nodes_of_fields rest) (L value_) (lower.lower_fields F rest) want.0 (wants_of g x rest tys h.1)
        (rules.operand_of g x value_ (L value_) (node_good x value_ (Wanted want.0) refl want.2 (base.rise_first g (nodes_of value_) (nodes_of_fields rest) r)) (base.cells_first g (cells g.items true value_) (cells_of_fields g.items rest) c) want.0 (wanted_fits g x want.0 value_ want.2))
        (fields_given x rest tys h.1 (base.rise_second g (nodes_of value_) (nodes_of_fields rest) r) (base.cells_second g (cells g.items true value_) (cells_of_fields g.items rest) c))

    fields_keyed : (x : Context) (fs : Fields) (tys : List TyId) (h : Holds (typing.made_fields (K x) tys fs)) → base.Rise g (nodes_of_fields fs) → rules.Given g (lower.lower_fields F fs) (wants_of g x fs tys h) → taken_fields.OfFields g tys (field_keys fs)
    fields_keyed x no_field tys h r given = tt
    fields_keyed x (a_field number value_ rest) tys h r given =
        let want = found (slice_get tys number) _ h.0 in
        let k = node_good x value_ (Wanted want.0) refl want.2 (base.rise_first g (nodes_of value_) (nodes_of_fields rest) r) in
        ((want.0, want.1, subst (λ (z : ℕ). base.KeyIs g z want.0) k.id_is given.0.0), fields_keyed x rest tys h.1 (base.rise_second g (nodes_of value_) (nodes_of_fields rest) r) given.1)

    -- ---- blocks
    tail_good : (y : Context) (tail : MaybeNode) → Holds (typing.tail_of (K y) tail) → base.Rise g (nodes_if_any tail) → Cells (cells_if_any g.items false tail) → (id : ℕ) (ty : TyId) (by : Option Use) → TailGood g y tail id ty by
    tail_good y absent h r c id ty by = no_tail g y id ty by
    tail_good y (present n) h r c id ty by =
        let k = node_good y n Taken refl h r in record {
          ended = λ s v a to. k.ended false c (subst (base.Never g) (sym k.ty_is) (subst (base.Never g) (same_id ty (ty_of n) s) v)) a true to;
          leaves = λ a to. rules.leaves_back g y.loops _ (k.leaves false c a true to);
          sound = λ a f to so ar. rules.alone_sound g y n (L n) k false c a f to (branches.dest_fits g to ty (L n).head.ty (fits_head g y n k ty (inl (sym (same_id ty (ty_of n) so)))) ar.made);
        }

    stmts_good : (x : Context) (ns : Nodes) (behind : Context → Claim) → Holds (typing.statements (K x) ns behind) → base.Rise g (nodes_among ns) → Cells (all_cells g.items ns) → StmtsGood g x ns
    stmts_good x no_node behind h r c = record { ended = λ e a. absurd (untrue e); leaves = λ a. record { spares = tt }; sound = λ a f. base.nothing_done g }
    stmts_good x (a_node (tree.node id at ty by form) rest) behind h r c =
        let n = tree.node id at ty by form in
        let c1 = base.cells_first g (cells g.items true n) (all_cells g.items rest) c in
        let s = stmt_good x form id at ty by h.1.0 (base.rise_first g (nodes_of n) (nodes_among rest) r) c1 in
        let t = stmts_good (with_entries (typing.entries_in form) x) rest behind h.1.1 (base.rise_second g (nodes_of n) (nodes_among rest) r) (base.cells_second g (cells g.items true n) (all_cells g.items rest) c) in record {
          ended = λ e a. elim (either (typing.ends_by g.items form) (typing.ends_in g.items rest) e) [
            | inl one ↦ rules.no_end_first g ((L n).evaluates a false (Into (L n).head.id)) (lower.statements F a (lower.lower_all F rest)) (s.ended one a false (Into (L n).head.id))
            | inr other ↦ rules.no_end_second g ((L n).evaluates a false (Into (L n).head.id)) (lower.statements F a (lower.lower_all F rest)) (t.ended other a)
          ];
          leaves = λ a. base.leaves_then g x.loops ((L n).evaluates a false (Into (L n).head.id)) (lower.statements F a (lower.lower_all F rest)) (s.leaves a false (Into (L n).head.id)) (λ e. t.leaves a);
          sound = λ a f. base.and_then g ((L n).evaluates a false (Into (L n).head.id)) (lower.statements F a (lower.lower_all F rest)) (s.sound a (base.fine_first g x a (nodes_of n) (nodes_among rest) f) false (Into (L n).head.id))
              (λ e. t.sound a (fine_statement g x form a id at ty by (statement_keyed g x form id at ty by h.1.0 c1) (nodes_among rest) (base.fine_first g x a (nodes_of n) (nodes_among rest) f) (base.fine_second g x a (nodes_of n) (nodes_among rest) f)));
        }

    stmt_good : (x : Context) (form : Form) (id : ℕ) (at : Pos) (ty : TyId) (by : Option Use) → Holds (typing.statement (K x) form) → base.Rise g (nodes_of (tree.node id at ty by form)) → Cells (cells g.items true (tree.node id at ty by form)) → StmtGood g x (tree.node id at ty by form)
    stmt_good x (tree.Evaluate expression) id at ty by h r c =
        let k = node_good x expression Taken refl h r.1 in
        let ce = base.cells_second g _ (cells g.items true expression) c in
        record {
          ended = λ e a own to. rules.no_end_scope g id true (build.from_changed (lower.pending_if F true innermost (L expression).head) (then_lower ((L expression).evaluates a false (Into (L expression).head.id)) (build.change (lower.completed F innermost (L expression).head))))
              (rules.no_end_first g ((L expression).evaluates a false (Into (L expression).head.id)) (build.change (lower.completed F innermost (L expression).head)) (k.ended true ce (subst (base.Never g) (sym k.ty_is) (never_too g (ty_of expression) e)) a false (Into (L expression).head.id)));
          leaves = λ a own to. rules.leaves_scope g x.loops id true _ (rules.pended_leaves g x.loops true innermost (L expression).head _ (k.leaves true ce a false (Into (L expression).head.id)));
          sound = λ a f own to. base.scoped g id true _ (rules.pended g true innermost (L expression).head _ (rules.inner g) (λ d. k.cell ce (rules.made_by_drop g (L expression).head.ty d)) (k.evaluates true ce a (fine_in g x a (tree.node id at ty by (tree.Evaluate expression)) (nodes_of expression) f) false (Into (L expression).head.id) (λ v. k.cell ce v)));
        }
    stmt_good x (tree.Let p absent) id at ty by h r c =
        let keys = names.bound_keys g ((shape g.items p).bindings (whole_local 0)) (entries_of p) (names.named g p typing.whole (ty_of p) h.1.0 (whole_local 0)) (statement_keyed g x (tree.Let p absent) id at ty by h c) in
        record {
          ended = λ e. absurd (untrue e);
          leaves = λ a own to. branches.declared_leaves g x.loops ((L p).shape.bindings (whole_local 0));
          sound = λ a f own to. branches.declared_sound g ((L p).shape.bindings (whole_local 0)) (subst (λ (z : Shape). base.KeysOk g (z.bindings (whole_local 0))) (sym (shape_same g p)) keys);
        }
    stmt_good x (tree.Let (tree.node idp atp typ byp (tree.Binding name)) (present v)) id at ty by h r c =
        let p = tree.node idp atp typ byp (tree.Binding name) in
        let k = node_good x v (Wanted typ) refl h.0 (base.rise_second g (nodes_of p) (nodes_of v) r.1) in
        let cs = base.cells_second g _ (cells_in g.items (tree.Let p (present v))) c in
        let cv = base.cells_second g (cells g.items true p) (cells g.items false v) cs in
        let key : base.KeyIs g idp typ = (names.keyed g p typing.whole typ h.1.1.0 (base.cells_first g (cells g.items true p) (cells g.items false v) cs)).0 in
        record {
          ended = λ e a own to. rules.no_end_scope g id true (build.from_changed (lower.pending_if F true innermost (head idp typ byp)) (then_lower ((L v).evaluates a false (Into idp)) (build.change (lower.named F (head idp typ byp)))))
              (rules.no_end_first g ((L v).evaluates a false (Into idp)) (build.change (lower.named F (head idp typ byp))) (k.ended false cv (subst (base.Never g) (sym k.ty_is) (never_too g (ty_of v) (and_first _ _ e))) a false (Into idp)));
          leaves = λ a own to. rules.leaves_scope g x.loops id true _ (rules.leaves_changed g x.loops (lower.pending_if F true innermost (head idp typ byp)) _ (base.leaves_then g x.loops _ (build.change (lower.named F (head idp typ byp))) (k.leaves false cv a false (Into idp)) (λ e. record { spares = tt })));
          sound = λ a f own to. branches.let_name_sound g (head id ty by) (head idp typ byp) _ key
              (k.evaluates false cv a (base.fine_second g x a (nodes_of p) (nodes_of v) (fine_in g x a (tree.node id at ty by (tree.Let p (present v))) (nodes_of p ++ nodes_of v) f)) false (Into idp)
              (branches.dest_fits g (Into idp) typ (L v).head.ty (fits_head g x v k typ (wanted_fits g x typ v h.0)) (λ m. key)));
        }
    stmt_good x (tree.Let (tree.node idp atp typ byp other) (present v)) id at ty by h r c =
        let p = tree.node idp atp typ byp other in
        let cs = base.cells_second g _ (cells_in g.items (tree.Let p (present v))) c in
        let it = parts_let g x p v (head id ty by) (node_good x v Base refl h.0 (base.rise_second g (nodes_of p) (nodes_of v) r.1)) h.0 (typing.matched_in true (K x) v) (λ w. w) h.1.1.0 (and_first _ _ h.1.1.1.0) h.1.1.1.1.0 (base.cells_first g (cells g.items true p) (reached_cells g.items v) cs) (base.cells_second g (cells g.items true p) (reached_cells g.items v) cs) in
        record { ended = λ e a own to. it.ended e a; leaves = λ a own to. it.leaves a; sound = λ a f own to. it.sound a (base.fine_second g x a (nodes_of p) (nodes_of v) (fine_in g x a (tree.node id at ty by (tree.Let p (present v))) (nodes_of p ++ nodes_of v) f)) }
    stmt_good x other id at ty by h r c = absurd (untrue h)

    -- ---- arms
    arms_good : (x : Context) (m : Matched) (scrutinee want : TyId) (ns : Nodes) → Holds (typing.arms_of (K x) m scrutinee ns) → base.Rise g (nodes_among ns) → Cells (all_cells g.items ns) → list_all (types.fits g.items want) (typing.types_in ns) ≡ true → branches.Arms g x scrutinee want m.may_move (nodes_among ns) (lower.lower_all F ns)
    arms_good x m scrutinee want no_node h r c fit = branches.no_arm
    arms_good x m scrutinee want (a_node (tree.node id at ty by form) rest) h r c fit =
        let n = tree.node id at ty by form in
        branches.an_arm n (nodes_among rest) (L n) (lower.lower_all F rest)
        (arm_good x m scrutinee form id at ty by h.0 (base.rise_first g (nodes_of n) (nodes_among rest) r).1 (base.cells_second g _ (cells_in g.items form) (base.cells_first g (cells g.items true n) (all_cells g.items rest) c)))
        (base.fits g want ty (and_first (types.fits g.items want ty) _ fit))
        (arms_good x m scrutinee want rest h.1 (base.rise_second g (nodes_of n) (nodes_among rest) r) (base.cells_second g (cells g.items true n) (all_cells g.items rest) c) (and_second (types.fits g.items want ty) _ fit))

    arm_good : (x : Context) (m : Matched) (scrutinee : TyId) (form : Form) (id : ℕ) (at : Pos) (ty : TyId) (by : Option Use) → Holds (typing.arm (K x) m scrutinee (tree.node id at ty by form)) → base.Rise g (nodes_in form) → Cells (cells_in g.items form) → branches.ArmGood g x (tree.node id at ty by form) (L (tree.node id at ty by form)) scrutinee m.may_move
    arm_good x m scrutinee (tree.Arm p guard inner) id at ty by h r c =
        let y = with_entries (entries_of p) x in
        let z = with_entries (scopes.in_guard (entries_of p)) x in
        let n = tree.node id at ty by (tree.Arm p guard inner) in
        let r1 = base.rise_first g (nodes_of p ++ nodes_if_any guard) (nodes_of inner) r in
        let c1 = base.cells_first g (cells g.items true p ++ cells_if_any g.items true guard) (cells g.items false inner) c in
        let cp = base.cells_first g (cells g.items true p) (cells_if_any g.items true guard) c1 in
        let ci = base.cells_second g (cells g.items true p ++ cells_if_any g.items true guard) (cells g.items false inner) c in
        let k = node_good y inner Taken refl h.1.1.1.1.0 (base.rise_second g (nodes_of p ++ nodes_if_any guard) (nodes_of inner) r) in
        let same = same_id ty (ty_of inner) h.1.1.1.1.1 in
        let q = guard_good z guard h.1.1.1.0 (base.rise_second g (nodes_of p) (nodes_if_any guard) r1) (base.cells_second g (cells g.items true p) (cells_if_any g.items true guard) c1) in
        record {
          ended = λ v matched a to. branches.arm_ended g (head id ty by) (L p) (lower.lower_if_any F guard) (L inner) matched a to (k.ended false ci (subst (base.Never g) (same ∙ sym k.ty_is) v) a true to);
          leaves = λ matched a to. branches.arm_leaves g y z (head id ty by) (L p) (lower.lower_if_any F guard) (nodes_if_any guard) inner (L inner) matched a to q k ci refl;
          sound = λ matched t go a f to d.
              let all = fine_in g x a n ((nodes_of p ++ nodes_if_any guard) ++ nodes_of inner) f in
              let front = base.fine_first g x a (nodes_of p ++ nodes_if_any guard) (nodes_of inner) all in
              let fp = base.fine_first g x a (nodes_of p) (nodes_if_any guard) front in
              let it = shaped_for g p m scrutinee h.1.1.0 cp matched t go in
              let matches = subst (λ (s : Shape). names.Matches (s.bindings matched) (entries_of p)) (sym (shape_same g p)) (names.named g p m scrutinee h.1.1.0 matched) in
              branches.arm_sound g y z (head id ty by) (L p) (lower.lower_if_any F guard) (nodes_if_any guard) inner (L inner) matched a to it.0 it.1 q
              (names.fine_guard g x a p (nodes_if_any guard) ((L p).shape.bindings matched) r1 front matches it.1)
              k ci (names.fine_more g x a p (nodes_of inner) fp (base.fine_second g x a (nodes_of p ++ nodes_if_any guard) (nodes_of inner) all) (names.keyed g p m scrutinee h.1.1.0 cp))
              (branches.dest_fits g to ty (L inner).head.ty (inl (k.ty_is ∙ sym same)) d);
        }
    arm_good x m wanted other id at ty by h r c = absurd (untrue h)

    guard_good : (z : Context) (guard : MaybeNode) → Holds (typing.guarded (K z) guard) → base.Rise g (nodes_if_any guard) → Cells (cells_if_any g.items true guard) → branches.GuardOk g z (nodes_if_any guard) (lower.lower_if_any F guard)
    guard_good z absent h r c = branches.without
    guard_good z (present n) h r c = branches.with_one n (L n) (node_good z n Taken refl h.0 r) c (is_bool_or g (ty_of n) h.1) refl
