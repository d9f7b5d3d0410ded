-- What has a value but is no borrow is of a type in the table that is no reference and no trait object: so a reference
-- is named by a variable, and else only passed.
-- A loop is of the type of a break out of it, so what breaks carry is looked at too. One line a form.
use Rattle.std.proofs.Common.{◌≡◌, ◌⊎◌, inl, inr, ℕ, ◌==◌, ◌&&◌, not, Bool, true, false, List, [], ◌∷◌, ◌++◌, length, Option, is_none, slice_get, if◌then◌else◌, refl, sym, ◌∙◌, subst}
use Rattle.std.specs.List.{list_any}
use Rattle.std.proofs.lemmas.Bool.{false≢true}
use Rattle.mir_base.specs.declared.int_kind.IntKind.{IntKind}
use Rattle.mir_base.specs.declared.place_in_text.Pos.{Pos}
use Rattle.mir_ty.specs.declared.ty.TyId.{TyId}
use Rattle.mir_ty.specs.Facts.{is_copy}
use Rattle.mir_ty.specs.ItemTable.{ItemTable, type_at}
use Rattle.typed_tree.specs.declared.node.Use.{Use}
use Rattle.typed_tree.specs.Nodes.{nodes_of, nodes_among, nodes_of_fields}
use Rattle.typed_tree.specs.Tree as tree
use Rattle.typed_tree.specs.Tree.{Node, node, Form, Nodes, no_node, a_node, Fields, no_field, a_field, absent, present}
use Rattle.well_typed.specs.Claim.{Claim, Holds, fact, both, some}
use Rattle.well_typed.specs.Names.{are_distinct_numbers}
use Rattle.well_typed.specs.Nodes as typing
use Rattle.well_typed.specs.Patterns as patterns
use Rattle.well_typed.specs.Patterns.{Matched}
use Rattle.well_typed.specs.Places.{LoopAround, Context, loop_with, ty_of, is_place, is_borrow, is_by, taking, may_take, stands, borrow_by, Standing, Taken, Wanted, Passed, Base, Used, Stored}
use Rattle.well_typed.specs.Types as types
use Rattle.soundness_cells.proofs.PassCellPatterns.{Told}
use Rattle.soundness_cells.proofs.PassCellTypes as facts
use Rattle.soundness_cells.proofs.PassFacts.{Standpoint, context, in_a_loop}
use Rattle.soundness_cells.proofs.PassListed.{Lists, Listed, place_listed}
use Rattle.soundness_values.proofs.PlaceTypes.{some_holds, same_type}
use Rattle.soundness_cells.proofs.PassCellPlainTypes as pass_cell_plain_types
use Rattle.soundness_cells.proofs.PassCellPlainTypes.{is_bad, by_part, by_kind, by_number, by_adt, by_closure, by_object, none_both, never_plain, unit_plain, bool_plain, alone_plain, plain_listed, result_plain, common_plain, tail_at, after, named, guarded, not_same, not_unit, broken, pattern_free}

module _ (items : ItemTable) (told : Told items) where
  abbrev Known : Type 0
  Known = (x : Standpoint) × Listed items x

  abbrev K : Known → Context
  K x = context items x.0

  abbrev looped : LoopAround → Known → Known
  looped a x = (in_a_loop a x.0, x.1)

  abbrev Plain : TyId → Type 0
  Plain ty = is_bad items ty ≡ false

  abbrev AllPlain : List TyId → Type 0
  AllPlain = pass_cell_plain_types.AllPlain items told

  abbrev stated : (form : Form) (x : Known) → Holds (typing.statement (K x) form) → Known
  stated = pass_cell_plain_types.stated items told

  abbrev Free : TyId → ℕ → Node → Type 0
  Free want loop n = list_any (typing.carries_ty items want) (typing.carried loop n) ≡ false

  abbrev FreeAll : TyId → ℕ → Nodes → Type 0
  FreeAll want loop ns = (id : ℕ) (at : Pos) (ty : TyId) (by : Option Use) → Free want loop (node id at ty by (tree.Tuple ns))

  abbrev FreeFields : TyId → ℕ → Fields → Type 0
  FreeFields = pass_cell_plain_types.FreeFields items told

  -- ---- expressions

  -- what is used as a value is a place of no reference type, or it is no place and no borrow
  of_taken : (form : Form) (x : Known) (ty : TyId) (by : Option Use) → Holds (stands (K x) Taken ty by form) →
      (is_place form ≡ true → Lists items ty) → (is_place form ≡ false → is_borrow form ≡ false → Plain ty) → Plain ty
  of_taken form x ty by h place later = of_kind (is_place form) refl h
    where
      of_kind : (b : Bool) → is_place form ≡ b → Holds (if b then both (fact (is_by (taking items ty) by))
          (both (fact (may_take (K x) (is_copy items ty) ty form)) (fact (not (types.is_reference items ty))))
          else fact (is_none by && not (is_borrow form))) → Plain ty
      of_kind true p h = alone_plain items told (type_at items ty) (place p)
          (facts.used_alone items ty (Rattle.well_typed.specs.Places.may_move_by (K x) form) h.1.0 h.1.1)
      of_kind false p h = later p (facts.is_false (is_borrow form) (facts.right_of (is_none by) _ h))

  -- of a receiver and the other arguments
  passed_free : (want : TyId) (loop : ℕ) (receiver : Node) (args : Nodes) (tys : List TyId) (x : Known) →
      Holds (typing.first_and_rest (λ t. typing.typed (K x) (Passed t) receiver)
      (λ ts. typing.arguments (K x) ts args) tys) →
      ((ty : TyId) → Holds (typing.typed (K x) (Passed ty) receiver) → Free want loop receiver) →
      ((ts : List TyId) → Holds (typing.arguments (K x) ts args) → FreeAll want loop args) →
      FreeAll want loop (a_node receiver args)
  passed_free want loop receiver args [] x h one rest id at t by = absurd (false≢true h)
  passed_free want loop receiver args (ty ∷ tys) x h one rest id at t by =
      none_both _ _ (nodes_of receiver) (nodes_among args) (one ty h.0) (rest tys h.1 id at t by)

  mutual
    -- what is used as a value is of no reference type
    pub taken_plain : (n : Node) (x : Known) → Holds (typing.typed (K x) Taken n) → Plain (ty_of n)
    taken_plain (node id at ty by form) x h = of_taken form x ty by h.0
        (λ p. place_listed items told form x.0 id ty x.1 h.1 p)
        (λ p b. form_plain form x id at ty by h.1 p b)

    wanted_plain : (n : Node) (x : Known) (ty : TyId) → Holds (typing.typed (K x) (Wanted ty) n) → Plain (ty_of n)
    wanted_plain (node id at ty by form) x want h =
        of_taken form x ty by h.0.0 (λ p. place_listed items told form x.0 id ty x.1 h.1 p)
        (λ p b. form_plain form x id at ty by h.1 p b)

    -- nor is what has a value, but a borrow
    pub form_plain : (form : Form) (x : Known) (id : ℕ) (at : Pos) (ty : TyId) (by : Option Use) →
        Holds (typing.row (K x) id ty form) → is_place form ≡ false → is_borrow form ≡ false → Plain ty
    form_plain (tree.Number value) x id at ty by h p b = by_kind (types.is_within value) (type_at items ty) h
    form_plain (tree.Truth value) x id at ty by h p b = bool_plain items told ty h
    form_plain tree.UnitValue x id at ty by h p b = unit_plain items told ty h
    form_plain (tree.Not operand) x id at ty by h p b = bool_plain items told ty h.1.1
    form_plain (tree.Negate operand) x id at ty by h p b =
        subst Plain (sym (same_type ty (ty_of operand) h.1.0)) (taken_plain operand x h.0)
    form_plain (tree.Arithmetic operator left right) x id at ty by h p b = by_number (type_at items ty) h.1.1.0
    form_plain (tree.Comparison operator left right) x id at ty by h p b = bool_plain items told ty h.1.1.1
    form_plain (tree.And left right) x id at ty by h p b = bool_plain items told ty h.1.1.1.1
    form_plain (tree.Or left right) x id at ty by h p b = bool_plain items told ty h.1.1.1.1
    form_plain (tree.Assign target value) x id at ty by h p b = unit_plain items told ty h.1.1.1
    form_plain (tree.Call callee args) x id at ty by h p b =
        let t = some_holds (slice_get items.bodies callee)
        (λ sig. both (fact (types.is_same ty sig.result)) (typing.arguments (K x) sig.params args)) h.0 in
        result_plain items told ty t.0.result t.1.1.0 (told.results callee t.0 t.1.0)
        (told.listed_results callee t.0 t.1.0)
    form_plain (tree.MethodCall callee receiver args) x id at ty by h p b =
        let t = some_holds (slice_get items.bodies callee) (λ sig. both (fact (types.is_same ty sig.result))
        (typing.first_and_rest (λ t. typing.typed (K x) (Passed t) receiver) (λ ts. typing.arguments (K x) ts args)
        sig.params)) h.0 in
        result_plain items told ty t.0.result t.1.1.0 (told.results callee t.0 t.1.0)
        (told.listed_results callee t.0 t.1.0)
    form_plain (tree.VirtualCall trait_no method receiver args) x id at ty by h p b =
        let d = some_holds (slice_get items.traits trait_no) (λ def. some (slice_get def.methods method)
        (λ sig. both (fact (types.is_same ty sig.result))
        (typing.first_and_rest (λ t. typing.typed (K x) (Passed t) receiver) (λ ts. typing.arguments (K x) ts args)
        sig.params))) h in
        let s = some_holds (slice_get d.0.methods method) (λ sig. both (fact (types.is_same ty sig.result))
        (typing.first_and_rest (λ t. typing.typed (K x) (Passed t) receiver) (λ ts. typing.arguments (K x) ts args)
        sig.params)) d.1.1 in
        result_plain items told ty s.0.result s.1.1.0 (told.methods trait_no method d.0 s.0 d.1.0 s.1.0).0
        (told.listed_methods trait_no method d.0 s.0 d.1.0 s.1.0)
    form_plain (tree.ClosureCall callee inside args) x id at ty by h p b =
        let t = some_holds (slice_get items.bodies callee) (λ sig. both (fact (types.is_same ty sig.result))
        (typing.first_and_rest (λ t. typing.typed (K x) (Passed t) inside) (λ ts. typing.arguments (K x) ts args)
        sig.params)) h.0 in
        result_plain items told ty t.0.result t.1.1.0 (told.results callee t.0 t.1.0)
        (told.listed_results callee t.0 t.1.0)
    form_plain (tree.Make adt variant fields) x id at ty by h p b = by_adt adt (type_at items ty) h.0
    form_plain (tree.Tuple parts) x id at ty by h p b =
        let t = some_holds (types.tuple_of items ty) (λ tys. typing.made_parts (K x) tys parts) h in
        by_part types.tuple_in (λ to. refl) (λ to. refl) (λ k. refl) (type_at items ty) t.0 t.1.0
    form_plain (tree.Array elements) x id at ty by h p b =
        let t = some_holds (types.array_of items ty) (λ a. both (fact (patterns.count_of elements == a.1))
        (typing.elements_of (K x) a.0 elements)) h in
        by_part types.array_in (λ to. refl) (λ to. refl) (λ k. refl) (type_at items ty) t.0 t.1.0
    form_plain (tree.Closure closure captures) x id at ty by h p b = by_closure closure (type_at items ty) h.0
    form_plain (tree.NewBox content) x id at ty by h p b =
        let t = some_holds (types.boxed_of items ty)
        (λ inside. both (typing.typed (K x) (Wanted inside) content) (fact (not (types.is_dyn items inside)))) h in
        by_part types.boxed_in (λ to. refl) (λ to. refl) (λ k. refl) (type_at items ty) t.0 t.1.0
    form_plain (tree.Print operand) x id at ty by h p b = unit_plain items told ty h.1.1
    form_plain tree.Ask x id at ty by h p b = by_kind (types.is_kind IntKind.I32) (type_at items ty) h
    form_plain (tree.DropValue operand) x id at ty by h p b = unit_plain items told ty h.1
    form_plain (tree.Forget operand) x id at ty by h p b = unit_plain items told ty h.1
    form_plain tree.Panic x id at ty by h p b = never_plain items told ty h
    form_plain (tree.Unsize trait_no operand) x id at ty by h p b = by_object trait_no (types.trait_of items)
        (type_at items ty) (facts.left_of _ _ h.1.1)
    form_plain (tree.Block stmts absent) x id at ty by h p b = of_end (typing.ends_in items stmts) h.1
      where
        of_end : (e : Bool) → (if e then types.is_never items ty else types.is_unit items ty) ≡ true → Plain ty
        of_end true k = never_plain items told ty k
        of_end false k = unit_plain items told ty k
    form_plain (tree.Block stmts (present tail)) x id at ty by h p b =
        subst Plain (sym (same_type ty (ty_of tail) h.1))
        (taken_plain tail (after items told stmts x (λ d. typing.tail_of d (present tail)) h.0)
        (tail_at items told stmts x.0 (λ d. typing.tail_of d (present tail)) h.0))
    form_plain (tree.If condition consequent absent) x id at ty by h p b = unit_plain items told ty h.1.1.1.1
    form_plain (tree.If condition consequent (present otherwise)) x id at ty by h p b =
        common_plain items told ty (ty_of consequent ∷ ty_of otherwise ∷ []) h.1.1.1.1
        (taken_plain consequent x h.1.1.0, (taken_plain otherwise x h.1.1.1.0, tt))
    form_plain (tree.IfLet pattern scrutinee consequent absent) x id at ty by h p b = unit_plain items told ty h.1.1.1.1
    form_plain (tree.IfLet pattern scrutinee consequent (present otherwise)) x id at ty by h p b =
        common_plain items told ty (ty_of consequent ∷ ty_of otherwise ∷ []) h.1.1.1.1 (
          taken_plain consequent (named items told pattern _ (ty_of scrutinee) x h.1.0.1 (used_listed scrutinee x h.0)) h.1.1.0,
          (taken_plain otherwise x h.1.1.1.0, tt),
        )
    form_plain (tree.Match scrutinee arms) x id at ty by h p b = common_plain items told ty (typing.types_in arms) h.1.1.0
        (arms_plain arms x (typing.matched_in false (K x) scrutinee) (ty_of scrutinee) (used_listed scrutinee x h.0)
        h.1.0)
    form_plain (tree.Loop body) x id at ty by h p b = of_type (is_bad items ty) refl h.1.1
        (λ e. node_free ty id e body (looped (record { loop = id; ty = ty; has_value = true }) x) Taken h.0)
      where
        of_type : (r : Bool) → is_bad items ty ≡ r →
            typing.is_loop_ty items ty (typing.carried id body) ≡ true →
            (is_bad items ty ≡ true → Free ty id body) → r ≡ false
        of_type false e l f = refl
        of_type true e l f = absurd (of_never (facts.one_of (types.is_never items ty)
            (list_any (typing.carries_ty items ty) (typing.carried id body)) l))
          where
            of_never : (types.is_never items ty ≡ true)
                ⊎ (list_any (typing.carries_ty items ty) (typing.carried id body) ≡ true) → ⊥
            of_never (inl n) = false≢true (sym (never_plain items told ty n) ∙ e)
            of_never (inr c) = false≢true (sym (f e) ∙ c)
    form_plain (tree.While condition body) x id at ty by h p b = unit_plain items told ty h.1.1.1.1
    form_plain (tree.WhileLet pattern scrutinee body) x id at ty by h p b = unit_plain items told ty h.1.1.1.1
    form_plain (tree.Break loop value) x id at ty by h p b = never_plain items told ty h.1
    form_plain (tree.Continue loop) x id at ty by h p b = never_plain items told ty h.1
    form_plain (tree.Return value) x id at ty by h p b = never_plain items told ty h.1
    form_plain (tree.Variable key) x id at ty by h p b = absurd (false≢true (sym p))
    form_plain (tree.Captured closure part name) x id at ty by h p b = absurd (false≢true (sym p))
    form_plain (tree.Field base part) x id at ty by h p b = absurd (false≢true (sym p))
    form_plain (tree.Index base index count) x id at ty by h p b = absurd (false≢true (sym p))
    form_plain (tree.Deref base) x id at ty by h p b = absurd (false≢true (sym p))
    form_plain (tree.Borrow unique base) x id at ty by h p b = absurd (false≢true (sym b))
    form_plain form x id at ty by h p b = absurd (false≢true h)

    -- what is looked at is in the table
    pub used_listed : (n : Node) (x : Known) → Holds (typing.typed (K x) (Used Use.Borrow) n) → Lists items (ty_of n)
    used_listed (node id at ty by form) x h = of_kind (is_place form) refl
        (facts.left_of _ (not (types.is_reference items ty)) h.0)
        (λ p. place_listed items told form x.0 id ty x.1 h.1 p)
        (λ p b. plain_listed items told ty (form_plain form x id at ty by h.1 p b))
      where
        of_kind : (b : Bool) → is_place form ≡ b →
            (if b then is_by Use.Borrow by else is_none by && not (is_borrow form)) ≡ true →
            (is_place form ≡ true → Lists items ty) →
            (is_place form ≡ false → is_borrow form ≡ false → Lists items ty) → Lists items ty
        of_kind true p u place value = place p
        of_kind false p u place value = value p (facts.is_false (is_borrow form) (facts.right_of (is_none by) _ u))

    arms_plain : (arms : Nodes) (x : Known) (m : Matched) (want : TyId) → Lists items want →
        Holds (typing.arms_of (K x) m want arms) → AllPlain (typing.types_in arms)
    arms_plain no_node x m want l h = tt
    arms_plain (a_node (node id at ty by form) rest) x m want l h =
        (arm_plain form x m want l id at ty by h.0, arms_plain rest x m want l h.1)

    arm_plain : (form : Form) (x : Known) (m : Matched) (want : TyId) → Lists items want → (id : ℕ) (at : Pos) (ty : TyId)
        (by : Option Use) → Holds (typing.arm (K x) m want (node id at ty by form)) → Plain ty
    arm_plain (tree.Arm pattern guard body) x m want l id at ty by h =
        subst Plain (sym (same_type ty (ty_of body) h.1.1.1.1.1))
        (taken_plain body (named items told pattern m want x h.1.1.0 l) h.1.1.1.1.0)
    arm_plain form x m want l id at ty by h = absurd (false≢true h)

    -- ---- no break carries a reference

    node_free : (want : TyId) (loop : ℕ) → is_bad items want ≡ true → (n : Node) (x : Known)
        (standing : Standing) → Holds (typing.typed (K x) standing n) → Free want loop n
    node_free want loop r (node id at ty by form) x standing h = form_free want loop r form x id at ty by h.1

    form_free : (want : TyId) (loop : ℕ) → is_bad items want ≡ true → (form : Form) (x : Known) (id : ℕ)
        (at : Pos) (ty : TyId) (by : Option Use) → Holds (typing.row (K x) id ty form) →
        Free want loop (node id at ty by form)
    form_free want loop r (tree.Number value) x id at ty by h = refl
    form_free want loop r (tree.Truth value) x id at ty by h = refl
    form_free want loop r tree.UnitValue x id at ty by h = refl
    form_free want loop r (tree.Variable key) x id at ty by h = refl
    form_free want loop r (tree.Captured closure part name) x id at ty by h = refl
    form_free want loop r (tree.Field base part) x id at ty by h = node_free want loop r base x Base h.0
    form_free want loop r (tree.Index base index count) x id at ty by h =
        none_both _ _ (nodes_of base) (nodes_of index) (node_free want loop r base x Base h.0)
        (node_free want loop r index x Taken h.1.0)
    form_free want loop r (tree.Deref base) x id at ty by h = node_free want loop r base x Base h.0
    form_free want loop r (tree.Not operand) x id at ty by h = node_free want loop r operand x Taken h.0
    form_free want loop r (tree.Negate operand) x id at ty by h = node_free want loop r operand x Taken h.0
    form_free want loop r (tree.Arithmetic operator left right) x id at ty by h =
        none_both _ _ (nodes_of left) (nodes_of right) (node_free want loop r left x (Wanted ty) h.0)
        (node_free want loop r right x (Wanted ty) h.1.0)
    form_free want loop r (tree.Comparison operator left right) x id at ty by h =
        none_both _ _ (nodes_of left) (nodes_of right) (node_free want loop r left x Taken h.0)
        (node_free want loop r right x Taken h.1.0)
    form_free want loop r (tree.And left right) x id at ty by h =
        none_both _ _ (nodes_of left) (nodes_of right) (node_free want loop r left x Taken h.0)
        (node_free want loop r right x Taken h.1.0)
    form_free want loop r (tree.Or left right) x id at ty by h =
        none_both _ _ (nodes_of left) (nodes_of right) (node_free want loop r left x Taken h.0)
        (node_free want loop r right x Taken h.1.0)
    form_free want loop r (tree.Assign target value) x id at ty by h =
        none_both _ _ (nodes_of target) (nodes_of value) (node_free want loop r target x Stored h.0)
        (node_free want loop r value x (Wanted (ty_of target)) h.1.1.0)
    form_free want loop r (tree.Call callee args) x id at ty by h =
        let t = some_holds (slice_get items.bodies callee)
        (λ sig. both (fact (types.is_same ty sig.result)) (typing.arguments (K x) sig.params args)) h.0 in
        args_free want loop r args t.0.params x t.1.1.1 id at ty by
    form_free want loop r (tree.MethodCall callee receiver args) x id at ty by h =
        let t = some_holds (slice_get items.bodies callee) (λ sig. both (fact (types.is_same ty sig.result))
        (typing.first_and_rest (λ t. typing.typed (K x) (Passed t) receiver) (λ ts. typing.arguments (K x) ts args)
        sig.params)) h.0 in
        passed_free want loop receiver args t.0.params x t.1.1.1
        (λ u k. node_free want loop r receiver x (Passed u) k) (λ us k. args_free want loop r args us x k) id at ty by
    form_free want loop r (tree.VirtualCall trait_no method receiver args) x id at ty by h =
        let d = some_holds (slice_get items.traits trait_no) (λ def. some (slice_get def.methods method)
        (λ sig. both (fact (types.is_same ty sig.result))
        (typing.first_and_rest (λ t. typing.typed (K x) (Passed t) receiver) (λ ts. typing.arguments (K x) ts args)
        sig.params))) h in
        let s = some_holds (slice_get d.0.methods method) (λ sig. both (fact (types.is_same ty sig.result))
        (typing.first_and_rest (λ t. typing.typed (K x) (Passed t) receiver) (λ ts. typing.arguments (K x) ts args)
        sig.params)) d.1.1 in
        passed_free want loop receiver args s.0.params x s.1.1.1
        (λ u k. node_free want loop r receiver x (Passed u) k) (λ us k. args_free want loop r args us x k) id at ty by
    form_free want loop r (tree.ClosureCall callee inside args) x id at ty by h =
        let t = some_holds (slice_get items.bodies callee) (λ sig. both (fact (types.is_same ty sig.result))
        (typing.first_and_rest (λ t. typing.typed (K x) (Passed t) inside) (λ ts. typing.arguments (K x) ts args)
        sig.params)) h.0 in
        passed_free want loop inside args t.0.params x t.1.1.1
        (λ u k. node_free want loop r inside x (Passed u) k) (λ us k. args_free want loop r args us x k) id at ty by
    form_free want loop r (tree.Make adt variant fields) x id at ty by h =
        let t = some_holds (types.variant_at items adt variant) (λ v. both
        (fact (are_distinct_numbers (patterns.field_numbers fields)
        && length (patterns.field_numbers fields) == length v.fields)) (typing.made_fields (K x) v.fields fields)) h.1 in
        fields_free want loop r fields t.0.fields x t.1.1.1 id at ty by
    form_free want loop r (tree.Tuple parts) x id at ty by h =
        let t = some_holds (types.tuple_of items ty) (λ tys. typing.made_parts (K x) tys parts) h in
        parts_free want loop r parts t.0 x t.1.1 id at ty by
    form_free want loop r (tree.Array elements) x id at ty by h =
        let t = some_holds (types.array_of items ty) (λ a. both (fact (patterns.count_of elements == a.1))
        (typing.elements_of (K x) a.0 elements)) h in
        elements_free want loop r elements t.0.0 x t.1.1.1 id at ty by
    form_free want loop r (tree.Closure closure captures) x id at ty by h =
        let t = some_holds (slice_get items.closures closure) (λ def. typing.captured (K x) def.captures captures) h.1 in
        captures_free want loop r captures t.0.captures x t.1.1 id at ty by
    form_free want loop r (tree.NewBox content) x id at ty by h =
        let t = some_holds (types.boxed_of items ty)
        (λ inside. both (typing.typed (K x) (Wanted inside) content) (fact (not (types.is_dyn items inside)))) h in
        node_free want loop r content x (Wanted t.0) t.1.1.0
    form_free want loop r (tree.Print operand) x id at ty by h = node_free want loop r operand x Taken h.0
    form_free want loop r tree.Ask x id at ty by h = refl
    form_free want loop r (tree.DropValue operand) x id at ty by h = node_free want loop r operand x Taken h.0
    form_free want loop r (tree.Forget operand) x id at ty by h = node_free want loop r operand x Taken h.0
    form_free want loop r tree.Panic x id at ty by h = refl
    form_free want loop r (tree.Borrow unique base) x id at ty by h =
        node_free want loop r base x (Used (borrow_by unique)) h.0
    form_free want loop r (tree.Unsize trait_no operand) x id at ty by h = node_free want loop r operand x Taken h.0
    form_free want loop r (tree.Block stmts absent) x id at ty by h =
        none_both _ _ (nodes_among stmts) []
        (statements_free want loop r stmts x (λ d. typing.tail_of d absent) h.0 id at ty by) refl
    form_free want loop r (tree.Block stmts (present tail)) x id at ty by h =
        none_both _ _ (nodes_among stmts) (nodes_of tail)
        (statements_free want loop r stmts x (λ d. typing.tail_of d (present tail)) h.0 id at ty by)
        (node_free want loop r tail (after items told stmts x (λ d. typing.tail_of d (present tail)) h.0) Taken
        (tail_at items told stmts x.0 (λ d. typing.tail_of d (present tail)) h.0))
    form_free want loop r (tree.If condition consequent absent) x id at ty by h =
        none_both _ _ (nodes_of condition ++ nodes_of consequent) []
        (none_both _ _ (nodes_of condition) (nodes_of consequent) (node_free want loop r condition x Taken h.0)
        (node_free want loop r consequent x Taken h.1.1.0)) refl
    form_free want loop r (tree.If condition consequent (present otherwise)) x id at ty by h =
        none_both _ _ (nodes_of condition ++ nodes_of consequent) (nodes_of otherwise)
        (none_both _ _ (nodes_of condition) (nodes_of consequent) (node_free want loop r condition x Taken h.0)
        (node_free want loop r consequent x Taken h.1.1.0))
        (node_free want loop r otherwise x Taken h.1.1.1.0)
    form_free want loop r (tree.IfLet pattern scrutinee consequent absent) x id at ty by h =
        none_both _ _ ((nodes_of pattern ++ nodes_of scrutinee) ++ nodes_of consequent) []
        (none_both _ _ (nodes_of pattern ++ nodes_of scrutinee) (nodes_of consequent)
        (none_both _ _ (nodes_of pattern) (nodes_of scrutinee) (pattern_free items told want loop pattern _ (ty_of scrutinee) h.1.0.1)
        (node_free want loop r scrutinee x (Used Use.Borrow) h.0))
        (node_free want loop r consequent (named items told pattern _ (ty_of scrutinee) x h.1.0.1 (used_listed scrutinee x h.0)) Taken
        h.1.1.0)) refl
    form_free want loop r (tree.IfLet pattern scrutinee consequent (present otherwise)) x id at ty by h =
        none_both _ _ ((nodes_of pattern ++ nodes_of scrutinee) ++ nodes_of consequent) (nodes_of otherwise)
        (none_both _ _ (nodes_of pattern ++ nodes_of scrutinee) (nodes_of consequent)
        (none_both _ _ (nodes_of pattern) (nodes_of scrutinee) (pattern_free items told want loop pattern _ (ty_of scrutinee) h.1.0.1)
        (node_free want loop r scrutinee x (Used Use.Borrow) h.0))
        (node_free want loop r consequent (named items told pattern _ (ty_of scrutinee) x h.1.0.1 (used_listed scrutinee x h.0)) Taken
        h.1.1.0))
        (node_free want loop r otherwise x Taken h.1.1.1.0)
    form_free want loop r (tree.Match scrutinee arms) x id at ty by h =
        none_both _ _ (nodes_of scrutinee) (nodes_among arms) (node_free want loop r scrutinee x (Used Use.Borrow) h.0)
        (arms_free want loop r arms x (typing.matched_in false (K x) scrutinee) (ty_of scrutinee)
        (used_listed scrutinee x h.0) h.1.0 id at ty by)
    form_free want loop r (tree.Loop body) x id at ty by h =
        node_free want loop r body (looped (record { loop = id; ty = ty; has_value = true }) x) Taken h.0
    form_free want loop r (tree.While condition body) x id at ty by h =
        none_both _ _ (nodes_of condition) (nodes_of body)
        (node_free want loop r condition (looped (record { loop = id; ty = ty; has_value = false }) x) Taken h.0)
        (node_free want loop r body (looped (record { loop = id; ty = ty; has_value = false }) x) Taken h.1.1.0)
    form_free want loop r (tree.WhileLet pattern scrutinee body) x id at ty by h =
        let y = looped (record { loop = id; ty = ty; has_value = false }) x in
        none_both _ _ (nodes_of pattern ++ nodes_of scrutinee) (nodes_of body)
        (none_both _ _ (nodes_of pattern) (nodes_of scrutinee) (pattern_free items told want loop pattern _ (ty_of scrutinee) h.1.0.1)
        (node_free want loop r scrutinee y (Used Use.Borrow) h.0))
        (node_free want loop r body (named items told pattern _ (ty_of scrutinee) y h.1.0.1 (used_listed scrutinee y h.0)) Taken h.1.1.0)
    form_free want loop r (tree.Break from absent) x id at ty by h =
        broken items told want absent (loop == from) [] (not_unit items told want r) refl
    form_free want loop r (tree.Break from (present value)) x id at ty by h =
        let t = some_holds (loop_with from x.0.loops) (λ a. typing.carries (K x) a (present value)) h.0 in
        broken items told want (present value) (loop == from) _
        (not_same items told want (ty_of value) r (wanted_plain value x t.0.ty t.1.1.1))
        (node_free want loop r value x (Wanted t.0.ty) t.1.1.1)
    form_free want loop r (tree.Continue from) x id at ty by h = refl
    form_free want loop r (tree.Return absent) x id at ty by h = refl
    form_free want loop r (tree.Return (present value)) x id at ty by h =
        node_free want loop r value x (Wanted x.0.answer) h.0
    form_free want loop r form x id at ty by h = absurd (false≢true h)

    args_free : (want : TyId) (loop : ℕ) → is_bad items want ≡ true → (ns : Nodes) (tys : List TyId)
        (x : Known) → Holds (typing.arguments (K x) tys ns) → FreeAll want loop ns
    args_free want loop r no_node tys x h id at t by = refl
    args_free want loop r (a_node first rest) [] x h id at t by = absurd (false≢true h)
    args_free want loop r (a_node first rest) (ty ∷ tys) x h id at t by =
        none_both _ _ (nodes_of first) (nodes_among rest) (node_free want loop r first x (Passed ty) h.0)
        (args_free want loop r rest tys x h.1 id at t by)

    parts_free : (want : TyId) (loop : ℕ) → is_bad items want ≡ true → (ns : Nodes) (tys : List TyId)
        (x : Known) → Holds (typing.made_parts (K x) tys ns) → FreeAll want loop ns
    parts_free want loop r no_node tys x h id at t by = refl
    parts_free want loop r (a_node first rest) [] x h id at t by = absurd (false≢true h)
    parts_free want loop r (a_node first rest) (ty ∷ tys) x h id at t by =
        none_both _ _ (nodes_of first) (nodes_among rest) (node_free want loop r first x (Wanted ty) h.0)
        (parts_free want loop r rest tys x h.1 id at t by)

    elements_free : (want : TyId) (loop : ℕ) → is_bad items want ≡ true → (ns : Nodes) (ty : TyId)
        (x : Known) → Holds (typing.elements_of (K x) ty ns) → FreeAll want loop ns
    elements_free want loop r no_node ty x h id at t by = refl
    elements_free want loop r (a_node first rest) ty x h id at t by =
        none_both _ _ (nodes_of first) (nodes_among rest) (node_free want loop r first x (Wanted ty) h.0)
        (elements_free want loop r rest ty x h.1 id at t by)

    captures_free : (want : TyId) (loop : ℕ) → is_bad items want ≡ true → (ns : Nodes) (tys : List TyId)
        (x : Known) → Holds (typing.captured (K x) tys ns) → FreeAll want loop ns
    captures_free want loop r no_node tys x h id at t by = refl
    captures_free want loop r (a_node first rest) [] x h id at t by = absurd (false≢true h)
    captures_free want loop r (a_node first rest) (ty ∷ tys) x h id at t by =
        none_both _ _ (nodes_of first) (nodes_among rest) (node_free want loop r first x Taken h.0)
        (captures_free want loop r rest tys x h.1.1 id at t by)

    fields_free : (want : TyId) (loop : ℕ) → is_bad items want ≡ true → (fs : Fields) (tys : List TyId)
        (x : Known) → Holds (typing.made_fields (K x) tys fs) → FreeFields want loop fs
    fields_free want loop r no_field tys x h id at t by = refl
    fields_free want loop r (a_field number value rest) tys x h id at t by =
        let s = some_holds (slice_get tys number) (λ ty. typing.typed (K x) (Wanted ty) value) h.0 in
        none_both _ _ (nodes_of value) (nodes_of_fields rest) (node_free want loop r value x (Wanted s.0) s.1.1)
        (fields_free want loop r rest tys x h.1 id at t by)

    statements_free : (want : TyId) (loop : ℕ) → is_bad items want ≡ true → (ns : Nodes) (x : Known)
        (rest : Context → Claim) → Holds (typing.statements (K x) ns rest) → FreeAll want loop ns
    statements_free want loop r no_node x last h id at t by = refl
    statements_free want loop r (a_node (node sid sat sty sby form) rest) x last h id at t by =
        none_both _ _ (nodes_of (node sid sat sty sby form)) (nodes_among rest)
        (statement_free want loop r form x sid sat sty sby h.1.0)
        (statements_free want loop r rest (stated form x h.1.0) last h.1.1 id at t by)

    statement_free : (want : TyId) (loop : ℕ) → is_bad items want ≡ true → (form : Form) (x : Known)
        (id : ℕ) (at : Pos) (ty : TyId) (by : Option Use) → Holds (typing.statement (K x) form) →
        Free want loop (node id at ty by form)
    statement_free want loop r (tree.Let p absent) x id at ty by h =
        none_both _ _ (nodes_of p) [] (pattern_free items told want loop p _ (ty_of p) h.1.0) refl
    statement_free want loop r (tree.Let p (present value)) x id at ty by h =
        none_both _ _ (nodes_of p) (nodes_of value) (pattern_free items told want loop p _ (ty_of p) h.1.1.0)
        (node_free want loop r value x (typing.as_initialiser p) h.0)
    statement_free want loop r (tree.Evaluate expression) x id at ty by h = node_free want loop r expression x Taken h
    statement_free want loop r form x id at ty by h = absurd (false≢true h)

    arms_free : (want : TyId) (loop : ℕ) → is_bad items want ≡ true → (arms : Nodes) (x : Known)
        (m : Matched) (ty : TyId) → Lists items ty → Holds (typing.arms_of (K x) m ty arms) → FreeAll want loop arms
    arms_free want loop r no_node x m ty l h id at t by = refl
    arms_free want loop r (a_node (node aid aat aty aby form) rest) x m ty l h id at t by =
        none_both _ _ (nodes_of (node aid aat aty aby form)) (nodes_among rest)
        (arm_free want loop r form x m ty l aid aat aty aby h.0)
        (arms_free want loop r rest x m ty l h.1 id at t by)

    arm_free : (want : TyId) (loop : ℕ) → is_bad items want ≡ true → (form : Form) (x : Known)
        (m : Matched) (t : TyId) → Lists items t → (id : ℕ) (at : Pos) (ty : TyId) (by : Option Use) →
        Holds (typing.arm (K x) m t (node id at ty by form)) → Free want loop (node id at ty by form)
    arm_free want loop r (tree.Arm pattern absent body) x m t l id at ty by h =
        none_both _ _ (nodes_of pattern ++ []) (nodes_of body)
        (none_both _ _ (nodes_of pattern) [] (pattern_free items told want loop pattern m t h.1.1.0) refl)
        (node_free want loop r body (named items told pattern m t x h.1.1.0 l) Taken h.1.1.1.1.0)
    arm_free want loop r (tree.Arm pattern (present guard) body) x m t l id at ty by h =
        none_both _ _ (nodes_of pattern ++ nodes_of guard) (nodes_of body)
        (none_both _ _ (nodes_of pattern) (nodes_of guard) (pattern_free items told want loop pattern m t h.1.1.0)
        (node_free want loop r guard (guarded items told pattern m t x h.1.1.0 l) Taken h.1.1.1.0.0))
        (node_free want loop r body (named items told pattern m t x h.1.1.0 l) Taken h.1.1.1.1.0)
    arm_free want loop r form x m t l id at ty by h = absurd (false≢true h)
