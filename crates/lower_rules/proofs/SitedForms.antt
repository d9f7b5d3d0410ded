-- Each line has the number of a node of its body: one line a form.
use Rattle.std.proofs.Common.{◌≡◌, inl, inr, ℕ, Bool, true, false, List, [], ◌∷◌, ◌++◌, Some, refl}
use Rattle.mir_base.specs.declared.trace.Why.{Why}
use Rattle.mir_ty.specs.Facts.{needs_drop}
use Rattle.store_model.specs.Effects as effects
use Rattle.store_model.specs.Effects.{OfTuple, OfArray, OfVariant, OfClosure}
use Rattle.store_model.specs.Places.Place.{Place, whole_local}
use Rattle.typed_tree.specs.Nodes.{number_of, nodes_of, nodes_in, nodes_among, nodes_of_fields, nodes_if_any, param_nodes, first_with}
use Rattle.typed_tree.specs.Tree as tree
use Rattle.typed_tree.specs.Tree.{Form, Nodes, no_node, a_node, Fields, no_field, a_field, MaybeNode, absent, present, ParamTree, BodyTree}
use Rattle.src_meaning.specs.Evaluation.{in_number_order}
use Rattle.src_meaning.specs.Forms.{Into, coerced, in_loop, loop_destination, site_of_key, moved}
use Rattle.src_meaning.specs.Locals.OfBody.{param_key, answer_key}
use Rattle.src_meaning.specs.Scopes.{innermost, with_entry, Breaks, Continues, Returns}
use Rattle.src_meaning.specs.Shape.{NodeHead, head, Shape, BoundName, kind_of, shape, shape_of, site_at}
use Rattle.src_meaning.specs.FieldKeys.{field_keys, moved_fields}
use Rattle.lower_rules.specs.Build.{LoweringFrame, Lowers, nothing}
use Rattle.lower_rules.specs.Lower as lower
use Rattle.lower_rules.specs.Lower.{NodeLower, LowerIfAny}
use Rattle.lower_rules.proofs.Lines as lines
use Rattle.lower_rules.proofs.Lines.{Wanted}
use Rattle.lower_rules.proofs.Stops as stops
use Rattle.lower_rules.proofs.SiteRules as site_rules
use Rattle.lower_rules.proofs.SiteRules.{none_sites, one_sites, with_one, without, in_first, in_second, inside_first, inside_second, known_inside, node_shaped, form_shaped, acts, and_then, deliver_sites, unit_sites, own_sites, inner, pended, operand_sites, value_sites, place_sites, scoped_sites, on_operands_sites, gives_unit_sites, alone_sites, condition_sites, otherwise_sites, bind_sites, scrutinised_sites, if_taken_sites, arm_sites, arms_sites, statements_sites, tail_sites, let_sites, jump_value_sites, ends_loop_sites, pattern_sites}

module _ (f : LoweringFrame) (known : List tree.Node) (own : ℕ → Type 0) where
  abbrev In : ℕ → Type 0
  In n = (found : tree.Node) × (first_with n known ≡ Some found)

  abbrev wanted : Wanted f
  wanted = site_rules.wanted f known own

  abbrev Sound : Lowers → Type 0
  Sound = lines.Sound f wanted

  abbrev BoundsIn : List BoundName → Type 0
  BoundsIn = site_rules.BoundsIn f known own

  abbrev Shaped : Shape → Type 0
  Shaped s = ((place : Place) → lines.TestsOk f wanted (s.tests place)) × ((place : Place) → BoundsIn (s.bindings place))

  abbrev NodeSites : (x : NodeLower) → Type 0
  NodeSites = site_rules.NodeSites f known own

  abbrev AllSites : List NodeLower → Type 0
  AllSites = site_rules.AllSites f known own

  abbrev IfAnySites : LowerIfAny → Type 0
  IfAnySites = site_rules.IfAnySites f known own

  abbrev AllIn : List tree.Node → Type 0
  AllIn = site_rules.AllIn f known own

  abbrev Inside : ℕ → Type 0
  Inside n = In n × own n

  abbrev AllInside : List tree.Node → Type 0
  AllInside = site_rules.AllInside f known own

  -- ---- the forms
  abbrev S_of : Form → NodeHead → Shape
  S_of form h = shape_of f.items form h

  abbrev L : tree.Node → NodeLower
  L n = lower.lower f n

  mutual
    pub node_sites : (n : tree.Node) → AllInside (nodes_of n) → NodeSites (lower.lower f n)
    node_sites (tree.node id at ty by form) a = form_sites form (head id ty by) a.0 a.1 (form_shaped f known own form (head id ty by) a.0.0 (known_inside f known own (nodes_in form) a.1))

    form_sites : (form : Form) (h : NodeHead) → Inside h.id → AllInside (nodes_in form) → Shaped (S_of form h) → NodeSites (lower.lower_form f form h (S_of form h))
    form_sites (tree.Number value) h j a s = scoped_sites f known own h (S_of (tree.Number value) h) j s _ (λ around to. deliver_sites f known own h.id h (λ site. effects.Put site (effects.Number value (kind_of f.items h.ty))) to j.0 j.0 (λ key. inl refl))
    form_sites (tree.Truth value) h j a s = scoped_sites f known own h (S_of (tree.Truth value) h) j s _ (λ around to. deliver_sites f known own h.id h (λ site. effects.Put site (effects.Truth value)) to j.0 j.0 (λ key. inl refl))
    form_sites tree.UnitValue h j a s = scoped_sites f known own h (S_of tree.UnitValue h) j s _ (λ around to. deliver_sites f known own h.id h (λ site. effects.Put site effects.UnitValue) to j.0 j.0 (λ key. inl refl))
    form_sites (tree.Variable key) h j a s = place_sites f known own h (S_of (tree.Variable key) h) j s (λ around. nothing) (λ around. lines.nothing_sound f wanted)
    form_sites (tree.Captured closure part name) h j a s = place_sites f known own h (S_of (tree.Captured closure part name) h) j s (λ around. nothing) (λ around. lines.nothing_sound f wanted)
    form_sites (tree.Field base part) h j a s = place_sites f known own h (S_of (tree.Field base part) h) j s (L base).reaches (node_sites base a).reaches
    form_sites (tree.Deref base) h j a s = place_sites f known own h (S_of (tree.Deref base) h) j s (L base).reaches (node_sites base a).reaches
    form_sites (tree.Index base index count) h j a s =
        let sb = node_sites base (inside_first f known own (nodes_of base) (nodes_of index) a) in
        let si = node_sites index (inside_second f known own (nodes_of base) (nodes_of index) a) in
        place_sites f known own h (S_of (tree.Index base index count) h) j s (lower.reach_element f h (S_of (tree.Index base index count) h) (L base) (L index) count)
        (λ around. and_then f known own _ _ (sb.reaches around) (and_then f known own _ _ (si.evaluates around false (Into (L index).head.id))
        (and_then f known own _ _ (acts f known own h.id (effects.Touch (site_at h (lower.array_around f ((S_of (tree.Index base index count) h).place around.aliases)))) j.0 tt)
        (acts f known own (L index).head.id (effects.Bounds (effects.Copied (site_of_key (L index).head.id)) count) si.here (λ n u. tt)))))
    form_sites (tree.Not operand) h j a s = on_operands_sites f known own h (S_of (tree.Not operand) h) j s _ (one_sites _ _ (node_sites operand a) none_sites) (λ site. effects.Not site (moved h.id (L operand).head.id)) (λ key. tt)
    form_sites (tree.Negate operand) h j a s = on_operands_sites f known own h (S_of (tree.Negate operand) h) j s _ (one_sites _ _ (node_sites operand a) none_sites) (λ site. effects.Negate site (moved h.id (L operand).head.id)) (λ key n u. tt)
    form_sites (tree.NewBox content) h j a s = on_operands_sites f known own h (S_of (tree.NewBox content) h) j s _ (one_sites _ _ (node_sites content a) none_sites) (λ site. effects.NewBox site (moved h.id (L content).head.id)) (λ key. tt)
    form_sites (tree.Arithmetic operator left right) h j a s = on_operands_sites f known own h (S_of (tree.Arithmetic operator left right) h) j s _ (one_sites _ _ (node_sites left (inside_first f known own (nodes_of left) (nodes_of right) a)) (one_sites _ _ (node_sites right (inside_second f known own (nodes_of left) (nodes_of right) a)) none_sites)) (λ site. effects.Compute site operator (moved h.id (L left).head.id) (moved h.id (L right).head.id)) (λ key n u. (tt, tt))
    form_sites (tree.Comparison operator left right) h j a s = on_operands_sites f known own h (S_of (tree.Comparison operator left right) h) j s _ (one_sites _ _ (node_sites left (inside_first f known own (nodes_of left) (nodes_of right) a)) (one_sites _ _ (node_sites right (inside_second f known own (nodes_of left) (nodes_of right) a)) none_sites)) (λ site. effects.Compare site operator (moved h.id (L left).head.id) (moved h.id (L right).head.id)) (λ key. tt)
    form_sites (tree.And left right) h j a s = scoped_sites f known own h (S_of (tree.And left right) h) j s _ (λ around to. condition_sites f known own _ (node_sites left (inside_first f known own (nodes_of left) (nodes_of right) a)) around _ _ (alone_sites f known own _ (node_sites right (inside_second f known own (nodes_of left) (nodes_of right) a)) around to) (deliver_sites f known own h.id h (λ site. effects.Put site (effects.Truth false)) to j.0 j.0 (λ key. inl refl)))
    form_sites (tree.Or left right) h j a s = scoped_sites f known own h (S_of (tree.Or left right) h) j s _ (λ around to. condition_sites f known own _ (node_sites left (inside_first f known own (nodes_of left) (nodes_of right) a)) around _ _ (deliver_sites f known own h.id h (λ site. effects.Put site (effects.Truth true)) to j.0 j.0 (λ key. inl refl)) (alone_sites f known own _ (node_sites right (inside_second f known own (nodes_of left) (nodes_of right) a)) around to))
    form_sites (tree.Assign target value) h j a s =
        let st = node_sites target (inside_first f known own (nodes_of target) (nodes_of value) a) in
        let sv = node_sites value (inside_second f known own (nodes_of target) (nodes_of value) a) in
        value_sites f known own h (S_of (tree.Assign target value) h) j s _ (λ around scoped to. lines.scope_sound f wanted h.id scoped _ (and_then f known own _ _ (operand_sites f known own _ sv around) (and_then f known own _ _ (st.reaches around)
        (and_then f known own _ _ (lines.replaces_sound f wanted (needs_drop f.items (L target).head.ty) (lower.site_of (L target) around) (L value).head.id (st.here, inr tt) (λ stmts term never. inr (refl, ((L value).head.id, sv.owned, refl))) (λ n u. (st.here, tt))) (unit_sites f known own h to j.0)))))
    form_sites (tree.Call body args) h j a s = on_operands_sites f known own h (S_of (tree.Call body args) h) j s _ (all_sites args a) (λ site. effects.Call site body (lower.all_moved h.id (lower.lower_all f args))) (λ key n u. stops.all_copy f own h.id (lower.lower_all f args))
    form_sites (tree.MethodCall body receiver args) h j a s = on_operands_sites f known own h (S_of (tree.MethodCall body receiver args) h) j s _ (one_sites _ _ (node_sites receiver (inside_first f known own (nodes_of receiver) (nodes_among args) a)) (all_sites args (inside_second f known own (nodes_of receiver) (nodes_among args) a))) (λ site. effects.Call site body (lower.all_moved h.id (L receiver ∷ lower.lower_all f args))) (λ key n u. stops.all_copy f own h.id (L receiver ∷ lower.lower_all f args))
    form_sites (tree.VirtualCall trait_no method receiver args) h j a s = on_operands_sites f known own h (S_of (tree.VirtualCall trait_no method receiver args) h) j s _ (one_sites _ _ (node_sites receiver (inside_first f known own (nodes_of receiver) (nodes_among args) a)) (all_sites args (inside_second f known own (nodes_of receiver) (nodes_among args) a))) (λ site. effects.CallVirtual site trait_no method (lower.all_moved h.id (L receiver ∷ lower.lower_all f args))) (λ key n u. stops.all_copy f own h.id (L receiver ∷ lower.lower_all f args))
    form_sites (tree.ClosureCall body callee args) h j a s = on_operands_sites f known own h (S_of (tree.ClosureCall body callee args) h) j s _ (one_sites _ _ (node_sites callee (inside_first f known own (nodes_of callee) (nodes_among args) a)) (all_sites args (inside_second f known own (nodes_of callee) (nodes_among args) a))) (λ site. effects.Call site body (lower.all_moved h.id (L callee ∷ lower.lower_all f args))) (λ key n u. stops.all_copy f own h.id (L callee ∷ lower.lower_all f args))
    form_sites (tree.Make adt variant fields) h j a s = on_operands_sites f known own h (S_of (tree.Make adt variant fields) h) j s _ (fields_sites fields a) (λ site. effects.Build site (OfVariant adt variant) (moved_fields h.id (in_number_order (field_keys fields)))) (λ key. stops.fields_copy f own h.id (in_number_order (field_keys fields)))
    form_sites (tree.Tuple parts) h j a s = on_operands_sites f known own h (S_of (tree.Tuple parts) h) j s _ (all_sites parts a) (λ site. effects.Build site OfTuple (lower.all_moved h.id (lower.lower_all f parts))) (λ key. stops.all_copy f own h.id (lower.lower_all f parts))
    form_sites (tree.Array elements) h j a s = on_operands_sites f known own h (S_of (tree.Array elements) h) j s _ (all_sites elements a) (λ site. effects.Build site OfArray (lower.all_moved h.id (lower.lower_all f elements))) (λ key. stops.all_copy f own h.id (lower.lower_all f elements))
    form_sites (tree.Closure closure captures) h j a s = on_operands_sites f known own h (S_of (tree.Closure closure captures) h) j s _ (all_sites captures a) (λ site. effects.Build site (OfClosure closure) (lower.all_moved h.id (lower.lower_all f captures))) (λ key. stops.all_copy f own h.id (lower.lower_all f captures))
    form_sites (tree.Print operand) h j a s = gives_unit_sites f known own h (S_of (tree.Print operand) h) j s _ (node_sites operand a) effects.Print tt
    form_sites (tree.Forget operand) h j a s = gives_unit_sites f known own h (S_of (tree.Forget operand) h) j s _ (node_sites operand a) effects.Forget tt
    form_sites tree.Ask h j a s = scoped_sites f known own h (S_of tree.Ask h) j s _ (λ around to. deliver_sites f known own h.id h (effects.Ask) to j.0 j.0 (λ key n u. tt))
    form_sites (tree.DropValue operand) h j a s = value_sites f known own h (S_of (tree.DropValue operand) h) j s _ (λ around scoped to. lines.scope_sound f wanted h.id scoped _ (and_then f known own _ _ (operand_sites f known own _ (node_sites operand a) around) (unit_sites f known own h to j.0)))
    form_sites tree.Panic h j a s = value_sites f known own h (S_of tree.Panic h) j s _ (λ around scoped to. lines.panics_sound f wanted h.id Why.Explicit (λ u. (tt, tt)))
    form_sites (tree.Borrow unique base) h j a s =
        let sb = node_sites base a in
        value_sites f known own h (S_of (tree.Borrow unique base) h) j s _ (λ around scoped to. own_sites f known own h scoped _ (and_then f known own _ _ (sb.reaches around)
        (deliver_sites f known own (L base).head.id h (λ site. effects.Borrow (record site { node = (L base).head.id }) unique (lower.site_of (L base) around)) to sb.here j.0 (λ key. tt))))
    form_sites (tree.Unsize trait_no operand) h j a s = value_sites f known own h (S_of (tree.Unsize trait_no operand) h) j s _ (λ around scoped to. (node_sites operand a).evaluates around scoped (coerced (L operand).head.id trait_no to))
    form_sites (tree.Block stmts tail) h j a s =
        value_sites f known own h (S_of (tree.Block stmts tail) h) j s _ (λ around scoped to. lines.scope_sound f wanted h.id scoped _
        (and_then f known own _ _ (statements_sites f known own _ (all_sites stmts (inside_first f known own (nodes_among stmts) (nodes_if_any tail) a)) around) (tail_sites f known own h j.0 _ (if_any_sites tail (inside_second f known own (nodes_among stmts) (nodes_if_any tail) a)) around to)))
    form_sites (tree.Let pattern initialiser) h j a s =
        value_sites f known own h (S_of (tree.Let pattern initialiser) h) j s _ (λ around scoped to.
        let_sites f known own h j.0 _ (node_sites pattern (inside_first f known own (nodes_of pattern) (nodes_if_any initialiser) a)) _ (if_any_sites initialiser (inside_second f known own (nodes_of pattern) (nodes_if_any initialiser) a)) around)
    form_sites (tree.Evaluate expression) h j a s =
        value_sites f known own h (S_of (tree.Evaluate expression) h) j s _ (λ around scoped to. lines.scope_sound f wanted h.id true _
        (pended f known own true innermost (L expression).head _ (inner f known own) (node_sites expression a).here ((node_sites expression a).evaluates around false (Into (L expression).head.id))))
    form_sites (tree.If c consequent otherwise) h j a s =
        let a1 = inside_first f known own (nodes_of c ++ nodes_of consequent) (nodes_if_any otherwise) a in
        let so = if_any_sites otherwise (inside_second f known own (nodes_of c ++ nodes_of consequent) (nodes_if_any otherwise) a) in
        scoped_sites f known own h (S_of (tree.If c consequent otherwise) h) j s _ (λ around to. condition_sites f known own _ (node_sites c (inside_first f known own (nodes_of c) (nodes_of consequent) a1)) around _ _
        (alone_sites f known own _ (node_sites consequent (inside_second f known own (nodes_of c) (nodes_of consequent) a1)) around to) (otherwise_sites f known own h j.0 _ so around to))
    form_sites (tree.IfLet pattern scrutinee consequent otherwise) h j a s =
        let a1 = inside_first f known own (nodes_of pattern ++ nodes_of scrutinee ++ nodes_of consequent) (nodes_if_any otherwise) a in
        let a2 = inside_first f known own (nodes_of pattern ++ nodes_of scrutinee) (nodes_of consequent) a1 in
        let so = if_any_sites otherwise (inside_second f known own (nodes_of pattern ++ nodes_of scrutinee ++ nodes_of consequent) (nodes_if_any otherwise) a) in
        scoped_sites f known own h (S_of (tree.IfLet pattern scrutinee consequent otherwise) h) j s _ (λ around to.
        if_taken_sites f known own h around _ _ (node_sites pattern (inside_first f known own (nodes_of pattern) (nodes_of scrutinee) a2)) (node_sites scrutinee (inside_second f known own (nodes_of pattern) (nodes_of scrutinee) a2)) _ _
        (alone_sites f known own _ (node_sites consequent (inside_second f known own (nodes_of pattern ++ nodes_of scrutinee) (nodes_of consequent) a1)) around to) (otherwise_sites f known own h j.0 _ so around to))
    form_sites (tree.Match scrutinee arms) h j a s =
        let ss = node_sites scrutinee (inside_first f known own (nodes_of scrutinee) (nodes_among arms) a) in
        value_sites f known own h (S_of (tree.Match scrutinee arms) h) j s _ (λ around scoped to. own_sites f known own h scoped _ (and_then f known own _ _ (scrutinised_sites f known own _ ss around)
        (arms_sites f known own h.id _ (all_sites arms (inside_second f known own (nodes_of scrutinee) (nodes_among arms) a)) (lower.place_in (L scrutinee) around) around to)))
    form_sites (tree.Arm pattern guard m) h j a s =
        let a1 = inside_first f known own (nodes_of pattern ++ nodes_if_any guard) (nodes_of m) a in
        let sm = node_sites m (inside_second f known own (nodes_of pattern ++ nodes_if_any guard) (nodes_of m) a) in
        let sp = node_sites pattern (inside_first f known own (nodes_of pattern) (nodes_if_any guard) a1) in
        let sg = if_any_sites guard (inside_second f known own (nodes_of pattern) (nodes_if_any guard) a1) in
        let v = pattern_sites f known own h (S_of (tree.Arm pattern guard m) h) j s in
        record { here = j.0; owned = j.1; evaluates = v.evaluates; reaches = v.reaches; arm = arm_sites f known own h _ _ _ sp sg sm; shaped = s }
    form_sites (tree.Loop m) h j a s = scoped_sites f known own h (S_of (tree.Loop m) h) j s _ (λ around to. lines.looped_sound f wanted h.id _ (alone_sites f known own _ (node_sites m a) (in_loop h.id to around) (Into (L m).head.id)))
    form_sites (tree.While c m) h j a s =
        scoped_sites f known own h (S_of (tree.While c m) h) j s _ (λ around to. lines.looped_sound f wanted h.id _ (condition_sites f known own _ (node_sites c (inside_first f known own (nodes_of c) (nodes_of m) a)) (in_loop h.id to around) _ _
        (alone_sites f known own _ (node_sites m (inside_second f known own (nodes_of c) (nodes_of m) a)) (in_loop h.id to around) (Into (L m).head.id)) (ends_loop_sites f known own h to j.0)))
    form_sites (tree.WhileLet pattern scrutinee m) h j a s =
        let a1 = inside_first f known own (nodes_of pattern ++ nodes_of scrutinee) (nodes_of m) a in
        scoped_sites f known own h (S_of (tree.WhileLet pattern scrutinee m) h) j s _ (λ around to. lines.looped_sound f wanted h.id _
        (if_taken_sites f known own h (in_loop h.id to around) _ _ (node_sites pattern (inside_first f known own (nodes_of pattern) (nodes_of scrutinee) a1)) (node_sites scrutinee (inside_second f known own (nodes_of pattern) (nodes_of scrutinee) a1)) _ _
        (alone_sites f known own _ (node_sites m (inside_second f known own (nodes_of pattern ++ nodes_of scrutinee) (nodes_of m) a)) (in_loop h.id to around) (Into (L m).head.id)) (ends_loop_sites f known own h to j.0)))
    form_sites (tree.Break loop value) h j a s = scoped_sites f known own h (S_of (tree.Break loop value) h) j s _ (λ around to. lines.jump_sound f wanted h.id (Breaks loop) _ (jump_value_sites f known own h j.0 _ (if_any_sites value a) around (loop_destination loop around.loops)))
    form_sites (tree.Continue loop) h j a s = value_sites f known own h (S_of (tree.Continue loop) h) j s _ (λ around scoped to. lines.jump_sound f wanted h.id (Continues loop) nothing (lines.nothing_sound f wanted))
    form_sites (tree.Return value) h j a s = scoped_sites f known own h (S_of (tree.Return value) h) j s _ (λ around to. lines.jump_sound f wanted h.id Returns _ (jump_value_sites f known own h j.0 _ (if_any_sites value a) around around.answer))
    form_sites other h j a s = pattern_sites f known own h (S_of other h) j s

    all_sites : (ns : Nodes) → AllInside (nodes_among ns) → AllSites (lower.lower_all f ns)
    all_sites no_node a = none_sites
    all_sites (a_node first rest) a = one_sites _ _ (node_sites first (inside_first f known own (nodes_of first) (nodes_among rest) a)) (all_sites rest (inside_second f known own (nodes_of first) (nodes_among rest) a))

    fields_sites : (fs : Fields) → AllInside (nodes_of_fields fs) → AllSites (lower.lower_fields f fs)
    fields_sites no_field a = none_sites
    fields_sites (a_field number value rest) a =
        one_sites _ _ (node_sites value (inside_first f known own (nodes_of value) (nodes_of_fields rest) a)) (fields_sites rest (inside_second f known own (nodes_of value) (nodes_of_fields rest) a))

    if_any_sites : (n : MaybeNode) → AllInside (nodes_if_any n) → IfAnySites (lower.lower_if_any f n)
    if_any_sites absent a = without
    if_any_sites (present value) a = with_one _ (node_sites value a)

  -- ---- bodies
  params_sites : (params : List ParamTree) → AllIn (param_nodes params) → Sound (lower.params_entered f params)
  params_sites [] a = lines.nothing_sound f wanted
  params_sites (param ∷ params) a =
      let here = in_first f known own (nodes_of param.pattern) (param_nodes params) a in
      lines.changed_sound f wanted (innermost (with_entry (record { key = param_key param; ty = param.ty }))) _
      (inner f known own (with_entry (record { key = param_key param; ty = param.ty })) (lines.entry_keeps f wanted (record { key = param_key param; ty = param.ty }) (first_in param.pattern here)))
      (and_then f known own _ _ (names (shape f.items param.pattern).is_binding ((node_shaped f known own param.pattern here).1 (whole_local (param_key param)))) (params_sites params (in_second f known own (nodes_of param.pattern) (param_nodes params) a)))
    where
      first_in : (n : tree.Node) → AllIn (nodes_of n) → In (number_of n)
      first_in (tree.node id at ty by form) a = a.0

      names : (x : Bool) → BoundsIn ((shape f.items param.pattern).bindings (whole_local (param_key param))) → Sound (lower.names_of_param f x ((shape f.items param.pattern).bindings (whole_local (param_key param))))
      names true b = lines.nothing_sound f wanted
      names false b = bind_sites f known own innermost (inner f known own) _ b

  pub function_sites : (body : BodyTree) → AllIn (param_nodes body.params) → AllInside (nodes_of body.block) → Sound (lower.entire_function f body)
  function_sites body a b =
      lines.scope_sound f wanted (answer_key body) true _
      (and_then f known own _ _ (params_sites body.params a)
      ((node_sites body.block b).evaluates (lower.around_body f body) false (Into (answer_key body))))
