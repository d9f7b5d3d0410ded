-- The jumps of what is lowered name the loops that those of the source name: none, where each names a loop around it.
use Rattle.std.proofs.Common.{◌≡◌, ℕ, Bool, true, false, ◌&&◌, ◌||◌, ◌==◌, List, [], ◌∷◌, ◌++◌, refl, ap, inl, inr, arith, if◌then◌else◌}
use Rattle.std.proofs.lemmas.Bool.Decides.{eqb_tells}
use Rattle.store_model.specs.Effects as effects
use Rattle.store_model.specs.Effects.{EffectSite, Action}
use Rattle.store_model.specs.Places.Place.{Place, whole_local}
use Rattle.typed_tree.specs.Tree as tree
use Rattle.typed_tree.specs.Tree.{Form, Nodes, no_node, a_node, Fields, no_field, a_field, MaybeNode, absent, present, ParamTree, BodyTree}
use Rattle.mir_base.specs.declared.trace.Why.{Why}
use Rattle.mir_ty.specs.Facts.{needs_drop}
use Rattle.src_meaning.specs.Evaluation.{in_number_order, to_own_key}
use Rattle.src_meaning.specs.Forms.{Destination, Into, Coerced, LoopsAndGuards, in_loop, loop_destination, in_guard, coerced, bound_entry, site_in, site_of_key, moved, is_never}
use Rattle.src_meaning.specs.Locals.OfBody.{param_key, answer_key}
use Rattle.src_meaning.specs.Scopes.{Scope, Scopes, with_scope, innermost, around_innermost, with_entry, Exit, Value, Breaks, Continues, Returns, Panics}
use Rattle.src_meaning.specs.Shape.{NodeHead, head, Shape, BoundName, kind_of, shape, shape_of, site_at, operand_of_bound, operand_at}
use Rattle.src_meaning.specs.FieldKeys.{field_keys, moved_fields}
use Rattle.lower_rules.specs.Build as build
use Rattle.lower_rules.specs.Build.{LoweringFrame, Lowers, act, act_by, is_last, done_by, outside, jumps_if}
use Rattle.lower_rules.specs.Loops.{has_loop, names_loops, names_loops_in, all_name_loops, fields_name_loops, if_any_names, names_its_loops}
use Rattle.lower_rules.specs.Lower as lower
use Rattle.lower_rules.specs.Lower.{Evaluates, Reaches, NodeLower, LowerIfAny, no_lower, a_lower}

-- an exit names one of these loops
abbrev Names : List ℕ → Exit → Type 0
Names loops (Breaks loop) = has_loop loop loops ≡ true
Names loops (Continues loop) = has_loop loop loops ≡ true
Names loops exit = ⊥

abbrev pub AllIn : List ℕ → List Exit → Type 0
AllIn loops [] = Unit {0}
AllIn loops (exit ∷ exits) = Names loops exit × AllIn loops exits

in_append : (loops : List ℕ) (xs ys : List Exit) → AllIn loops xs → AllIn loops ys → AllIn loops (xs ++ ys)
in_append loops [] ys h k = k
in_append loops (x ∷ xs) ys h k = (h.0, in_append loops xs ys h.1 k)

in_if : (loops : List ℕ) (x : Bool) (xs : List Exit) → AllIn loops xs → AllIn loops (jumps_if x xs)
in_if loops true xs h = h
in_if loops false xs h = tt

-- outside a loop its own jumps are gone
in_outside : (id : ℕ) (loops : List ℕ) (xs : List Exit) → AllIn (id ∷ loops) xs → AllIn loops (outside id xs)
in_outside id loops [] h = tt
in_outside id loops (Value ∷ xs) h = absurd h.0
in_outside id loops (Returns ∷ xs) h = absurd h.0
in_outside id loops (Panics ∷ xs) h = absurd h.0
in_outside id loops (Breaks loop ∷ xs) h = by_name (id == loop) h.0 (in_outside id loops xs h.1)
  where
    by_name : (x : Bool) → x || has_loop loop loops ≡ true → AllIn loops (outside id xs) → AllIn loops (if x then outside id xs else Breaks loop ∷ outside id xs)
    by_name true e k = k
    by_name false e k = (e, k)
in_outside id loops (Continues loop ∷ xs) h = by_name (id == loop) h.0 (in_outside id loops xs h.1)
  where
    by_name : (x : Bool) → x || has_loop loop loops ≡ true → AllIn loops (outside id xs) → AllIn loops (if x then outside id xs else Continues loop ∷ outside id xs)
    by_name true e k = k
    by_name false e k = (e, k)

equal_itself : (n : ℕ) → (n == n) ≡ true
equal_itself n = elim (eqb_tells n n) [ inl same ↦ same.0 | inr other ↦ absurd (let apart = other.1 in let never : ⊥ = omega arith in never) ]

both : (x y : Bool) → x && y ≡ true → (x ≡ true) × (y ≡ true)
both true y e = (refl, e)
both false y e = absurd (let never : false ≡ true = e in cc)

-- the jumps of what is lowered name these loops
pub record JumpsIn (loops : List ℕ) (P : Lowers) : Type 0 where
  pub named : AllIn loops P.jumps

module _ (f : LoweringFrame) (loops : List ℕ) where
  nothing_in : JumpsIn loops build.nothing
  nothing_in = record { named = tt }

  change_in : (g : Scopes → Scopes) → JumpsIn loops (build.change g)
  change_in g = record { named = tt }

  changed_in : (g : Scopes → Scopes) (P : Lowers) → JumpsIn loops P → JumpsIn loops (build.from_changed g P)
  changed_in g P h = record { named = h.named }

  back_in : (P : Lowers) → JumpsIn loops P → JumpsIn loops (build.back_in P)
  back_in P h = record { named = h.named }

  then_in : (P Q : Lowers) → JumpsIn loops P → JumpsIn loops Q → JumpsIn loops (build.then_lower P Q)
  then_in P Q p q = record { named = in_append loops P.jumps (jumps_if P.has_end Q.jumps) p.named (in_if loops P.has_end Q.jumps q.named) }

  act_in : (n : ℕ) (action : Action) → JumpsIn loops (act f n action)
  act_in n action = by_last (is_last f action)
    where
      by_last : (x : Bool) → JumpsIn loops (act_by f x n (done_by f action))
      by_last true = record { named = tt }
      by_last false = record { named = tt }

  scope_in : (node : ℕ) (own : Bool) (P : Lowers) → JumpsIn loops P → JumpsIn loops (build.in_scope f node own P)
  scope_in node own P h = changed_in (with_scope node own) _ (then_in P (build.leave f) h (record { named = tt }))

  deliver_in : (n : ℕ) (h : NodeHead) (action : EffectSite → Action) (to : Destination) → JumpsIn loops (lower.deliver_at f n h action to)
  deliver_in n h action (Into key) = act_in n (action (site_in h.id key))
  deliver_in n h action (Coerced key trait_no to) =
      then_in (act f n (action (site_in h.id key))) (act f h.id (effects.Unsize (site_in h.id to) trait_no (moved h.id key))) (act_in n (action (site_in h.id key)))
      (act_in h.id (effects.Unsize (site_in h.id to) trait_no (moved h.id key)))

  own_in : (h : NodeHead) (own : Bool) (P : Lowers) → JumpsIn loops P → JumpsIn loops (lower.in_own_scope f h own P)
  own_in h true P l = scope_in h.id true P l
  own_in h false P l = l

  -- a node, as it is evaluated, as its place is reached, and as an arm
  pub record NodeIn (m : NodeLower) : Type 0 where
    pub evaluated : (around : LoopsAndGuards) (own : Bool) (to : Destination) → JumpsIn loops (m.evaluates around own to)
    pub reached : (around : LoopsAndGuards) → JumpsIn loops (m.reaches around)
    pub armed : (matched : Place) (around : LoopsAndGuards) (to : Destination) → AllIn loops (m.arm matched around to).jumps

  pub data AllNodesIn : List NodeLower → Type 0 where
    none_in : AllNodesIn []
    one_in : (m : NodeLower) (ms : List NodeLower) → NodeIn m → AllNodesIn ms → AllNodesIn (m ∷ ms)

  pub data IfAnyIn : LowerIfAny → Type 0 where
    without : IfAnyIn no_lower
    with_one : (m : NodeLower) → NodeIn m → IfAnyIn (a_lower m)

  operand_in : (around : LoopsAndGuards) (m : NodeLower) → NodeIn m → JumpsIn loops (lower.operand f around m)
  operand_in around m l = changed_in _ _ (then_in _ _ (l.evaluated around false (Into m.head.id)) (change_in (lower.completed f innermost m.head)))

  operands_in : (around : LoopsAndGuards) (ms : List NodeLower) → AllNodesIn ms → JumpsIn loops (lower.operands f around ms)
  operands_in around _ none_in = nothing_in
  operands_in around _ (one_in m ms l all) = then_in _ _ (operand_in around m l) (operands_in around ms all)

  acting_in : (h : NodeHead) (around : LoopsAndGuards) (own : Bool) (ms : List NodeLower) → AllNodesIn ms → (P : Lowers) → JumpsIn loops P → JumpsIn loops (lower.acting f h around own ms P)
  acting_in h around own ms all P l = scope_in h.id own _ (then_in _ _ (operands_in around ms all) (changed_in (build.taken f (lower.keys_of ms)) P l))

  value_in : (h : NodeHead) (s : Shape) (e : Evaluates) → ((around : LoopsAndGuards) (own : Bool) (to : Destination) → JumpsIn loops (e around own to)) → NodeIn (lower.a_value f h s e)
  value_in h s e l = record {
    evaluated = λ around own to. l around own (to_own_key (is_never f.items h.ty) h.id to);
    reached = λ around. changed_in _ _ (then_in _ _ (l around false (to_own_key (is_never f.items h.ty) h.id (Into h.id))) (record { named = tt }));
    armed = λ matched around to. tt;
  }

  place_in : (h : NodeHead) (s : Shape) (r : Reaches) → ((around : LoopsAndGuards) → JumpsIn loops (r around)) → NodeIn (lower.a_place f h s r)
  place_in h s r l = record {
    evaluated = λ around own to. own_in h own _ (then_in _ _ (l around) (deliver_in h.id h (λ site. effects.Put site (operand_at h (s.place around.aliases))) (to_own_key (is_never f.items h.ty) h.id to)));
    reached = l;
    armed = λ matched around to. tt;
  }

  scope_value_in : (h : NodeHead) (s : Shape) (e : lower.MakesInto) → ((around : LoopsAndGuards) (to : Destination) → JumpsIn loops (e around to)) → NodeIn (lower.a_scope f h s e)
  scope_value_in h s e l = value_in h s (λ around own to. lower.in_own_scope f h own (e around to)) (λ around own to. own_in h own _ (l around to))

  operands_value_in : (h : NodeHead) (s : Shape) (ms : List NodeLower) → AllNodesIn ms → (action : EffectSite → Action) → NodeIn (lower.on_operands f h s ms action)
  operands_value_in h s ms all action =
      value_in h s (λ around own to. lower.acting f h around own ms (lower.deliver f h action to)) (λ around own to. acting_in h around own ms all _ (deliver_in h.id h action to))

  effect_value_in : (h : NodeHead) (s : Shape) (action : EffectSite → Action) → NodeIn (lower.effect f h s action)
  effect_value_in h s action = scope_value_in h s (λ around to. lower.deliver f h action to) (λ around to. deliver_in h.id h action to)

  unit_in : (h : NodeHead) (to : Destination) → JumpsIn loops (lower.put_unit f h to)
  unit_in h to = deliver_in h.id h (λ site. effects.Put site effects.UnitValue) to

  unit_if_in : (x : Bool) (h : NodeHead) (to : Destination) → JumpsIn loops (lower.put_unit_if f x h to)
  unit_if_in true h to = nothing_in
  unit_if_in false h to = unit_in h to

  gives_unit_in : (h : NodeHead) (s : Shape) (m : NodeLower) → NodeIn m → (action : effects.Operand → Action) → NodeIn (lower.gives_unit f h s m action)
  gives_unit_in h s m l action =
      value_in h s (λ around own to. lower.acting f h around own (m ∷ []) (lower.unit_after f h (action (moved h.id m.head.id)) to))
      (λ around own to. acting_in h around own (m ∷ []) (one_in m [] l none_in) _ (then_in _ _ (act_in h.id (action (moved h.id m.head.id))) (unit_in h to)))

  branches_in : (node : ℕ) (x : ℕ → ℕ → build.Building → build.BlockRest × build.Building) (P Q : Lowers) → JumpsIn loops P → JumpsIn loops Q → JumpsIn loops (build.branches node x P Q)
  branches_in node x P Q p q = record { named = in_append loops P.jumps Q.jumps p.named q.named }

  condition_in : (around : LoopsAndGuards) (m : NodeLower) → NodeIn m → (P Q : Lowers) → JumpsIn loops P → JumpsIn loops Q → JumpsIn loops (lower.condition f around m P Q)
  condition_in around m l P Q p q =
      then_in _ _ (back_in _ (l.evaluated around true (Into m.head.id))) (branches_in m.head.id (build.if_true f (moved m.head.id m.head.id) m.head.id) P Q p q)

  branch_in : (around : LoopsAndGuards) (to : Destination) (m : LowerIfAny) → IfAnyIn m → (P : Lowers) → JumpsIn loops P → JumpsIn loops (lower.branch f around to m P)
  branch_in around to _ without P l = l
  branch_in around to _ (with_one m h) P l = back_in _ (h.evaluated around true to)

  bind_in : (in_that : (Scope → Scope) → Scopes → Scopes) (bounds : List BoundName) → JumpsIn loops (lower.bind f in_that bounds)
  bind_in in_that [] = nothing_in
  bind_in in_that (b ∷ bounds) =
      then_in _ _ (act_in b.key (effects.Put (site_of_key b.key) (operand_of_bound b))) (changed_in (in_that (with_entry (bound_entry b))) _ (bind_in in_that bounds))

  touched_in : (x : Bool) (site : EffectSite) → JumpsIn loops (lower.touched f x site)
  touched_in true site = act_in site.node (effects.Touch site)
  touched_in false site = nothing_in

  scrutinised_in : (around : LoopsAndGuards) (m : NodeLower) → NodeIn m → JumpsIn loops (lower.scrutinised f around m)
  scrutinised_in around m l = then_in _ _ (l.reached around) (touched_in m.shape.is_place (lower.site_of m around))

  leave_in : JumpsIn loops (build.leave f)
  leave_in = record { named = tt }

  if_taken_in : (h : NodeHead) (around : LoopsAndGuards) (pattern scrutinee : NodeLower) → NodeIn scrutinee → (P Q : Lowers) → JumpsIn loops P → JumpsIn loops Q →
      JumpsIn loops (lower.if_taken f h around pattern scrutinee P Q)
  if_taken_in h around pattern scrutinee l P Q p q =
      changed_in (with_scope h.id true) _ (then_in _ _ (scrutinised_in around scrutinee l)
      (branches_in h.id (build.tests f (pattern.shape.tests (lower.place_in scrutinee around))) _ _
      (then_in _ _ (then_in _ _ (bind_in innermost (pattern.shape.bindings (lower.place_in scrutinee around))) p) leave_in) (then_in _ _ leave_in q)))

  taken_in : (h : NodeHead) (around : LoopsAndGuards) (bounds : List BoundName) (m : NodeLower) → NodeIn m → (to : Destination) → JumpsIn loops (lower.taken_arm f h around bounds m to)
  taken_in h around bounds m l to = scope_in h.id false _ (then_in _ _ (bind_in innermost bounds) (back_in _ (l.evaluated around true to)))

  guarded_in : (around : LoopsAndGuards) (bounds : List BoundName) (g : LowerIfAny) → IfAnyIn g → (P : Lowers) → JumpsIn loops P → AllIn loops (lower.guarded f around bounds g P).jumps
  guarded_in around bounds _ without P p = p.named
  guarded_in around bounds _ (with_one g l) P p =
      let asked = lower.alone f (in_guard bounds around) g (Into g.head.id) in
      in_append loops asked.jumps (jumps_if asked.has_end P.jumps) (l.evaluated (in_guard bounds around) true (Into g.head.id)).named (in_if loops asked.has_end P.jumps p.named)

  arms_in : (ms : List NodeLower) → AllNodesIn ms → (matched : Place) (around : LoopsAndGuards) (to : Destination) → AllIn loops (lower.arm_jumps f ms matched around to)
  arms_in _ none_in matched around to = tt
  arms_in _ (one_in m ms l all) matched around to =
      in_append loops (m.arm matched around to).jumps (lower.arm_jumps f ms matched around to) (l.armed matched around to) (arms_in ms all matched around to)

  emptied_in : (x : Bool) (key : ℕ) → JumpsIn loops (lower.emptied f x key)
  emptied_in true key = nothing_in
  emptied_in false key = record { named = tt }

  declared_in : (bounds : List BoundName) → JumpsIn loops (lower.declared f bounds)
  declared_in [] = nothing_in
  declared_in (b ∷ bounds) = then_in _ _ (emptied_in (needs_drop f.items b.ty) b.key) (changed_in (innermost (with_entry (bound_entry b))) _ (declared_in bounds))

  let_value_in : (x : Bool) (h : NodeHead) (pattern m : NodeLower) → NodeIn m → (around : LoopsAndGuards) → JumpsIn loops (lower.let_value f x h pattern m around)
  let_value_in true h pattern m l around = scope_in h.id true _ (changed_in _ _ (then_in _ _ (l.evaluated around false (Into pattern.head.id)) (change_in (lower.named f pattern.head))))
  let_value_in false h pattern m l around =
      scope_in h.id true _ (changed_in _ _ (then_in _ _ (l.reached around) (bind_in around_innermost (pattern.shape.bindings (lower.place_in m around)))))

  letting_in : (h : NodeHead) (pattern : NodeLower) (m : LowerIfAny) → IfAnyIn m → (around : LoopsAndGuards) → JumpsIn loops (lower.letting f h pattern m around)
  letting_in h pattern _ without around = declared_in (pattern.shape.bindings (whole_local 0))
  letting_in h pattern _ (with_one m l) around = let_value_in pattern.shape.is_binding h pattern m l around

  statements_in : (around : LoopsAndGuards) (ms : List NodeLower) → AllNodesIn ms → JumpsIn loops (lower.statements f around ms)
  statements_in around _ none_in = nothing_in
  statements_in around _ (one_in m ms l all) = then_in _ _ (l.evaluated around false (Into m.head.id)) (statements_in around ms all)

  tail_in : (h : NodeHead) (m : LowerIfAny) → IfAnyIn m → (around : LoopsAndGuards) (to : Destination) → JumpsIn loops (lower.tail_of f h m around to)
  tail_in h _ without around to = unit_if_in (is_never f.items h.ty) h to
  tail_in h _ (with_one m l) around to = back_in _ (l.evaluated around true to)

  jump_value_in : (h : NodeHead) (m : LowerIfAny) → IfAnyIn m → (around : LoopsAndGuards) (to : Destination) → JumpsIn loops (lower.value_of_jump f h m around to)
  jump_value_in h _ without around to = unit_in h to
  jump_value_in h _ (with_one m l) around to = l.evaluated around false to

  jump_in : (node : ℕ) (exit : Exit) → AllIn loops (build.naming exit) → (P : Lowers) → JumpsIn loops P → JumpsIn loops (build.jump f node exit P)
  jump_in node exit e P l = then_in P (build.exits f node exit) l (record { named = e })

  replaces_in : (x : Bool) (site : EffectSite) (key : ℕ) → JumpsIn loops (build.replaces f x site key)
  replaces_in true site key = record { named = tt }
  replaces_in false site key = changed_in (build.taken f (key ∷ [])) _ (act_in site.node (effects.Put site (moved site.node key)))

module _ (f : LoweringFrame) where
  -- a loop: the jumps that name it are gone behind it
  looped_in : (loops : List ℕ) (id : ℕ) (turn : Lowers) → JumpsIn (id ∷ loops) turn → JumpsIn loops (build.looped id turn)
  looped_in loops id turn l = record { named = in_outside id loops turn.jumps l.named }

  -- the loop is among those in it
  has_itself : (id : ℕ) (loops : List ℕ) → has_loop id (id ∷ loops) ≡ true
  has_itself id loops = ap (λ b. b || has_loop id loops) (equal_itself id)

  ends_loop_in : (loops : List ℕ) (h : NodeHead) (to : Destination) → JumpsIn (h.id ∷ loops) (lower.ends_loop f h to)
  ends_loop_in loops h to = jump_in f (h.id ∷ loops) h.id (Breaks h.id) (has_itself h.id loops, tt) _ (unit_in f (h.id ∷ loops) h to)

  abbrev M : tree.Node → NodeLower
  M = lower.lower f

  mutual
    pub node_in : (loops : List ℕ) (n : tree.Node) → names_loops loops n ≡ true → NodeIn f loops (M n)
    node_in loops (tree.node id at ty by form) e = form_in loops form (head id ty by) (shape_of f.items form (head id ty by)) e

    form_in : (loops : List ℕ) (form : Form) (h : NodeHead) (s : Shape) → names_loops_in loops h.id form ≡ true → NodeIn f loops (lower.lower_form f form h s)
    form_in loops (tree.Number value) h s e = effect_value_in f loops h s (λ site. effects.Put site (effects.Number value (kind_of f.items h.ty)))
    form_in loops (tree.Truth value) h s e = effect_value_in f loops h s (λ site. effects.Put site (effects.Truth value))
    form_in loops tree.UnitValue h s e = effect_value_in f loops h s (λ site. effects.Put site effects.UnitValue)
    form_in loops (tree.Variable key) h s e = place_in f loops h s (λ around. build.nothing) (λ around. nothing_in f loops)
    form_in loops (tree.Captured closure part name) h s e = place_in f loops h s (λ around. build.nothing) (λ around. nothing_in f loops)
    form_in loops (tree.Field base part) h s e = place_in f loops h s (M base).reaches (node_in loops base e).reached
    form_in loops (tree.Index base index count) h s e =
        let b = both (names_loops loops base) (names_loops loops index) e in
        let base_in = node_in loops base b.0 in
        let index_in = node_in loops index b.1 in
        place_in f loops h s (lower.reach_element f h s (M base) (M index) count) (λ around.
        then_in f loops _ _ (base_in.reached around) (then_in f loops _ _ (index_in.evaluated around false (Into (M index).head.id))
        (then_in f loops _ _ (act_in f loops h.id (effects.Touch (site_at h (lower.array_around f (s.place around.aliases)))))
        (act_in f loops (M index).head.id (effects.Bounds (effects.Copied (site_of_key (M index).head.id)) count)))))
    form_in loops (tree.Deref base) h s e = place_in f loops h s (M base).reaches (node_in loops base e).reached
    form_in loops (tree.Not operand) h s e = operands_value_in f loops h s (M operand ∷ []) (one_in _ [] (node_in loops operand e) none_in) (λ site. effects.Not site (moved h.id (M operand).head.id))
    form_in loops (tree.Negate operand) h s e = operands_value_in f loops h s (M operand ∷ []) (one_in _ [] (node_in loops operand e) none_in) (λ site. effects.Negate site (moved h.id (M operand).head.id))
    form_in loops (tree.Arithmetic operator left right) h s e =
        let b = both (names_loops loops left) (names_loops loops right) e in
        operands_value_in f loops h s (M left ∷ M right ∷ []) (one_in _ _ (node_in loops left b.0) (one_in _ [] (node_in loops right b.1) none_in))
        (λ site. effects.Compute site operator (moved h.id (M left).head.id) (moved h.id (M right).head.id))
    form_in loops (tree.Comparison operator left right) h s e =
        let b = both (names_loops loops left) (names_loops loops right) e in
        operands_value_in f loops h s (M left ∷ M right ∷ []) (one_in _ _ (node_in loops left b.0) (one_in _ [] (node_in loops right b.1) none_in))
        (λ site. effects.Compare site operator (moved h.id (M left).head.id) (moved h.id (M right).head.id))
    form_in loops (tree.And left right) h s e =
        let b = both (names_loops loops left) (names_loops loops right) e in
        let right_in = node_in loops right b.1 in
        scope_value_in f loops h s (lower.conjunction f h (M left) (M right)) (λ around to.
        condition_in f loops around (M left) (node_in loops left b.0) (lower.alone f around (M right) to) (lower.shortcut f h false to) (back_in f loops _ (right_in.evaluated around true to))
        (deliver_in f loops h.id h (λ site. effects.Put site (effects.Truth false)) to))
    form_in loops (tree.Or left right) h s e =
        let b = both (names_loops loops left) (names_loops loops right) e in
        let right_in = node_in loops right b.1 in
        scope_value_in f loops h s (lower.disjunction f h (M left) (M right)) (λ around to.
        condition_in f loops around (M left) (node_in loops left b.0) (lower.shortcut f h true to) (lower.alone f around (M right) to) (deliver_in f loops h.id h (λ site. effects.Put site (effects.Truth true)) to)
        (back_in f loops _ (right_in.evaluated around true to)))
    form_in loops (tree.Assign place value) h s e =
        let b = both (names_loops loops place) (names_loops loops value) e in
        let place_of = node_in loops place b.0 in
        value_in f loops h s (lower.assigning f h (M place) (M value)) (λ around own to.
        scope_in f loops h.id own _ (then_in f loops _ _ (operand_in f loops around (M value) (node_in loops value b.1)) (then_in f loops _ _ (place_of.reached around)
        (then_in f loops _ _ (replaces_in f loops (needs_drop f.items (M place).head.ty) (lower.site_of (M place) around) (M value).head.id) (unit_in f loops h to)))))
    form_in loops (tree.Call g args) h s e = operands_value_in f loops h s (lower.lower_all f args) (all_in loops args e) (λ site. effects.Call site g (lower.all_moved h.id (lower.lower_all f args)))
    form_in loops (tree.MethodCall g receiver args) h s e =
        let b = both (names_loops loops receiver) (all_name_loops loops args) e in
        operands_value_in f loops h s (M receiver ∷ lower.lower_all f args) (one_in _ _ (node_in loops receiver b.0) (all_in loops args b.1))
        (λ site. effects.Call site g (lower.all_moved h.id (M receiver ∷ lower.lower_all f args)))
    form_in loops (tree.VirtualCall trait_no method receiver args) h s e =
        let b = both (names_loops loops receiver) (all_name_loops loops args) e in
        operands_value_in f loops h s (M receiver ∷ lower.lower_all f args) (one_in _ _ (node_in loops receiver b.0) (all_in loops args b.1))
        (λ site. effects.CallVirtual site trait_no method (lower.all_moved h.id (M receiver ∷ lower.lower_all f args)))
    form_in loops (tree.ClosureCall g callee args) h s e =
        let b = both (names_loops loops callee) (all_name_loops loops args) e in
        operands_value_in f loops h s (M callee ∷ lower.lower_all f args) (one_in _ _ (node_in loops callee b.0) (all_in loops args b.1))
        (λ site. effects.Call site g (lower.all_moved h.id (M callee ∷ lower.lower_all f args)))
    form_in loops (tree.Make adt variant fields) h s e =
        operands_value_in f loops h s (lower.lower_fields f fields) (fields_in loops fields e) (λ site. effects.Build site (effects.OfVariant adt variant) (moved_fields h.id (in_number_order (field_keys fields))))
    form_in loops (tree.Tuple parts) h s e =
        operands_value_in f loops h s (lower.lower_all f parts) (all_in loops parts e) (λ site. effects.Build site effects.OfTuple (lower.all_moved h.id (lower.lower_all f parts)))
    form_in loops (tree.Array elements) h s e =
        operands_value_in f loops h s (lower.lower_all f elements) (all_in loops elements e) (λ site. effects.Build site effects.OfArray (lower.all_moved h.id (lower.lower_all f elements)))
    form_in loops (tree.Closure closure captures) h s e =
        operands_value_in f loops h s (lower.lower_all f captures) (all_in loops captures e) (λ site. effects.Build site (effects.OfClosure closure) (lower.all_moved h.id (lower.lower_all f captures)))
    form_in loops (tree.NewBox content) h s e = operands_value_in f loops h s (M content ∷ []) (one_in _ [] (node_in loops content e) none_in) (λ site. effects.NewBox site (moved h.id (M content).head.id))
    form_in loops (tree.Print operand) h s e = gives_unit_in f loops h s (M operand) (node_in loops operand e) effects.Print
    form_in loops tree.Ask h s e = effect_value_in f loops h s effects.Ask
    form_in loops (tree.DropValue operand) h s e = value_in f loops h s (λ around own to. lower.dropping f h around own (M operand) (lower.put_unit f h to))
        (λ around own to. scope_in f loops h.id own _ (then_in f loops _ _ (operand_in f loops around (M operand) (node_in loops operand e)) (unit_in f loops h to)))
    form_in loops (tree.Forget operand) h s e = gives_unit_in f loops h s (M operand) (node_in loops operand e) effects.Forget
    form_in loops tree.Panic h s e = value_in f loops h s (λ around own to. build.panics f h.id Why.Explicit) (λ around own to. record { named = tt })
    form_in loops (tree.Borrow unique base) h s e =
        let base_in = node_in loops base e in
        value_in f loops h s (lower.borrowing f h unique (M base)) (λ around own to. own_in f loops h own _ (then_in f loops _ _ (base_in.reached around)
        (deliver_in f loops (M base).head.id h (λ site. effects.Borrow (record site { node = (M base).head.id }) unique (lower.site_of (M base) around)) to)))
    form_in loops (tree.Unsize trait_no operand) h s e =
        let operand_of = node_in loops operand e in
        value_in f loops h s (λ around own to. (M operand).evaluates around own (coerced (M operand).head.id trait_no to)) (λ around own to. operand_of.evaluated around own (coerced (M operand).head.id trait_no to))
    form_in loops (tree.Block stmts tail) h s e =
        let b = both (all_name_loops loops stmts) (if_any_names loops tail) e in
        value_in f loops h s (lower.block f h (lower.lower_all f stmts) (lower.lower_if_any f tail))
        (λ around own to. scope_in f loops h.id own _ (then_in f loops _ _ (statements_in f loops around (lower.lower_all f stmts) (all_in loops stmts b.0))
        (tail_in f loops h (lower.lower_if_any f tail) (if_any_in loops tail b.1) around to)))
    form_in loops (tree.Let pattern initialiser) h s e = value_in f loops h s (λ around own to. lower.letting f h (M pattern) (lower.lower_if_any f initialiser) around)
        (λ around own to. letting_in f loops h (M pattern) (lower.lower_if_any f initialiser) (if_any_in loops initialiser e) around)
    form_in loops (tree.Evaluate expression) h s e =
        let expression_in = node_in loops expression e in
        value_in f loops h s (λ around own to. lower.evaluating f h (M expression) around) (λ around own to.
        scope_in f loops h.id true _ (changed_in f loops _ _ (then_in f loops _ _ (expression_in.evaluated around false (Into (M expression).head.id)) (change_in f loops (lower.completed f innermost (M expression).head)))))
    form_in loops (tree.If condition consequent otherwise) h s e =
        let b = both (names_loops loops condition) (names_loops loops consequent && if_any_names loops otherwise) e in
        let b2 = both (names_loops loops consequent) (if_any_names loops otherwise) b.1 in
        let consequent_in = node_in loops consequent b2.0 in
        scope_value_in f loops h s (λ around to. lower.condition f around (M condition) (lower.alone f around (M consequent) to) (lower.otherwise_unit f h (lower.lower_if_any f otherwise) around to))
        (λ around to. condition_in f loops around (M condition) (node_in loops condition b.0) _ _ (back_in f loops _ (consequent_in.evaluated around true to))
        (branch_in f loops around to (lower.lower_if_any f otherwise) (if_any_in loops otherwise b2.1) _ (unit_in f loops h to)))
    form_in loops (tree.IfLet pattern scrutinee consequent otherwise) h s e =
        let b = both (names_loops loops scrutinee) (names_loops loops consequent && if_any_names loops otherwise) e in
        let b2 = both (names_loops loops consequent) (if_any_names loops otherwise) b.1 in
        let consequent_in = node_in loops consequent b2.0 in
        scope_value_in f loops h s (λ around to. lower.if_taken f h around (M pattern) (M scrutinee) (lower.alone f around (M consequent) to) (lower.otherwise_unit f h (lower.lower_if_any f otherwise) around to))
        (λ around to. if_taken_in f loops h around (M pattern) (M scrutinee) (node_in loops scrutinee b.0) _ _ (back_in f loops _ (consequent_in.evaluated around true to))
        (branch_in f loops around to (lower.lower_if_any f otherwise) (if_any_in loops otherwise b2.1) _ (unit_in f loops h to)))
    form_in loops (tree.Match scrutinee arms) h s e =
        let b = both (names_loops loops scrutinee) (all_name_loops loops arms) e in
        value_in f loops h s (lower.matching f h (M scrutinee) (lower.lower_all f arms)) (λ around own to.
        own_in f loops h own _ (then_in f loops _ (lower.arms_in_order f h.id (lower.lower_all f arms) (lower.place_in (M scrutinee) around) around to) (scrutinised_in f loops around (M scrutinee) (node_in loops scrutinee b.0))
        (record { named = arms_in f loops (lower.lower_all f arms) (all_in loops arms b.1) (lower.place_in (M scrutinee) around) around to })))
    form_in loops (tree.Arm pattern guard m) h s e =
        let b = both (if_any_names loops guard) (names_loops loops m) e in
        let l = value_in f loops h s (λ around own to. build.nothing) (λ around own to. nothing_in f loops) in
        record {
          evaluated = l.evaluated;
          reached = l.reached;
          armed = λ matched around to.
              guarded_in f loops around ((M pattern).shape.bindings matched) (lower.lower_if_any f guard) (if_any_in loops guard b.0) _
              (taken_in f loops h around ((M pattern).shape.bindings matched) (M m) (node_in loops m b.1) to);
        }
    form_in loops (tree.Loop m) h s e =
        let m_in = node_in (h.id ∷ loops) m e in
        scope_value_in f loops h s (λ around to. build.looped h.id (lower.body_in f (M m) (in_loop h.id to around)))
        (λ around to. looped_in loops h.id _ (back_in f (h.id ∷ loops) _ (m_in.evaluated (in_loop h.id to around) true (Into (M m).head.id))))
    form_in loops (tree.While condition m) h s e =
        let b = both (names_loops (h.id ∷ loops) condition) (names_loops (h.id ∷ loops) m) e in
        let m_in = node_in (h.id ∷ loops) m b.1 in
        scope_value_in f loops h s (λ around to. build.looped h.id (lower.condition f (in_loop h.id to around) (M condition) (lower.body_in f (M m) (in_loop h.id to around)) (lower.ends_loop f h to)))
        (λ around to. looped_in loops h.id _ (condition_in f (h.id ∷ loops) (in_loop h.id to around) (M condition) (node_in (h.id ∷ loops) condition b.0) _ _
        (back_in f (h.id ∷ loops) _ (m_in.evaluated (in_loop h.id to around) true (Into (M m).head.id))) (ends_loop_in loops h to)))
    form_in loops (tree.WhileLet pattern scrutinee m) h s e =
        let b = both (names_loops (h.id ∷ loops) scrutinee) (names_loops (h.id ∷ loops) m) e in
        let m_in = node_in (h.id ∷ loops) m b.1 in
        scope_value_in f loops h s (λ around to. build.looped h.id (lower.if_taken f h (in_loop h.id to around) (M pattern) (M scrutinee) (lower.body_in f (M m) (in_loop h.id to around)) (lower.ends_loop f h to)))
        (λ around to. looped_in loops h.id _ (if_taken_in f (h.id ∷ loops) h (in_loop h.id to around) (M pattern) (M scrutinee) (node_in (h.id ∷ loops) scrutinee b.0) _ _
        (back_in f (h.id ∷ loops) _ (m_in.evaluated (in_loop h.id to around) true (Into (M m).head.id))) (ends_loop_in loops h to)))
    form_in loops (tree.Break loop value) h s e =
        let b = both (has_loop loop loops) (if_any_names loops value) e in
        scope_value_in f loops h s (λ around to. build.jump f h.id (Breaks loop) (lower.value_of_jump f h (lower.lower_if_any f value) around (loop_destination loop around.loops)))
        (λ around to. jump_in f loops h.id (Breaks loop) (b.0, tt) _ (jump_value_in f loops h (lower.lower_if_any f value) (if_any_in loops value b.1) around (loop_destination loop around.loops)))
    form_in loops (tree.Continue loop) h s e =
        value_in f loops h s (λ around own to. build.jump f h.id (Continues loop) build.nothing) (λ around own to. jump_in f loops h.id (Continues loop) (e, tt) build.nothing (nothing_in f loops))
    form_in loops (tree.Return value) h s e =
        scope_value_in f loops h s (λ around to. build.jump f h.id Returns (lower.value_of_jump f h (lower.lower_if_any f value) around around.answer))
        (λ around to. jump_in f loops h.id Returns tt _ (jump_value_in f loops h (lower.lower_if_any f value) (if_any_in loops value e) around around.answer))
    form_in loops other h s e = value_in f loops h s (λ around own to. build.nothing) (λ around own to. nothing_in f loops)

    all_in : (loops : List ℕ) (ns : Nodes) → all_name_loops loops ns ≡ true → AllNodesIn f loops (lower.lower_all f ns)
    all_in loops no_node e = none_in
    all_in loops (a_node first rest) e = let b = both (names_loops loops first) (all_name_loops loops rest) e in one_in _ _ (node_in loops first b.0) (all_in loops rest b.1)

    fields_in : (loops : List ℕ) (fs : Fields) → fields_name_loops loops fs ≡ true → AllNodesIn f loops (lower.lower_fields f fs)
    fields_in loops no_field e = none_in
    fields_in loops (a_field number value rest) e = let b = both (names_loops loops value) (fields_name_loops loops rest) e in one_in _ _ (node_in loops value b.0) (fields_in loops rest b.1)

    if_any_in : (loops : List ℕ) (n : MaybeNode) → if_any_names loops n ≡ true → IfAnyIn f loops (lower.lower_if_any f n)
    if_any_in loops absent e = without
    if_any_in loops (present value) e = with_one _ (node_in loops value e)

  -- ---- bodies
  names_in : (x : Bool) (bounds : List BoundName) → JumpsIn [] (lower.names_of_param f x bounds)
  names_in true bounds = nothing_in f []
  names_in false bounds = bind_in f [] innermost bounds

  params_in : (params : List ParamTree) → JumpsIn [] (lower.params_entered f params)
  params_in [] = nothing_in f []
  params_in (param ∷ params) =
      changed_in f [] (innermost (with_entry (record { key = param_key param; ty = param.ty }))) _
      (then_in f [] _ _ (names_in (shape f.items param.pattern).is_binding ((shape f.items param.pattern).bindings (whole_local (param_key param)))) (params_in params))

  none_named : (xs : List Exit) → AllIn [] xs → xs ≡ []
  none_named [] h = refl
  none_named (Value ∷ xs) h = absurd h.0
  none_named (Returns ∷ xs) h = absurd h.0
  none_named (Panics ∷ xs) h = absurd h.0
  none_named (Breaks loop ∷ xs) h = absurd (let never : false ≡ true = h.0 in cc)
  none_named (Continues loop ∷ xs) h = absurd (let never : false ≡ true = h.0 in cc)

  -- where each jump of a body names a loop around it, the jumps of its function name none
  pub no_jumps : (body : BodyTree) → names_its_loops body ≡ true → (lower.entire_function f body).jumps ≡ []
  no_jumps body e =
      none_named (lower.entire_function f body).jumps
      (scope_in f [] (answer_key body) true _ (then_in f [] _ _ (params_in body.params) ((node_in [] body.block e).evaluated (lower.around_body f body) false (Into (answer_key body))))).named
