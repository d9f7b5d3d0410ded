-- A graph that holds the code of a node does what the node does, over any effects that are tied: one line a form, and
-- a whole body.
use Rattle.std.proofs.Common.{◌≡◌, ℕ, ◌<◌, ◌≤◌, nat_lt, Bool, true, false, List, [], ◌∷◌, map, Option, slice_get, if◌then◌else◌, refl, sym, ap, ◌∙◌, subst, arith}
use Rattle.cfg_graph.specs.declared.graph.Block.{Block}
use Rattle.cfg_graph.specs.declared.terminator.Term.{Term}
use Rattle.cfg_meaning.specs.Walk.{renamed}
use Rattle.mir_base.specs.declared.trace.Why.{Why}
use Rattle.store_model.proofs.Effects.Laws.{NoMore}
use Rattle.store_model.specs.Effects as effects
use Rattle.store_model.specs.Effects.{EffectSite, Action, Unwinding, Out, Go, Unwind, Halts, aborting, Effects}
use Rattle.store_model.specs.Places.Place.{Place, whole_local}
use Rattle.typed_tree.specs.Nodes.{number_of}
use Rattle.typed_tree.specs.Tree as tree
use Rattle.typed_tree.specs.Tree.{Form, Nodes, no_node, a_node, Fields, no_field, a_field, MaybeNode, absent, present, ParamTree, BodyTree}
use Rattle.src_meaning.specs.Evaluation as evaluation
use Rattle.src_meaning.specs.Evaluation.{meaning, meaning_of, meanings, fields_of, meaning_if_any, values_of, in_number_order, insert_field, to_own_key}
use Rattle.src_meaning.specs.Forms as forms
use Rattle.src_meaning.specs.Forms.{Destination, Into, LoopsAndGuards, in_loop, loop_destination, Meaning, site_of_key, moved, is_never, alone, operand, condition, arm}
use Rattle.src_meaning.specs.Locals.Effects.{site_at as site_on, at_locals}
use Rattle.src_meaning.specs.Locals.OfBody.{param_key, answer_key}
use Rattle.src_meaning.specs.Programs as programs
use Rattle.src_meaning.specs.Programs.{params_entered, body_end, activation, entire_function}
use Rattle.src_meaning.specs.Scopes.{Entry, Scopes, innermost, with_entry, Value, Breaks, Continues, Returns, Panics, Run, At, Over, Does, entry_site}
use Rattle.src_meaning.specs.Shape.{NodeHead, head, Shape, BoundName, kind_of, shape, shape_of}
use Rattle.lower_rules.specs.Code as code
use Rattle.src_meaning.specs.FieldKeys.{field_keys, moved_fields}
use Rattle.lower_rules.specs.CodeLaws.{without_place}
use Rattle.lower_rules.specs.Rules.{EvaluatesAt, ReachesAt, ArmsAt, NodeCode, CodeIfAny, AloneAt}
use Rattle.lower_rules.specs.Spots.{CodePos, Ways, ways_of, body_ways, CodeSpot, Nothing, panic_drops, JumpAt}
use Rattle.lower_rules.proofs.TiedWalks.{TiedWalk}
use Rattle.lower_rules.proofs.SimulatedSteps as simulated_steps
use Rattle.lower_rules.proofs.SimulatedRules as simulated_rules
use Rattle.lower_rules.proofs.SimulatedSteps.{at_term, enters, then_sim, joins_sim}
use Rattle.lower_rules.proofs.SimulatedScopes.{back_sim, in_scope_sim, innermost_keeps, after_sim}
use Rattle.lower_rules.proofs.SimulatedRules.{none_simulated, simulated, with_one, without, one_simulated, same_moved, deliver_sim, own_sim, acting_sim, dropping_sim, temporary_sim, use_sim, assigning_sim, condition_sim, branch_sim, unit_sim}
use Rattle.lower_rules.proofs.SimulatedPatterns.{bind_sim, value_sim, panics_sim, matching_sim, arm_sim, if_taken_sim}
use Rattle.lower_rules.proofs.SimulatedLoops.{block_sim, evaluating_sim, letting_sim, jump_ends, jumping_sim, stays_at, loop_sim, element_sim, borrowing_sim, unit_after_sim}

module _ {W : Type 0} (walking : TiedWalk W) where
  open walking use {t, p, q, size, bound, laws, tied, settled, Walk, walks}

  abbrev keyed : Effects W
  keyed = at_locals t.local_of p

  abbrev from_block : Option Block → CodePos → W → Out W
  from_block = simulated_steps.from_block walking

  abbrev From : CodePos → W → Out W
  From b w = from_block (slice_get t.body.blocks b.0) b w

  abbrev unwinds : List Entry → W → Out W
  unwinds = simulated_steps.unwinds walking

  abbrev Within : (c : Ways) (n : ℕ) → Type 0
  Within = simulated_steps.Within walking

  abbrev Ends : Ways → (m n : ℕ) → Scopes → CodePos → Run W → Out W → Type 0
  Ends = simulated_steps.Ends walking

  abbrev Sim : Ways → Does W → CodeSpot → Type 0
  Sim = simulated_steps.Sim walking

  abbrev SimE : (LoopsAndGuards → Bool → Destination → Does W) → EvaluatesAt → Type 0
  SimE e P = (around : LoopsAndGuards) (c : Ways) (own : Bool) (to : Destination) → Sim c (e around own to) (P around c own to)

  abbrev SimR : (LoopsAndGuards → Does W) → ReachesAt → Type 0
  SimR r P = (around : LoopsAndGuards) (c : Ways) → Sim c (r around) (P around c)

  abbrev SimA : (Place → Does W → LoopsAndGuards → Destination → Does W) → ArmsAt → Type 0
  SimA = simulated_rules.SimA walking

  abbrev Simulates : Meaning W → NodeCode → Type 1
  Simulates = simulated_rules.Simulates walking

  abbrev SimulatesAll : List (Meaning W) → List NodeCode → Type 1
  SimulatesAll = simulated_rules.SimulatesAll walking

  abbrev SimulatesIfAny : Option (Meaning W) → CodeIfAny → Type 1
  SimulatesIfAny = simulated_rules.SimulatesIfAny walking

  -- ---- the forms, with fuel for turns that is never met
  module _ (fuel : ℕ) (less : bound < fuel) where
    abbrev M : tree.Node → Meaning W
    M = meaning t.items keyed fuel

    abbrev C : tree.Node → NodeCode
    C = code.code t

    no_arm_sim : SimA (evaluation.no_arm t.items keyed fuel) (code.no_arm t)
    no_arm_sim matched otherwise rest around c to S b S' b' within other k w l = joins_sim walking c (At Value) Nothing (value_sim walking c) S b S' b' within k w l

    made_sim : (h : NodeHead) (e : LoopsAndGuards → Bool → Destination → Does W) (P : EvaluatesAt) → SimE e P → SimE (evaluation.made_in t.items keyed fuel h e) (code.made_in t h P)
    made_sim h e P sim around c own to = sim around c own (to_own_key (is_never t.items h.ty) h.id to)

    a_value_sim : (h : NodeHead) (s : Shape) (e : LoopsAndGuards → Bool → Destination → Does W) (P : EvaluatesAt) → SimE e P →
        Simulates (evaluation.a_value t.items keyed fuel h s e) (code.a_value t h s P)
    a_value_sim h s e P sim = simulated h s _ _ _ _ _ _ (made_sim h e P sim) (temporary_sim walking h s _ _ (made_sim h e P sim)) no_arm_sim

    a_place_sim : (h : NodeHead) (s : Shape) (r : LoopsAndGuards → Does W) (Q : ReachesAt) → SimR r Q →
        Simulates (evaluation.a_place t.items keyed fuel h s r) (code.a_place t h s Q)
    a_place_sim h s r Q sim = simulated h s _ _ _ _ _ _ (made_sim h _ _ (use_sim walking h s r Q sim)) sim no_arm_sim

    a_scope_sim : (h : NodeHead) (s : Shape) (f : LoopsAndGuards → Destination → Does W) (P : LoopsAndGuards → Ways → Destination → CodeSpot) →
        ((around : LoopsAndGuards) (c : Ways) (to : Destination) → Sim c (f around to) (P around c to)) →
        Simulates (evaluation.a_scope t.items keyed fuel h s f) (code.a_scope t h s P)
    a_scope_sim h s f P sim = a_value_sim h s _ _ (λ around c own to. own_sim walking h own _ _ c (sim around c to))

    effect_sim : (h : NodeHead) (s : Shape) (action : EffectSite → Action) →
        Simulates (evaluation.effect t.items keyed fuel h s action) (code.effect t h s action)
    effect_sim h s action = a_scope_sim h s _ _ (λ around c to. deliver_sim walking h action to c)

    on_operands_sim : (h : NodeHead) (s : Shape) (ms : List (Meaning W)) (ds : List NodeCode) → SimulatesAll ms ds → (action action' : EffectSite → Action) → action ≡ action' →
        Simulates (evaluation.on_operands t.items keyed fuel h s ms action) (code.on_operands t h s ds action')
    on_operands_sim h s ms ds all action action' e =
        subst (λ z. Simulates (evaluation.on_operands t.items keyed fuel h s ms action) (code.on_operands t h s ds z)) e
        (a_value_sim h s _ _ (λ around c own to. acting_sim walking h around c own ms ds all _ _ (deliver_sim walking h action to c)))

    key_same : (m : Meaning W) (d : NodeCode) → Simulates m d → m.head.id ≡ d.head.id
    key_same _ _ (simulated h s e r a P Q A se sr sa) = refl

    one : (m : Meaning W) (d : NodeCode) → Simulates m d → SimulatesAll (m ∷ []) (d ∷ [])
    one m d sim = one_simulated m d [] [] sim none_simulated

    on_one_sim : (h : NodeHead) (s : Shape) (m : Meaning W) (d : NodeCode) → Simulates m d → (action : EffectSite → effects.Operand → Action) →
        Simulates (evaluation.on_one t.items keyed fuel h s m action) (code.on_one t h s d action)
    on_one_sim h s m d sim action =
        on_operands_sim h s (m ∷ []) (d ∷ []) (one m d sim) _ _ (ap (λ z. λ (site : EffectSite). action site (moved h.id z)) (key_same m d sim))

    on_two_sim : (h : NodeHead) (s : Shape) (m m' : Meaning W) (d d' : NodeCode) → Simulates m d → Simulates m' d' → (action : EffectSite → effects.Operand → effects.Operand → Action) →
        Simulates (evaluation.on_two t.items keyed fuel h s m m' action) (code.on_two t h s d d' action)
    on_two_sim h s m m' d d' sim sim' action =
        on_operands_sim h s (m ∷ m' ∷ []) (d ∷ d' ∷ []) (one_simulated m d _ _ sim (one m' d' sim')) _ _
        (ap (λ z. λ (site : EffectSite). action site (moved h.id z) (moved h.id m'.head.id)) (key_same m d sim)
        ∙ ap (λ z. λ (site : EffectSite). action site (moved h.id d.head.id) (moved h.id z)) (key_same m' d' sim'))

    on_all_sim : (h : NodeHead) (s : Shape) (ms : List (Meaning W)) (ds : List NodeCode) → SimulatesAll ms ds → (action : EffectSite → List effects.Operand → Action) →
        Simulates (evaluation.on_all t.items keyed fuel h s ms action) (code.on_all t h s ds action)
    on_all_sim h s ms ds all action = on_operands_sim h s ms ds all _ _ (ap (λ z. λ (site : EffectSite). action site z) (same_moved walking h.id ms ds all))

    gives_unit_sim : (h : NodeHead) (s : Shape) (m : Meaning W) (d : NodeCode) → Simulates m d → (action : effects.Operand → Action) →
        Simulates (evaluation.gives_unit t.items keyed fuel h s m action) (code.gives_unit t h s d action)
    gives_unit_sim h s _ _ (simulated mh ms e r a P Q A se sr sa) action =
        a_value_sim h s _ _ (λ around c own to. acting_sim walking h around c own _ _ (one _ _ (simulated mh ms e r a P Q A se sr sa)) _ _ (unit_after_sim walking h (action (moved h.id mh.id)) to c))

    a_statement_sim : (h : NodeHead) (s : Shape) (r : LoopsAndGuards → Does W) (Q : ReachesAt) → SimR r Q →
        Simulates (evaluation.a_statement t.items keyed fuel h s r) (code.a_statement t h s Q)
    a_statement_sim h s r Q sim = a_value_sim h s _ _ (λ around c own to. sim around c)

    a_pattern_sim : (h : NodeHead) (s : Shape) → Simulates (evaluation.a_pattern t.items keyed fuel h s) (code.a_pattern t h s)
    a_pattern_sim h s = a_value_sim h s (λ around own to. At Value) _ (λ around c own to. value_sim walking c)

    shortcut_sim : (h : NodeHead) (truth : Bool) (to : Destination) (c : Ways) → Sim c (evaluation.shortcut t.items keyed fuel h truth to) (code.shortcut t h truth to)
    shortcut_sim h truth to c = deliver_sim walking h (λ site. effects.Put site (effects.Truth truth)) to c

    alone_sim : (m : Meaning W) (d : NodeCode) → Simulates m d → (around : LoopsAndGuards) (c : Ways) (to : Destination) → Sim c (alone t.items keyed around m to) (AloneAt t around c d to)
    alone_sim _ _ (simulated h s e r a P Q A se sr sa) around c to = back_sim walking c (e around true to) (P around c true to) (se around c true to)

    body_sim : (m : Meaning W) (d : NodeCode) → Simulates m d → (around : LoopsAndGuards) (c : Ways) → Sim c (evaluation.body_in t.items keyed fuel m around) (code.body_in t d around c)
    body_sim _ _ (simulated h s e r a P Q A se sr sa) around c = back_sim walking c (e around true (Into h.id)) (P around c true (Into h.id)) (se around c true (Into h.id))

    ends_loop_sim : (h : NodeHead) (to : Destination) (c : Ways) → Sim c (forms.ends_loop t.items keyed h to) (code.ends_loop t h to c)
    ends_loop_sim h to c = jump_ends walking c (ways_of h.id c).breaks (Breaks h.id) (λ m n S' b' S v out k. k) _ _ (unit_sim walking h to c)

    otherwise_sim : (h : NodeHead) (m : Option (Meaning W)) (d : CodeIfAny) → SimulatesIfAny m d → (around : LoopsAndGuards) (c : Ways) (to : Destination) →
        Sim c (evaluation.otherwise_unit t.items keyed fuel h m around to) (code.otherwise_unit t h d around c to)
    otherwise_sim h m d sim around c to = branch_sim walking around c to m d sim _ _ (unit_sim walking h to c)

    reach_of : (m : Meaning W) (d : NodeCode) → Simulates m d → SimR m.reach d.reaches
    reach_of _ _ (simulated h s e r a P Q A se sr sa) = sr

    coerced_sim : (h : NodeHead) (trait_no : ℕ) (m : Meaning W) (d : NodeCode) → Simulates m d →
        SimE (evaluation.coerce t.items keyed fuel h trait_no m) (code.coerce t h trait_no d)
    coerced_sim h trait_no _ _ (simulated mh s e r a P Q A se sr sa) around c own to = se around c own (forms.coerced mh.id trait_no to)

    arm_form : (h : NodeHead) (s : Shape) (a : Place → Does W → LoopsAndGuards → Destination → Does W) (A : ArmsAt) → SimA a A →
        Simulates (record (evaluation.a_pattern t.items keyed fuel h s) { arm = a }) (record (code.a_pattern t h s) { arm = A })
    arm_form h s a A sim =
        simulated h s _ _ _ _ _ _ (made_sim h (λ around own to. At Value) _ (λ around c own to. value_sim walking c))
        (temporary_sim walking h s (evaluation.made_in t.items keyed fuel h (λ around own to. At Value)) _ (made_sim h (λ around own to. At Value) _ (λ around c own to. value_sim walking c))) sim

    continue_sim : (loop : ℕ) (c : Ways) → Sim c (At (Continues loop)) (JumpAt t (ways_of loop c).continues Nothing)
    continue_sim loop c S b S' b' within k w l =
        jump_ends walking c (ways_of loop c).continues (Continues loop) (λ m n S' b' S v out k. k) (At Value) Nothing (value_sim walking c) S b S' b' within k w l

    -- fields are taken in the order of their numbers
    mapped_insert : {A B : Type 0} (f : A → B) (n : ℕ) (a : A) (xs : List (ℕ × A)) →
        map {B = ℕ × B} (λ x. (x.0, f x.1)) (insert_field n a xs) ≡ insert_field n (f a) (map {B = ℕ × B} (λ x. (x.0, f x.1)) xs)
    mapped_insert f n a [] = refl
    mapped_insert {A} {B} f n a (x ∷ xs) = by_order (nat_lt n x.0) (mapped_insert f n a xs)
      where
        by_order : (y : Bool) → map {B = ℕ × B} (λ x. (x.0, f x.1)) (insert_field n a xs) ≡ insert_field n (f a) (map {B = ℕ × B} (λ x. (x.0, f x.1)) xs) →
            map {B = ℕ × B} (λ x. (x.0, f x.1)) (if y then (n, a) ∷ x ∷ xs else x ∷ insert_field n a xs)
            ≡ (if y then (n, f a) ∷ (x.0, f x.1) ∷ map {B = ℕ × B} (λ x. (x.0, f x.1)) xs else (x.0, f x.1) ∷ insert_field n (f a) (map {B = ℕ × B} (λ x. (x.0, f x.1)) xs))
        by_order true e = refl
        by_order false e = ap (λ z. (x.0, f x.1) ∷ z) e

    mapped_order : {A B : Type 0} (f : A → B) (xs : List (ℕ × A)) →
        map {B = ℕ × B} (λ x. (x.0, f x.1)) (in_number_order xs) ≡ in_number_order (map {B = ℕ × B} (λ x. (x.0, f x.1)) xs)
    mapped_order f [] = refl
    mapped_order {A} {B} f (x ∷ xs) =
        mapped_insert f x.0 x.1 (in_number_order xs) ∙ ap (insert_field x.0 (f x.1)) (mapped_order f xs)

    moved_fields_same : (number : ℕ) (xs : List (ℕ × Meaning W)) →
        forms.all_moved number (values_of xs) ≡ moved_fields number (map {B = ℕ × ℕ} (λ x. (x.0, x.1.head.id)) xs)
    moved_fields_same number [] = refl
    moved_fields_same number (x ∷ xs) = ap (λ z. moved number x.1.head.id ∷ z) (moved_fields_same number xs)

    id_of : (n : tree.Node) → (M n).head.id ≡ number_of n
    id_of (tree.node id at ty by form) = head_of form (head id ty by) (shape_of t.items form (head id ty by))
      where
        head_of : (form : Form) (h : NodeHead) (s : Shape) → (meaning_of t.items keyed fuel form h s).head.id ≡ h.id
        head_of (tree.Number value) h s = refl
        head_of other h s = refl

    field_keys_same : (fs : Fields) → map {B = ℕ × ℕ} (λ x. (x.0, x.1.head.id)) (fields_of t.items keyed fuel fs) ≡ field_keys fs
    field_keys_same no_field = refl
    field_keys_same (a_field number value rest) =
        ap {B = List (ℕ × ℕ)} (λ z. (number, z) ∷ map {B = ℕ × ℕ} (λ x. (x.0, x.1.head.id)) (fields_of t.items keyed fuel rest)) (id_of value)
        ∙ ap {B = List (ℕ × ℕ)} (λ z. (number, number_of value) ∷ z) (field_keys_same rest)

    mutual
      pub simulates : (n : tree.Node) → Simulates (M n) (C n)
      simulates (tree.node id at ty by form) = simulates_form form (head id ty by) (shape_of t.items form (head id ty by))

      simulates_form : (form : Form) (h : NodeHead) (s : Shape) → Simulates (meaning_of t.items keyed fuel form h s) (code.code_of t form h s)
      simulates_form (tree.Number value) h s = effect_sim h s (λ site. effects.Put site (effects.Number value (kind_of t.items h.ty)))
      simulates_form (tree.Truth value) h s = effect_sim h s (λ site. effects.Put site (effects.Truth value))
      simulates_form tree.UnitValue h s = effect_sim h s (λ site. effects.Put site effects.UnitValue)
      simulates_form (tree.Variable key) h s = a_place_sim h s _ _ (λ around c. value_sim walking c)
      simulates_form (tree.Captured closure part name) h s = a_place_sim h s _ _ (λ around c. value_sim walking c)
      simulates_form (tree.Field base part) h s = a_place_sim h s _ _ (reach_of _ _ (simulates base))
      simulates_form (tree.Index base index count) h s = a_place_sim h s _ _ (element_sim walking h s _ _ (simulates base) _ _ (simulates index) count)
      simulates_form (tree.Deref base) h s = a_place_sim h s _ _ (reach_of _ _ (simulates base))
      simulates_form (tree.Not operand) h s = on_one_sim h s _ _ (simulates operand) effects.Not
      simulates_form (tree.Negate operand) h s = on_one_sim h s _ _ (simulates operand) effects.Negate
      simulates_form (tree.Arithmetic operator left right) h s = on_two_sim h s _ _ _ _ (simulates left) (simulates right) (λ site. effects.Compute site operator)
      simulates_form (tree.Comparison operator left right) h s = on_two_sim h s _ _ _ _ (simulates left) (simulates right) (λ site. effects.Compare site operator)
      simulates_form (tree.And left right) h s =
          a_scope_sim h s _ _ (λ around c to. condition_sim walking around c _ _ (simulates left) _ _ _ _ (alone_sim _ _ (simulates right) around c to) (shortcut_sim h false to c))
      simulates_form (tree.Or left right) h s =
          a_scope_sim h s _ _ (λ around c to. condition_sim walking around c _ _ (simulates left) _ _ _ _ (shortcut_sim h true to c) (alone_sim _ _ (simulates right) around c to))
      simulates_form (tree.Assign place value) h s = a_value_sim h s _ _ (assigning_sim walking h _ _ _ _ (simulates place) (simulates value))
      simulates_form (tree.Call f args) h s = on_all_sim h s _ _ (all_simulate args) (λ site. effects.Call site f)
      simulates_form (tree.MethodCall f receiver args) h s =
          on_all_sim h s _ _ (one_simulated _ _ _ _ (simulates receiver) (all_simulate args)) (λ site. effects.Call site f)
      simulates_form (tree.VirtualCall trait_no method receiver args) h s =
          on_all_sim h s _ _ (one_simulated _ _ _ _ (simulates receiver) (all_simulate args)) (λ site. effects.CallVirtual site trait_no method)
      simulates_form (tree.ClosureCall f callee args) h s =
          on_all_sim h s _ _ (one_simulated _ _ _ _ (simulates callee) (all_simulate args)) (λ site. effects.Call site f)
      simulates_form (tree.Make adt variant fields) h s =
          on_operands_sim h s _ _ (fields_simulate fields) _ _
          (ap (λ z. λ (site : EffectSite). effects.Build site (effects.OfVariant adt variant) z)
          (moved_fields_same h.id (in_number_order (fields_of t.items keyed fuel fields))
          ∙ ap (moved_fields h.id)
          (mapped_order (λ m. m.head.id) (fields_of t.items keyed fuel fields) ∙ ap in_number_order (field_keys_same fields))))
      simulates_form (tree.Tuple parts) h s = on_all_sim h s _ _ (all_simulate parts) (λ site. effects.Build site effects.OfTuple)
      simulates_form (tree.Array elements) h s = on_all_sim h s _ _ (all_simulate elements) (λ site. effects.Build site effects.OfArray)
      simulates_form (tree.Closure closure captures) h s = on_all_sim h s _ _ (all_simulate captures) (λ site. effects.Build site (effects.OfClosure closure))
      simulates_form (tree.NewBox content) h s = on_one_sim h s _ _ (simulates content) effects.NewBox
      simulates_form (tree.Print operand) h s = gives_unit_sim h s _ _ (simulates operand) effects.Print
      simulates_form tree.Ask h s = effect_sim h s effects.Ask
      simulates_form (tree.DropValue operand) h s = a_value_sim h s _ _ (λ around c own to. dropping_sim walking h around c own _ _ (simulates operand) _ _ (unit_sim walking h to c))
      simulates_form (tree.Forget operand) h s = gives_unit_sim h s _ _ (simulates operand) effects.Forget
      simulates_form tree.Panic h s = a_value_sim h s (λ around own to. forms.panics t.items keyed Why.Explicit) _ (λ around c own to. panics_sim walking Why.Explicit c)
      simulates_form (tree.Borrow unique base) h s = a_value_sim h s _ _ (borrowing_sim walking h unique _ _ (simulates base))
      simulates_form (tree.Unsize trait_no operand) h s = a_value_sim h s _ _ (coerced_sim h trait_no _ _ (simulates operand))
      simulates_form (tree.Block stmts tail) h s = a_value_sim h s _ _ (block_sim walking h _ _ (all_simulate stmts) _ _ (simulate_if_any tail))
      simulates_form (tree.Let pattern initialiser) h s = a_statement_sim h s _ _ (letting_sim walking h _ _ (simulates pattern) _ _ (simulate_if_any initialiser))
      simulates_form (tree.Evaluate expression) h s = a_statement_sim h s _ _ (evaluating_sim walking h _ _ (simulates expression))
      simulates_form (tree.If condition consequent otherwise) h s =
          a_scope_sim h s _ _ (λ around c to. condition_sim walking around c _ _ (simulates condition) _ _ _ _ (alone_sim _ _ (simulates consequent) around c to)
          (otherwise_sim h _ _ (simulate_if_any otherwise) around c to))
      simulates_form (tree.IfLet pattern scrutinee consequent otherwise) h s =
          a_scope_sim h s _ _ (λ around c to. if_taken_sim walking h around c _ _ (simulates pattern) _ _ (simulates scrutinee) _ _ _ _ (alone_sim _ _ (simulates consequent) around c to)
          (otherwise_sim h _ _ (simulate_if_any otherwise) around c to))
      simulates_form (tree.Match scrutinee arms) h s = a_value_sim h s _ _ (matching_sim walking h _ _ (simulates scrutinee) _ _ (all_simulate arms))
      simulates_form (tree.Arm pattern guard m) h s = arm_form h s _ _ (arm_sim walking h _ _ (simulates pattern) _ _ (simulate_if_any guard) _ _ (simulates m))
      simulates_form (tree.Loop m) h s =
          a_scope_sim h s _ _ (λ around c to. loop_sim walking h.id fuel less _ _ c (body_sim _ _ (simulates m) (in_loop h.id to around)))
      simulates_form (tree.While condition m) h s =
          a_scope_sim h s _ _ (λ around c to. loop_sim walking h.id fuel less _ _ c
          (λ c. condition_sim walking (in_loop h.id to around) c _ _ (simulates condition) _ _ _ _ (body_sim _ _ (simulates m) (in_loop h.id to around) c) (ends_loop_sim h to c)))
      simulates_form (tree.WhileLet pattern scrutinee m) h s =
          a_scope_sim h s _ _ (λ around c to. loop_sim walking h.id fuel less _ _ c
          (λ c. if_taken_sim walking h (in_loop h.id to around) c _ _ (simulates pattern) _ _ (simulates scrutinee) _ _ _ _ (body_sim _ _ (simulates m) (in_loop h.id to around) c) (ends_loop_sim h to c)))
      simulates_form (tree.Break loop value) h s =
          a_scope_sim h s _ _ (λ around c to. jumping_sim walking c (ways_of loop c).breaks (Breaks loop) (λ m n S' b' S v out k. k) h _ _ (simulate_if_any value) around (loop_destination loop around.loops))
      simulates_form (tree.Continue loop) h s = a_value_sim h s (λ around own to. At (Continues loop)) _ (λ around c own to. continue_sim loop c)
      simulates_form (tree.Return value) h s =
          a_scope_sim h s _ _ (λ around c to. jumping_sim walking c c.returns Returns (λ m n S' b' S v out k. k) h _ _ (simulate_if_any value) around around.answer)
      simulates_form other h s = a_pattern_sim h s

      all_simulate : (ns : Nodes) → SimulatesAll (meanings t.items keyed fuel ns) (code.codes_of t ns)
      all_simulate no_node = none_simulated
      all_simulate (a_node first rest) = one_simulated _ _ _ _ (simulates first) (all_simulate rest)

      fields_simulate : (fs : Fields) → SimulatesAll (values_of (fields_of t.items keyed fuel fs)) (code.field_codes t fs)
      fields_simulate no_field = none_simulated
      fields_simulate (a_field number value rest) = one_simulated _ _ _ _ (simulates value) (fields_simulate rest)

      simulate_if_any : (n : MaybeNode) → SimulatesIfAny (meaning_if_any t.items keyed fuel n) (code.code_if_any t n)
      simulate_if_any absent = without
      simulate_if_any (present value) = with_one _ _ (simulates value)

    -- ---- a body
    names_sim : (x : Bool) (bounds : List BoundName) (c : Ways) → Sim c (programs.names_of_param t.items keyed fuel x bounds) (code.NamesAt t x bounds)
    names_sim true bounds c = value_sim walking c
    names_sim false bounds c = bind_sim walking innermost (innermost_keeps walking) bounds c

    params_sim : (params : List ParamTree) (c : Ways) → Sim c (params_entered t.items keyed fuel params) (code.ParamsAt t params)
    params_sim [] c = value_sim walking c
    params_sim (param ∷ params) c =
        after_sim walking c _ _ (innermost (with_entry (record { key = param_key param; ty = param.ty }))) (innermost_keeps walking (with_entry (record { key = param_key param; ty = param.ty })))
        (then_sim walking c _ _ _ _
        (names_sim (shape t.items param.pattern).is_binding ((shape t.items param.pattern).bindings (whole_local (param_key param))) c)
        (params_sim params c))

    given_sim : (m : Meaning W) (d : NodeCode) → Simulates m d → (around : LoopsAndGuards) (c : Ways) (to : Destination) → Sim c (m.evaluate around false to) (d.evaluates around c false to)
    given_sim _ _ (simulated h s e r a P Q A se sr sa) around c to = se around c false to

    unwinds_same : (es : List Entry) (w : W) → size w ≤ bound → renamed without_place (programs.unwinds t.items keyed fuel es w) ≡ unwinds es w
    unwinds_same [] w l = refl
    unwinds_same (x ∷ es) w l =
        by_out (λ v k. unwinds_same es v (omega arith)) (p.drop Unwinding (site_on t.local_of (entry_site x)) w)
        (subst (NoMore size (size w)) (sym (tied.dropping Unwinding _ w l)) (laws.dropping Unwinding _ w))
        ∙ ap (λ o. aborting o (unwinds es)) (tied.dropping Unwinding _ w l)
      where
        by_out : ((v : W) → size v ≤ size w → renamed without_place (programs.unwinds t.items keyed fuel es v) ≡ unwinds es v) → (o : Out W) → NoMore size (size w) (renamed without_place o) →
            renamed without_place (aborting o (programs.unwinds t.items keyed fuel es)) ≡ aborting (renamed without_place o) (unwinds es)
        by_out ih (Go v) k = ih v k
        by_out ih (Unwind v) k = refl
        by_out ih (Halts halt v) k = refl

    -- a graph that holds the code of a body does what is done within the body
    module _ (b : BodyTree) (held : code.BodyAt t b) where
      abbrev ways : Ways
      ways = body_ways held.0

      abbrev outer : Scopes
      outer = code.answer_scope t b

      give_same : (w : W) → size w ≤ bound → renamed without_place (keyed.give (site_of_key (answer_key b)) w) ≡ From (held.0, 0) w
      give_same w l =
          tied.giving (site_on t.local_of (site_of_key (answer_key b))) w l
          ∙ ap (λ n. q.give (record { node = answer_key b; place = whole_local n }) w) held.5
          ∙ ap (λ n. q.give (record { node = n; place = whole_local 0 }) w) (sym held.4)
          ∙ sym (at_term walking Term.Return (held.0, 0) held.3 w)

      not_used : {A : Type 0} → false ≡ true → A
      not_used e = absurd (let never : false ≡ true = e in cc)

      ended_same : (w : W) → size w ≤ bound → (r : Run W) → Ends ways (size w) 1 outer (held.0, 0) r (From (0, 0) w) →
          renamed without_place (body_end t.items keyed fuel (answer_key b) r) ≡ From (0, 0) w
      ended_same w l (At Value S v) h = give_same v (let k = h.2 in omega arith) ∙ sym h.3
      ended_same w l (At (Breaks loop) S v) h = not_used h.2
      ended_same w l (At (Continues loop) S v) h = not_used h.2
      ended_same w l (At Returns S v) h =
          give_same v (let k = h.1 in omega arith)
          ∙ sym (h.3 ∙ stays_at walking 1 S (Walk held.0) v (let i = h.0 in omega arith) ∙ enters walking held.0 held.2 v (let k = h.1 in omega arith))
      ended_same w l (At Panics S v) h = unwinds_same (panic_drops t S) v (let k = h.0 in omega arith) ∙ sym h.1
      ended_same w l (Over halt v) h = sym h

      ways_within : Within ways 1
      ways_within = record { returns = omega arith; breaks = λ loop. omega arith; continues = λ loop. omega arith }

      pub body_runs : (w : W) → size w ≤ bound → renamed without_place (activation t.items keyed fuel b w) ≡ Walk 0 w
      body_runs w l =
          ended_same w l (entire_function t.items keyed fuel b outer w)
          (joins_sim walking ways _ _
          (in_scope_sim walking (answer_key b) true ways _ _
          (then_sim walking ways _ _ _ _ (params_sim b.params ways) (given_sim _ _ (simulates b.block) (code.around_body t b) ways (Into (answer_key b)))))
          outer (0, 0) outer (held.0, 0) ways_within held.6 w l)
          ∙ sym (enters walking 0 held.1 w l)
