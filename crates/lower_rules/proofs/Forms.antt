-- Each form that is lowered holds its code: one line a form, and a body.
use Rattle.std.proofs.Common.{◌≡◌, ℕ, Bool, true, false, List, [], ◌∷◌, map, refl, sym, ap, ◌∙◌, subst}
use Rattle.mir_base.specs.declared.trace.Why.{Why}
use Rattle.store_model.specs.Effects as effects
use Rattle.store_model.specs.Effects.{EffectSite, Action, OfTuple, OfArray, OfVariant, OfClosure}
use Rattle.store_model.specs.Places.Place.{Place, whole_local}
use Rattle.typed_tree.specs.Tree as tree
use Rattle.typed_tree.specs.Tree.{Form, Nodes, no_node, a_node, Fields, no_field, a_field, MaybeNode, absent, present, ParamTree, BodyTree}
use Rattle.src_meaning.specs.Evaluation.{in_number_order, to_own_key}
use Rattle.src_meaning.specs.Forms.{Destination, Into, coerced, LoopsAndGuards, in_loop, loop_destination, site_in, moved, is_never}
use Rattle.src_meaning.specs.Locals.OfBody.{param_key, answer_key}
use Rattle.src_meaning.specs.Scopes.{Scopes, innermost, with_entry, Breaks, Continues, Returns}
use Rattle.src_meaning.specs.Shape.{NodeHead, head, Shape, BoundName, kind_of, shape, shape_of}
use Rattle.lower_rules.specs.Code as code
use Rattle.src_meaning.specs.FieldKeys.{field_keys, moved_fields}
use Rattle.lower_rules.specs.Rules.{EvaluatesAt, ReachesAt, ArmsAt, NodeCode, CodeIfAny, named}
use Rattle.lower_rules.specs.Spots.{CodeTarget, CodePos, Ways, CodeSpot, Then, Nothing, InScope}
use Rattle.lower_rules.specs.Build as build
use Rattle.lower_rules.specs.Build.{LoweringFrame, Lowers, nothing}
use Rattle.lower_rules.specs.Lower as lower
use Rattle.lower_rules.specs.Lower.{Evaluates, Reaches, LowersArm, NodeLower, LowerIfAny}
use Rattle.lower_rules.proofs.LaidBlocks as laid
use Rattle.lower_rules.proofs.LaidEffects as effect_rules
use Rattle.lower_rules.proofs.LaidScopes as scope_rules
use Rattle.lower_rules.proofs.LaidBranches as branch_rules
use Rattle.lower_rules.proofs.Scopes.{if_taken_after, is_local}
use Rattle.lower_rules.proofs.LaidBlocks.{grows_not}
use Rattle.lower_rules.proofs.LoweredRules as lowered_rules
use Rattle.lower_rules.proofs.LoweredRules.{one_lowers, lowers_as, without, with_one, none_lower, AllNamed, Named, node_named, form_named, same_keys, deliver_lowers, own_lowers, acting_lowers, dropping_lowers, temporary_lowers, use_lowers, unit_lowers, assigning_lowers, alone_lowers, condition_lowers, deliver_after, unit_after_scopes, otherwise_lowers, otherwise_after, bind_lowers, if_taken_lowers}
use Rattle.lower_rules.proofs.LoweredArms.{arm_lowers, matching_lowers}
use Rattle.lower_rules.proofs.LoweredStatements.{block_lowers, evaluating_lowers, letting_lowers, jump_value_lowers, element_lowers, borrowing_lowers}

module _ (t : CodeTarget) where
  abbrev f : LoweringFrame
  f = laid.f t

  abbrev L : Lowers → (Ways → CodeSpot) → Type 0
  L P sp = laid.Lowered t P sp

  abbrev LoweredArm : (a : LowersArm) (spot : CodePos → Ways → CodeSpot) → Type 0
  LoweredArm = lowered_rules.LoweredArm t

  abbrev LowersE : Evaluates → EvaluatesAt → Type 0
  LowersE e P = (around : LoopsAndGuards) (own : Bool) (to : Destination) → L (e around own to) (λ c. P around c own to)

  abbrev LowersR : Reaches → ReachesAt → Type 0
  LowersR r Q = (around : LoopsAndGuards) → L (r around) (λ c. Q around c)

  abbrev LowersA : (Place → LoopsAndGuards → Destination → LowersArm) → ArmsAt → Type 0
  LowersA a A = (matched : Place) (around : LoopsAndGuards) (to : Destination) → LoweredArm (a matched around to) (λ rest c. A matched rest around c to)

  abbrev LowersAs : NodeLower → NodeCode → Type 1
  LowersAs = lowered_rules.LowersAs t

  abbrev AllLower : List NodeLower → List NodeCode → Type 1
  AllLower = lowered_rules.AllLower t

  abbrev IfAnyLowers : LowerIfAny → CodeIfAny → Type 1
  IfAnyLowers = lowered_rules.IfAnyLowers t

  abbrev OneNode : ℕ → NodeHead → (EffectSite → Action) → Type 0
  OneNode n h action = (key : ℕ) → effect_rules.ActionOf t n (action (site_in h.id key))

  -- ---- the forms
  no_arm_lowers : LowersA (lower.no_arm f) (code.no_arm t)
  no_arm_lowers matched around to = record {
    grows = λ c S r k s. grows_not s;
    holds = λ c S r k s u later chains step. (chains, λ b st S' b' on. (b, ((on refl).0, refl), (on refl).1 b st));
    ranks = λ c S r k s w h l g. (h, l);
    tidies = λ c S r k s w later h l g. (h, l);
  }

  made_lowers : (h : NodeHead) (e : Evaluates) (P : EvaluatesAt) → LowersE e P → LowersE (lower.made_in f h e) (code.made_in t h P)
  made_lowers h e P l around own to = l around own (to_own_key (is_never t.items h.ty) h.id to)

  a_value_lowers : (h : NodeHead) (s : Shape) → Named s → (e : Evaluates) (P : EvaluatesAt) → LowersE e P → LowersAs (lower.a_value f h s e) (code.a_value t h s P)
  a_value_lowers h s named e P l = lowers_as h s _ _ _ _ _ _ named (made_lowers h e P l) (temporary_lowers t h s _ _ (made_lowers h e P l)) no_arm_lowers

  a_place_lowers : (h : NodeHead) (s : Shape) → Named s → (r : Reaches) (Q : ReachesAt) → LowersR r Q → LowersAs (lower.a_place f h s r) (code.a_place t h s Q)
  a_place_lowers h s named r Q l = lowers_as h s _ _ _ _ _ _ named (made_lowers h _ _ (use_lowers t h s r Q l)) l no_arm_lowers

  a_scope_lowers : (h : NodeHead) (s : Shape) → Named s → (e : lower.MakesInto) (P : LoopsAndGuards → Ways → Destination → CodeSpot) → ((around : LoopsAndGuards) (to : Destination) → L (e around to) (λ c. P around c to)) →
      LowersAs (lower.a_scope f h s e) (code.a_scope t h s P)
  a_scope_lowers h s named e P l = a_value_lowers h s named _ _ (λ around own to. own_lowers t h own _ _ (l around to))

  effect_lowers : (h : NodeHead) (s : Shape) → Named s → (action : EffectSite → Action) → OneNode h.id h action → LowersAs (lower.effect f h s action) (code.effect t h s action)
  effect_lowers h s named action one = a_scope_lowers h s named _ _ (λ around to. deliver_lowers t h action one to)

  on_operands_lowers : (h : NodeHead) (s : Shape) → Named s → (ms : List NodeLower) (ds : List NodeCode) → AllLower ms ds → (action action' : EffectSite → Action) → action ≡ action' → OneNode h.id h action →
      LowersAs (lower.on_operands f h s ms action) (code.on_operands t h s ds action')
  on_operands_lowers h s named ms ds all action action' e one =
      subst (λ z. LowersAs (lower.on_operands f h s ms action) (code.on_operands t h s ds z)) e
      (a_value_lowers h s named _ _ (λ around own to. acting_lowers t h around own ms ds all _ _ (deliver_lowers t h action one to)))

  key_same : (m : NodeLower) (d : NodeCode) → LowersAs m d → m.head.id ≡ d.head.id
  key_same _ _ (lowers_as h s e r a P Q A sn se sr sa) = refl

  single : (m : NodeLower) (d : NodeCode) → LowersAs m d → AllLower (m ∷ []) (d ∷ [])
  single m d l = one_lowers m d [] [] l none_lower

  on_one_lowers : (h : NodeHead) (s : Shape) → Named s → (m : NodeLower) (d : NodeCode) → LowersAs m d → (action : EffectSite → effects.Operand → Action) →
      ((key k : ℕ) → effect_rules.ActionOf t h.id (action (site_in h.id key) (moved h.id k))) → LowersAs (lower.on_one f h s m action) (code.on_one t h s d action)
  on_one_lowers h s named m d l action one =
      on_operands_lowers h s named (m ∷ []) (d ∷ []) (single m d l) _ _ (ap (λ z. λ (site : EffectSite). action site (moved h.id z)) (key_same m d l)) (λ key. one key m.head.id)

  on_two_lowers : (h : NodeHead) (s : Shape) → Named s → (m m' : NodeLower) (d d' : NodeCode) → LowersAs m d → LowersAs m' d' → (action : EffectSite → effects.Operand → effects.Operand → Action) →
      ((key k k' : ℕ) → effect_rules.ActionOf t h.id (action (site_in h.id key) (moved h.id k) (moved h.id k'))) → LowersAs (lower.on_two f h s m m' action) (code.on_two t h s d d' action)
  on_two_lowers h s named m m' d d' l l' action one =
      on_operands_lowers h s named (m ∷ m' ∷ []) (d ∷ d' ∷ []) (one_lowers m d _ _ l (single m' d' l')) _ _
      (ap (λ z. λ (site : EffectSite). action site (moved h.id z) (moved h.id m'.head.id)) (key_same m d l)
      ∙ ap (λ z. λ (site : EffectSite). action site (moved h.id d.head.id) (moved h.id z)) (key_same m' d' l'))
      (λ key. one key m.head.id m'.head.id)

  all_of : (n : ℕ) (keys : List ℕ) → effect_rules.OperandsOf t n (map (moved n) keys)
  all_of n [] = tt
  all_of n (key ∷ keys) = (refl, all_of n keys)

  fields_of_node : (n : ℕ) (fields : List (ℕ × ℕ)) → effect_rules.OperandsOf t n (moved_fields n fields)
  fields_of_node n [] = tt
  fields_of_node n (field ∷ fields) = (refl, fields_of_node n fields)

  abbrev made_of : NodeHead → (adt variant : ℕ) → Fields → EffectSite → Action
  made_of h adt variant fields site = effects.Build site (OfVariant adt variant) (moved_fields h.id (in_number_order (field_keys fields)))

  either_same : (x : Bool) (P Q : Lowers) (S : Scopes) → P.after S ≡ S → Q.after S ≡ S → build.after_either x P Q S ≡ S
  either_same true P Q S p q = p
  either_same false P Q S p q = q

  on_all_lowers : (h : NodeHead) (s : Shape) → Named s → (ms : List NodeLower) (ds : List NodeCode) → AllLower ms ds → (action : EffectSite → List effects.Operand → Action) →
      ((key : ℕ) (os : List effects.Operand) → effect_rules.OperandsOf t h.id os → effect_rules.ActionOf t h.id (action (site_in h.id key) os)) → LowersAs (lower.on_all f h s ms action) (code.on_all t h s ds action)
  on_all_lowers h s named ms ds all action one =
      on_operands_lowers h s named ms ds all _ _ (ap (λ keys. λ (site : EffectSite). action site (map (moved h.id) keys)) (same_keys t ms ds all)) (λ key. one key _ (all_of h.id (lower.keys_of ms)))

  gives_unit_lowers : (h : NodeHead) (s : Shape) → Named s → (m : NodeLower) (d : NodeCode) → LowersAs m d → (action : effects.Operand → Action) → ((k : ℕ) → effect_rules.ActionOf t h.id (action (moved h.id k))) →
      LowersAs (lower.gives_unit f h s m action) (code.gives_unit t h s d action)
  gives_unit_lowers h s named _ _ (lowers_as mh ms e r a P Q A sn se sr sa) action one =
      a_value_lowers h s named _ _ (λ around own to. acting_lowers t h around own _ _ (single _ _ (lowers_as mh ms e r a P Q A sn se sr sa)) _ _
      (effect_rules.then_lowered t _ _ _ _ (effect_rules.act_lowered t h.id (action (moved h.id mh.id)) (one mh.id)) (unit_lowers t h to)))

  a_statement_lowers : (h : NodeHead) (s : Shape) → Named s → (r : Reaches) (Q : ReachesAt) → LowersR r Q → LowersAs (lower.a_statement f h s r) (code.a_statement t h s Q)
  a_statement_lowers h s named r Q l = a_value_lowers h s named _ _ (λ around own to. l around)

  a_pattern_lowers : (h : NodeHead) (s : Shape) → Named s → LowersAs (lower.a_pattern f h s) (code.a_pattern t h s)
  a_pattern_lowers h s named = a_value_lowers h s named _ _ (λ around own to. effect_rules.nothing_lowered t)

  arm_form : (h : NodeHead) (s : Shape) → Named s → (a : Place → LoopsAndGuards → Destination → LowersArm) (A : ArmsAt) → LowersA a A →
      LowersAs (record (lower.a_pattern f h s) { arm = a }) (record (code.a_pattern t h s) { arm = A })
  arm_form h s named a A l =
      lowers_as h s _ _ _ _ _ _ named (made_lowers h (λ around own to. nothing) (λ around c own to. Nothing) (λ around own to. effect_rules.nothing_lowered t))
      (temporary_lowers t h s _ _ (made_lowers h (λ around own to. nothing) (λ around c own to. Nothing) (λ around own to. effect_rules.nothing_lowered t))) l

  body_lowers : (m : NodeLower) (d : NodeCode) → LowersAs m d → (around : LoopsAndGuards) → L (lower.body_in f m around) (λ c. code.body_in t d around c)
  body_lowers _ _ (lowers_as h s e r a P Q A sn se sr sa) around = effect_rules.back_lowered t _ _ (se around true (Into h.id))

  shortcut_lowers : (h : NodeHead) (truth : Bool) (to : Destination) → L (lower.shortcut f h truth to) (λ c. code.shortcut t h truth to)
  shortcut_lowers h truth to = deliver_lowers t h (λ site. effects.Put site (effects.Truth truth)) (λ key. (refl, tt)) to

  reach_of : (m : NodeLower) (d : NodeCode) → LowersAs m d → LowersR m.reaches d.reaches
  reach_of _ _ (lowers_as h s e r a P Q A sn se sr sa) = sr

  coerced_lowers : (h : NodeHead) (trait_no : ℕ) (m : NodeLower) (d : NodeCode) → LowersAs m d → LowersE (λ around own to. m.evaluates around own (coerced m.head.id trait_no to)) (code.coerce t h trait_no d)
  coerced_lowers h trait_no _ _ (lowers_as mh s e r a P Q A sn se sr sa) around own to = se around own (coerced mh.id trait_no to)

  ends_loop_lowers : (h : NodeHead) (to : Destination) → L (lower.ends_loop f h to) (λ c. code.ends_loop t h to c)
  ends_loop_lowers h to = scope_rules.jump_lowered t h.id (Breaks h.id) _ _ (unit_lowers t h to)

  mutual
    pub lowers : (n : tree.Node) → LowersAs (lower.lower f n) (code.code t n)
    lowers (tree.node id at ty by form) = lowers_form form (head id ty by) (shape_of t.items form (head id ty by)) (form_named t.items form (head id ty by))

    lowers_form : (form : Form) (h : NodeHead) (s : Shape) → Named s → LowersAs (lower.lower_form f form h s) (code.code_of t form h s)
    lowers_form (tree.Number value) h s n = effect_lowers h s n (λ site. effects.Put site (effects.Number value (kind_of t.items h.ty))) (λ key. (refl, tt))
    lowers_form (tree.Truth value) h s n = effect_lowers h s n (λ site. effects.Put site (effects.Truth value)) (λ key. (refl, tt))
    lowers_form tree.UnitValue h s n = effect_lowers h s n (λ site. effects.Put site effects.UnitValue) (λ key. (refl, tt))
    lowers_form (tree.Variable key) h s n = a_place_lowers h s n _ _ (λ around. effect_rules.nothing_lowered t)
    lowers_form (tree.Captured closure part name) h s n = a_place_lowers h s n _ _ (λ around. effect_rules.nothing_lowered t)
    lowers_form (tree.Field base part) h s n = a_place_lowers h s n _ _ (reach_of _ _ (lowers base))
    lowers_form (tree.Index base index count) h s n = a_place_lowers h s n _ _ (element_lowers t h s _ _ (lowers base) _ _ (lowers index) count)
    lowers_form (tree.Deref base) h s n = a_place_lowers h s n _ _ (reach_of _ _ (lowers base))
    lowers_form (tree.Not operand) h s n = on_one_lowers h s n _ _ (lowers operand) effects.Not (λ key k. (refl, refl))
    lowers_form (tree.Negate operand) h s n = on_one_lowers h s n _ _ (lowers operand) effects.Negate (λ key k. (refl, refl))
    lowers_form (tree.Arithmetic operator left right) h s n =
        on_two_lowers h s n _ _ _ _ (lowers left) (lowers right) (λ site. effects.Compute site operator) (λ key k k'. (refl, refl, refl))
    lowers_form (tree.Comparison operator left right) h s n =
        on_two_lowers h s n _ _ _ _ (lowers left) (lowers right) (λ site. effects.Compare site operator) (λ key k k'. (refl, refl, refl))
    lowers_form (tree.And left right) h s n =
        a_scope_lowers h s n _ _ (λ around to. condition_lowers t around _ _ (lowers left) _ _ _ _ (alone_lowers t around _ _ (lowers right) to) (shortcut_lowers h false to)
        (λ S. sym (deliver_after t h (λ site. effects.Put site (effects.Truth false)) to S)))
    lowers_form (tree.Or left right) h s n =
        a_scope_lowers h s n _ _ (λ around to. condition_lowers t around _ _ (lowers left) _ _ _ _ (shortcut_lowers h true to) (alone_lowers t around _ _ (lowers right) to)
        (λ S. deliver_after t h (λ site. effects.Put site (effects.Truth true)) to S))
    lowers_form (tree.Assign place value) h s n = a_value_lowers h s n _ _ (assigning_lowers t h _ _ _ _ (lowers place) (lowers value))
    lowers_form (tree.Call g args) h s n = on_all_lowers h s n _ _ (all_lower args) (λ site. effects.Call site g) (λ key os one. (refl, one))
    lowers_form (tree.MethodCall g receiver args) h s n =
        on_all_lowers h s n _ _ (one_lowers _ _ _ _ (lowers receiver) (all_lower args)) (λ site. effects.Call site g) (λ key os one. (refl, one))
    lowers_form (tree.VirtualCall trait_no method receiver args) h s n =
        on_all_lowers h s n _ _ (one_lowers _ _ _ _ (lowers receiver) (all_lower args)) (λ site. effects.CallVirtual site trait_no method) (λ key os one. (refl, one))
    lowers_form (tree.ClosureCall g callee args) h s n =
        on_all_lowers h s n _ _ (one_lowers _ _ _ _ (lowers callee) (all_lower args)) (λ site. effects.Call site g) (λ key os one. (refl, one))
    lowers_form (tree.Make adt variant fields) h s n =
        on_operands_lowers h s n _ _ (fields_lower fields) (made_of h adt variant fields) (made_of h adt variant fields) refl (λ key. (refl, fields_of_node h.id (in_number_order (field_keys fields))))
    lowers_form (tree.Tuple parts) h s n = on_all_lowers h s n _ _ (all_lower parts) (λ site. effects.Build site OfTuple) (λ key os one. (refl, one))
    lowers_form (tree.Array elements) h s n = on_all_lowers h s n _ _ (all_lower elements) (λ site. effects.Build site OfArray) (λ key os one. (refl, one))
    lowers_form (tree.Closure closure captures) h s n = on_all_lowers h s n _ _ (all_lower captures) (λ site. effects.Build site (OfClosure closure)) (λ key os one. (refl, one))
    lowers_form (tree.NewBox content) h s n = on_one_lowers h s n _ _ (lowers content) effects.NewBox (λ key k. (refl, refl))
    lowers_form (tree.Print operand) h s n = gives_unit_lowers h s n _ _ (lowers operand) effects.Print (λ k. refl)
    lowers_form tree.Ask h s n = effect_lowers h s n effects.Ask (λ key. refl)
    lowers_form (tree.DropValue operand) h s n = a_value_lowers h s n _ _ (λ around own to. dropping_lowers t h around own _ _ (lowers operand) _ _ (unit_lowers t h to))
    lowers_form (tree.Forget operand) h s n = gives_unit_lowers h s n _ _ (lowers operand) effects.Forget (λ k. refl)
    lowers_form tree.Panic h s n = a_value_lowers h s n _ _ (λ around own to. scope_rules.panics_lowered t h.id Why.Explicit)
    lowers_form (tree.Borrow unique base) h s n = a_value_lowers h s n _ _ (borrowing_lowers t h unique _ _ (lowers base))
    lowers_form (tree.Unsize trait_no operand) h s n = a_value_lowers h s n _ _ (coerced_lowers h trait_no _ _ (lowers operand))
    lowers_form (tree.Block stmts tail) h s n = a_value_lowers h s n _ _ (block_lowers t h _ _ (all_lower stmts) _ _ (if_any_lowers tail))
    lowers_form (tree.Let pattern initialiser) h s n = a_statement_lowers h s n _ _ (letting_lowers t h _ _ (lowers pattern) _ _ (if_any_lowers initialiser))
    lowers_form (tree.Evaluate expression) h s n = a_statement_lowers h s n _ _ (evaluating_lowers t h _ _ (lowers expression))
    lowers_form (tree.If condition consequent otherwise) h s n =
        a_scope_lowers h s n _ _ (λ around to. condition_lowers t around _ _ (lowers condition) _ _ _ _ (alone_lowers t around _ _ (lowers consequent) to)
        (otherwise_lowers t h _ _ (if_any_lowers otherwise) around to) (otherwise_after t h (lower.lower_if_any f otherwise) around to))
    lowers_form (tree.IfLet pattern scrutinee consequent otherwise) h s n =
        a_scope_lowers h s n _ _ (λ around to. if_taken_lowers t h around _ _ (lowers pattern) _ _ (lowers scrutinee) _ _ _ _ (alone_lowers t around _ _ (lowers consequent) to)
        (otherwise_lowers t h _ _ (if_any_lowers otherwise) around to) (λ S. refl) (otherwise_after t h (lower.lower_if_any f otherwise) around to))
    lowers_form (tree.Match scrutinee arms) h s n = a_value_lowers h s n _ _ (matching_lowers t h _ _ (lowers scrutinee) _ _ (all_lower arms))
    lowers_form (tree.Arm pattern guard m) h s n = arm_form h s n _ _ (arm_lowers t h _ _ (lowers pattern) _ _ (if_any_lowers guard) _ _ (lowers m))
    lowers_form (tree.Loop m) h s n =
        a_scope_lowers h s n _ _ (λ around to. branch_rules.looped_lowered t h.id _ _ (body_lowers _ _ (lowers m) (in_loop h.id to around)) (λ S. refl))
    lowers_form (tree.While condition m) h s n =
        a_scope_lowers h s n _ _ (λ around to. branch_rules.looped_lowered t h.id _ _
        (condition_lowers t (in_loop h.id to around) _ _ (lowers condition) _ _ _ _ (body_lowers _ _ (lowers m) (in_loop h.id to around)) (ends_loop_lowers h to) (λ S. sym (unit_after_scopes t h to S)))
        (λ S. either_same (lower.body_in f (lower.lower f m) (in_loop h.id to around)).has_end (lower.body_in f (lower.lower f m) (in_loop h.id to around)) (lower.ends_loop f h to) S refl (unit_after_scopes t h to S)))
    lowers_form (tree.WhileLet pattern scrutinee m) h s n =
        a_scope_lowers h s n _ _ (λ around to. branch_rules.looped_lowered t h.id _ _
        (if_taken_lowers t h (in_loop h.id to around) _ _ (lowers pattern) _ _ (lowers scrutinee) _ _ _ _ (body_lowers _ _ (lowers m) (in_loop h.id to around)) (ends_loop_lowers h to)
        (λ S. refl) (λ S. sym (unit_after_scopes t h to S)))
        (if_taken_after f h (in_loop h.id to around) (lower.lower f pattern) (lower.lower f scrutinee) (is_local f scrutinee) (lower.body_in f (lower.lower f m) (in_loop h.id to around)) (lower.ends_loop f h to) (λ S. refl) (unit_after_scopes t h to)))
    lowers_form (tree.Break loop value) h s n =
        a_scope_lowers h s n _ _ (λ around to. scope_rules.jump_lowered t h.id (Breaks loop) _ _ (jump_value_lowers t h _ _ (if_any_lowers value) around (loop_destination loop around.loops)))
    lowers_form (tree.Continue loop) h s n = a_value_lowers h s n _ _ (λ around own to. scope_rules.jump_lowered t h.id (Continues loop) _ _ (effect_rules.nothing_lowered t))
    lowers_form (tree.Return value) h s n =
        a_scope_lowers h s n _ _ (λ around to. scope_rules.jump_lowered t h.id Returns _ _ (jump_value_lowers t h _ _ (if_any_lowers value) around around.answer))
    lowers_form other h s n = a_pattern_lowers h s n

    all_lower : (ns : Nodes) → AllLower (lower.lower_all f ns) (code.codes_of t ns)
    all_lower no_node = none_lower
    all_lower (a_node first rest) = one_lowers _ _ _ _ (lowers first) (all_lower rest)

    fields_lower : (fs : Fields) → AllLower (lower.lower_fields f fs) (code.field_codes t fs)
    fields_lower no_field = none_lower
    fields_lower (a_field number value rest) = one_lowers _ _ _ _ (lowers value) (fields_lower rest)

    if_any_lowers : (n : MaybeNode) → IfAnyLowers (lower.lower_if_any f n) (code.code_if_any t n)
    if_any_lowers absent = without
    if_any_lowers (present value) = with_one _ _ (lowers value)

  -- ---- bodies
  names_lower : (x : Bool) (bounds : List BoundName) → AllNamed bounds → L (lower.names_of_param f x bounds) (λ c. code.NamesAt t x bounds)
  names_lower true bounds named = effect_rules.nothing_lowered t
  names_lower false bounds named = bind_lowers t innermost bounds named

  params_lower : (params : List ParamTree) → L (lower.params_entered f params) (λ c. code.ParamsAt t params)
  params_lower [] = effect_rules.nothing_lowered t
  params_lower (param ∷ params) =
      effect_rules.changed_lowered t (innermost (with_entry (record { key = param_key param; ty = param.ty }))) _ _
      (effect_rules.then_lowered t _ _ _ _
      (names_lower (shape t.items param.pattern).is_binding ((shape t.items param.pattern).bindings (whole_local (param_key param))) (node_named t.items param.pattern (whole_local (param_key param))))
      (params_lower params))

  given_lowers : (m : NodeLower) (d : NodeCode) → LowersAs m d → (around : LoopsAndGuards) (to : Destination) → L (m.evaluates around false to) (λ c. d.evaluates around c false to)
  given_lowers _ _ (lowers_as h s e r a P Q A sn se sr sa) around to = se around false to

  -- the code of a function, given the ways of its jumps
  abbrev pub function_at : BodyTree → Ways → CodeSpot
  function_at body c =
      InScope t (answer_key body) true (Then (code.ParamsAt t body.params) ((code.code t body.block).evaluates (code.around_body t body) c false (Into (answer_key body))))

  pub function_lowers : (body : BodyTree) → L (lower.entire_function f body) (function_at body)
  function_lowers body =
      scope_rules.in_scope_lowered t (answer_key body) true _ _
      (effect_rules.then_lowered t _ _ _ _ (params_lower body.params) (given_lowers _ _ (lowers body.block) (code.around_body t body) (Into (answer_key body))))
