-- What is lowered holds its code: values, destinations, operands and patterns.
use Rattle.std.proofs.Common.{◌≡◌, ℕ, suc, Bool, true, false, List, [], ◌∷◌, ◌++◌, length, refl, sym, ap, ◌∙◌, subst}
use Rattle.mir_ty.specs.Facts.{needs_drop}
use Rattle.mir_ty.specs.ItemTable.{ItemTable}
use Rattle.store_model.specs.Effects as effects
use Rattle.store_model.specs.Effects.{EffectSite, Action}
use Rattle.store_model.specs.Places.Place.{Step, ToPart, ToField, Place}
use Rattle.typed_tree.specs.Tree as tree
use Rattle.typed_tree.specs.Tree.{Form, Nodes, no_node, a_node, Fields, no_field, a_field}
use Rattle.src_meaning.specs.Forms.{Destination, Into, Coerced, LoopsAndGuards, bound_entry, site_in, site_of_key, moved}
use Rattle.src_meaning.specs.Scopes.{Scope, Scopes, with_scope, innermost, with_entry}
use Rattle.src_meaning.specs.Shape.{NodeHead, head, Shape, BoundName, shape, shape_of, in_fields, in_parts, extended, site_at, moves, copied_or_moved, operand_of_bound, operand_at}
use Rattle.lower_rules.specs.Code as code
use Rattle.lower_rules.specs.Rules.{EvaluatesAt, ReachesAt, ArmsAt, NodeCode, CodeIfAny, no_code, a_code, Delivers, PutsUnit, InOwnScope, AloneAt, OperandAt, OperandsAt, taken, ActingAt, DroppingAt, TemporaryAt, UseAt, ReplacesAt, AssignAt, IfAt, ConditionAt, TestsAt, BindsAt, TouchedAt, ScrutinisedAt, IfTakenAt, TakenArmAt, named}
use Rattle.lower_rules.specs.Rules as rules
use Rattle.lower_rules.specs.Spots.{CodeTarget, CodePos, Ways, CodeSpot, Then, After, StepAt, Leads, Acts, InScope}
use Rattle.lower_rules.specs.Build as build
use Rattle.lower_rules.specs.Build.{LoweringFrame, BlockRest, Building, Lowers, change, outer, act, if_true, tests}
use Rattle.lower_rules.specs.Lower as lower
use Rattle.lower_rules.specs.Lower.{Evaluates, Reaches, LowersArm, NodeLower, LowerIfAny, no_lower, a_lower}
use Rattle.lower_rules.proofs.LaidBlocks as laid
use Rattle.lower_rules.proofs.LaidEffects as effect_rules
use Rattle.lower_rules.proofs.LaidScopes as scope_rules
use Rattle.lower_rules.proofs.LaidBranches as branch_rules
use Rattle.lower_rules.proofs.LaidBlocks.{Grows, Given, Ranked, LeadsOn, JumpWays, IsUsed, BlockGiven}

-- ---- the names of a pattern stand at their own nodes
abbrev pub AllNamed : List BoundName → Type 0
AllNamed [] = Unit {0}
AllNamed (b ∷ bounds) = (b.site.node ≡ b.key) × AllNamed bounds

all_named : (xs ys : List BoundName) → AllNamed xs → AllNamed ys → AllNamed (xs ++ ys)
all_named [] ys h k = k
all_named (b ∷ xs) ys h k = (h.0, all_named xs ys h.1 k)

abbrev pub Named : Shape → Type 0
Named s = (place : Place) → AllNamed (s.bindings place)

module _ (items : ItemTable) where
  mutual
    pub node_named : (n : tree.Node) → Named (shape items n)
    node_named (tree.node id at ty by form) = form_named form (head id ty by)

    pub form_named : (form : Form) (h : NodeHead) → Named (shape_of items form h)
    form_named (tree.Binding name) h place = (refl, tt)
    form_named (tree.StructPattern fields) h place = fields_named fields ToPart place
    form_named (tree.VariantPattern variant is_test fields) h place = fields_named fields (ToField variant) place
    form_named (tree.TuplePattern parts) h place = parts_named parts 0 place
    form_named (tree.ArrayPattern elements) h place = parts_named elements 0 place
    form_named other h place = tt

    fields_named : (fs : Fields) (step : ℕ → Step) (place : Place) → AllNamed ((in_fields items fs step).bindings place)
    fields_named no_field step place = tt
    fields_named (a_field number value rest) step place = all_named _ _ (node_named value (extended (step number) place)) (fields_named rest step place)

    parts_named : (ns : Nodes) (n : ℕ) (place : Place) → AllNamed ((in_parts items ns n).bindings place)
    parts_named no_node n place = tt
    parts_named (a_node first rest) n place = all_named _ _ (node_named first (extended (ToPart n) place)) (parts_named rest (suc n) place)

module _ (t : CodeTarget) where
  abbrev f : LoweringFrame
  f = laid.f t

  abbrev L : Lowers → (Ways → CodeSpot) → Type 0
  L P sp = laid.Lowered t P sp

  -- what is built for an arm, given the block for what is done where it is not taken
  pub record LoweredArm (a : LowersArm) (spot : CodePos → Ways → CodeSpot) : Type 0 where
    pub grows : (c : Ways) (S : Scopes) (r : ℕ) (k : BlockRest) (s : Building) → Grows s (a.build c S r k s).1
    pub holds : (c : Ways) (S : Scopes) (r : ℕ) (k : BlockRest) (s : Building) → JumpWays IsUsed c a.jumps → laid.Later t (a.build c S r k s).1 → laid.SharedStand t s → StepAt t r →
        laid.SharedStand t (a.build c S r k s).1 × ((b : CodePos) → laid.Stands t (a.build c S r k s).0 b → (S' : Scopes) (b' : CodePos) →
        (a.has_end ≡ true → (S' ≡ S) × ((m : CodePos) → laid.Stands t k m → Leads t m b')) → spot (r, 0) c S b S' b')
    pub ranks : (c : Ways) (S : Scopes) (r : ℕ) (k : BlockRest) (s : Building) → JumpWays (BlockGiven (length s.blocks)) c a.jumps → Ranked s → LeadsOn k s → Given (length s.blocks) r →
        Ranked (a.build c S r k s).1 × LeadsOn (a.build c S r k s).0 (a.build c S r k s).1
    pub tidies : (c : Ways) (S : Scopes) (r : ℕ) (k : BlockRest) (s : Building) → JumpWays (laid.PlainWay t) c a.jumps → laid.Later t (a.build c S r k s).1 → laid.Tidy t s → laid.RestWell t k →
        laid.KindAt t false r → laid.TidyAfter t (a.build c S r k s)

  abbrev pub LowersE : Evaluates → EvaluatesAt → Type 0
  LowersE e P = (around : LoopsAndGuards) (own : Bool) (to : Destination) → L (e around own to) (λ c. P around c own to)

  abbrev pub LowersR : Reaches → ReachesAt → Type 0
  LowersR r Q = (around : LoopsAndGuards) → L (r around) (λ c. Q around c)

  abbrev pub LowersA : (Place → LoopsAndGuards → Destination → LowersArm) → ArmsAt → Type 0
  LowersA a A = (matched : Place) (around : LoopsAndGuards) (to : Destination) → LoweredArm (a matched around to) (λ rest c. A matched rest around c to)

  pub data LowersAs : NodeLower → NodeCode → Type 1 where
    lowers_as : (h : NodeHead) (s : Shape) (e : Evaluates) (r : Reaches) (a : Place → LoopsAndGuards → Destination → LowersArm) (P : EvaluatesAt) (Q : ReachesAt) (A : ArmsAt) → Named s → LowersE e P → LowersR r Q → LowersA a A →
        LowersAs (record { head = h; shape = s; evaluates = e; reaches = r; arm = a }) (record { head = h; shape = s; evaluates = P; reaches = Q; arm = A })

  pub data AllLower : List NodeLower → List NodeCode → Type 1 where
    none_lower : AllLower [] []
    one_lowers : (m : NodeLower) (d : NodeCode) (ms : List NodeLower) (ds : List NodeCode) → LowersAs m d → AllLower ms ds → AllLower (m ∷ ms) (d ∷ ds)

  pub data IfAnyLowers : LowerIfAny → CodeIfAny → Type 1 where
    without : IfAnyLowers no_lower no_code
    with_one : (m : NodeLower) (d : NodeCode) → LowersAs m d → IfAnyLowers (a_lower m) (a_code d)

  pub same_keys : (ms : List NodeLower) (ds : List NodeCode) → AllLower ms ds → lower.keys_of ms ≡ rules.keys_of ds
  same_keys _ _ none_lower = refl
  same_keys _ _ (one_lowers _ _ ms ds (lowers_as h s e r a P Q A sn se sr sa) all) = ap (λ keys. h.id ∷ keys) (same_keys ms ds all)

  -- ---- values and destinations
  -- all sites of what is delivered have the number of one node
  abbrev OneNode : ℕ → NodeHead → (EffectSite → Action) → Type 0
  OneNode n h action = (key : ℕ) → effect_rules.ActionOf t n (action (site_in h.id key))

  pub deliver_at_lowers : (n : ℕ) (h : NodeHead) (action : EffectSite → Action) → OneNode n h action → (to : Destination) → L (lower.deliver_at f n h action to) (λ c. Delivers t h action to)
  deliver_at_lowers n h action one (Into key) = into_key (effect_rules.act_lowered t n (action (site_in h.id key)) (one key))
    where
      into_key : L (act f n (action (site_in h.id key))) (λ c. Acts t (action (site_in h.id key))) → L (lower.deliver_at f n h action (Into key)) (λ c. Delivers t h action (Into key))
      into_key l = record { grows = l.grows; holds = λ c S k s. l.holds c S k s; ranks = l.ranks; tidies = l.tidies }
  deliver_at_lowers n h action one (Coerced key trait_no to) = coerced_key
      (effect_rules.then_lowered t _ _ _ _ (effect_rules.act_lowered t n (action (site_in h.id key)) (one key)) (effect_rules.act_lowered t h.id (effects.Unsize (site_in h.id to) trait_no (moved h.id key)) (refl, refl)))
    where
      coerced_key : L (lower.deliver_at f n h action (Coerced key trait_no to)) (λ c. Then (Acts t (action (site_in h.id key))) (Acts t (effects.Unsize (site_in h.id to) trait_no (moved h.id key)))) →
          L (lower.deliver_at f n h action (Coerced key trait_no to)) (λ c. Delivers t h action (Coerced key trait_no to))
      coerced_key l = record { grows = l.grows; holds = λ c S k s. l.holds c S k s; ranks = l.ranks; tidies = l.tidies }

  pub deliver_lowers : (h : NodeHead) (action : EffectSite → Action) → OneNode h.id h action → (to : Destination) → L (lower.deliver f h action to) (λ c. Delivers t h action to)
  deliver_lowers h action one to = deliver_at_lowers h.id h action one to

  pub own_lowers : (h : NodeHead) (own : Bool) (P : Lowers) (sp : Ways → CodeSpot) → L P sp → L (lower.in_own_scope f h own P) (λ c. InOwnScope t h own (sp c))
  own_lowers h true P sp l = scope_rules.in_scope_lowered t h.id true P sp l
  own_lowers h false P sp l = l

  operand_lowers : (around : LoopsAndGuards) (m : NodeLower) (d : NodeCode) → LowersAs m d → L (lower.operand f around m) (λ c. OperandAt t around c d)
  operand_lowers around _ _ (lowers_as h s e r a P Q A sn se sr sa) =
      effect_rules.changed_lowered t _ _ _ (effect_rules.then_lowered t _ _ _ _ (se around false (Into h.id)) (effect_rules.change_lowered t _))

  operands_lower : (around : LoopsAndGuards) (ms : List NodeLower) (ds : List NodeCode) → AllLower ms ds → L (lower.operands f around ms) (λ c. OperandsAt t around c ds)
  operands_lower around _ _ none_lower = effect_rules.nothing_lowered t
  operands_lower around _ _ (one_lowers m d ms ds one all) = effect_rules.then_lowered t _ _ _ _ (operand_lowers around m d one) (operands_lower around ms ds all)

  pub acting_lowers : (h : NodeHead) (around : LoopsAndGuards) (own : Bool) (ms : List NodeLower) (ds : List NodeCode) → AllLower ms ds → (P : Lowers) (sp : Ways → CodeSpot) → L P sp →
      L (lower.acting f h around own ms P) (λ c. ActingAt t h around c own ds (sp c))
  acting_lowers h around own ms ds all P sp l =
      subst (λ keys. L (lower.acting f h around own ms P) (λ c. InScope t h.id own (Then (OperandsAt t around c ds) (After (taken t keys) (sp c))))) (same_keys ms ds all)
      (scope_rules.in_scope_lowered t h.id own _ _ (effect_rules.then_lowered t _ _ _ _ (operands_lower around ms ds all) (effect_rules.changed_lowered t (taken t (lower.keys_of ms)) P sp l)))

  pub dropping_lowers : (h : NodeHead) (around : LoopsAndGuards) (own : Bool) (m : NodeLower) (d : NodeCode) → LowersAs m d → (P : Lowers) (sp : Ways → CodeSpot) → L P sp →
      L (lower.dropping f h around own m P) (λ c. DroppingAt t h around c own d (sp c))
  dropping_lowers h around own m d one P sp l = scope_rules.in_scope_lowered t h.id own _ _ (effect_rules.then_lowered t _ _ _ _ (operand_lowers around m d one) l)

  pub temporary_lowers : (h : NodeHead) (s : Shape) (e : Evaluates) (P : EvaluatesAt) → LowersE e P → LowersR (lower.temporary f h s e) (TemporaryAt t h s P)
  temporary_lowers h s e P l around = effect_rules.changed_lowered t _ _ _ (effect_rules.then_lowered t _ _ _ _ (l around false (Into h.id)) (effect_rules.change_lowered t _))

  one_of : (x : Bool) (n : ℕ) (site : EffectSite) → site.node ≡ n → effect_rules.OperandOf t n (copied_or_moved x site)
  one_of true n site e = e
  one_of false n site e = e

  pub use_lowers : (h : NodeHead) (s : Shape) (r : Reaches) (Q : ReachesAt) → LowersR r Q → LowersE (lower.use_of_place f h s r) (UseAt t h s Q)
  use_lowers h s r Q l around own to =
      own_lowers h own _ _ (effect_rules.then_lowered t _ _ _ _ (l around)
      (deliver_lowers h (λ site. effects.Put site (operand_at h (s.place around.aliases))) (λ key. (refl, one_of (moves h.by) h.id (site_at h (s.place around.aliases)) refl)) to))

  pub unit_lowers : (h : NodeHead) (to : Destination) → L (lower.put_unit f h to) (λ c. PutsUnit t h to)
  unit_lowers h to = deliver_lowers h (λ site. effects.Put site effects.UnitValue) (λ key. (refl, tt)) to

  pub assigning_lowers : (h : NodeHead) (place value : NodeLower) (dp dv : NodeCode) → LowersAs place dp → LowersAs value dv → LowersE (lower.assigning f h place value) (AssignAt t h dp dv)
  assigning_lowers h _ value _ dv (lowers_as ph ps pe pr pa pP pQ pA pn spe spr spa) lv around own to =
      scope_rules.in_scope_lowered t h.id own _ _ (effect_rules.then_lowered t _ _ _ _ (operand_lowers around value dv lv)
      (effect_rules.then_lowered t _ _ _ _ (spr around)
      (effect_rules.then_lowered t _ _ _ _ (by_key lv) (unit_lowers h to))))
    where
      by_key : {m : NodeLower} {d : NodeCode} → LowersAs m d → L (build.replaces f (needs_drop t.items ph.ty) (site_at ph (ps.place around.aliases)) m.head.id)
          (λ c. ReplacesAt t (needs_drop t.items ph.ty) (site_at ph (ps.place around.aliases)) d.head.id)
      by_key (lowers_as vh s e r a P Q A sn se sr sa) = branch_rules.replaces_lowered t (needs_drop t.items ph.ty) (site_at ph (ps.place around.aliases)) vh.id

  pub alone_lowers : (around : LoopsAndGuards) (m : NodeLower) (d : NodeCode) → LowersAs m d → (to : Destination) → L (lower.alone f around m to) (λ c. AloneAt t around c d to)
  alone_lowers around _ _ (lowers_as h s e r a P Q A sn se sr sa) to = effect_rules.back_lowered t _ _ (se around true to)

  pub condition_lowers : (around : LoopsAndGuards) (m : NodeLower) (d : NodeCode) → LowersAs m d → (P Q : Lowers) (sp sq : Ways → CodeSpot) → L P sp → L Q sq → ((S : Scopes) → P.after S ≡ Q.after S) →
      L (lower.condition f around m P Q) (λ c. ConditionAt t around c d (sp c) (sq c))
  condition_lowers around _ _ (lowers_as h s e r a Pe Qr A sn se sr sa) P Q sp sq lp lq same =
      effect_rules.then_lowered t _ _ _ _ (effect_rules.back_lowered t _ _ (se around true (Into h.id)))
      (branch_rules.branches_lowered t h.id (IfAt t (moved h.id h.id)) (if_true f (moved h.id h.id) h.id) (scope_rules.if_made t (moved h.id h.id) h.id refl) P Q sp sq lp lq same)

  act_after : (x : Bool) (n : ℕ) (by : build.Done) (S : Scopes) → (build.act_by f x n by).after S ≡ S
  act_after true n by S = refl
  act_after false n by S = refl

  pub deliver_after : (h : NodeHead) (action : EffectSite → Action) (to : Destination) (S : Scopes) → (lower.deliver f h action to).after S ≡ S
  deliver_after h action (Into key) S = act_after (build.is_last f (action (site_in h.id key))) h.id (build.done_by f (action (site_in h.id key))) S
  deliver_after h action (Coerced key trait_no to) S =
      act_after (build.is_last f (effects.Unsize (site_in h.id to) trait_no (moved h.id key))) h.id (build.done_by f (effects.Unsize (site_in h.id to) trait_no (moved h.id key))) _
      ∙ act_after (build.is_last f (action (site_in h.id key))) h.id (build.done_by f (action (site_in h.id key))) S

  pub unit_after_scopes : (h : NodeHead) (to : Destination) (S : Scopes) → (lower.put_unit f h to).after S ≡ S
  unit_after_scopes h to S = deliver_after h (λ site. effects.Put site effects.UnitValue) to S

  pub otherwise_lowers : (h : NodeHead) (m : LowerIfAny) (d : CodeIfAny) → IfAnyLowers m d → (around : LoopsAndGuards) (to : Destination) → L (lower.otherwise_unit f h m around to) (λ c. code.otherwise_unit t h d around c to)
  otherwise_lowers h _ _ without around to = unit_lowers h to
  otherwise_lowers h _ _ (with_one m d l) around to = alone_lowers around m d l to

  pub otherwise_after : (h : NodeHead) (m : LowerIfAny) (around : LoopsAndGuards) (to : Destination) (S : Scopes) → S ≡ (lower.otherwise_unit f h m around to).after S
  otherwise_after h no_lower around to S = sym (unit_after_scopes h to S)
  otherwise_after h (a_lower m) around to S = refl

  -- ---- patterns
  pub bind_lowers : (in_that : (Scope → Scope) → Scopes → Scopes) (bounds : List BoundName) → AllNamed bounds → L (lower.bind f in_that bounds) (λ c. BindsAt t in_that bounds)
  bind_lowers in_that [] named = effect_rules.nothing_lowered t
  bind_lowers in_that (b ∷ bounds) named =
      effect_rules.then_lowered t _ _ _ _ (effect_rules.act_lowered t b.key (effects.Put (site_of_key b.key) (operand_of_bound b)) (refl, one_of b.takes b.key b.site named.0))
      (effect_rules.changed_lowered t (in_that (with_entry (bound_entry b))) _ _ (bind_lowers in_that bounds named.1))

  touched_lowers : (x : Bool) (site : EffectSite) → L (lower.touched f x site) (λ c. TouchedAt t x site)
  touched_lowers true site = effect_rules.act_lowered t site.node (effects.Touch site) refl
  touched_lowers false site = effect_rules.nothing_lowered t

  pub scrutinised_lowers : (around : LoopsAndGuards) (m : NodeLower) (d : NodeCode) → LowersAs m d → L (lower.scrutinised f around m) (λ c. ScrutinisedAt t around c d)
  scrutinised_lowers around _ _ (lowers_as h s e r a P Q A sn se sr sa) =
      effect_rules.then_lowered t _ _ _ _ (sr around) (touched_lowers s.is_place (site_at h (s.place around.aliases)))

  outer_innermost : (change : Scope → Scope) (S : Scopes) → outer f (innermost change S) ≡ outer f S
  outer_innermost change [] = refl
  outer_innermost change (scope ∷ S) = refl

  bind_outer : (bounds : List BoundName) (S : Scopes) → outer f ((lower.bind f innermost bounds).after S) ≡ outer f S
  bind_outer [] S = refl
  bind_outer (b ∷ bounds) S =
      bind_outer bounds (innermost (with_entry (bound_entry b)) ((act f b.key (effects.Put (site_of_key b.key) (operand_of_bound b))).after S))
      ∙ outer_innermost (with_entry (bound_entry b)) ((act f b.key (effects.Put (site_of_key b.key) (operand_of_bound b))).after S)
      ∙ ap (outer f) (act_after (build.is_last f (effects.Put (site_of_key b.key) (operand_of_bound b))) b.key (build.done_by f (effects.Put (site_of_key b.key) (operand_of_bound b))) S)

  pub if_taken_lowers : (h : NodeHead) (around : LoopsAndGuards) (pattern : NodeLower) (dp : NodeCode) → LowersAs pattern dp → (scrutinee : NodeLower) (ds : NodeCode) → LowersAs scrutinee ds →
      (P Q : Lowers) (sp sq : Ways → CodeSpot) → L P sp → L Q sq → ((S : Scopes) → P.after S ≡ S) → ((S : Scopes) → S ≡ Q.after S) →
      L (lower.if_taken f h around pattern scrutinee P Q) (λ c. IfTakenAt t h around c dp ds (sp c) (sq c))
  if_taken_lowers h around _ _ (lowers_as ph ps pe pr pa pP pQ pA pn spe spr spa) _ _ (lowers_as mh s e r a Pe Qr A sn se sr sa) P Q sp sq lp lq same same2 =
      effect_rules.changed_lowered t (with_scope h.id true) _ _ (effect_rules.then_lowered t _ _ _ _ (scrutinised_lowers around _ _ (lowers_as mh s e r a Pe Qr A sn se sr sa))
      (branch_rules.branches_lowered t h.id (TestsAt t (ps.tests (s.place around.aliases))) (tests f (ps.tests (s.place around.aliases))) (scope_rules.tests_made t (ps.tests (s.place around.aliases))) _ _ _ _
      (effect_rules.then_lowered t _ _ _ _ (effect_rules.then_lowered t _ _ _ _ (bind_lowers innermost (ps.bindings (s.place around.aliases)) (pn (s.place around.aliases))) lp) (scope_rules.leave_lowered t))
      (effect_rules.then_lowered t _ _ _ _ (scope_rules.leave_lowered t) lq)
      (λ S. ap (outer f) (same _) ∙ bind_outer (ps.bindings (s.place around.aliases)) S ∙ same2 (outer f S))))

  pub taken_lowers : (h : NodeHead) (around : LoopsAndGuards) (bounds : List BoundName) → AllNamed bounds → (m : NodeLower) (d : NodeCode) → LowersAs m d → (to : Destination) →
      L (lower.taken_arm f h around bounds m to) (λ c. TakenArmAt t h around c bounds d to)
  taken_lowers h around bounds named m d one to =
      scope_rules.in_scope_lowered t h.id false _ _ (effect_rules.then_lowered t _ _ _ _ (bind_lowers innermost bounds named) (alone_lowers around m d one to))

  pub taken_after : (h : NodeHead) (around : LoopsAndGuards) (bounds : List BoundName) (m : NodeLower) (to : Destination) (S : Scopes) → (lower.taken_arm f h around bounds m to).after S ≡ S
  taken_after h around bounds m to S = bind_outer bounds (with_scope h.id false S)
