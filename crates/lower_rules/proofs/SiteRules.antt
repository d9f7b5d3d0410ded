-- Each line has the number of a node of its body: the rules of `Lower`.
use Rattle.std.proofs.Common.{◌≡◌, inl, ℕ, suc, ◌||◌, not, Bool, true, false, List, [], ◌∷◌, ◌++◌, length, Some, refl}
use Rattle.cfg_graph.specs.declared.graph.Kind.{Kind}
use Rattle.cfg_graph.specs.declared.terminator.Term.{Term}
use Rattle.mir_base.specs.declared.trace.Why.{Why}
use Rattle.mir_ty.specs.Facts.{needs_drop}
use Rattle.store_model.specs.Effects as effects
use Rattle.store_model.specs.Effects.{EffectSite, Action}
use Rattle.store_model.specs.Places.Place.{Step, ToPart, ToField, Place, whole_local}
use Rattle.typed_tree.specs.Nodes.{number_of, nodes_of, nodes_in, nodes_among, nodes_of_fields, first_with}
use Rattle.typed_tree.specs.Tree as tree
use Rattle.typed_tree.specs.Tree.{Form, Nodes, no_node, a_node, Fields, no_field, a_field}
use Rattle.src_meaning.specs.Evaluation.{to_own_key}
use Rattle.src_meaning.specs.Forms.{Destination, Into, Coerced, LoopsAndGuards, in_guard, entry_of, bound_entry, site_in, site_of_key, moved, is_never}
use Rattle.src_meaning.specs.Scopes.{Scope, Scopes, innermost, around_innermost, nearest_temporary, with_entry, with_pending, without_pending, becomes_entry, Breaks}
use Rattle.src_meaning.specs.Shape.{NodeHead, head, Shape, BoundName, PatternTests, no_test, a_test, followed_by, shape, shape_of, in_fields, in_parts, alternatives_at, extended, operand_of_bound, operand_at}
use Rattle.lower_rules.specs.Spots.{Ways}
use Rattle.lower_rules.specs.Build.{LoweringFrame, BlockRest, Building, closed, Lowers, change, from_changed, back_in, then_lower, joined, act, done_by, if_true, tests, taken}
use Rattle.lower_rules.specs.Lower as lower
use Rattle.lower_rules.specs.Lower.{Evaluates, Reaches, LowersArm, NodeLower, LowerIfAny, no_lower, a_lower}
use Rattle.lower_rules.proofs.Lines as lines
use Rattle.lower_rules.proofs.Lines.{Wanted}
use Rattle.lower_rules.proofs.Stops as stops

module _ (f : LoweringFrame) (known : List tree.Node) (own : ℕ → Type 0) where
  -- a node of the body has this number
  abbrev pub In : ℕ → Type 0
  In n = (found : tree.Node) × (first_with n known ≡ Some found)

  abbrev pub TermIn : Term → ℕ → Type 0
  TermIn (Term.Goto block) n = Unit {0}
  TermIn (Term.Panic why unwind) n = Unit {0}
  TermIn Term.Return n = Unit {0}
  TermIn Term.Resume n = Unit {0}
  TermIn term n = In n

  -- each line has the number of a node of the body; and it stops where a value of type `!` is copied or stored
  abbrev pub wanted : Wanted f
  wanted = record {
    stmt = λ stmt n. In n × stops.StmtCopies stmt;
    term = λ term n. TermIn term n × stops.TermCopies term;
    entry = λ e. In e.key;
    behind = stops.Behind f own;
    returns = 1;
    goto = λ block n. (tt, tt);
    resume = λ n. (tt, tt);
    drop = λ e h x n u. (h, tt);
    follows = stops.follows f own;
    compares = λ site value stmts term. tt;
  }

  abbrev pub Sound : Lowers → Type 0
  Sound = lines.Sound f wanted

  abbrev ArmSound : LowersArm → Type 0
  ArmSound a = (c : Ways) → c.returns.block ≡ 1 → (S : Scopes) (r : ℕ) (k : BlockRest) (s : Building) → lines.ScopesOk f wanted S → lines.Ok f wanted s → lines.RestOk f wanted k → lines.Both f wanted (a.build c S r k s)

  abbrev pub BoundsIn : List BoundName → Type 0
  BoundsIn [] = Unit {0}
  BoundsIn (b ∷ bounds) = In b.key × BoundsIn bounds

  abbrev Shaped : Shape → Type 0
  Shaped s = ((place : Place) → lines.TestsOk f wanted (s.tests place)) × ((place : Place) → BoundsIn (s.bindings place))

  pub record NodeSites (x : NodeLower) : Type 0 where
    pub here : In x.head.id
    pub owned : own x.head.id
    pub evaluates : (around : LoopsAndGuards) (own : Bool) (to : Destination) → Sound (x.evaluates around own to)
    pub reaches : (around : LoopsAndGuards) → Sound (x.reaches around)
    pub arm : (matched : Place) (around : LoopsAndGuards) (to : Destination) → ArmSound (x.arm matched around to)
    pub shaped : Shaped x.shape

  pub data AllSites : List NodeLower → Type 0 where
    none_sites : AllSites []
    one_sites : (x : NodeLower) (xs : List NodeLower) → NodeSites x → AllSites xs → AllSites (x ∷ xs)

  pub data IfAnySites : LowerIfAny → Type 0 where
    without : IfAnySites no_lower
    with_one : (x : NodeLower) → NodeSites x → IfAnySites (a_lower x)

  -- ---- patterns
  followed_in : (xs ys : PatternTests) → lines.TestsOk f wanted xs → lines.TestsOk f wanted ys → lines.TestsOk f wanted (followed_by xs ys)
  followed_in no_test ys h k = k
  followed_in (a_test x xs) ys h k = (h.0, followed_in xs ys h.1 k)

  bounds_append : (xs ys : List BoundName) → BoundsIn xs → BoundsIn ys → BoundsIn (xs ++ ys)
  bounds_append [] ys h k = k
  bounds_append (b ∷ xs) ys h k = (h.0, bounds_append xs ys h.1 k)

  -- all of some nodes are known
  abbrev pub AllIn : List tree.Node → Type 0
  AllIn [] = Unit {0}
  AllIn (n ∷ ns) = In (number_of n) × AllIn ns

  pub in_first : (xs ys : List tree.Node) → AllIn (xs ++ ys) → AllIn xs
  in_first [] ys h = tt
  in_first (x ∷ xs) ys h = (h.0, in_first xs ys h.1)

  pub in_second : (xs ys : List tree.Node) → AllIn (xs ++ ys) → AllIn ys
  in_second [] ys h = h
  in_second (x ∷ xs) ys h = in_second xs ys h.1

  -- all of some nodes are known, and are no parameters
  abbrev pub Inside : ℕ → Type 0
  Inside n = In n × own n

  abbrev pub AllInside : List tree.Node → Type 0
  AllInside [] = Unit {0}
  AllInside (n ∷ ns) = Inside (number_of n) × AllInside ns

  pub inside_first : (xs ys : List tree.Node) → AllInside (xs ++ ys) → AllInside xs
  inside_first [] ys h = tt
  inside_first (x ∷ xs) ys h = (h.0, inside_first xs ys h.1)

  pub inside_second : (xs ys : List tree.Node) → AllInside (xs ++ ys) → AllInside ys
  inside_second [] ys h = h
  inside_second (x ∷ xs) ys h = inside_second xs ys h.1

  pub known_inside : (ns : List tree.Node) → AllInside ns → AllIn ns
  known_inside [] h = tt
  known_inside (n ∷ ns) h = (h.0.0, known_inside ns h.1)

  mutual
    pub node_shaped : (n : tree.Node) → AllIn (nodes_of n) → Shaped (shape f.items n)
    node_shaped (tree.node id at ty by form) a = form_shaped form (head id ty by) a.0 a.1

    pub form_shaped : (form : Form) (h : NodeHead) → In h.id → AllIn (nodes_in form) → Shaped (shape_of f.items form h)
    form_shaped (tree.Binding name) h j a = ((λ place. tt), λ place. (j, tt))
    form_shaped (tree.NumberPattern value) h j a = ((λ place. (((j, tt), λ y n. (j, tt)), tt)), λ place. tt)
    form_shaped (tree.TruthPattern value) h j a = ((λ place. (((j, tt), λ y n. (j, tt)), tt)), λ place. tt)
    form_shaped (tree.StructPattern fields) h j a = fields_shaped fields ToPart a
    form_shaped (tree.VariantPattern variant is_test fields) h j a = ((λ place. by_test is_test place ((fields_shaped fields (ToField variant) a).0 place)), (fields_shaped fields (ToField variant) a).1)
      where
        by_test : (x : Bool) (place : Place) → lines.TestsOk f wanted ((in_fields f.items fields (ToField variant)).tests place) → lines.TestsOk f wanted ((shape_of f.items (tree.VariantPattern variant x fields) h).tests place)
        by_test true place t = ((λ y n. (j, tt)), t)
        by_test false place t = t
    form_shaped (tree.TuplePattern parts) h j a = parts_shaped parts 0 a
    form_shaped (tree.ArrayPattern elements) h j a = parts_shaped elements 0 a
    form_shaped (tree.OrPattern alternatives) h j a = ((λ place. (any_shaped alternatives a place, tt)), λ place. tt)
    form_shaped other h j a = ((λ place. tt), λ place. tt)

    fields_shaped : (fs : Fields) (step : ℕ → Step) → AllIn (nodes_of_fields fs) → ((place : Place) → lines.TestsOk f wanted ((in_fields f.items fs step).tests place)) × ((place : Place) → BoundsIn ((in_fields f.items fs step).bindings place))
    fields_shaped no_field step a = ((λ place. tt), λ place. tt)
    fields_shaped (a_field number value rest) step a =
        let p = node_shaped value (in_first (nodes_of value) (nodes_of_fields rest) a) in
        let q = fields_shaped rest step (in_second (nodes_of value) (nodes_of_fields rest) a) in (
          (λ place. followed_in ((shape f.items value).tests (extended (step number) place)) ((in_fields f.items rest step).tests place) (p.0 (extended (step number) place)) (q.0 place)),
          λ place. bounds_append ((shape f.items value).bindings (extended (step number) place)) ((in_fields f.items rest step).bindings place) (p.1 (extended (step number) place)) (q.1 place),
        )

    parts_shaped : (ns : Nodes) (n : ℕ) → AllIn (nodes_among ns) → ((place : Place) → lines.TestsOk f wanted ((in_parts f.items ns n).tests place)) × ((place : Place) → BoundsIn ((in_parts f.items ns n).bindings place))
    parts_shaped no_node n a = ((λ place. tt), λ place. tt)
    parts_shaped (a_node first rest) n a =
        let p = node_shaped first (in_first (nodes_of first) (nodes_among rest) a) in
        let q = parts_shaped rest (suc n) (in_second (nodes_of first) (nodes_among rest) a) in (
          (λ place. followed_in ((shape f.items first).tests (extended (ToPart n) place)) ((in_parts f.items rest (suc n)).tests place) (p.0 (extended (ToPart n) place)) (q.0 place)),
          λ place. bounds_append ((shape f.items first).bindings (extended (ToPart n) place)) ((in_parts f.items rest (suc n)).bindings place) (p.1 (extended (ToPart n) place)) (q.1 place),
        )

    any_shaped : (ns : Nodes) → AllIn (nodes_among ns) → (place : Place) → lines.AnyTestsOk f wanted (alternatives_at f.items ns place)
    any_shaped no_node a place = tt
    any_shaped (a_node first rest) a place =
        ((node_shaped first (in_first (nodes_of first) (nodes_among rest) a)).0 place, any_shaped rest (in_second (nodes_of first) (nodes_among rest) a) place)

  -- ---- effects
  act_in : (n : ℕ) (action : Action) → In n → stops.DoneCopies (done_by f action) → lines.ActOk f wanted n action
  act_in n (effects.Compute to operator left right) i p = λ m u. (i, p m u)
  act_in n (effects.Negate to operand) i p = λ m u. (i, p m u)
  act_in n (effects.Bounds index count) i p = λ m u. (i, p m u)
  act_in n (effects.Call to body args) i p = λ m u. (i, p m u)
  act_in n (effects.CallVirtual to trait_no method args) i p = λ m u. (i, p m u)
  act_in n (effects.Ask to) i p = λ m u. (i, p m u)
  act_in n other i p = (i, p)

  pub acts : (n : ℕ) (action : Action) → In n → stops.DoneCopies (done_by f action) → Sound (act f n action)
  acts n action i p = lines.act_sound f wanted n action (act_in n action i p)

  pub and_then : (P Q : Lowers) → Sound P → Sound Q → Sound (then_lower P Q)
  and_then P Q p q = lines.then_sound f wanted P Q p (λ e. q)

  -- an effect copies as it may, whatever local its answer goes to
  abbrev DoesCopy : NodeHead → (EffectSite → Action) → Type 0
  DoesCopy h action = (key : ℕ) → stops.DoneCopies (done_by f (action (site_in h.id key)))

  pub deliver_sites : (n : ℕ) (h : NodeHead) (action : EffectSite → Action) (to : Destination) → In n → In h.id → DoesCopy h action → Sound (lower.deliver_at f n h action to)
  deliver_sites n h action (Into key) i j p = acts n (action (site_in h.id key)) i (p key)
  deliver_sites n h action (Coerced key trait_no to) i j p =
      and_then _ _ (acts n (action (site_in h.id key)) i (p key)) (acts h.id (effects.Unsize (site_in h.id to) trait_no (moved h.id key)) j tt)

  pub unit_sites : (h : NodeHead) (to : Destination) → In h.id → Sound (lower.put_unit f h to)
  unit_sites h to j = deliver_sites h.id h (λ site. effects.Put site effects.UnitValue) to j j (λ key. inl refl)

  pub own_sites : (h : NodeHead) (own : Bool) (P : Lowers) → Sound P → Sound (lower.in_own_scope f h own P)
  own_sites h true P p = lines.scope_sound f wanted h.id true P p
  own_sites h false P p = p

  abbrev InThat : ((Scope → Scope) → Scopes → Scopes) → Type 0
  InThat in_that = (g : Scope → Scope) → lines.KeepsOk f wanted g → (S : Scopes) → lines.ScopesOk f wanted S → lines.ScopesOk f wanted (in_that g S)

  pending_ok : (b : Bool) (in_that : (Scope → Scope) → Scopes → Scopes) (h : NodeHead) → InThat in_that → In h.id → (S : Scopes) → lines.ScopesOk f wanted S → lines.ScopesOk f wanted (lower.pending_if f b in_that h S)
  pending_ok true in_that h keeps j S o = keeps (with_pending (entry_of h)) (lines.pending_keeps f wanted (entry_of h) j) S o
  pending_ok false in_that h keeps j S o = o

  completed_ok : (in_that : (Scope → Scope) → Scopes → Scopes) (h : NodeHead) → InThat in_that → In h.id → (S : Scopes) → lines.ScopesOk f wanted S → lines.ScopesOk f wanted (lower.completed f in_that h S)
  completed_ok in_that h keeps j S o = keeps (becomes_entry (entry_of h)) (lines.becomes_keeps f wanted (entry_of h) j) S o

  pub inner : InThat innermost
  inner = lines.innermost_ok f wanted

  pub pended : (b : Bool) (in_that : (Scope → Scope) → Scopes → Scopes) (h : NodeHead) (P : Lowers) → InThat in_that → In h.id → Sound P →
      Sound (from_changed (lower.pending_if f b in_that h) (then_lower P (change (lower.completed f in_that h))))
  pended b in_that h P keeps j p =
      lines.changed_sound f wanted (lower.pending_if f b in_that h) _ (pending_ok b in_that h keeps j) (and_then P _ p (lines.change_sound f wanted (lower.completed f in_that h) (completed_ok in_that h keeps j)))

  pub operand_sites : (x : NodeLower) → NodeSites x → (around : LoopsAndGuards) → Sound (lower.operand f around x)
  operand_sites x p around = pended x.shape.in_destination innermost x.head _ inner p.here (p.evaluates around false (Into x.head.id))

  operands_sites : (xs : List NodeLower) → AllSites xs → (around : LoopsAndGuards) → Sound (lower.operands f around xs)
  operands_sites _ none_sites around = lines.nothing_sound f wanted
  operands_sites _ (one_sites x xs p ps) around = and_then _ _ (operand_sites x p around) (operands_sites xs ps around)

  acting_sites : (h : NodeHead) (around : LoopsAndGuards) (own : Bool) (xs : List NodeLower) → AllSites xs → (P : Lowers) → Sound P → Sound (lower.acting f h around own xs P)
  acting_sites h around own xs ps P p =
      lines.scope_sound f wanted h.id own _ (and_then _ _ (operands_sites xs ps around) (lines.changed_sound f wanted (taken f (lower.keys_of xs)) P (lines.taken_ok f wanted (lower.keys_of xs)) p))

  -- ---- nodes
  abbrev EvalSites : Evaluates → Type 0
  EvalSites e = (around : LoopsAndGuards) (own : Bool) (to : Destination) → Sound (e around own to)

  no_arm_sites : (matched : Place) (around : LoopsAndGuards) (to : Destination) → ArmSound (lower.no_arm f matched around to)
  no_arm_sites matched around to c t S r k s o h l = (h, l)

  pub value_sites : (h : NodeHead) (s : Shape) → Inside h.id → Shaped s → (e : Evaluates) → EvalSites e → NodeSites (lower.a_value f h s e)
  value_sites h s j shaped e p = record {
    here = j.0;
    owned = j.1;
    evaluates = λ around own to. p around own (to_own_key (is_never f.items h.ty) h.id to);
    reaches = λ around. pended s.in_destination nearest_temporary h _ (lines.nearest_ok f wanted) j.0 (p around false (to_own_key (is_never f.items h.ty) h.id (Into h.id)));
    arm = no_arm_sites;
    shaped = shaped;
  }

  pub place_sites : (h : NodeHead) (s : Shape) → Inside h.id → Shaped s → (r : Reaches) → ((around : LoopsAndGuards) → Sound (r around)) → NodeSites (lower.a_place f h s r)
  place_sites h s j shaped r p = record {
    here = j.0;
    owned = j.1;
    evaluates = λ around own to. own_sites h own _ (and_then _ _ (p around) (deliver_sites h.id h (λ site. effects.Put site (operand_at h (s.place around.aliases))) (to_own_key (is_never f.items h.ty) h.id to) j.0 j.0 (λ key. inl refl)));
    reaches = p;
    arm = no_arm_sites;
    shaped = shaped;
  }

  pub scoped_sites : (h : NodeHead) (s : Shape) → Inside h.id → Shaped s → (does : lower.MakesInto) → ((around : LoopsAndGuards) (to : Destination) → Sound (does around to)) → NodeSites (lower.a_scope f h s does)
  scoped_sites h s j shaped does p = value_sites h s j shaped _ (λ around own to. own_sites h own _ (p around to))

  pub on_operands_sites : (h : NodeHead) (s : Shape) → Inside h.id → Shaped s → (xs : List NodeLower) → AllSites xs → (action : EffectSite → Action) → DoesCopy h action → NodeSites (lower.on_operands f h s xs action)
  on_operands_sites h s j shaped xs ps action q = value_sites h s j shaped _ (λ around own to. acting_sites h around own xs ps _ (deliver_sites h.id h action to j.0 j.0 q))

  pub gives_unit_sites : (h : NodeHead) (s : Shape) → Inside h.id → Shaped s → (x : NodeLower) → NodeSites x → (action : effects.Operand → Action) → stops.DoneCopies (done_by f (action (moved h.id x.head.id))) → NodeSites (lower.gives_unit f h s x action)
  gives_unit_sites h s j shaped x p action q =
      value_sites h s j shaped _ (λ around own to. acting_sites h around own (x ∷ []) (one_sites x [] p none_sites) _ (and_then _ _ (acts h.id (action (moved h.id x.head.id)) j.0 q) (unit_sites h to j.0)))

  -- ---- branches and patterns
  pub alone_sites : (x : NodeLower) → NodeSites x → (around : LoopsAndGuards) (to : Destination) → Sound (lower.alone f around x to)
  alone_sites x p around to = lines.back_sound f wanted _ (p.evaluates around true to)

  pub condition_sites : (x : NodeLower) → NodeSites x → (around : LoopsAndGuards) (P Q : Lowers) → Sound P → Sound Q → Sound (lower.condition f around x P Q)
  condition_sites x p around P Q cp cq =
      and_then _ _ (alone_sites x p around (Into x.head.id))
      (lines.branches_sound f wanted x.head.id (if_true f (moved x.head.id x.head.id) x.head.id) P Q (lines.if_ok f wanted (moved x.head.id x.head.id) x.head.id (λ y n. (p.here, tt))) cp cq)

  pub otherwise_sites : (h : NodeHead) → In h.id → (x : LowerIfAny) → IfAnySites x → (around : LoopsAndGuards) (to : Destination) → Sound (lower.otherwise_unit f h x around to)
  otherwise_sites h j _ without around to = unit_sites h to j
  otherwise_sites h j _ (with_one x p) around to = alone_sites x p around to

  pub bind_sites : (in_that : (Scope → Scope) → Scopes → Scopes) → InThat in_that → (bounds : List BoundName) → BoundsIn bounds → Sound (lower.bind f in_that bounds)
  bind_sites in_that keeps [] b = lines.nothing_sound f wanted
  bind_sites in_that keeps (x ∷ bounds) b =
      and_then _ _ (acts x.key (effects.Put (site_of_key x.key) (operand_of_bound x)) b.0 (inl refl))
      (lines.changed_sound f wanted (in_that (with_entry (bound_entry x))) _ (keeps (with_entry (bound_entry x)) (lines.entry_keeps f wanted (bound_entry x) b.0)) (bind_sites in_that keeps bounds b.1))

  pub scrutinised_sites : (x : NodeLower) → NodeSites x → (around : LoopsAndGuards) → Sound (lower.scrutinised f around x)
  scrutinised_sites x p around = and_then _ _ (p.reaches around) (touched x.shape.is_place)
    where
      touched : (b : Bool) → Sound (lower.touched f b (lower.site_of x around))
      touched true = acts x.head.id (effects.Touch (lower.site_of x around)) p.here tt
      touched false = lines.nothing_sound f wanted

  pub if_taken_sites : (h : NodeHead) (around : LoopsAndGuards) (p x : NodeLower) → NodeSites p → NodeSites x → (P Q : Lowers) → Sound P → Sound Q → Sound (lower.if_taken f h around p x P Q)
  if_taken_sites h around p x sp sx P Q p1 p2 =
      let place = lower.place_in x around in
      lines.entered_sound f wanted h.id true _ (and_then _ _ (scrutinised_sites x sx around)
      (lines.branches_sound f wanted h.id (tests f (p.shape.tests place)) _ _ (lines.tests_ok f wanted (p.shape.tests place) (sp.shaped.0 place))
      (and_then _ _ (and_then _ P (bind_sites innermost inner (p.shape.bindings place) (sp.shaped.1 place)) p1) (lines.leave_sound f wanted))
      (and_then _ Q (lines.leave_sound f wanted) p2)))

  -- ---- arms
  guarded_sites : (around : LoopsAndGuards) (bounds : List BoundName) (g : LowerIfAny) → IfAnySites g → (P : Lowers) → Sound P → ArmSound (lower.guarded f around bounds g P)
  guarded_sites around bounds _ without P p c t S r k s o h l = p.lines c t S k s o h l
  guarded_sites around bounds _ (with_one x q) P p c t S r k s o h l = by_end (back_in (x.evaluates (in_guard bounds around) true (Into x.head.id))).has_end
    where
      asked : Lowers
      asked = back_in (x.evaluates (in_guard bounds around) true (Into x.head.id))

      asks : Sound asked
      asks = lines.back_sound f wanted _ (q.evaluates (in_guard bounds around) true (Into x.head.id))

      by_end : (z : Bool) → lines.Both f wanted (lower.guard_from f z asked x.head.id P c S r k s)
      by_end true =
          let y = p.lines c t S k s o h l in
          let d = P.build c S k s in
          let made = lines.closed_ok f wanted Kind.Plain d.0 d.1 y.0 y.1 in
          let test = if_true f (moved x.head.id x.head.id) x.head.id (length d.1.blocks) r (closed Kind.Plain d.0 d.1) in
          let i = lines.if_ok f wanted (moved x.head.id x.head.id) x.head.id (λ y n. (q.here, tt)) (length d.1.blocks) r (closed Kind.Plain d.0 d.1) made in
          asks.lines c t S test.0 test.1 o i.0 i.1
      by_end false = asks.lines c t S k s o h l

  taken_sites : (h : NodeHead) (around : LoopsAndGuards) (bounds : List BoundName) → BoundsIn bounds → (x : NodeLower) → NodeSites x → (to : Destination) → Sound (lower.taken_arm f h around bounds x to)
  taken_sites h around bounds b x p to = lines.scope_sound f wanted h.id false _ (and_then _ _ (bind_sites innermost inner bounds b) (alone_sites x p around to))

  pub arm_sites : (h : NodeHead) (p : NodeLower) (g : LowerIfAny) (x : NodeLower) → NodeSites p → IfAnySites g → NodeSites x → (matched : Place) (around : LoopsAndGuards) (to : Destination) → ArmSound (lower.arm f h p g x matched around to)
  arm_sites h p g x sp sg sx matched around to c t S r k s o hs l =
      let bounds = p.shape.bindings matched in
      let code = lower.guarded f around bounds g (lower.taken_arm f h around bounds x to) in
      let i = guarded_sites around bounds g sg _ (taken_sites h around bounds (sp.shaped.1 matched) x sx to) c t S r k s o hs l in
      let d = code.build c S r k s in
      lines.tests_ok f wanted (p.shape.tests matched) (sp.shaped.0 matched) (length d.1.blocks) r (closed Kind.Plain d.0 d.1) (lines.closed_ok f wanted Kind.Plain d.0 d.1 i.0 i.1)

  arms_from_sites : (number : ℕ) (xs : List NodeLower) → AllSites xs → (matched : Place) (around : LoopsAndGuards) (to : Destination) (c : Ways) → c.returns.block ≡ 1 → (S : Scopes) (k : BlockRest) (s : Building) → lines.ScopesOk f wanted S → lines.Ok f wanted s →
      lines.RestOk f wanted k → lines.Both f wanted (lower.arms_from f number xs matched around to c S k s)
  arms_from_sites number _ none_sites matched around to c t S k s o h l = lines.panic_both f wanted (Term.Panic Why.Match) number (λ u. (tt, tt)) S o s h
  arms_from_sites number _ (one_sites x xs p ps) matched around to c t S k s o h l =
      let d = lower.arms_from f number xs matched around to c S k s in
      let i = arms_from_sites number xs ps matched around to c t S k s o h l in
      p.arm matched around to c t S (length d.1.blocks) k (closed Kind.Plain d.0 d.1) o (lines.closed_ok f wanted Kind.Plain d.0 d.1 i.0 i.1) l

  pub arms_sites : (number : ℕ) (xs : List NodeLower) → AllSites xs → (matched : Place) (around : LoopsAndGuards) (to : Destination) → Sound (lower.arms_in_order f number xs matched around to)
  arms_sites number xs ps matched around to = record {
    after = λ e S o. o;
    lines = λ c t S k s o h l.
        let ends = lower.arms_end f xs matched around to in
        let j = joined ends number k s in
        let jo = lines.joined_ok f wanted ends number k s h l in
        arms_from_sites number xs ps matched around to c t S j.0 j.1 o jo.0 jo.1;
  }

  -- ---- blocks and statements
  pub statements_sites : (xs : List NodeLower) → AllSites xs → (around : LoopsAndGuards) → Sound (lower.statements f around xs)
  statements_sites _ none_sites around = lines.nothing_sound f wanted
  statements_sites _ (one_sites x xs p ps) around = and_then _ _ (p.evaluates around false (Into x.head.id)) (statements_sites xs ps around)

  pub tail_sites : (h : NodeHead) → In h.id → (x : LowerIfAny) → IfAnySites x → (around : LoopsAndGuards) (to : Destination) → Sound (lower.tail_of f h x around to)
  tail_sites h j _ without around to = by_never (is_never f.items h.ty)
    where
      by_never : (b : Bool) → Sound (lower.put_unit_if f b h to)
      by_never true = lines.nothing_sound f wanted
      by_never false = unit_sites h to j
  tail_sites h j _ (with_one x p) around to = alone_sites x p around to

  pub let_sites : (h : NodeHead) → In h.id → (p : NodeLower) → NodeSites p → (x : LowerIfAny) → IfAnySites x → (around : LoopsAndGuards) → Sound (lower.letting f h p x around)
  let_sites h j p sp _ without around = declared (p.shape.bindings (whole_local 0)) (sp.shaped.1 (whole_local 0))
    where
      emptied : (x : Bool) (key : ℕ) → In key → Sound (lower.emptied f x key)
      emptied true key i = lines.nothing_sound f wanted
      emptied false key i = lines.drop_sound f wanted (site_of_key key) (λ n u. (i, tt))

      declared : (bounds : List BoundName) → BoundsIn bounds → Sound (lower.declared f bounds)
      declared [] b = lines.nothing_sound f wanted
      declared (x ∷ bounds) b =
          and_then _ _ (emptied (needs_drop f.items x.ty) x.key b.0)
          (lines.changed_sound f wanted (innermost (with_entry (bound_entry x))) _ (inner (with_entry (bound_entry x)) (lines.entry_keeps f wanted (bound_entry x) b.0)) (declared bounds b.1))
  let_sites h j p sp _ (with_one x sx) around = by_name p.shape.is_binding
    where
      named_ok : (S : Scopes) → lines.ScopesOk f wanted S → lines.ScopesOk f wanted (lower.named f p.head S)
      named_ok S o =
          lines.around_ok f wanted (with_entry (entry_of p.head)) (lines.entry_keeps f wanted (entry_of p.head) sp.here) _
          (inner (without_pending (entry_of p.head)) (lines.without_keeps f wanted (entry_of p.head)) S o)

      by_name : (b : Bool) → Sound (lower.let_value f b h p x around)
      by_name true =
          lines.scope_sound f wanted h.id true _ (lines.changed_sound f wanted (lower.pending_if f true innermost p.head) _ (pending_ok true innermost p.head inner sp.here)
          (and_then _ _ (sx.evaluates around false (Into p.head.id)) (lines.change_sound f wanted (lower.named f p.head) named_ok)))
      by_name false =
          let b = not (x.shape.is_place || x.shape.in_destination) in
          lines.scope_sound f wanted h.id true _ (lines.changed_sound f wanted (lower.pending_if f b innermost x.head) _ (pending_ok b innermost x.head inner sx.here)
          (and_then _ _ (sx.reaches around) (bind_sites around_innermost (lines.around_ok f wanted) (p.shape.bindings (lower.place_in x around)) (sp.shaped.1 (lower.place_in x around)))))

  pub jump_value_sites : (h : NodeHead) → In h.id → (x : LowerIfAny) → IfAnySites x → (around : LoopsAndGuards) (to : Destination) → Sound (lower.value_of_jump f h x around to)
  jump_value_sites h j _ without around to = unit_sites h to j
  jump_value_sites h j _ (with_one x p) around to = p.evaluates around false to

  pub ends_loop_sites : (h : NodeHead) (to : Destination) → In h.id → Sound (lower.ends_loop f h to)
  ends_loop_sites h to j = lines.jump_sound f wanted h.id (Breaks h.id) _ (unit_sites h to j)

  pub pattern_sites : (h : NodeHead) (s : Shape) → Inside h.id → Shaped s → NodeSites (lower.a_pattern f h s)
  pattern_sites h s j shaped = value_sites h s j shaped _ (λ around own to. lines.nothing_sound f wanted)
