-- Patterns, arms and what is bound on a walk, as in a run.
use Rattle.std.proofs.Common.{◌≡◌, inl, inr, ℕ, suc, ◌≤◌, Bool, true, false, List, [], ◌∷◌, length, Option, slice_get, refl, sym, ap, ◌∙◌, subst, arith}
use Rattle.cfg_graph.specs.declared.graph.Block.{Block}
use Rattle.cfg_graph.specs.declared.terminator.Term.{Term}
use Rattle.cfg_meaning.specs.Walk.{◌>>=◌, renamed}
use Rattle.mir_base.specs.declared.operator.Cmp.{Cmp}
use Rattle.mir_base.specs.declared.trace.Why.{Why}
use Rattle.store_model.proofs.Effects.Laws.{NoMore}
use Rattle.store_model.specs.Effects as effects
use Rattle.store_model.specs.Effects.{EffectSite, Out, Go, Unwind, Halts, Choice, Yes, No, Neither, Effects}
use Rattle.store_model.specs.Places.Place.{Place}
use Rattle.src_meaning.specs.Forms as forms
use Rattle.src_meaning.specs.Forms.{Destination, Into, LoopsAndGuards, in_guard, Meaning, bound_entry, site_of_key, moved, operand, tested, equals, tests_after, alternatives_after, holds, all_hold, any_holds, bind, touched, scrutinised, if_taken, arms_in_order, matching, taken_arm, guarded, arm}
use Rattle.src_meaning.specs.Locals.Effects.{at_locals}
use Rattle.src_meaning.specs.Scopes.{Scope, Scopes, with_scope, innermost, with_entry, Value, Breaks, Continues, Returns, Panics, Run, At, Over, Does, on_value, ◌>>◌, choosing, back_in, leave, leaving, then_or_leave}
use Rattle.src_meaning.specs.Shape.{NodeHead, head, PatternTest, IsVariant, IsNumber, IsTruth, AnyOf, PatternTests, no_test, a_test, Alternatives, no_alternative, an_alternative, BoundName, shape, site_at, operand_of_bound}
use Rattle.lower_rules.specs.CodeLaws.{without_place}
use Rattle.lower_rules.specs.Rules.{EvaluatesAt, ArmsAt, NodeCode, CodeIfAny, taken, IfAt, BranchesAt, EqualsAt, TestAt, TestsAt, AnyTestAt, BindsAt, TouchedAt, ScrutinisedAt, PanicsAt, IfTakenAt, ArmsInOrderAt, MatchAt, TakenArmAt, IfTakenElse, GuardedAt, ArmAt}
use Rattle.lower_rules.specs.Spots.{CodePos, Ways, ways_of, CodeSpot, HasNoEnd, Then, Nothing, BackIn, panic_drops, LeavesScope}
use Rattle.lower_rules.proofs.TiedWalks.{NoUnwind, TiedWalk}
use Rattle.lower_rules.proofs.SimulatedSteps as simulated_steps
use Rattle.lower_rules.proofs.SimulatedRules as simulated_rules
use Rattle.lower_rules.proofs.SimulatedSteps.{deeper, at_term, at_stmt, leads_walk, cleans_walk, pre, post, endless_ends, value_ends, then_sim, changes_sim, joins_sim, acting_less, stmt_settled, act_sim}
use Rattle.lower_rules.proofs.SimulatedScopes.{jump_left, panic_left, never_empty, endless_leaves, leaving_sim, back_sim, in_scope_sim, innermost_keeps, after_sim}
use Rattle.lower_rules.proofs.SimulatedRules.{none_simulated, simulated, with_one, without, one_simulated, own_sim, truth_sim, variant_sim, chosen_ends}

module _ {W : Type 0} (walking : TiedWalk W) where
  open walking use {t, p, q, size, bound, laws, tied, settled, Walk, walks}

  abbrev keyed : Effects W
  keyed = at_locals t.local_of p

  abbrev from_block : Option Block → CodePos → W → Out W
  from_block = simulated_steps.from_block walking

  abbrev From : CodePos → W → Out W
  From b w = from_block (slice_get t.body.blocks b.0) b w

  abbrev Within : (c : Ways) (n : ℕ) → Type 0
  Within = simulated_steps.Within walking

  abbrev Ends : Ways → (m n : ℕ) → Scopes → CodePos → Run W → Out W → Type 0
  Ends = simulated_steps.Ends walking

  abbrev Sim : Ways → Does W → CodeSpot → Type 0
  Sim = simulated_steps.Sim walking

  abbrev SimE : (LoopsAndGuards → Bool → Destination → Does W) → EvaluatesAt → Type 0
  SimE e P = (around : LoopsAndGuards) (c : Ways) (own : Bool) (to : Destination) → Sim c (e around own to) (P around c own to)

  abbrev SimA : (Place → Does W → LoopsAndGuards → Destination → Does W) → ArmsAt → Type 0
  SimA = simulated_rules.SimA walking

  abbrev Simulates : Meaning W → NodeCode → Type 1
  Simulates = simulated_rules.Simulates walking

  abbrev SimulatesAll : List (Meaning W) → List NodeCode → Type 1
  SimulatesAll = simulated_rules.SimulatesAll walking

  abbrev SimulatesIfAny : Option (Meaning W) → CodeIfAny → Type 1
  SimulatesIfAny = simulated_rules.SimulatesIfAny walking

  abbrev ChoiceEnds : (m : ℕ) (y n : CodePos) → Choice W → Out W → Type 0
  ChoiceEnds = simulated_rules.ChoiceEnds walking

  abbrev SimTest : (W → Choice W) → (CodePos → CodePos → CodePos → Type 0) → Type 0
  SimTest f P = (b y n : CodePos) → P b y n → (w : W) → size w ≤ bound → ChoiceEnds (size w) y n (f w) (From b w)

  -- ---- patterns
  choice_from : (m k : ℕ) (y n : CodePos) (o : Choice W) (out out' : Out W) → k ≤ m → out ≡ out' → ChoiceEnds k y n o out' → ChoiceEnds m y n o out
  choice_from m k y n (Yes w) out out' l e h = (omega (arith, h.0), e ∙ h.1)
  choice_from m k y n (No w) out out' l e h = (omega (arith, h.0), e ∙ h.1)
  choice_from m k y n (Neither halt w) out out' l e h = e ∙ h

  tests_after_ends : (m : ℕ) (x y n : CodePos) (o : Choice W) (out : Out W) (f : W → Choice W) → m ≤ bound → ChoiceEnds m x n o out →
      ((w : W) → size w ≤ bound → ChoiceEnds (size w) y n (f w) (From x w)) → ChoiceEnds m y n (tests_after t.items keyed o f) out
  tests_after_ends m x y n (Yes w) out f l h rest = choice_from m (size w) y n (f w) out (From x w) h.0 h.1 (rest w (let j = h.0 in omega arith))
  tests_after_ends m x y n (No w) out f l h rest = h
  tests_after_ends m x y n (Neither halt w) out f l h rest = h

  alternatives_after_ends : (m : ℕ) (x y n : CodePos) (o : Choice W) (out : Out W) (f : W → Choice W) → m ≤ bound → ChoiceEnds m y x o out →
      ((w : W) → size w ≤ bound → ChoiceEnds (size w) y n (f w) (From x w)) → ChoiceEnds m y n (alternatives_after t.items keyed o f) out
  alternatives_after_ends m x y n (Yes w) out f l h rest = h
  alternatives_after_ends m x y n (No w) out f l h rest = choice_from m (size w) y n (f w) out (From x w) h.0 h.1 (rest w (let j = h.0 in omega arith))
  alternatives_after_ends m x y n (Neither halt w) out f l h rest = h

  tested_ends : (m : ℕ) (x y n : CodePos) (o : Out W) (out : Out W) (operand : effects.Operand) → m ≤ bound → NoMore size m (renamed without_place o) → NoUnwind (renamed without_place o) →
      out ≡ ◌>>=◌ (renamed without_place o) (From x) → IfAt t operand x y n → ChoiceEnds m y n (tested t.items keyed o operand) out
  tested_ends m x y n (Go w) out operand l k u e h = choice_from m (size w) y n (keyed.choose (effects.IsTrue operand) w) out (From x w) k e (truth_sim walking operand x y n h w (omega arith))
  tested_ends m x y n (Unwind w) out operand l k u e h = absurd u
  tested_ends m x y n (Halts halt w) out operand l k u e h = e

  equals_sim : (site : EffectSite) (value : effects.Operand) → SimTest (equals t.items keyed site value) (EqualsAt t site value)
  equals_sim site value b y n h w l =
      tested_ends (size w) h.0 y n (keyed.act (effects.Compare (site_of_key site.node) Cmp.Eq (effects.Copied site) value) w) (From b w) (moved site.node site.node) l
      (acting_less walking (effects.Compare (site_of_key site.node) Cmp.Eq (effects.Copied site) value) w l)
      (stmt_settled walking (effects.Compare (site_of_key site.node) Cmp.Eq (effects.Copied site) value) b h.0 h.1 w l)
      (at_stmt walking (effects.Compare (site_of_key site.node) Cmp.Eq (effects.Copied site) value) b h.0 h.1 w ∙ ap (λ o. ◌>>=◌ o (From h.0)) (sym (tied.acting _ w l)))
      h.2

  mutual
    test_sim : (test : PatternTest) → SimTest (holds t.items keyed test) (TestAt t test)
    test_sim (IsVariant site variant) = variant_sim walking site variant
    test_sim (IsNumber site value kind) = equals_sim site (effects.Number value kind)
    test_sim (IsTruth site value) = equals_sim site (effects.Truth value)
    test_sim (AnyOf alternatives) = alternatives_sim alternatives

    tests_sim : (tests : PatternTests) → SimTest (all_hold t.items keyed tests) (TestsAt t tests)
    tests_sim no_test b y n h w l = (omega arith, leads_walk walking b y h w l)
    tests_sim (a_test first rest) b y n h w l =
        tests_after_ends (size w) h.0 y n (holds t.items keyed first w) (From b w) (all_hold t.items keyed rest) l (test_sim first b h.0 n h.1 w l) (λ v k. tests_sim rest h.0 y n h.2 v k)

    alternatives_sim : (alternatives : Alternatives) → SimTest (any_holds t.items keyed alternatives) (AnyTestAt t alternatives)
    alternatives_sim no_alternative b y n h w l = (omega arith, leads_walk walking b n h w l)
    alternatives_sim (an_alternative tests rest) b y n h w l =
        alternatives_after_ends (size w) h.0 y n (all_hold t.items keyed tests w) (From b w) (any_holds t.items keyed rest) l (tests_sim tests b y h.0 h.1 w l)
        (λ v k. alternatives_sim rest h.0 y n h.2 v k)

  pub bind_sim : (in_that : (Scope → Scope) → Scopes → Scopes) → ((change : Scope → Scope) (S : Scopes) → length (in_that change S) ≡ length S) → (bounds : List BoundName) (c : Ways) →
      Sim c (bind t.items keyed in_that bounds) (BindsAt t in_that bounds)
  bind_sim in_that keeps [] c = changes_sim walking c (λ S. S) (λ S. refl)
  bind_sim in_that keeps (x ∷ bounds) c =
      then_sim walking c _ _ _ _ (act_sim walking c (effects.Put (site_of_key x.key) (operand_of_bound x)))
      (after_sim walking c (bind t.items keyed in_that bounds) _ (in_that (with_entry (bound_entry x))) (keeps (with_entry (bound_entry x)))
      (bind_sim in_that keeps bounds c))

  pub value_sim : (c : Ways) → Sim c (At Value) Nothing
  value_sim c = changes_sim walking c (λ S. S) (λ S. refl)

  touched_sim : (x : Bool) (site : EffectSite) (c : Ways) → Sim c (touched t.items keyed x site) (TouchedAt t x site)
  touched_sim true site c = act_sim walking c (effects.Touch site)
  touched_sim false site c = value_sim c

  scrutinised_sim : (around : LoopsAndGuards) (c : Ways) (m : Meaning W) (d : NodeCode) → Simulates m d → Sim c (scrutinised t.items keyed around m) (ScrutinisedAt t around c d)
  scrutinised_sim around c _ _ (simulated h s e r a P Q A se sr sa) =
      then_sim walking c (r around) _ (Q around c) _ (sr around c) (touched_sim s.is_place (site_at h (s.place around.aliases)) c)

  pub panics_sim : (why : Why) (c : Ways) → Sim c (forms.panics t.items keyed why) (PanicsAt t why)
  panics_sim why c S b S' b' within h w l =
      subst (λ v. Ends c (size w) (length S) S' b' (At Panics S v) (From b w)) (sym (tied.panicking why w l)) (
        laws.panicking why w,
        at_term walking (Term.Panic why h.0) b h.1 w ∙ cleans_walk walking (panic_drops t S) h.0 h.2 (q.panic why w) (let k = laws.panicking why w in omega arith),
      )

  arms_sim : (ms : List (Meaning W)) (ds : List NodeCode) → SimulatesAll ms ds → (matched : Place) (around : LoopsAndGuards) (c : Ways) (to : Destination) →
      Sim c (arms_in_order t.items keyed ms matched around to) (ArmsInOrderAt t ds matched around c to)
  arms_sim _ _ none_simulated matched around c to S b S' b' within k w l = panics_sim Why.Match c S b S' b' within k w l
  arms_sim _ _ (one_simulated _ _ ms ds (simulated h s e r a P Q A se sr sa) all) matched around c to S b S' b' within k w l =
      sa matched (arms_in_order t.items keyed ms matched around to) k.0 around c to S b S' b' within (λ v j. arms_sim ms ds all matched around c to S k.0 S' b' within k.2 v j) k.1 w l

  pub matching_sim : (h : NodeHead) (m : Meaning W) (d : NodeCode) → Simulates m d → (ms : List (Meaning W)) (ds : List NodeCode) → SimulatesAll ms ds →
      SimE (matching t.items keyed h m ms) (MatchAt t h d ds)
  matching_sim h _ _ (simulated mh s e r a P Q A se sr sa) ms ds all around c own to =
      own_sim walking h own _ _ c (then_sim walking c _ _ _ _ (scrutinised_sim around c _ _ (simulated mh s e r a P Q A se sr sa)) (arms_sim ms ds all (s.place around.aliases) around c to))

  taken_sim : (h : NodeHead) (around : LoopsAndGuards) (c : Ways) (bounds : List BoundName) (m : Meaning W) (d : NodeCode) → Simulates m d → (to : Destination) →
      Sim c (taken_arm t.items keyed h around bounds m to) (TakenArmAt t h around c bounds d to)
  taken_sim h around c bounds _ _ (simulated mh s e r a P Q A se sr sa) to =
      in_scope_sim walking h.id false c _ _ (then_sim walking c _ _ _ _ (bind_sim innermost (innermost_keeps walking) bounds c) (back_sim walking c (e around true to) (P around c true to) (se around c true to)))

  -- an arm with a guard: where the guard does not hold, the walk goes on likewise from the same scopes
  module _ (taken otherwise : Does W) (P : CodeSpot) (rest : CodePos) (c : Ways) (sim : Sim c taken P) (S S' : Scopes) (b' : CodePos) (within : Within c (length S))
      (other : (w : W) → size w ≤ bound → Ends c (size w) (length S) S' b' (otherwise S w) (From rest w)) where
    abbrev guarded_run : Does W → ℕ → W → Run W
    guarded_run f key w = on_value (back_in S (f S w)) (choosing (keyed.choose (effects.IsTrue (moved key key))) taken otherwise)

    guard_holds : (f : Does W) (Q : CodeSpot) (key : ℕ) → Sim c f Q → (b m : CodePos) → BackIn Q S b S m → IfTakenElse t (moved key key) P rest S m S' b' →
        (w : W) → size w ≤ bound → Ends c (size w) (length S) S' b' (guarded_run f key w) (From b w)
    guard_holds f Q key sf b m q k w l =
        value_ends walking c (size w) (length S) S m S' b' (back_in S (f S w)) _ (From b w) l (back_sim walking c f Q sf S b S m within q w l)
        (λ same v j. chosen_ends walking c (size v) (length S) S' b' k.0 rest (keyed.choose (effects.IsTrue (moved key key)) v) (From m v) (taken S) (otherwise S) j
        (truth_sim walking (moved key key) m k.0 rest k.1 v j) (λ u i. sim S k.0 S' b' within k.2 u i) other)

    guard_endless : (f : Does W) (Q : CodeSpot) (key : ℕ) → Sim c f Q → (b : CodePos) → HasNoEnd (BackIn Q) S b →
        (w : W) → size w ≤ bound → Ends c (size w) (length S) S' b' (guarded_run f key w) (From b w)
    guard_endless f Q key sf b none w l =
        endless_ends walking c (size w) S S' b' (back_in S (f S w)) _ (From b w) (λ S1 b1. back_sim walking c f Q sf S b S1 b1 within (none S1 b1) w l)

    guard_sim : (f : Does W) (Q : CodeSpot) (key : ℕ) → Sim c f Q → (b : CodePos) → Then (BackIn Q) (IfTakenElse t (moved key key) P rest) S b S' b' →
        (w : W) → size w ≤ bound → Ends c (size w) (length S) S' b' (guarded_run f key w) (From b w)
    guard_sim f Q key sf b (inl none) w l = guard_endless f Q key sf b none w l
    guard_sim f Q key sf b (inr k) w l = by_back k.0 k.1 k.2 k.3
      where
        by_back : (S1 : Scopes) (m : CodePos) → BackIn Q S b S1 m → IfTakenElse t (moved key key) P rest S1 m S' b' →
            Ends c (size w) (length S) S' b' (guarded_run f key w) (From b w)
        by_back S1 m (inl none) h = guard_endless f Q key sf b (λ S2 b2. inl none) w l
        by_back S1 m (inr q) h =
            guard_holds f Q key sf b m (inr (refl, q.1, q.2)) (subst (λ z. IfTakenElse t (moved key key) P rest z m S' b') q.0 h) w l

  guarded_sim : (around : LoopsAndGuards) (c : Ways) (bounds : List BoundName) (g : Option (Meaning W)) (d : CodeIfAny) → SimulatesIfAny g d → (taken otherwise : Does W) (P : CodeSpot) (rest : CodePos) →
      Sim c taken P → (S : Scopes) (b : CodePos) (S' : Scopes) (b' : CodePos) → Within c (length S) →
      ((w : W) → size w ≤ bound → Ends c (size w) (length S) S' b' (otherwise S w) (From rest w)) → GuardedAt t around c bounds d P rest S b S' b' →
      (w : W) → size w ≤ bound → Ends c (size w) (length S) S' b' (guarded t.items keyed around bounds g taken otherwise S w) (From b w)
  guarded_sim around c bounds _ _ without taken otherwise P rest sim S b S' b' within other k w l = sim S b S' b' within k w l
  guarded_sim around c bounds _ _ (with_one _ _ (simulated h s e r a Pe Qr A se sr sa)) taken otherwise P rest sim S b S' b' within other k w l =
      guard_sim taken otherwise P rest c sim S S' b' within other (e (in_guard bounds around) true (Into h.id)) (Pe (in_guard bounds around) c true (Into h.id)) h.id
      (se (in_guard bounds around) c true (Into h.id)) b k w l

  pub arm_sim : (h : NodeHead) (pattern : Meaning W) (dp : NodeCode) → Simulates pattern dp → (g : Option (Meaning W)) (dg : CodeIfAny) → SimulatesIfAny g dg → (m : Meaning W) (d : NodeCode) → Simulates m d →
      SimA (arm t.items keyed h pattern g m) (ArmAt t h dp dg d)
  arm_sim h _ _ (simulated ph s e r a P Q A se sr sa) g dg sg m d sm matched otherwise rest around c to S b S' b' within other k w l =
      chosen_ends walking c (size w) (length S) S' b' k.0 rest (all_hold t.items keyed (s.tests matched) w) (From b w) _ (otherwise S) l (tests_sim (s.tests matched) b k.0 rest k.1 w l)
      (λ v j. guarded_sim around c (s.bindings matched) g dg sg _ otherwise _ rest (joins_sim walking c _ _ (taken_sim h around c (s.bindings matched) m d sm to)) S k.0 S' b' within other k.2 v j)
      other

  -- what follows a value; by any other exit the scope is left
  or_leave_ends : (c : Ways) (m n : ℕ) (S1 : Scopes) (b1 : CodePos) (S' : Scopes) (b' : CodePos) (r : Run W) (f : Does W) (out : Out W) → m ≤ bound → Within c n → Ends c m (suc n) S1 b1 r out →
      (length S1 ≡ suc n → (w : W) → size w ≤ bound → Ends c (size w) n S' b' (f S1 w) (From b1 w)) → Ends c m n S' b' (then_or_leave t.items keyed r f) out
  or_leave_ends c m n S1 b1 S' b' (At Value S w) f out l within h rest =
      subst (λ z. Ends c m n S' b' (f z w) out) (sym h.0)
      (pre walking c (size w) m n S' b' (f S1 w) out (From b1 w) h.2 h.3 (rest (ap length (sym h.0) ∙ h.1) w (let j = h.2 in omega arith)))
  or_leave_ends c m n S1 b1 S' b' (At (Breaks loop) [] w) f out l within h rest = never_empty walking n h.0
  or_leave_ends c m n S1 b1 S' b' (At (Breaks loop) (s ∷ S) w) f out l within h rest =
      jump_left walking c (ways_of loop c).breaks m n S' b' (Breaks loop) out l (within.breaks loop) (λ S v k. k) s S w h
  or_leave_ends c m n S1 b1 S' b' (At (Continues loop) [] w) f out l within h rest = never_empty walking n h.0
  or_leave_ends c m n S1 b1 S' b' (At (Continues loop) (s ∷ S) w) f out l within h rest =
      jump_left walking c (ways_of loop c).continues m n S' b' (Continues loop) out l (within.continues loop) (λ S v k. k) s S w h
  or_leave_ends c m n S1 b1 S' b' (At Returns [] w) f out l within h rest = never_empty walking n h.0
  or_leave_ends c m n S1 b1 S' b' (At Returns (s ∷ S) w) f out l within h rest = jump_left walking c c.returns m n S' b' Returns out l within.returns (λ S v k. k) s S w h
  or_leave_ends c m n S1 b1 S' b' (At Panics [] w) f out l within h rest = h
  or_leave_ends c m n S1 b1 S' b' (At Panics (s ∷ S) w) f out l within h rest = panic_left walking c m n S' b' s S w out l h.0 h.1
  or_leave_ends c m n S1 b1 S' b' (Over halt w) f out l within h rest = h

  -- two ways on from one scope more, which each leave it first: with what is done in it, or at once
  left_branches : (c : Ways) (test : W → Choice W) (T : CodePos → CodePos → CodePos → Type 0) → SimTest test T → (f g : Does W) (P Q : CodeSpot) → Sim c f P → Sim c g Q →
      (around S : Scopes) → length S ≡ suc (length around) → Within c (length around) → (b : CodePos) (S' : Scopes) (b' : CodePos) →
      BranchesAt t T (Then P (LeavesScope t)) (Then (LeavesScope t) Q) S b S' b' → (w : W) → size w ≤ bound →
      Ends c (size w) (length around) S' b' (choosing test (leaving t.items keyed f) (leaving t.items keyed (At Value) >> g) S w) (From b w)
  left_branches c test T tests f g P Q sf sg around S e within b S' b' h w l =
      chosen_ends walking c (size w) (length around) S' b' h.0 h.1 (test w) (From b w) (leaving t.items keyed f S) ((leaving t.items keyed (At Value) >> g) S) l (tests b h.0 h.1 h.2 w l)
      (λ v k. post walking c (size v) (length around) S' h.3.0 b' _ (From h.0 v) k h.3.2 (leaving_sim walking c f P sf around S e within h.0 S' h.3.0 h.3.1 v k))
      (λ v k. post walking c (size v) (length around) S' h.4.0 b' _ (From h.1 v) k h.4.2 (by_left h.4.1 v k))
    where
      by_left : Then (LeavesScope t) Q S h.1 S' h.4.0 → (v : W) → size v ≤ bound →
          Ends c (size v) (length around) S' h.4.0 ((leaving t.items keyed (At Value) >> g) S v) (From h.1 v)
      by_left (inl none) v k =
          endless_ends walking c (size v) around S' h.4.0 (leave t.items keyed (At Value S v)) g (From h.1 v)
          (λ S2 b2. leaving_sim walking c (At Value) Nothing (value_sim c) around S e within h.1 S2 b2 (inr (S, h.1, (refl, refl), none S2 b2)) v k)
      by_left (inr x) v k =
          value_ends walking c (size v) (length around) x.0 x.1 S' h.4.0 (leave t.items keyed (At Value S v)) g (From h.1 v) k
          (leaving_sim walking c (At Value) Nothing (value_sim c) around S e within h.1 x.0 x.1 (inr (S, h.1, (refl, refl), x.2)) v k)
          (λ same2 u i. sg x.0 x.1 S' h.4.0 (subst (Within c) (sym same2) within) x.3 u i)

  pub if_taken_sim : (h : NodeHead) (around : LoopsAndGuards) (c : Ways) (pattern : Meaning W) (dp : NodeCode) → Simulates pattern dp → (scrutinee : Meaning W) (ds : NodeCode) → Simulates scrutinee ds →
      (f g : Does W) (P Q : CodeSpot) → Sim c f P → Sim c g Q →
      Sim c (if_taken t.items keyed h around pattern scrutinee f g) (IfTakenAt t h around c dp ds P Q)
  if_taken_sim h around c _ _ (simulated ph ps pe pr pa pP pQ pA spe spr spa) _ _ (simulated sh s e r a Pe Qr A se sr sa) f g P Q sf sg S b S' b' within (inl none) w l =
      endless_leaves walking c (size w) S S' b' (scrutinised t.items keyed around (record { head = sh; shape = s; evaluate = e; reach = r; arm = a }) (with_scope h.id true S) w) (From b w) l within
      (λ S1 b1. scrutinised_sim around c _ _ (simulated sh s e r a Pe Qr A se sr sa) (with_scope h.id true S) b S1 b1 (deeper walking c (length S) within) (none S1 b1) w l) _
  if_taken_sim h around c _ _ (simulated ph ps pe pr pa pP pQ pA spe spr spa) _ _ (simulated sh s e r a Pe Qr A se sr sa) f g P Q sf sg S b S' b' within (inr k) w l =
      or_leave_ends c (size w) (length S) k.0 k.1 S' b' (scrutinised t.items keyed around (record { head = sh; shape = s; evaluate = e; reach = r; arm = a }) (with_scope h.id true S) w) _ (From b w) l within
      (scrutinised_sim around c _ _ (simulated sh s e r a Pe Qr A se sr sa) (with_scope h.id true S) b k.0 k.1 (deeper walking c (length S) within) k.2 w l)
      (λ same v j. left_branches c _ _ (tests_sim (ps.tests (s.place around.aliases))) _ g _ Q
      (then_sim walking c _ _ _ _ (bind_sim innermost (innermost_keeps walking) (ps.bindings (s.place around.aliases)) c) sf) sg S k.0 same within k.1 S' b' k.3 v j)
