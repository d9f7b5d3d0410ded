-- Conditions, tests and names of patterns, `if let`, arms: these do nothing but what is well, given that the nodes
-- inside do.
use Rattle.std.proofs.Common.{◌≡◌, ℕ, not, Bool, true, false, List, [], ◌∷◌, Option, Some, None, refl}
use Rattle.mir_base.specs.declared.operator.Cmp.{Cmp}
use Rattle.mir_base.specs.declared.trace.Why.{Why}
use Rattle.mir_ty.specs.declared.ty.TyId.{TyId}
use Rattle.mir_ty.specs.ItemTable.{ItemTable}
use Rattle.store_model.specs.Effects as effects
use Rattle.store_model.specs.Effects.{EffectSite, Operand, Copied, Action, Test, Mode, Halt, Out, Go, Unwind, Halts, Choice, Yes, No, Neither, Effects}
use Rattle.store_model.specs.Places.Place.{Place}
use Rattle.src_meaning.specs.Forms as forms
use Rattle.src_meaning.specs.Forms.{Destination, Into, LoopsAndGuards, Meaning, aliases_with, bound_entry, site_of_key, moved, site_of, place_of, in_guard}
use Rattle.src_meaning.specs.Scopes.{Entry, Scope, Scopes, with_scope, innermost, with_entry, Exit, Value, Breaks, Continues, Returns, Panics, Run, At, Over, Does, on_value, chosen, choosing, leave, then_or_leave, leaving}
use Rattle.src_meaning.specs.Shape.{NodeHead, Aliases, operand_of_bound, BoundName, PatternTest, IsVariant, IsNumber, IsTruth, AnyOf, PatternTests, no_test, a_test, Alternatives, no_alternative, an_alternative}
use Rattle.well_typed.specs.Places.{Context}
use Rattle.soundness_values.proofs.Leaving.{Shown, ShownOut}
use Rattle.soundness_cells.proofs.PassWell as rules
use Rattle.soundness_cells.proofs.PassWell.{Chosen, DoesWell}

module _ {V : Type 0} (items : ItemTable) (q : Effects V) (over : Halt → V → Type 0) (Acts : Action → Type 0)
    (Tests : Test → Type 0) (Drops : Mode → EffectSite → Type 0) (Made : EffectSite → Type 0)
    (well : DoesWell q over Acts Tests Drops Made) (Cell : ℕ → TyId → Type 0) (May : TyId → TyId → ℕ → Type 0)
    (Names : Aliases → Type 0) where
  abbrev Fine : Scopes → Type 0
  Fine = rules.Fine items q over Acts Tests Drops Made well Cell May Names

  abbrev Post : Context → Type 0 → Exit → Scopes → V → Type 0
  Post = rules.Post items q over Acts Tests Drops Made well Cell May Names

  abbrev Well : Context → Meaning V → Type 0
  Well = rules.Well items q over Acts Tests Drops Made well Cell May Names

  abbrev Reach : Context → Meaning V → Type 0
  Reach = rules.Reach items q over Acts Tests Drops Made well Cell May Names

  abbrev AroundWell : Context → LoopsAndGuards → Type 0
  AroundWell = rules.AroundWell items q over Acts Tests Drops Made well Cell May Names

  abbrev Dest : TyId → Destination → Type 0
  Dest = rules.Dest items q over Acts Tests Drops Made well Cell May Names

  abbrev IsMade : TyId → Type 0
  IsMade = rules.IsMade items q over Acts Tests Drops Made well Cell May Names

  abbrev Droppable : Entry → Type 0
  Droppable = rules.Droppable items q over Acts Tests Drops Made well Cell May Names

  abbrev Keeps : (Scope → Scope) → Type 0
  Keeps = rules.Keeps items q over Acts Tests Drops Made well Cell May Names

  abbrev Delivers : Type 0 → NodeHead → (EffectSite → Action) → Destination → Type 0
  Delivers = rules.Delivers items q over Acts Tests Drops Made well Cell May Names

  abbrev Reached : Meaning V → Type 0
  Reached = rules.Reached items q over Acts Tests Drops Made well Cell May Names

  -- ---- tests

  pub chosen_well : (post : Exit → Scopes → V → Type 0) (S : Scopes) (o : Choice V) (f g : Does V) → Chosen over o →
      ((w : V) → Shown over post (f S w)) → ((w : V) → Shown over post (g S w)) → Shown over post (chosen o (f S) (g S))
  chosen_well post S (Yes w) f g h a b = a w
  chosen_well post S (No w) f g h a b = b w
  chosen_well post S (Neither halt w) f g h a b = h

  pub condition_well : (c : Context) (valued : Type 0) (around : LoopsAndGuards) (m : Meaning V) → AroundWell c around →
      Well c m → Dest m.head.ty (Into m.head.id) →
      (IsMade m.head.ty → Tests (effects.IsTrue (moved m.head.id m.head.id))) → (f g : Does V) →
      ((S : Scopes) (v : V) → Fine S → Shown over (Post c valued) (f S v)) →
      ((S : Scopes) (v : V) → Fine S → Shown over (Post c valued) (g S v)) → (S : Scopes) (v : V) → Fine S →
      Shown over (Post c valued) (forms.condition items q around m f g S v)
  condition_well c valued around m ok m_well d t f g a b S v fine =
      rules.then_well items q over Acts Tests Drops Made well Cell May Names c (IsMade m.head.ty) valued
      (forms.alone items q around m (Into m.head.id) S v) (choosing (q.choose test) f g)
      (rules.alone_well items q over Acts Tests Drops Made well Cell May Names c around m (Into m.head.id) ok m_well d S v
      fine)
      (λ T w made k. chosen_well (Post c valued) T (q.choose test w) f g (well.chooses test w (t made))
      (λ u. a T u k) (λ u. b T u k))
    where
      test : Test
      test = effects.IsTrue (moved m.head.id m.head.id)

  -- the tests of a pattern
  abbrev ComparesOk : EffectSite → Operand → Type 0
  ComparesOk site value = Acts (effects.Compare (site_of_key site.node) Cmp.Eq (Copied site) value)
      × Tests (effects.IsTrue (moved site.node site.node))

  abbrev mutual
    pub TestOk : PatternTest → Type 0
    TestOk (IsVariant site variant) = Tests (effects.HasVariant site variant)
    TestOk (IsNumber site value kind) = ComparesOk site (effects.Number value kind)
    TestOk (IsTruth site value) = ComparesOk site (effects.Truth value)
    TestOk (AnyOf alternatives) = AnyOk alternatives

    pub TestsOk : PatternTests → Type 0
    TestsOk no_test = Unit {0}
    TestsOk (a_test first rest) = TestOk first × TestsOk rest

    pub AnyOk : Alternatives → Type 0
    AnyOk no_alternative = Unit {0}
    AnyOk (an_alternative tests rest) = TestsOk tests × AnyOk rest

  after_tests : (o : Choice V) (rest : V → Choice V) → Chosen over o → ((w : V) → Chosen over (rest w)) →
      Chosen over (forms.tests_after items q o rest)
  after_tests (Yes w) rest h f = f w
  after_tests (No w) rest h f = tt
  after_tests (Neither halt w) rest h f = h

  after_alternatives : (o : Choice V) (rest : V → Choice V) → Chosen over o → ((w : V) → Chosen over (rest w)) →
      Chosen over (forms.alternatives_after items q o rest)
  after_alternatives (Yes w) rest h f = tt
  after_alternatives (No w) rest h f = f w
  after_alternatives (Neither halt w) rest h f = h

  equals_well : (site : EffectSite) (value : Operand) → ComparesOk site value → (v : V) →
      Chosen over (forms.equals items q site value v)
  equals_well site value h v =
      by (q.act (effects.Compare (site_of_key site.node) Cmp.Eq (Copied site) value) v)
      (well.compares (site_of_key site.node) Cmp.Eq (Copied site) value v h.0)
    where
      by : (o : Out V) → ShownOut over (λ w. Unit {0}) (λ w. ⊥) o →
          Chosen over (forms.tested items q o (moved site.node site.node))
      by (Go w) k = well.chooses (effects.IsTrue (moved site.node site.node)) w h.1
      by (Unwind w) k = absurd k
      by (Halts halt w) k = k

  mutual
    holds_well : (test : PatternTest) → TestOk test → (v : V) → Chosen over (forms.holds items q test v)
    holds_well (IsVariant site variant) h v = well.chooses (effects.HasVariant site variant) v h
    holds_well (IsNumber site value kind) h v = equals_well site (effects.Number value kind) h v
    holds_well (IsTruth site value) h v = equals_well site (effects.Truth value) h v
    holds_well (AnyOf alternatives) h v = any_well alternatives h v

    pub all_well : (tests : PatternTests) → TestsOk tests → (v : V) → Chosen over (forms.all_hold items q tests v)
    all_well no_test h v = tt
    all_well (a_test first rest) h v = after_tests (forms.holds items q first v) (forms.all_hold items q rest)
        (holds_well first h.0 v) (λ w. all_well rest h.1 w)

    any_well : (alternatives : Alternatives) → AnyOk alternatives → (v : V) →
        Chosen over (forms.any_holds items q alternatives v)
    any_well no_alternative h v = tt
    any_well (an_alternative tests rest) h v = after_alternatives (forms.all_hold items q tests v)
        (forms.any_holds items q rest) (all_well tests h.0 v) (λ w. any_well rest h.1 w)

  -- ---- names

  abbrev pub BoundsOk : List BoundName → Type 0
  BoundsOk [] = Unit {0}
  BoundsOk (b ∷ bounds) =
      (Acts (effects.Put (site_of_key b.key) (operand_of_bound b)) × Droppable (bound_entry b)) × BoundsOk bounds

  pub bind_well : (c : Context) (in_that : (Scope → Scope) → Scopes → Scopes) →
      ((change : Scope → Scope) → Keeps change → (S : Scopes) → Fine S → Fine (in_that change S)) →
      (bounds : List BoundName) → BoundsOk bounds → (S : Scopes) (v : V) → Fine S →
      Shown over (Post c (Unit {0})) (forms.bind items q in_that bounds S v)
  bind_well c in_that keeps [] ok S v f = (tt, f)
  bind_well c in_that keeps (b ∷ bounds) ok S v f =
      rules.then_well items q over Acts Tests Drops Made well Cell May Names c (Unit {0}) (Unit {0})
      (forms.acts items q (effects.Put (site_of_key b.key) (operand_of_bound b)) S v)
      (λ T w. forms.bind items q in_that bounds (in_that (with_entry (bound_entry b)) T) w)
      (rules.acts_well items q over Acts Tests Drops Made well Cell May Names c (Unit {0})
      (effects.Put (site_of_key b.key) (operand_of_bound b)) S v ok.0.0 f (λ x. tt))
      (λ T w x g. bind_well c in_that keeps bounds ok.1 (in_that (with_entry (bound_entry b)) T) w
      (keeps (with_entry (bound_entry b))
      (rules.entered items q over Acts Tests Drops Made well Cell May Names (bound_entry b) ok.0.1) T g))

  bind_inside : (c : Context) (bounds : List BoundName) → BoundsOk bounds → (S : Scopes) (v : V) → Fine S →
      Shown over (Post c (Unit {0})) (forms.bind items q innermost bounds S v)
  bind_inside c bounds ok S v f = bind_well c innermost
      (λ change k T g. rules.fine_innermost items q over Acts Tests Drops Made well Cell May Names change k T g) bounds ok S v
      f

  -- ---- scrutinees, `if let`, arms

  pub scrutinised_well : (c : Context) (around : LoopsAndGuards) (m : Meaning V) → AroundWell c around → Reach c m →
      (m.shape.is_place ≡ true → Acts (effects.Touch (site_of m around))) → (S : Scopes) (v : V) → Fine S →
      Shown over (Post c (Reached m)) (forms.scrutinised items q around m S v)
  scrutinised_well c around m ok m_well touch S v f =
      rules.then_well items q over Acts Tests Drops Made well Cell May Names c (Reached m) (Reached m) (m.reach around S v)
      (forms.touched items q m.shape.is_place (site_of m around)) (m_well around S v ok f)
      (λ T w x g. by m.shape.is_place refl T w x g)
    where
      by : (b : Bool) → m.shape.is_place ≡ b → (T : Scopes) (w : V) → Reached m → Fine T →
          Shown over (Post c (Reached m)) (forms.touched items q b (site_of m around) T w)
      by true e T w x g = rules.acts_well items q over Acts Tests Drops Made well Cell May Names c (Reached m)
          (effects.Touch (site_of m around)) T w (touch e) g (λ y. x)
      by false e T w x g = (x, g)

  pub if_taken_well : (c : Context) (valued : Type 0) (h : NodeHead) (around : LoopsAndGuards)
      (pattern scrutinee : Meaning V) (body otherwise : Does V) → AroundWell c around → Reach c scrutinee →
      (scrutinee.shape.is_place ≡ true → Acts (effects.Touch (site_of scrutinee around))) →
      (Reached scrutinee → TestsOk (pattern.shape.tests (place_of scrutinee around))) →
      (Reached scrutinee → BoundsOk (pattern.shape.bindings (place_of scrutinee around))) →
      ((S : Scopes) (v : V) → Fine S → Shown over (Post c valued) (body S v)) →
      ((S : Scopes) (v : V) → Fine S → Shown over (Post c valued) (otherwise S v)) → (S : Scopes) (v : V) → Fine S →
      Shown over (Post c valued) (forms.if_taken items q h around pattern scrutinee body otherwise S v)
  if_taken_well c valued h around pattern scrutinee body otherwise ok s touch tests bounds does other S v f =
      by (forms.scrutinised items q around scrutinee (with_scope h.id true S) v)
      (scrutinised_well c around scrutinee ok s touch (with_scope h.id true S) v
      (rules.opened items q over Acts Tests Drops Made well Cell May Names h.id true S f))
    where
      bound_body : Does V
      bound_body T w = on_value
          (forms.bind items q innermost (pattern.shape.bindings (place_of scrutinee around)) T w) body

      then_test : Does V
      then_test = choosing (forms.all_hold items q (pattern.shape.tests (place_of scrutinee around)))
          (leaving items q bound_body) (λ T w. on_value (leave items q (At Value T w)) otherwise)

      left : (r : Run V) → Shown over (Post c valued) r → Shown over (Post c valued) (leave items q r)
      left r k = rules.leave_well items q over Acts Tests Drops Made well Cell May Names c valued r k

      tested : (T : Scopes) (w : V) → Reached scrutinee → Fine T → Shown over (Post c valued) (then_test T w)
      tested T w reached g = chosen_well (Post c valued) T
          (forms.all_hold items q (pattern.shape.tests (place_of scrutinee around)) w) (leaving items q bound_body)
          (λ T w. on_value (leave items q (At Value T w)) otherwise)
          (all_well (pattern.shape.tests (place_of scrutinee around)) (tests reached) w)
          (λ u. left (bound_body T u) (rules.then_well items q over Acts Tests Drops Made well Cell May Names c (Unit {0})
          valued
          (forms.bind items q innermost (pattern.shape.bindings (place_of scrutinee around)) T u) body
          (bind_inside c (pattern.shape.bindings (place_of scrutinee around)) (bounds reached) T u g)
          (λ U z x k. does U z k)))
          (λ u. rules.then_well items q over Acts Tests Drops Made well Cell May Names c (Unit {0}) valued
          (leave items q (At Value T u)) otherwise
          (rules.leave_well items q over Acts Tests Drops Made well Cell May Names c (Unit {0}) (At Value T u) (tt, g))
          (λ U z x k. other U z k))

      by : (r : Run V) → Shown over (Post c (Reached scrutinee)) r →
          Shown over (Post c valued) (then_or_leave items q r then_test)
      by (At Value T w) k = tested T w k.0 k.1
      by (At (Breaks loop) T w) k = left (At (Breaks loop) T w) k
      by (At (Continues loop) T w) k = left (At (Continues loop) T w) k
      by (At Returns T w) k = left (At Returns T w) k
      by (At Panics T w) k = left (At Panics T w) k
      by (Over halt w) k = k

  pub panics_well : (c : Context) (valued : Type 0) (why : Why) (S : Scopes) (v : V) → Fine S →
      Shown over (Post c valued) (forms.panics items q why S v)
  panics_well c valued why S v f = (tt, f)

  -- an arm, by what is done where it is not taken, and by what is known of the place that is matched
  abbrev pub ArmWell : (Place → Type 0) → Type 0 → Context → Meaning V → Type 0
  ArmWell Matched valued c m = (IsMade m.head.ty → valued) → (around : LoopsAndGuards) (matched : Place)
      (otherwise : Does V) (to : Destination) → Matched matched → AroundWell c around → Dest m.head.ty to →
      ((S : Scopes) (v : V) → Fine S → Shown over (Post c valued) (otherwise S v)) → (S : Scopes) (v : V) → Fine S →
      Shown over (Post c valued) (m.arm matched otherwise around to S v)

  abbrev pub GuardWell : Context → Option (Meaning V) → Type 0
  GuardWell c None = Unit {0}
  GuardWell c (Some m) = Well c m × (Dest m.head.ty (Into m.head.id)
      × (IsMade m.head.ty → Tests (effects.IsTrue (moved m.head.id m.head.id))))

  pub arm_well : (c : Context) (valued : Type 0) (h : NodeHead) (pattern : Meaning V) (guard : Option (Meaning V))
      (body : Meaning V) (matched : Place) (otherwise : Does V) (around : LoopsAndGuards) (to : Destination) →
      AroundWell c around → TestsOk (pattern.shape.tests matched) → BoundsOk (pattern.shape.bindings matched) →
      Names (aliases_with (pattern.shape.bindings matched) around.aliases) → GuardWell c guard → Well c body → Dest body.head.ty to → (IsMade body.head.ty → valued) →
      ((S : Scopes) (v : V) → Fine S → Shown over (Post c valued) (otherwise S v)) → (S : Scopes) (v : V) → Fine S →
      Shown over (Post c valued) (forms.arm items q h pattern guard body matched otherwise around to S v)
  arm_well c valued h pattern guard body matched otherwise around to ok tests bounds named g b d made other S v f =
      chosen_well (Post c valued) S (forms.all_hold items q (pattern.shape.tests matched) v)
      (forms.guarded items q around (pattern.shape.bindings matched) guard taken otherwise) otherwise
      (all_well (pattern.shape.tests matched) tests v) (λ w. by guard g w) (λ w. other S w f)
    where
      taken : Does V
      taken = forms.taken_arm items q h around (pattern.shape.bindings matched) body to

      bound_body : Does V
      bound_body T w = on_value (forms.bind items q innermost (pattern.shape.bindings matched) T w)
          (forms.alone items q around body to)

      taken_well : (T : Scopes) (w : V) → Fine T → Shown over (Post c valued) (taken T w)
      taken_well T w k = rules.leave_well items q over Acts Tests Drops Made well Cell May Names c valued
          (bound_body (with_scope h.id false T) w)
          (rules.then_well items q over Acts Tests Drops Made well Cell May Names c (Unit {0}) valued
          (forms.bind items q innermost (pattern.shape.bindings matched) (with_scope h.id false T) w)
          (forms.alone items q around body to)
          (bind_inside c (pattern.shape.bindings matched) bounds (with_scope h.id false T) w
          (rules.opened items q over Acts Tests Drops Made well Cell May Names h.id false T k))
          (λ U u x l. rules.more_valued items q over Acts Tests Drops Made well Cell May Names c (IsMade body.head.ty) valued
          made
          (forms.alone items q around body to U u)
          (rules.alone_well items q over Acts Tests Drops Made well Cell May Names c around body to ok b d U u l)))

      by : (guard : Option (Meaning V)) → GuardWell c guard → (w : V) → Shown over (Post c valued)
          (forms.guarded items q around (pattern.shape.bindings matched) guard taken otherwise S w)
      by None g w = taken_well S w f
      by (Some m) g w = condition_well c valued (in_guard (pattern.shape.bindings matched) around) m
          (named, ok.1) g.0 g.1.0 g.1.1 taken otherwise taken_well other S w f

  abbrev pub AllArms : (Place → Type 0) → Type 0 → Context → List (Meaning V) → Type 0
  AllArms Matched valued c [] = Unit {0}
  AllArms Matched valued c (m ∷ ms) = ArmWell Matched valued c m × AllArms Matched valued c ms

  -- each arm goes to the destination of its `match`, and its value is one of it
  abbrev pub ArmsFit : Type 0 → Destination → List (Meaning V) → Type 0
  ArmsFit valued to [] = Unit {0}
  ArmsFit valued to (m ∷ ms) = (Dest m.head.ty to × (IsMade m.head.ty → valued)) × ArmsFit valued to ms

  arms_well : (Matched : Place → Type 0) (c : Context) (valued : Type 0) (around : LoopsAndGuards)
      (arms : List (Meaning V)) (matched : Place) (to : Destination) → Matched matched → AroundWell c around →
      AllArms Matched valued c arms → ArmsFit valued to arms → (S : Scopes) (v : V) →
      Fine S → Shown over (Post c valued) (forms.arms_in_order items q arms matched around to S v)
  arms_well Matched c valued around [] matched to known ok all fit S v f = panics_well c valued Why.Match S v f
  arms_well Matched c valued around (m ∷ ms) matched to known ok all fit S v f = all.0 fit.0.1 around matched
      (forms.arms_in_order items q ms matched around to) to known ok fit.0.0
      (λ T w g. arms_well Matched c valued around ms matched to known ok all.1 fit.1 T w g) S v f

  pub matching_well : (Matched : Place → Type 0) (c : Context) (valued : Type 0) (h : NodeHead) (scrutinee : Meaning V)
      (arms : List (Meaning V)) (around : LoopsAndGuards) (own : Bool) (to : Destination) → AroundWell c around →
      Reach c scrutinee → (scrutinee.shape.is_place ≡ true → Acts (effects.Touch (site_of scrutinee around))) →
      (Reached scrutinee → Matched (place_of scrutinee around)) → AllArms Matched valued c arms → ArmsFit valued to arms →
      (S : Scopes) (v : V) → Fine S →
      Shown over (Post c valued) (forms.matching items q h scrutinee arms around own to S v)
  matching_well Matched c valued h scrutinee arms around own to ok s touch known all fit S v f =
      rules.own_well items q over Acts Tests Drops Made well Cell May Names c valued h own
      (λ T w. on_value (forms.scrutinised items q around scrutinee T w) then_arms) S v f
      (λ T g. rules.then_well items q over Acts Tests Drops Made well Cell May Names c (Reached scrutinee) valued
      (forms.scrutinised items q around scrutinee T v) then_arms (scrutinised_well c around scrutinee ok s touch T v g)
      (λ U w x k. arms_well Matched c valued around arms (place_of scrutinee around) to (known x) ok all fit U w k))
    where
      then_arms : Does V
      then_arms = forms.arms_in_order items q arms (place_of scrutinee around) around to
