-- The frame of an evaluation: what is kept by all effects that change only some places is kept by each rule of
-- evaluation. Scopes that were there before are not looked at; those that a node opens hold what may be dropped.
use Rattle.std.proofs.Common.{◌≡◌, ◌||◌, not, ℕ, zero, suc, Bool, true, false, List, [], ◌∷◌, ◌++◌, Option, if◌then◌else◌, ◌==◌, refl}
use Rattle.mir_base.specs.declared.operator.Cmp.{Cmp}
use Rattle.mir_base.specs.declared.trace.Why.{Why}
use Rattle.mir_ty.specs.Facts.{needs_drop}
use Rattle.mir_ty.specs.ItemTable.{ItemTable}
use Rattle.store_model.specs.Effects as effects
use Rattle.store_model.specs.Effects.{EffectSite, Operand, Copied, Moved, Action, Test, Mode, Normal, Unwinding, Halt, Out, Go, Unwind, Halts, Choice, Yes, No, Neither, Effects}
use Rattle.store_model.specs.Places.Place.{Place, whole_local}
use Rattle.src_meaning.specs.Forms as forms
use Rattle.src_meaning.specs.Forms.{Destination, Into, Coerced, LoopsAndGuards, Meaning, entry_of, bound_entry, site_in, site_of_key, moved, keys_of, changed_if, site_of, place_of}
use Rattle.src_meaning.specs.Scopes.{Entry, Scope, Scopes, with_scope, innermost, around_innermost, nearest_temporary, nearest_from, with_entry, with_pending, without_pending, becomes_entry, without_operands, needing_drop, Exit, Value, Breaks, Continues, Returns, Panics, Run, At, Over, Does, ◌>>◌, on_value, in_scopes, doing, changing, chosen, choosing, back_in, leave, leaving, in_scope, in_scope_with, then_or_leave, drop_normally, drop_unwinding, entry_site}
use Rattle.src_meaning.specs.Shape.{NodeHead, Shape, site_at, operand_at, operand_of_bound, BoundName, PatternTest, IsVariant, IsNumber, IsTruth, AnyOf, PatternTests, no_test, a_test, Alternatives, no_alternative, an_alternative}
use Rattle.soundness_values.proofs.Leaving.{AllOf, ShownOut}
use Rattle.soundness_frame.proofs.PassFrameActs.{is_plain, TestOwn, TestsOwn, AnyOwn, BoundsMay, AllCells, DestSo, Takes, AllowedSo, AnsweredSo, KeepingSo}
use Rattle.soundness_cells.proofs.PassRules.{all_without, all_without_keys}

module _ {V : Type 0} (items : ItemTable) (q : Effects V) (over : Halt → V → Type 0) (Does_ : Action → Type 0)
    (Drops : EffectSite → Type 0) (Store Coerce May : Place → Type 0) (I : V → Type 0)
    (keeping : KeepingSo q over Does_ Drops Store Coerce May I) where
  abbrev pub Cell : ℕ → Type 0
  Cell key = May (whole_local key)

  abbrev pub Own : ℕ → Type 0
  Own key = Store (whole_local key)

  pub into : (key : ℕ) → Cell key → Own key
  into key c = keeping.stores (whole_local key) c

  -- ---- the scopes that are opened

  abbrev Droppable : Entry → Type 0
  Droppable e = Cell e.key

  abbrev FineScope : Scope → Type 0
  FineScope s = AllOf Droppable s.entries × AllOf Droppable s.pending

  -- so many of the innermost scopes
  abbrev pub Fine : Scopes → ℕ → Type 0
  Fine [] k = Unit {0}
  Fine (s ∷ S) zero = Unit {0}
  Fine (s ∷ S) (suc k) = FineScope s × Fine S k

  abbrev pub KeptAt : ℕ → Run V → Type 0
  KeptAt k (At exit S v) = Fine S k × I v
  KeptAt k (Over halt v) = over halt v

  -- what is done keeps it, in whatever scopes
  pub record Keeps (does : Does V) : Type 0 where
    pub kept : (k : ℕ) (S : Scopes) (v : V) → Fine S k → I v → KeptAt k (does S v)

  -- it keeps it and leaves one scope
  pub record Leaves (does : Does V) : Type 0 where
    pub left : (k : ℕ) (S : Scopes) (v : V) → Fine S (suc k) → I v → KeptAt k (does S v)

  -- ---- one after another

  pub at_exit : (exit : Exit) → Keeps (At exit)
  at_exit exit = record { kept = λ k S v f i. (f, i) }

  pub on_kept : (k : ℕ) (r : Run V) (next : Does V) → KeptAt k r → Keeps next → KeptAt k (on_value r next)
  on_kept k (At Value S v) next h n = n.kept k S v h.0 h.1
  on_kept k (At (Breaks loop) S v) next h n = h
  on_kept k (At (Continues loop) S v) next h n = h
  on_kept k (At Returns S v) next h n = h
  on_kept k (At Panics S v) next h n = h
  on_kept k (Over halt v) next h n = h

  pub one_then : (one other : Does V) → Keeps one → Keeps other → Keeps (one >> other)
  one_then one other f g =
      record { kept = λ k S v fine i. on_kept k (one S v) other (f.kept k S v fine i) g }

  pub in_scopes_kept : (k : ℕ) (S : Scopes) (o : Out V) → Fine S k → ShownOut over I I o → KeptAt k (in_scopes S o)
  in_scopes_kept k S (Go v) f h = (f, h)
  in_scopes_kept k S (Unwind v) f h = (f, h)
  in_scopes_kept k S (Halts halt v) f h = h

  pub acts_so : (action : Action) → AllowedSo Store May action → Does_ action → Keeps (forms.acts items q action)
  acts_so action a d =
      record { kept = λ k S v f i. in_scopes_kept k S (q.act action v) f (keeping.acts action v a d i) }

  pub acts_kept : (action : Action) → AllowedSo Store May action → is_plain action ≡ true → Keeps
      (forms.acts items q action)
  acts_kept action a p = acts_so action a (keeping.plain action p)

  pub panics_kept : (why : Why) → Keeps (forms.panics items q why)
  panics_kept why = record { kept = λ k S v f i. (f, keeping.panics why v i) }

  -- ---- changes of scopes

  abbrev pub KeepsScope : (Scope → Scope) → Type 0
  KeepsScope change = (s : Scope) → FineScope s → FineScope (change s)

  abbrev pub KeepsIn : ((Scope → Scope) → Scopes → Scopes) → Type 0
  KeepsIn in_that = (change : Scope → Scope) → KeepsScope change → (S : Scopes) (k : ℕ) → Fine S k →
      Fine (in_that change S) k

  pub fine_innermost : KeepsIn innermost
  fine_innermost change c [] k f = tt
  fine_innermost change c (s ∷ S) zero f = tt
  fine_innermost change c (s ∷ S) (suc k) f = (c s f.0, f.1)

  pub fine_around : KeepsIn around_innermost
  fine_around change c [] k f = tt
  fine_around change c (s ∷ S) zero f = tt
  fine_around change c (s ∷ S) (suc k) f = (f.0, fine_innermost change c S k f.1)

  pub fine_nearest : KeepsIn nearest_temporary
  fine_nearest change c [] k f = tt
  fine_nearest change c (s ∷ S) zero f = by s.for_temporaries
    where
      by : (b : Bool) → Fine (nearest_from b change s S (nearest_temporary change S)) zero
      by true = tt
      by false = tt
  fine_nearest change c (s ∷ S) (suc k) f = by s.for_temporaries (fine_nearest change c S k f.1)
    where
      by : (b : Bool) → Fine (nearest_temporary change S) k →
          Fine (nearest_from b change s S (nearest_temporary change S)) (suc k)
      by true g = (c s f.0, f.1)
      by false g = (f.0, g)

  pended : (e : Entry) → Droppable e → KeepsScope (with_pending e)
  pended e d s f = (f.0, (d, f.1))

  pub entered : (e : Entry) → Droppable e → KeepsScope (with_entry e)
  entered e d s f = ((d, f.0), f.1)

  pub unpended : (e : Entry) → KeepsScope (without_pending e)
  unpended e s f = (f.0, all_without Droppable e.key s.pending f.1)

  completed : (e : Entry) → Droppable e → KeepsScope (becomes_entry e)
  completed e d s f = ((d, f.0), all_without Droppable e.key s.pending f.1)

  pub untaken : (keys : List ℕ) → KeepsScope (without_operands keys)
  untaken keys s f = (all_without_keys Droppable keys s.entries f.0, f.1)

  pub changes_kept : (change : Scopes → Scopes) → ((S : Scopes) (k : ℕ) → Fine S k → Fine (change S) k) →
      Keeps (changing change)
  changes_kept change c = record { kept = λ k S v f i. (c S k f, i) }

  pub pending_kept : (b : Bool) (in_that : (Scope → Scope) → Scopes → Scopes) (h : NodeHead) → KeepsIn in_that →
      Cell h.id → Keeps (forms.pending_if items q b in_that h)
  pending_kept true in_that h c d =
      changes_kept (in_that (with_pending (entry_of h))) (c (with_pending (entry_of h)) (pended (entry_of h) d))
  pending_kept false in_that h c d = at_exit Value

  pub complete_kept : (in_that : (Scope → Scope) → Scopes → Scopes) (h : NodeHead) → KeepsIn in_that → Cell h.id →
      Keeps (forms.complete items q in_that h)
  complete_kept in_that h c d =
      changes_kept (in_that (becomes_entry (entry_of h))) (c (becomes_entry (entry_of h)) (completed (entry_of h) d))

  pub take_kept : (keys : List ℕ) → Keeps (forms.take items q keys)
  take_kept keys =
      changes_kept (innermost (without_operands keys)) (fine_innermost (without_operands keys) (untaken keys))

  -- ---- a scope is left

  all_both : (a b : List Entry) → AllOf Droppable a → AllOf Droppable b → AllOf Droppable (a ++ b)
  all_both [] b f g = g
  all_both (e ∷ a) b f g = (f.0, all_both a b f.1 g)

  unwinding_kept : (es : List Entry) → AllOf Droppable es → (k : ℕ) (S : Scopes) (v : V) → Fine S k → I v →
      KeptAt k (drop_unwinding items q (needing_drop items es) S v)
  unwinding_kept [] d k S v f i = (f, i)
  unwinding_kept (e ∷ es) d k S v f i = by (needs_drop items e.ty) (λ w j. unwinding_kept es d.1 k S w f j)
    where
      dropped : (o : Out V) → ShownOut over I I o →
          ((w : V) → I w → KeptAt k (drop_unwinding items q (needing_drop items es) S w)) →
          KeptAt k (Rattle.src_meaning.specs.Scopes.dropped_unwinding items q o
          (drop_unwinding items q (needing_drop items es) S))
      dropped (Go w) h later = later w h
      dropped (Unwind w) h later = keeping.aborts w h
      dropped (Halts halt w) h later = h

      by : (b : Bool) → ((w : V) → I w → KeptAt k (drop_unwinding items q (needing_drop items es) S w)) →
          KeptAt k (drop_unwinding items q (if b then e ∷ needing_drop items es else needing_drop items es) S v)
      by true later = dropped (q.drop Unwinding (entry_site e) v)
          (keeping.drops Unwinding (entry_site e) v d.0 (keeping.whole e.key) i) later
      by false later = later v i

  normally_kept : (exit : Exit) (es : List Entry) → AllOf Droppable es → (k : ℕ) (S : Scopes) (v : V) → Fine S k → I v →
      KeptAt k (drop_normally items q exit (needing_drop items es) S v)
  normally_kept exit [] d k S v f i = (f, i)
  normally_kept exit (e ∷ es) d k S v f i =
      by (needs_drop items e.ty) (λ w j. normally_kept exit es d.1 k S w f j)
      (λ w j. unwinding_kept es d.1 k S w f j)
    where
      dropped : (o : Out V) → ShownOut over I I o →
          ((w : V) → I w → KeptAt k (drop_normally items q exit (needing_drop items es) S w)) →
          ((w : V) → I w → KeptAt k (drop_unwinding items q (needing_drop items es) S w)) →
          KeptAt k (Rattle.src_meaning.specs.Scopes.dropped_normally items q o
          (drop_normally items q exit (needing_drop items es) S) (drop_unwinding items q (needing_drop items es) S))
      dropped (Go w) h later panicked = later w h
      dropped (Unwind w) h later panicked = panicked w h
      dropped (Halts halt w) h later panicked = h

      by : (b : Bool) → ((w : V) → I w → KeptAt k (drop_normally items q exit (needing_drop items es) S w)) →
          ((w : V) → I w → KeptAt k (drop_unwinding items q (needing_drop items es) S w)) →
          KeptAt k (drop_normally items q exit (if b then e ∷ needing_drop items es else needing_drop items es) S v)
      by true later panicked = dropped (q.drop Normal (entry_site e) v)
          (keeping.drops Normal (entry_site e) v d.0 (keeping.whole e.key) i) later panicked
      by false later panicked = later v i

  pub leave_kept : (k : ℕ) (r : Run V) → KeptAt (suc k) r → KeptAt k (leave items q r)
  leave_kept k (At exit [] v) h = (tt, h.1)
  leave_kept k (At Value (s ∷ S) v) h = normally_kept Value s.entries h.0.0.0 k S v h.0.1 h.1
  leave_kept k (At (Breaks loop) (s ∷ S) v) h = normally_kept (Breaks loop) s.entries h.0.0.0 k S v h.0.1 h.1
  leave_kept k (At (Continues loop) (s ∷ S) v) h =
      normally_kept (Continues loop) s.entries h.0.0.0 k S v h.0.1 h.1
  leave_kept k (At Returns (s ∷ S) v) h = normally_kept Returns s.entries h.0.0.0 k S v h.0.1 h.1
  leave_kept k (At Panics (s ∷ S) v) h = unwinding_kept (s.pending ++ s.entries)
      (all_both s.pending s.entries h.0.0.1 h.0.0.0) k S v h.0.1 h.1
  leave_kept k (Over halt v) h = h

  pub leaving_kept : (does : Does V) → Keeps does → Leaves (leaving items q does)
  leaving_kept does d = record { left = λ k S v f i. leave_kept k (does S v) (d.kept (suc k) S v f i) }

  pub in_scope_kept : (id : ℕ) (b : Bool) (does : Does V) → Keeps does → Keeps (in_scope items q id b does)
  in_scope_kept id b does d =
      record { kept = λ k S v f i. (leaving_kept does d).left k (with_scope id b S) v ((tt, tt), f) i }

  pub scope_then_kept : (id : ℕ) (b : Bool) (does next : Does V) → Keeps does → Leaves next →
      Keeps (in_scope_with items q id b does next)
  scope_then_kept id b does next d n = record {
    kept = λ k S v f i.
        by k (does (with_scope id b S) v) (d.kept (suc k) (with_scope id b S) v ((tt, tt), f) i);
  }
    where
      by : (k : ℕ) (r : Run V) → KeptAt (suc k) r → KeptAt k (then_or_leave items q r next)
      by k (At Value T w) h = n.left k T w h.0 h.1
      by k (At (Breaks loop) T w) h = leave_kept k (At (Breaks loop) T w) h
      by k (At (Continues loop) T w) h = leave_kept k (At (Continues loop) T w) h
      by k (At Returns T w) h = leave_kept k (At Returns T w) h
      by k (At Panics T w) h = leave_kept k (At Panics T w) h
      by k (Over halt w) h = h

  pub own_kept : (h : NodeHead) (own : Bool) (does : Does V) → Keeps does →
      Keeps (forms.in_own_scope items q h own does)
  own_kept h true does d = in_scope_kept h.id true does d
  own_kept h false does d = d

  -- one that leaves a scope, and then another
  pub leaves_then : (one other : Does V) → Leaves one → Keeps other → Leaves (one >> other)
  leaves_then one other f g =
      record { left = λ k S v fine i. on_kept k (one S v) other (f.left k S v fine i) g }

  back_kept : (k : ℕ) (S : Scopes) (r : Run V) → Fine S k → KeptAt k r → KeptAt k (back_in S r)
  back_kept k S (At Value T v) f h = (f, h.1)
  back_kept k S (At (Breaks loop) T v) f h = h
  back_kept k S (At (Continues loop) T v) f h = h
  back_kept k S (At Returns T v) f h = h
  back_kept k S (At Panics T v) f h = h
  back_kept k S (Over halt v) f h = h

  pub alone_kept : (around : LoopsAndGuards) (m : Meaning V) (to : Destination) → Keeps (m.evaluate around true to) →
      Keeps (forms.alone items q around m to)
  alone_kept around m to d =
      record { kept = λ k S v f i. back_kept k S (m.evaluate around true to S v) f (d.kept k S v f i) }

  -- ---- tests

  abbrev pub KeepsTest : (V → Choice V) → Type 0
  KeepsTest test = (v : V) → I v → AnsweredSo over I (test v)

  chosen_kept : (k : ℕ) (S : Scopes) (o : Choice V) (f g : Does V) → AnsweredSo over I o →
      ((w : V) → I w → KeptAt k (f S w)) → ((w : V) → I w → KeptAt k (g S w)) → KeptAt k (chosen o (f S) (g S))
  chosen_kept k S (Yes w) f g h a b = a w h
  chosen_kept k S (No w) f g h a b = b w h
  chosen_kept k S (Neither halt w) f g h a b = h

  pub choosing_kept : (test : V → Choice V) (f g : Does V) → KeepsTest test → Keeps f → Keeps g →
      Keeps (choosing test f g)
  choosing_kept test f g t a b = record {
    kept = λ k S v fine i.
        chosen_kept k S (test v) f g (t v i) (λ w j. a.kept k S w fine j) (λ w j. b.kept k S w fine j);
  }

  pub choosing_leaves : (test : V → Choice V) (f g : Does V) → KeepsTest test → Leaves f → Leaves g →
      Leaves (choosing test f g)
  choosing_leaves test f g t a b = record {
    left = λ k S v fine i.
        chosen_kept k S (test v) f g (t v i) (λ w j. a.left k S w fine j) (λ w j. b.left k S w fine j);
  }

  pub condition_kept : (around : LoopsAndGuards) (m : Meaning V) (f g : Does V) →
      Keeps (m.evaluate around true (Into m.head.id)) → Cell m.head.id → Keeps f → Keeps g →
      Keeps (forms.condition items q around m f g)
  condition_kept around m f g d c a b = one_then _ _ (alone_kept around m (Into m.head.id) d)
      (choosing_kept (q.choose (effects.IsTrue (moved m.head.id m.head.id))) f g
      (λ v i. keeping.chooses (effects.IsTrue (moved m.head.id m.head.id)) v c i) a b)

  after_tests : (o : Choice V) (rest : V → Choice V) → AnsweredSo over I o → KeepsTest rest →
      AnsweredSo over I (forms.tests_after items q o rest)
  after_tests (Yes w) rest h f = f w h
  after_tests (No w) rest h f = h
  after_tests (Neither halt w) rest h f = h

  after_alternatives : (o : Choice V) (rest : V → Choice V) → AnsweredSo over I o → KeepsTest rest →
      AnsweredSo over I (forms.alternatives_after items q o rest)
  after_alternatives (Yes w) rest h f = h
  after_alternatives (No w) rest h f = f w h
  after_alternatives (Neither halt w) rest h f = h

  equals_kept : (site : EffectSite) (value : Operand) → Takes May value → Cell site.node →
      KeepsTest (forms.equals items q site value)
  equals_kept site value t c v i =
      by (q.act (effects.Compare (site_of_key site.node) Cmp.Eq (Copied site) value) v)
      (keeping.acts (effects.Compare (site_of_key site.node) Cmp.Eq (Copied site) value) v (into site.node c, (tt, t))
      (keeping.plain (effects.Compare (site_of_key site.node) Cmp.Eq (Copied site) value) refl) i)
    where
      by : (o : Out V) → ShownOut over I I o → AnsweredSo over I (forms.tested items q o (moved site.node site.node))
      by (Go w) k = keeping.chooses (effects.IsTrue (moved site.node site.node)) w c k
      by (Unwind w) k = keeping.stuck w k
      by (Halts halt w) k = k

  mutual
    holds_kept : (test : PatternTest) → TestOwn May test → KeepsTest (forms.holds items q test)
    holds_kept (IsVariant site variant) h v i = keeping.chooses (effects.HasVariant site variant) v tt i
    holds_kept (IsNumber site value kind) h v i = equals_kept site (effects.Number value kind) tt h v i
    holds_kept (IsTruth site value) h v i = equals_kept site (effects.Truth value) tt h v i
    holds_kept (AnyOf alternatives) h v i = any_kept alternatives h v i

    pub all_kept : (tests : PatternTests) → TestsOwn May tests → KeepsTest (forms.all_hold items q tests)
    all_kept no_test h v i = i
    all_kept (a_test first rest) h v i = after_tests (forms.holds items q first v) (forms.all_hold items q rest)
        (holds_kept first h.0 v i) (λ w j. all_kept rest h.1 w j)

    any_kept : (alternatives : Alternatives) → AnyOwn May alternatives →
        KeepsTest (forms.any_holds items q alternatives)
    any_kept no_alternative h v i = i
    any_kept (an_alternative tests rest) h v i = after_alternatives (forms.all_hold items q tests v)
        (forms.any_holds items q rest) (all_kept tests h.0 v i) (λ w j. any_kept rest h.1 w j)

  -- ---- names

  pub bind_kept : (in_that : (Scope → Scope) → Scopes → Scopes) → KeepsIn in_that → (bounds : List BoundName) →
      BoundsMay May bounds → Keeps (forms.bind items q in_that bounds)
  bind_kept in_that c [] h = at_exit Value
  bind_kept in_that c (b ∷ bounds) h = one_then _ _
      (acts_kept (effects.Put (site_of_key b.key) (operand_of_bound b)) (into b.key h.0.0, h.0.1) refl)
      (one_then _ _ (changes_kept (in_that (with_entry (bound_entry b)))
      (c (with_entry (bound_entry b)) (entered (bound_entry b) h.0.0)))
      (bind_kept in_that c bounds h.1))

  -- ---- what goes to a destination

  -- an action that may be done wherever its answer goes
  abbrev pub Delivers : NodeHead → (EffectSite → Action) → Type 0
  Delivers h action =
      (key : ℕ) → Own key → AllowedSo Store May (action (site_in h.id key)) × Does_ (action (site_in h.id key))

  -- of an action that the form alone tells
  pub plainly : (h : NodeHead) (action : EffectSite → Action) → ((site : EffectSite) → is_plain (action site) ≡ true) →
      ((key : ℕ) → Own key → AllowedSo Store May (action (site_in h.id key))) → Delivers h action
  plainly h action p d = λ key c. (d key c, keeping.plain (action (site_in h.id key)) (p (site_in h.id key)))

  pub deliver_kept : (h : NodeHead) (action : EffectSite → Action) (to : Destination) → Delivers h action →
      DestSo Store May to → Keeps (forms.deliver items q h action to)
  deliver_kept h action (Into key) d c = acts_so (action (site_in h.id key)) (d key c).0 (d key c).1
  deliver_kept h action (Coerced key trait_no to) d c = one_then _ _
      (acts_so (action (site_in h.id key)) (d key (into key c.0)).0 (d key (into key c.0)).1)
      (acts_kept (effects.Unsize (site_in h.id to) trait_no (moved h.id key)) (c.1, c.0) refl)

  pub unit_kept : (h : NodeHead) (to : Destination) → DestSo Store May to → Keeps (forms.put_unit items q h to)
  unit_kept h to c = deliver_kept h (λ site. effects.Put site effects.UnitValue) to
      (plainly h (λ site. effects.Put site effects.UnitValue) (λ site. refl) (λ key d. (d, tt))) c

  -- ---- operands

  abbrev pub Evaluated : LoopsAndGuards → Meaning V → Type 0
  Evaluated around m = Keeps (m.evaluate around false (Into m.head.id)) × Cell m.head.id

  abbrev pub AllEvaluated : LoopsAndGuards → List (Meaning V) → Type 0
  AllEvaluated around [] = Unit {0}
  AllEvaluated around (m ∷ ms) = Evaluated around m × AllEvaluated around ms

  pub operand_kept : (around : LoopsAndGuards) (m : Meaning V) → Evaluated around m →
      Keeps (forms.operand items q around m)
  operand_kept around m e = one_then _ _ (pending_kept m.shape.in_destination innermost m.head fine_innermost e.1)
      (one_then _ _ e.0 (complete_kept innermost m.head fine_innermost e.1))

  pub operands_kept : (around : LoopsAndGuards) (ms : List (Meaning V)) → AllEvaluated around ms →
      Keeps (forms.operands items q around ms)
  operands_kept around [] e = at_exit Value
  operands_kept around (m ∷ ms) e = one_then _ _ (operand_kept around m e.0) (operands_kept around ms e.1)

  pub acting_kept : (h : NodeHead) (around : LoopsAndGuards) (own : Bool) (ms : List (Meaning V)) (act : Does V) →
      AllEvaluated around ms → Keeps act → Keeps (forms.acting items q h around own ms act)
  acting_kept h around own ms act e d = in_scope_kept h.id own _
      (one_then _ _ (operands_kept around ms e) (one_then _ _ (take_kept (keys_of ms)) d))

  pub dropping_kept : (h : NodeHead) (around : LoopsAndGuards) (own : Bool) (m : Meaning V) (act : Does V) →
      Evaluated around m → Keeps act → Keeps (forms.dropping items q h around own m act)
  dropping_kept h around own m act e d = in_scope_kept h.id own _ (one_then _ _ (operand_kept around m e) d)

  -- ---- places

  pub temporary_kept : (h : NodeHead) (s : Shape) (evaluate : LoopsAndGuards → Bool → Destination → Does V)
      (around : LoopsAndGuards) → Keeps (evaluate around false (Into h.id)) → Cell h.id →
      Keeps (forms.temporary items q h s evaluate around)
  temporary_kept h s evaluate around d c = one_then _ _
      (pending_kept s.in_destination nearest_temporary h fine_nearest c)
      (one_then _ _ d (complete_kept nearest_temporary h fine_nearest c))

  pub use_kept : (h : NodeHead) (s : Shape) (reach : LoopsAndGuards → Does V) (around : LoopsAndGuards) (own : Bool)
      (to : Destination) → Keeps (reach around) → Takes May (operand_at h
      (s.place around.aliases)) → DestSo Store May to →
      Keeps (forms.use_of_place items q h s reach around own to)
  use_kept h s reach around own to d t c = own_kept h own _ (one_then _ _ d
      (deliver_kept h (λ site. effects.Put site (operand_at h (s.place around.aliases))) to
      (plainly h (λ site. effects.Put site (operand_at h (s.place around.aliases))) (λ site. refl) (λ key k. (k, t)))
      c))

  pub element_kept : (h : NodeHead) (s : Shape) (base index : Meaning V) (length : ℕ) (around : LoopsAndGuards) →
      Keeps (base.reach around) → Keeps (index.evaluate around false (Into index.head.id)) →
      Keeps (forms.reach_element items q h s base index length around)
  element_kept h s base index length around b i = one_then _ _ b (one_then _ _ i (one_then _ _
      (acts_kept (effects.Touch (site_at h (forms.array_around items q (s.place around.aliases)))) tt refl)
      (acts_kept (effects.Bounds (Copied (site_of_key index.head.id)) length) tt refl)))

  -- a borrow goes to its own cell
  pub borrowing_kept : (h : NodeHead) (unique : Bool) (base : Meaning V) (around : LoopsAndGuards) (own : Bool)
      (key : ℕ) → Keeps (base.reach around) → (unique ≡ true → May (place_of base around)) →
      Does_ (effects.Borrow (site_in base.head.id key) unique (site_of base around)) → Cell key →
      Keeps (forms.borrowing items q h unique base around own (Into key))
  borrowing_kept h unique base around own key b m d c = own_kept h own _ (one_then _ _ b
      (acts_so (effects.Borrow (site_in base.head.id key) unique (site_of base around)) (into key c, m) d))

  -- or anywhere, if that is known of it
  pub borrowing_anywhere : (h : NodeHead) (unique : Bool) (base : Meaning V) (around : LoopsAndGuards) (own : Bool)
      (to : Destination) → Keeps (base.reach around) → (unique ≡ true → May (place_of base around)) →
      ((key : ℕ) → Does_ (effects.Borrow (site_in base.head.id key) unique
      (site_of base around))) → DestSo Store May to →
      Keeps (forms.borrowing items q h unique base around own to)
  borrowing_anywhere h unique base around own to b m d c = own_kept h own _ (one_then _ _ b
      (deliver_kept h (λ site. effects.Borrow (record site { node = base.head.id }) unique (site_of base around)) to
      (λ key k. ((k, m), d key)) c))

  -- ---- assignment

  stored_kept : (site : EffectSite) (key : ℕ) → May site.place → Cell key → Keeps (forms.stored items q site key)
  stored_kept site key m c = one_then _ _ (take_kept (key ∷ []))
      (acts_kept (effects.Put site (moved site.node key)) (keeping.stores site.place m, c) refl)

  replacing_kept : (drops : Bool) (site : EffectSite) (key : ℕ) → May site.place → Drops site → Cell key →
      Keeps (forms.replacing items q drops site key)
  replacing_kept true site key m d c = record {
    kept = λ k S v f i. by k S f (q.drop Normal site v) (keeping.drops Normal site v m d i);
  }
    where
      by : (k : ℕ) (S : Scopes) → Fine S k → (o : Out V) → ShownOut over I I o →
          KeptAt k (forms.stored_after items q site key S o)
      by k S f (Go w) h = (stored_kept site key m c).kept k S w f h
      by k S f (Unwind w) h = (one_then _ _ (stored_kept site key m c) (at_exit Panics)).kept k S w f h
      by k S f (Halts halt w) h = h
  replacing_kept false site key m d c = record { kept = λ k S v f i. (stored_kept site key m c).kept k S v f i }

  pub assigning_kept : (h : NodeHead) (place value : Meaning V) (around : LoopsAndGuards) (own : Bool)
      (to : Destination) → Evaluated around value → Keeps (place.reach around) → May (place_of place around) →
      Drops (site_of place around) → DestSo Store May to → Keeps
      (forms.assigning items q h place value around own to)
  assigning_kept h place value around own to e p m d c = in_scope_kept h.id own _
      (one_then _ _ (operand_kept around value e) (one_then _ _ p (one_then _ _
      (replacing_kept (needs_drop items place.head.ty) (site_of place around) value.head.id m d e.1)
      (unit_kept h to c))))

  -- ---- branches

  scrutinised_kept : (around : LoopsAndGuards) (m : Meaning V) → Keeps (m.reach around) →
      Keeps (forms.scrutinised items q around m)
  scrutinised_kept around m d = one_then _ _ d (by m.shape.is_place)
    where
      by : (b : Bool) → Keeps (forms.touched items q b (site_of m around))
      by true = acts_kept (effects.Touch (site_of m around)) tt refl
      by false = at_exit Value

  pub if_taken_kept : (h : NodeHead) (around : LoopsAndGuards) (pattern scrutinee : Meaning V)
      (body otherwise : Does V) → Keeps (scrutinee.reach around) →
      TestsOwn May (pattern.shape.tests (place_of scrutinee around)) →
      BoundsMay May (pattern.shape.bindings (place_of scrutinee around)) → Keeps body → Keeps otherwise →
      Keeps (forms.if_taken items q h around pattern scrutinee body otherwise)
  if_taken_kept h around pattern scrutinee body otherwise s t b d o = scope_then_kept h.id true _ _
      (scrutinised_kept around scrutinee s)
      (choosing_leaves _ _ _ (all_kept (pattern.shape.tests (place_of scrutinee around)) t)
      (leaving_kept _ (one_then _ _
      (bind_kept innermost fine_innermost (pattern.shape.bindings (place_of scrutinee around)) b) d))
      (leaves_then _ _ (leaving_kept _ (at_exit Value)) o))

  pub taken_kept : (h : NodeHead) (around : LoopsAndGuards) (bounds : List BoundName) (body : Meaning V)
      (to : Destination) → BoundsMay May bounds → Keeps (body.evaluate around true to) →
      Keeps (forms.taken_arm items q h around bounds body to)
  taken_kept h around bounds body to b d = in_scope_kept h.id false _
      (one_then _ _ (bind_kept innermost fine_innermost bounds b) (alone_kept around body to d))

  -- an arm, by what is done where it is not taken
  abbrev pub AllArms : LoopsAndGuards → Place → Destination → List (Meaning V) → Type 0
  AllArms around matched to [] = Unit {0}
  AllArms around matched to (m ∷ ms) =
      ((otherwise : Does V) → Keeps otherwise → Keeps (m.arm matched otherwise around to))
      × AllArms around matched to ms

  arms_kept : (arms : List (Meaning V)) (matched : Place) (around : LoopsAndGuards) (to : Destination) →
      AllArms around matched to arms → Keeps (forms.arms_in_order items q arms matched around to)
  arms_kept [] matched around to a = panics_kept Why.Match
  arms_kept (m ∷ ms) matched around to a = a.0 _ (arms_kept ms matched around to a.1)

  pub matching_kept : (h : NodeHead) (scrutinee : Meaning V) (arms : List (Meaning V)) (around : LoopsAndGuards)
      (own : Bool) (to : Destination) → Keeps (scrutinee.reach around) →
      AllArms around (place_of scrutinee around) to arms →
      Keeps (forms.matching items q h scrutinee arms around own to)
  matching_kept h scrutinee arms around own to s a = own_kept h own _
      (one_then _ _ (scrutinised_kept around scrutinee s) (arms_kept arms (place_of scrutinee around) around to a))

  -- ---- blocks and statements

  abbrev pub AllDone : LoopsAndGuards → List (Meaning V) → Type 0
  AllDone around [] = Unit {0}
  AllDone around (m ∷ ms) = Keeps (m.evaluate around false (Into m.head.id)) × AllDone around ms

  statements_kept : (around : LoopsAndGuards) (ms : List (Meaning V)) → AllDone around ms →
      Keeps (forms.statements items q around ms)
  statements_kept around [] d = at_exit Value
  statements_kept around (m ∷ ms) d = one_then _ _ d.0 (statements_kept around ms d.1)

  pub unit_if_kept : (b : Bool) (h : NodeHead) (to : Destination) → DestSo Store May to →
      Keeps (forms.put_unit_if items q b h to)
  unit_if_kept true h to c = at_exit Value
  unit_if_kept false h to c = unit_kept h to c

  pub block_kept : (h : NodeHead) (ms : List (Meaning V)) (tail : Option (Meaning V)) (around : LoopsAndGuards)
      (own : Bool) (to : Destination) → AllDone around ms → Keeps (forms.tail_of items q h tail around to) →
      Keeps (forms.block items q h ms tail around own to)
  block_kept h ms tail around own to d t =
      in_scope_kept h.id own _ (one_then _ _ (statements_kept around ms d) t)

  pub evaluating_kept : (h : NodeHead) (m : Meaning V) (around : LoopsAndGuards) → Evaluated around m →
      Keeps (forms.evaluating items q h m around)
  evaluating_kept h m around e = in_scope_kept h.id true _ (one_then _ _
      (pending_kept true innermost m.head fine_innermost e.1)
      (one_then _ _ e.0 (complete_kept innermost m.head fine_innermost e.1)))

  pub let_name_kept : (h x : NodeHead) (m : Meaning V) (around : LoopsAndGuards) →
      Keeps (m.evaluate around false (Into x.id)) → Cell x.id → Keeps (forms.let_name items q h x m around)
  let_name_kept h x m around d c = in_scope_kept h.id true _
      (one_then _ _ (pending_kept true innermost x fine_innermost c) (one_then _ _ d (one_then _ _
      (changes_kept (innermost (without_pending (entry_of x)))
      (fine_innermost (without_pending (entry_of x)) (unpended (entry_of x))))
      (changes_kept (around_innermost (with_entry (entry_of x)))
      (fine_around (with_entry (entry_of x)) (entered (entry_of x) c))))))

  pub let_parts_kept : (h : NodeHead) (pattern m : Meaning V) (around : LoopsAndGuards) → Keeps (m.reach around) →
      Cell m.head.id → BoundsMay May (pattern.shape.bindings (place_of m around)) →
      Keeps (forms.let_parts items q h pattern m around)
  let_parts_kept h pattern m around d c b = in_scope_kept h.id true _ (one_then _ _
      (pending_kept (not (m.shape.is_place || m.shape.in_destination)) innermost m.head fine_innermost c)
      (one_then _ _ d (bind_kept around_innermost fine_around (pattern.shape.bindings (place_of m around)) b)))

  pub declared_kept : (bounds : List BoundName) → AllCells May bounds → Keeps (forms.declared items q bounds)
  declared_kept [] c = at_exit Value
  declared_kept (b ∷ bounds) c = one_then _ _ (by (needs_drop items b.ty)) (one_then _ _
      (changes_kept (innermost (with_entry (bound_entry b)))
      (fine_innermost (with_entry (bound_entry b)) (entered (bound_entry b) c.0)))
      (declared_kept bounds c.1))
    where
      by : (d : Bool) → Keeps (forms.emptied items q d b.key)
      by true = at_exit Value
      by false = record {
        kept = λ k S v f i. in_scopes_kept k S (q.drop Normal (site_of_key b.key) v) f
            (keeping.drops Normal (site_of_key b.key) v c.0 (keeping.whole b.key) i);
      }

  -- ---- loops and jumps

  turned_kept : (id k : ℕ) (begun : Scopes) (r : Run V) (next : Does V) → Fine begun k → KeptAt k r → Keeps next →
      KeptAt k (forms.turned items q id begun r next)
  turned_kept id k begun (At Value S v) next f h n = n.kept k S v h.0 h.1
  turned_kept id k begun (At (Breaks loop) S v) next f h n = by (id == loop)
    where
      by : (b : Bool) → KeptAt k (if b then At Value begun v else At (Breaks loop) S v)
      by true = (f, h.1)
      by false = h
  turned_kept id k begun (At (Continues loop) S v) next f h n = by (id == loop)
    where
      by : (b : Bool) → KeptAt k ((if b then next begun else At (Continues loop) S) v)
      by true = n.kept k begun v f h.1
      by false = h
  turned_kept id k begun (At Returns S v) next f h n = h
  turned_kept id k begun (At Panics S v) next f h n = h
  turned_kept id k begun (Over halt v) next f h n = h

  pub turns_kept : (fuel id : ℕ) (turn : Does V) → Keeps turn → Keeps (forms.turns items q fuel id turn)
  turns_kept zero id turn d = record { kept = λ k S v f i. keeping.lapses v i }
  turns_kept (suc n) id turn d = by (turns_kept n id turn d)
    where
      ticked : (k : ℕ) (S : Scopes) → Fine S k → (o : Out V) → ShownOut over I I o →
          Keeps (forms.turns items q n id turn) →
          KeptAt k (forms.ticked items q o (λ w. forms.turned items q id S (turn S w) (forms.turns items q n id turn)))
      ticked k S f (Go w) h later =
          turned_kept id k S (turn S w) (forms.turns items q n id turn) f (d.kept k S w f h) later
      ticked k S f (Unwind w) h later = keeping.stuck w h
      ticked k S f (Halts halt w) h later = h

      by : Keeps (forms.turns items q n id turn) → Keeps (forms.turns items q (suc n) id turn)
      by later = record { kept = λ k S v f i. ticked k S f (q.tick v) (keeping.ticks v i) later }

  pub ends_kept : (h : NodeHead) (to : Destination) → DestSo Store May to → Keeps (forms.ends_loop items q h to)
  ends_kept h to c = one_then _ _ (unit_kept h to c) (at_exit (Breaks h.id))

  pub jumping_kept : (exit : Exit) (h : NodeHead) (m : Option (Meaning V)) (around : LoopsAndGuards)
      (to : Destination) → Keeps (forms.value_of_jump items q h m around to) →
      Keeps (forms.jumping items q exit h m around to)
  jumping_kept exit h m around to d = one_then _ _ d (at_exit exit)
