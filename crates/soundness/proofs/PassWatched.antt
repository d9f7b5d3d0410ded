-- A run that stops as soon as something that is watched is known no more: what is watched is known at each of its
-- exits. It is the run without watching, or it has stopped so.
use Rattle.std.proofs.Common.{◌≡◌, ◌⊎◌, inl, inr, ℕ, Bool, true, false, List, [], ◌∷◌, refl, ap, sym, ◌∙◌, subst}
use Rattle.std.proofs.lemmas.Bool.{false≢true}
use Rattle.mir_base.specs.declared.operator.Cmp.{Cmp}
use Rattle.mir_base.specs.declared.trace.Why.{Why}
use Rattle.mir_ty.specs.ItemTable.{ItemTable}
use Rattle.store_model.proofs.Effects.Following.{Relation, FollowsOut, goes_on, unwinds, halts, lapsed, outlived, refused, FollowsChoice, takes, declines, neither, lapsed_choice, outlived_choice, refused_choice, FollowsEffects, one_bound}
use Rattle.store_model.specs.Effects as effects
use Rattle.store_model.specs.Effects.{EffectSite, Operand, Copied, Action, Test, Mode, Normal, Halt, Stuck, Out, Go, Unwind, Halts, Choice, Yes, No, Neither, Effects}
use Rattle.typed_tree.specs.Tree.{Node, BodyTree}
use Rattle.src_meaning.proofs.FormsFollow.{FollowsMeaning, acts_follow, alone_follow, bind_follow}
use Rattle.src_meaning.proofs.ProgramsFollow.{evaluated, meaning_follow, activation_follow}
use Rattle.src_meaning.proofs.RunsFollow.{Follows, is_at, is_over, lapsed_run, outlived_run, refused_run}
use Rattle.src_meaning.specs.Evaluation.{meaning}
use Rattle.src_meaning.specs.Forms as forms
use Rattle.src_meaning.specs.Forms.{Destination, LoopsAndGuards}
use Rattle.src_meaning.specs.Programs.{activation}
use Rattle.src_meaning.specs.Scopes.{Scope, Exit, Value, Breaks, Continues, Returns, Panics, Scopes, Run, At, Over, Does, on_value, innermost, without_operands}
use Rattle.src_meaning.specs.Shape.{BoundName, PatternTest, IsVariant, IsNumber, IsTruth, AnyOf, PatternTests, no_test, a_test, Alternatives, no_alternative, an_alternative}
use Rattle.soundness_values.proofs.AlsoTests.{Also}
use Rattle.soundness_values.proofs.Checked.{Checking}
use Rattle.soundness_values.proofs.Facts.{Facts}
use Rattle.soundness_values.proofs.Leaving.{Shown, ShownOut}
use Rattle.soundness.proofs.PassCallsAlone.{alone_run}
use Rattle.soundness_frame.proofs.PassFrameCalls.{Ends}
use Rattle.soundness.proofs.PassPlacesRules.{NoValue}
use Rattle.soundness_cells.proofs.PassRefilled.{not_mark}

module _ (items : ItemTable) (body : BodyTree) (also : Also) where
  abbrev V : Type 0
  V = Checking Facts

  abbrev q : Effects V
  q = alone_run items body also

  -- ---- watching

  abbrev pub out_if : Bool → V → Out V → Out V
  out_if true w o = o
  out_if false w o = Halts Stuck w

  abbrev pub choice_if : Bool → V → Choice V → Choice V
  choice_if true w o = o
  choice_if false w o = Neither Stuck w

  abbrev pub out_seen : (Facts → Bool) → Out V → Out V
  out_seen ok (Go w) = out_if (ok w.facts) w (Go w)
  out_seen ok (Unwind w) = out_if (ok w.facts) w (Unwind w)
  out_seen ok (Halts halt w) = Halts halt w

  abbrev pub choice_seen : (Facts → Bool) → Choice V → Choice V
  choice_seen ok (Yes w) = choice_if (ok w.facts) w (Yes w)
  choice_seen ok (No w) = choice_if (ok w.facts) w (No w)
  choice_seen ok (Neither halt w) = Neither halt w

  abbrev pub watched : (Facts → Bool) → Effects V
  watched ok = record {
    act = λ action v. out_seen ok (q.act action v);
    choose = λ test v. choice_seen ok (q.choose test v);
    drop = λ mode site v. out_seen ok (q.drop mode site v);
    panic = λ why v. q.panic why v;
    tick = λ v. out_seen ok (q.tick v);
    give = λ site v. out_seen ok (q.give site v);
  }

  -- other effects are those, with so much watched
  pub record Watches (c : Facts → Bool) (r : Effects V) : Type 0 where
    pub acts : (action : Action) (v : V) → r.act action v ≡ out_seen c (q.act action v)
    pub chooses : (test : Test) (v : V) → r.choose test v ≡ choice_seen c (q.choose test v)
    pub drops : (mode : Mode) (site : EffectSite) (v : V) → r.drop mode site v ≡ out_seen c (q.drop mode site v)
    pub panics : (why : Why) (v : V) → r.panic why v ≡ q.panic why v
    pub ticks : (v : V) → r.tick v ≡ out_seen c (q.tick v)
    pub gives : (site : EffectSite) (v : V) → r.give site v ≡ out_seen c (q.give site v)

  pub all_out : (o : Out V) → o ≡ out_seen (λ f. true) o
  all_out (Go w) = refl
  all_out (Unwind w) = refl
  all_out (Halts halt w) = refl

  pub all_choice : (o : Choice V) → o ≡ choice_seen (λ f. true) o
  all_choice (Yes w) = refl
  all_choice (No w) = refl
  all_choice (Neither halt w) = refl

  pub nothing_watched : Watches (λ f. true) q
  nothing_watched = record {
    acts = λ action v. all_out (q.act action v);
    chooses = λ test v. all_choice (q.choose test v);
    drops = λ mode site v. all_out (q.drop mode site v);
    panics = λ why v. refl;
    ticks = λ v. all_out (q.tick v);
    gives = λ site v. all_out (q.give site v);
  }

  pub as_watched : (ok : Facts → Bool) → Watches ok (watched ok)
  as_watched ok = record {
    acts = λ action v. refl;
    chooses = λ test v. refl;
    drops = λ mode site v. refl;
    panics = λ why v. refl;
    ticks = λ v. refl;
    gives = λ site v. refl;
  }

  -- ---- two runs, of which the first watches more

  -- the first ends as the second does, and then something is known; or it has stopped
  module _ (K L : Facts → Type 0) where
    abbrev pub Alike : Run V → Run V → Type 0
    Alike (At exit S w) s = (s ≡ At exit S w) × K w.facts
    Alike (Over halt w) s = (s ≡ Over halt w) ⊎ ((halt ≡ Stuck) × L w.facts)

    abbrev pub AlikeOut : Out V → Out V → Type 0
    AlikeOut (Go w) s = (s ≡ Go w) × K w.facts
    AlikeOut (Unwind w) s = (s ≡ Unwind w) × K w.facts
    AlikeOut (Halts halt w) s = (s ≡ Halts halt w) ⊎ ((halt ≡ Stuck) × L w.facts)

    abbrev pub AlikeChoice : Choice V → Choice V → Type 0
    AlikeChoice (Yes w) s = (s ≡ Yes w) × K w.facts
    AlikeChoice (No w) s = (s ≡ No w) × K w.facts
    AlikeChoice (Neither halt w) s = (s ≡ Neither halt w) ⊎ ((halt ≡ Stuck) × L w.facts)

    -- what is shown of the second
    pub shown_alike : (post : Exit → Scopes → V → Type 0) (r s : Run V) → Alike r s → Shown (not_mark 5) post s →
        Shown (not_mark 5) (λ exit S w. post exit S w × K w.facts) r
    shown_alike post (At exit S w) s a h = (subst (Shown (not_mark 5) post) a.0 h, a.1)
    shown_alike post (Over halt w) s (inl e) h = subst (Shown (not_mark 5) post) e h
    shown_alike post (Over halt w) s (inr l) h = subst (λ x. not_mark 5 x w) (sym l.0) tt

    pub out_shown : (went panicked : V → Type 0) (r s : Out V) → AlikeOut r s →
        ShownOut (not_mark 5) went panicked s →
        ShownOut (not_mark 5) (λ w. went w × K w.facts) (λ w. panicked w × K w.facts) r
    out_shown went panicked (Go w) s a h = (subst (ShownOut (not_mark 5) went panicked) a.0 h, a.1)
    out_shown went panicked (Unwind w) s a h = (subst (ShownOut (not_mark 5) went panicked) a.0 h, a.1)
    out_shown went panicked (Halts halt w) s (inl e) h = subst (ShownOut (not_mark 5) went panicked) e h
    out_shown went panicked (Halts halt w) s (inr l) h = subst (λ x. not_mark 5 x w) (sym l.0) tt

    pub ends_alike : (J : V → Type 0) (r s : Run V) → Alike r s → Ends J s → Ends (λ w. J w × K w.facts) r
    ends_alike J (At Value S w) s a h = (subst (Ends J) a.0 h, a.1)
    ends_alike J (At (Breaks loop) S w) s a h = tt
    ends_alike J (At (Continues loop) S w) s a h = tt
    ends_alike J (At Returns S w) s a h = tt
    ends_alike J (At Panics S w) s a h = tt
    ends_alike J (Over halt w) s a h = tt

    pub none_alike : (r s : Run V) → Alike r s → NoValue s → NoValue r
    none_alike (At Value S w) s a n = subst NoValue a.0 n
    none_alike (At (Breaks loop) S w) s a n = tt
    none_alike (At (Continues loop) S w) s a n = tt
    none_alike (At Returns S w) s a n = tt
    none_alike (At Panics S w) s a n = tt
    none_alike (Over halt w) s a n = tt

    then_alike : (r s : Run V) (f g : Does V) → Alike r s →
        ((S : Scopes) (w : V) → K w.facts → Alike (f S w) (g S w)) → Alike (on_value r f) (on_value s g)
    then_alike (At Value S w) s f g a k = subst (λ x. Alike (f S w) (on_value x g)) (sym a.0) (k S w a.1)
    then_alike (At (Breaks loop) S w) s f g a k = (ap (λ x. on_value x g) a.0, a.1)
    then_alike (At (Continues loop) S w) s f g a k = (ap (λ x. on_value x g) a.0, a.1)
    then_alike (At Returns S w) s f g a k = (ap (λ x. on_value x g) a.0, a.1)
    then_alike (At Panics S w) s f g a k = (ap (λ x. on_value x g) a.0, a.1)
    then_alike (Over halt w) s f g (inl e) k = inl (ap (λ x. on_value x g) e)
    then_alike (Over halt w) s f g (inr l) k = inr l

  module _ (ok c : Facts → Bool) (r : Effects V) (is : Watches c r) (K L : Facts → Type 0)
      (less : (f : Facts) → ok f ≡ true → c f ≡ true) (holds : (f : Facts) → ok f ≡ true → K f)
      (stops : (f : Facts) → ok f ≡ false → c f ≡ true → L f) where
    abbrev p : Effects V
    p = watched ok

    abbrev rel : Relation V V
    rel = record {
      Known = V;
      Choices = Unit {0};
      feed = λ t v. v;
      none = tt;
      joined = λ a b. tt;
      from_none = λ t. refl;
      associates = λ a b d. refl;
      Stage = Unit {0};
      related = λ n v w. (v ≡ w) × K v.facts;
      halted = λ n v w. v ≡ w;
      at_halt = λ n v w e. e.0;
      lapses = λ n halt v. (halt ≡ Stuck) × L v.facts;
      outlives = λ n halt v later. ⊥;
      refuses = λ halt. ⊥;
    }

    out_follows : (n : Unit {0}) (o : Out V) → FollowsOut rel n (out_seen ok o) (λ t. out_seen c o)
    out_follows n (Go w) = by (ok w.facts) refl (c w.facts) refl
      where
        by : (a : Bool) → ok w.facts ≡ a → (d : Bool) → c w.facts ≡ d →
            FollowsOut rel n (out_if a w (Go w)) (λ t. out_if d w (Go w))
        by true e true f = goes_on n w w tt _ (refl, holds w.facts e) (λ rest. refl)
        by true e false f = absurd (false≢true (sym f ∙ less w.facts e))
        by false e true f = lapsed n Stuck w _ (refl, stops w.facts e f)
        by false e false f = halts n Stuck w w tt _ refl (λ rest. refl)
    out_follows n (Unwind w) = by (ok w.facts) refl (c w.facts) refl
      where
        by : (a : Bool) → ok w.facts ≡ a → (d : Bool) → c w.facts ≡ d →
            FollowsOut rel n (out_if a w (Unwind w)) (λ t. out_if d w (Unwind w))
        by true e true f = unwinds n w w tt _ (refl, holds w.facts e) (λ rest. refl)
        by true e false f = absurd (false≢true (sym f ∙ less w.facts e))
        by false e true f = lapsed n Stuck w _ (refl, stops w.facts e f)
        by false e false f = halts n Stuck w w tt _ refl (λ rest. refl)
    out_follows n (Halts halt w) = halts n halt w w tt _ refl (λ rest. refl)

    choice_follows : (n : Unit {0}) (o : Choice V) → FollowsChoice rel n (choice_seen ok o) (λ t. choice_seen c o)
    choice_follows n (Yes w) = by (ok w.facts) refl (c w.facts) refl
      where
        by : (a : Bool) → ok w.facts ≡ a → (d : Bool) → c w.facts ≡ d →
            FollowsChoice rel n (choice_if a w (Yes w)) (λ t. choice_if d w (Yes w))
        by true e true f = takes n w w tt _ (refl, holds w.facts e) (λ rest. refl)
        by true e false f = absurd (false≢true (sym f ∙ less w.facts e))
        by false e true f = lapsed_choice n Stuck w _ (refl, stops w.facts e f)
        by false e false f = neither n Stuck w w tt _ refl (λ rest. refl)
    choice_follows n (No w) = by (ok w.facts) refl (c w.facts) refl
      where
        by : (a : Bool) → ok w.facts ≡ a → (d : Bool) → c w.facts ≡ d →
            FollowsChoice rel n (choice_if a w (No w)) (λ t. choice_if d w (No w))
        by true e true f = declines n w w tt _ (refl, holds w.facts e) (λ rest. refl)
        by true e false f = absurd (false≢true (sym f ∙ less w.facts e))
        by false e true f = lapsed_choice n Stuck w _ (refl, stops w.facts e f)
        by false e false f = neither n Stuck w w tt _ refl (λ rest. refl)
    choice_follows n (Neither halt w) = neither n halt w w tt _ refl (λ rest. refl)

    follows : FollowsEffects rel p r
    follows = record {
      acting = λ action n v w e. subst (λ x. FollowsOut rel n (p.act action v) (λ t. r.act action x)) e.0
          (subst (λ o. FollowsOut rel n (p.act action v) (λ t. o)) (sym (is.acts action v))
          (out_follows n (q.act action v)));
      choosing = λ test n v w e. subst (λ x. FollowsChoice rel n (p.choose test v) (λ t. r.choose test x)) e.0
          (subst (λ o. FollowsChoice rel n (p.choose test v) (λ t. o)) (sym (is.chooses test v))
          (choice_follows n (q.choose test v)));
      dropping = λ mode site n v w e. subst (λ x. FollowsOut rel n (p.drop mode site v) (λ t. r.drop mode site x)) e.0
          (subst (λ o. FollowsOut rel n (p.drop mode site v) (λ t. o)) (sym (is.drops mode site v))
          (out_follows n (q.drop mode site v)));
      panicking = λ why n v w e. subst (λ x. FollowsOut rel n (Unwind (p.panic why v)) (λ t. Unwind (r.panic why x)))
          e.0 (subst (λ y. FollowsOut rel n (Unwind (p.panic why v)) (λ t. Unwind y)) (sym (is.panics why v))
          (unwinds n (p.panic why v) (p.panic why v) tt _ (refl, e.1) (λ rest. refl)));
      ticking = λ n v w e. subst (λ x. FollowsOut rel n (p.tick v) (λ t. r.tick x)) e.0
          (subst (λ o. FollowsOut rel n (p.tick v) (λ t. o)) (sym (is.ticks v)) (out_follows n (q.tick v)));
      giving = λ site n v w e. subst (λ x. FollowsOut rel n (p.give site v) (λ t. r.give site x)) e.0
          (subst (λ o. FollowsOut rel n (p.give site v) (λ t. o)) (sym (is.gives site v)) (out_follows n (q.give site
          v)));
    }

    -- ---- so they end alike

    run_alike : (n : Unit {0}) (x : Run V) (g : Unit {0} → Run V) → Follows rel n x g → Alike K L x (g tt)
    run_alike n _ _ (is_at m exit S w d l g k e) = (e tt ∙ ap (At exit S) (sym k.0), k.1)
    run_alike n _ _ (is_over m halt w d l g k e) = inl (e tt ∙ ap (Over halt) (sym k))
    run_alike n _ _ (lapsed_run m halt w g k) = inr k
    run_alike n _ _ (outlived_run m halt w later s g k d) = absurd k
    run_alike n _ _ (refused_run m _ halt d l g k e) = absurd k

    out_alike : (n : Unit {0}) (x : Out V) (g : Unit {0} → Out V) → FollowsOut rel n x g → AlikeOut K L x (g tt)
    out_alike n _ _ (goes_on m w d l g k e) = (e tt ∙ ap Go (sym k.0), k.1)
    out_alike n _ _ (unwinds m w d l g k e) = (e tt ∙ ap Unwind (sym k.0), k.1)
    out_alike n _ _ (halts m halt w d l g k e) = inl (e tt ∙ ap (Halts halt) (sym k))
    out_alike n _ _ (lapsed m halt w g k) = inr k
    out_alike n _ _ (outlived m halt w later s g k d) = absurd k
    out_alike n _ _ (refused m _ halt d l g k e) = absurd k

    choice_alike : (n : Unit {0}) (x : Choice V) (g : Unit {0} → Choice V) → FollowsChoice rel n x g →
        AlikeChoice K L x (g tt)
    choice_alike n _ _ (takes m w d l g k e) = (e tt ∙ ap Yes (sym k.0), k.1)
    choice_alike n _ _ (declines m w d l g k e) = (e tt ∙ ap No (sym k.0), k.1)
    choice_alike n _ _ (neither m halt w d l g k e) = inl (e tt ∙ ap (Neither halt) (sym k))
    choice_alike n _ _ (lapsed_choice m halt w g k) = inr k
    choice_alike n _ _ (outlived_choice m halt w later s g k d) = absurd k
    choice_alike n _ _ (refused_choice m _ halt d l g k e) = absurd k

    module _ (fuel : ℕ) where
      meant : (n : Node) → FollowsMeaning rel (meaning items p fuel n) (meaning items r fuel n)
      meant n = meaning_follow rel items p r follows fuel fuel (one_bound fuel) n

      pub node_alike : (n : Node) (around : LoopsAndGuards) (own : Bool) (to : Destination) (S : Scopes) (v : V) →
          K v.facts → Alike K L ((meaning items p fuel n).evaluate around own to S v)
          ((meaning items r fuel n).evaluate around own to S v)
      node_alike n around own to S v k = run_alike tt ((meaning items p fuel n).evaluate around own to S v)
          (λ t. (meaning items r fuel n).evaluate around own to S v)
          ((evaluated rel (meant n) around own to).run tt S v v (refl, k))

      pub alone_alike : (n : Node) (around : LoopsAndGuards) (to : Destination) (S : Scopes) (v : V) → K v.facts →
          Alike K L (forms.alone items p around (meaning items p fuel n) to S v)
          (forms.alone items r around (meaning items r fuel n) to S v)
      alone_alike n around to S v k = run_alike tt (forms.alone items p around (meaning items p fuel n) to S v)
          (λ t. forms.alone items r around (meaning items r fuel n) to S v)
          ((alone_follow rel items p r follows around (meant n) to).run tt S v v (refl, k))

      pub body_alike : (v : V) → K v.facts →
          AlikeOut K L (activation items p fuel body v) (activation items r fuel body v)
      body_alike v k = out_alike tt (activation items p fuel body v) (λ t. activation items r fuel body v)
          (activation_follow rel items p r follows fuel fuel (one_bound fuel) body tt v v (refl, k))

    pub acts_alike : (action : Action) (S : Scopes) (v : V) → K v.facts →
        Alike K L (forms.acts items p action S v) (forms.acts items r action S v)
    acts_alike action S v k = run_alike tt (forms.acts items p action S v) (λ t. forms.acts items r action S v)
        ((acts_follow rel items p r follows action).run tt S v v (refl, k))

    pub act_alike : (action : Action) (v : V) → K v.facts → AlikeOut K L (p.act action v) (r.act action v)
    act_alike action v k = out_alike tt (p.act action v) (λ t. r.act action v) (follows.acting action tt v v (refl, k))

    pub test_alike : (test : Test) (v : V) → K v.facts → AlikeChoice K L (p.choose test v) (r.choose test v)
    test_alike test v k =
        choice_alike tt (p.choose test v) (λ t. r.choose test v) (follows.choosing test tt v v (refl, k))

    drop_alike : (mode : Mode) (site : EffectSite) (v : V) → K v.facts →
        AlikeOut K L (p.drop mode site v) (r.drop mode site v)
    drop_alike mode site v k =
        out_alike tt (p.drop mode site v) (λ t. r.drop mode site v) (follows.dropping mode site tt v v (refl, k))

    -- an action after another
    pub two_alike : (one other : Action) (S : Scopes) (v : V) → K v.facts →
        Alike K L (on_value (forms.acts items p one S v) (forms.acts items p other))
        (on_value (forms.acts items r one S v) (forms.acts items r other))
    two_alike one other S v k = then_alike K L (forms.acts items p one S v) (forms.acts items r one S v)
        (forms.acts items p other) (forms.acts items r other) (acts_alike one S v k)
        (λ T w h. acts_alike other T w h)

    -- the names of a pattern
    pub bind_alike : (in_that : (Scope → Scope) → Scopes → Scopes) (bounds : List BoundName) (S : Scopes) (v : V) →
        K v.facts → Alike K L (forms.bind items p in_that bounds S v) (forms.bind items r in_that bounds S v)
    bind_alike in_that bounds S v k = run_alike tt (forms.bind items p in_that bounds S v)
        (λ t. forms.bind items r in_that bounds S v)
        ((bind_follow rel items p r follows in_that bounds).run tt S v v (refl, k))

    -- a value that is replaced
    stored_alike : (site : EffectSite) (key : ℕ) (S : Scopes) (o s : Out V) → AlikeOut K L o s →
        Alike K L (forms.stored_after items p site key S o) (forms.stored_after items r site key S s)
    stored_alike site key S (Go w) s a = subst (λ x. Alike K L (forms.stored_after items p site key S (Go w))
        (forms.stored_after items r site key S x)) (sym a.0)
        (acts_alike (effects.Put site (forms.moved site.node key)) (innermost (without_operands (key ∷ [])) S) w a.1)
    stored_alike site key S (Unwind w) s a = subst (λ x. Alike K L (forms.stored_after items p site key S (Unwind w))
        (forms.stored_after items r site key S x)) (sym a.0)
        (then_alike K L (forms.stored items p site key S w) (forms.stored items r site key S w) (At Panics) (At Panics)
        (acts_alike (effects.Put site (forms.moved site.node key)) (innermost (without_operands (key ∷ [])) S) w a.1)
        (λ T x k. (refl, k)))
    stored_alike site key S (Halts halt w) s (inl e) = inl (ap (forms.stored_after items r site key S) e)
    stored_alike site key S (Halts halt w) s (inr l) = inr l

    pub replacing_alike : (drops : Bool) (site : EffectSite) (key : ℕ) (S : Scopes) (v : V) → K v.facts →
        Alike K L (forms.replacing items p drops site key S v) (forms.replacing items r drops site key S v)
    replacing_alike true site key S v k = stored_alike site key S (p.drop Normal site v) (r.drop Normal site v)
        (drop_alike Normal site v k)
    replacing_alike false site key S v k = stored_alike site key S (Go v) (Go v) (refl, k)

    -- the tests of a pattern
    tested_alike : (operand : Operand) (o s : Out V) → AlikeOut K L o s →
        AlikeChoice K L (forms.tested items p o operand) (forms.tested items r s operand)
    tested_alike operand (Go w) s a = subst (λ x. AlikeChoice K L (p.choose (effects.IsTrue operand) w)
        (forms.tested items r x operand)) (sym a.0) (test_alike (effects.IsTrue operand) w a.1)
    tested_alike operand (Unwind w) s a = inl (ap (λ x. forms.tested items r x operand) a.0)
    tested_alike operand (Halts halt w) s (inl e) = inl (ap (λ x. forms.tested items r x operand) e)
    tested_alike operand (Halts halt w) s (inr l) = inr l

    equals_alike : (site : EffectSite) (value : Operand) (v : V) → K v.facts →
        AlikeChoice K L (forms.equals items p site value v) (forms.equals items r site value v)
    equals_alike site value v k = tested_alike (forms.moved site.node site.node)
        (p.act (effects.Compare (forms.site_of_key site.node) Cmp.Eq (Copied site) value) v)
        (r.act (effects.Compare (forms.site_of_key site.node) Cmp.Eq (Copied site) value) v)
        (act_alike (effects.Compare (forms.site_of_key site.node) Cmp.Eq (Copied site) value) v k)

    after_alike : (o s : Choice V) (f g : V → Choice V) → AlikeChoice K L o s →
        ((w : V) → K w.facts → AlikeChoice K L (f w) (g w)) →
        AlikeChoice K L (forms.tests_after items p o f) (forms.tests_after items r s g)
    after_alike (Yes w) s f g a k =
        subst (λ x. AlikeChoice K L (f w) (forms.tests_after items r x g)) (sym a.0) (k w a.1)
    after_alike (No w) s f g a k = (ap (λ x. forms.tests_after items r x g) a.0, a.1)
    after_alike (Neither halt w) s f g (inl e) k = inl (ap (λ x. forms.tests_after items r x g) e)
    after_alike (Neither halt w) s f g (inr l) k = inr l

    else_alike : (o s : Choice V) (f g : V → Choice V) → AlikeChoice K L o s →
        ((w : V) → K w.facts → AlikeChoice K L (f w) (g w)) →
        AlikeChoice K L (forms.alternatives_after items p o f) (forms.alternatives_after items r s g)
    else_alike (Yes w) s f g a k = (ap (λ x. forms.alternatives_after items r x g) a.0, a.1)
    else_alike (No w) s f g a k =
        subst (λ x. AlikeChoice K L (f w) (forms.alternatives_after items r x g)) (sym a.0) (k w a.1)
    else_alike (Neither halt w) s f g (inl e) k = inl (ap (λ x. forms.alternatives_after items r x g) e)
    else_alike (Neither halt w) s f g (inr l) k = inr l

    mutual
      holds_alike : (test : PatternTest) (v : V) → K v.facts →
          AlikeChoice K L (forms.holds items p test v) (forms.holds items r test v)
      holds_alike (IsVariant site variant) v k = test_alike (effects.HasVariant site variant) v k
      holds_alike (IsNumber site value kind) v k = equals_alike site (effects.Number value kind) v k
      holds_alike (IsTruth site value) v k = equals_alike site (effects.Truth value) v k
      holds_alike (AnyOf alternatives) v k = any_alike alternatives v k

      pub all_alike : (tests : PatternTests) (v : V) → K v.facts →
          AlikeChoice K L (forms.all_hold items p tests v) (forms.all_hold items r tests v)
      all_alike no_test v k = (refl, k)
      all_alike (a_test first rest) v k = after_alike (forms.holds items p first v) (forms.holds items r first v)
          (forms.all_hold items p rest) (forms.all_hold items r rest) (holds_alike first v k)
          (λ w h. all_alike rest w h)

      any_alike : (alternatives : Alternatives) (v : V) → K v.facts →
          AlikeChoice K L (forms.any_holds items p alternatives v) (forms.any_holds items r alternatives v)
      any_alike no_alternative v k = (refl, k)
      any_alike (an_alternative tests rest) v k = else_alike (forms.all_hold items p tests v)
          (forms.all_hold items r tests v) (forms.any_holds items p rest) (forms.any_holds items r rest)
          (all_alike tests v k) (λ w h. any_alike rest w h)
