-- All references that a run knows of were made by borrows of the block: so it stays by each effect but borrows, of which it
-- has to be known that they are such; and so by the tests and the names of a pattern, and where a value is replaced.
use Rattle.std.proofs.Common.{◌≡◌, ℕ, Bool, true, false, List, [], ◌∷◌, Option, Some, None}
use Rattle.mir_base.specs.declared.operator.Cmp.{Cmp}
use Rattle.mir_ty.specs.ItemTable.{ItemTable}
use Rattle.store_model.specs.Abstract.Effects.{AbstractState}
use Rattle.store_model.specs.Effects as effects
use Rattle.store_model.specs.Effects.{EffectSite, Operand, Action, Test, Mode, Normal, Halt, Out, Go, Unwind, Halts, Choice, Yes, No, Neither, Effects}
use Rattle.typed_tree.specs.Tree.{BodyTree}
use Rattle.src_meaning.specs.Forms as forms
use Rattle.src_meaning.specs.Locals.Effects.{action_at, test_at, place_at}
use Rattle.src_meaning.specs.Locals.OfBody.{local_of, local_ty}
use Rattle.src_meaning.specs.Scopes.{Scope, Scopes, Exit, Value, Panics, Run, At, Over, Does, on_value, in_scopes, innermost, without_operands, with_entry}
use Rattle.src_meaning.specs.Shape.{PatternTest, IsVariant, IsNumber, IsTruth, AnyOf, PatternTests, no_test, a_test, Alternatives, no_alternative, an_alternative, BoundName, operand_of_bound}
use Rattle.soundness_values.proofs.AlsoTests.{Also}
use Rattle.soundness_values.proofs.Checked.{Checking, with_facts, chosen_with}
use Rattle.soundness_values.proofs.CheckedBodies.{is_reference_param}
use Rattle.soundness_values.proofs.Facts.{Facts}
use Rattle.soundness_values.proofs.Leaving.{ShownOut}
use Rattle.soundness.proofs.PassAloneRun.{run, I, MadeAt, Makes}
use Rattle.soundness_cells.proofs.PassMarks.{marked, chosen_marked}
use Rattle.soundness.proofs.PassNamingKept as kept

module _ (items : ItemTable) (body : BodyTree) (also : Also) where
  abbrev V : Type 0
  V = Checking Facts

  abbrev q : Effects V
  q = run items body also

  abbrev L : ℕ → ℕ
  L = local_of items body

  abbrev J : V → Type 0
  J = I items body also

  abbrev pub Known : Facts → Type 0
  Known = kept.AllNamed items (local_ty items body) (is_reference_param items body) (MadeAt items body also)

  abbrev any_halt : Halt → V → Type 0
  any_halt halt v = Unit {0}

  abbrev Outs : Out V → Type 0
  Outs = ShownOut any_halt J J

  abbrev pub AnswersNamed : Choice V → Type 0
  AnswersNamed (Yes w) = J w
  AnswersNamed (No w) = J w
  AnswersNamed (Neither halt w) = Unit {0}

  abbrev pub Ran : Run V → Type 0
  Ran (At exit S w) = J w
  Ran (Over halt w) = Unit {0}

  out_named : (mark : Option ℕ) (v : V) (went unwound : Facts) (o : Out AbstractState) → Known went → Known unwound →
      Outs (marked mark v (with_facts went unwound o))
  out_named None v went unwound (Go w) h k = h
  out_named None v went unwound (Unwind w) h k = k
  out_named None v went unwound (Halts halt w) h k = tt
  out_named (Some m) v went unwound o h k = tt

  choice_named : (mark : Option ℕ) (v : V) (taken declined : Facts) (o : Choice AbstractState) → Known taken →
      Known declined → AnswersNamed (chosen_marked mark v (chosen_with taken declined o))
  choice_named None v taken declined (Yes w) h k = h
  choice_named None v taken declined (No w) h k = k
  choice_named None v taken declined (Neither halt w) h k = tt
  choice_named (Some m) v taken declined o h k = tt

  pub act_named : (action : Action) (v : V) → Makes items body also (action_at L action) → J v → Outs (q.act action v)
  act_named action v m i = out_named _ v _ _ _
      (kept.action_named items (local_ty items body) (is_reference_param items body) (MadeAt items body also)
      (action_at L action) v.facts m i)
      (kept.unwound_named items (local_ty items body) (is_reference_param items body) (MadeAt items body also)
      (action_at L action) v.facts m i)

  pub test_named : (test : Test) (v : V) → J v → AnswersNamed (q.choose test v)
  test_named test v i = choice_named _ v _ _ _
      (kept.taken_named items (local_ty items body) (is_reference_param items body) (MadeAt items body also)
      (test_at L test) v.facts i)
      (kept.declined_named items (local_ty items body) (is_reference_param items body) (MadeAt items body also)
      (test_at L test) v.facts i)

  pub drop_named : (mode : Mode) (site : EffectSite) (v : V) → J v → Outs (q.drop mode site v)
  drop_named mode site v i = out_named _ v _ _ _
      (kept.dropped_named items (local_ty items body) (is_reference_param items body) (MadeAt items body also)
      (place_at L site.place) v.facts i)
      (kept.dropped_named items (local_ty items body) (is_reference_param items body) (MadeAt items body also)
      (place_at L site.place) v.facts i)

  -- ---- the tests of a pattern

  tested_named : (o : Out V) (operand : Operand) → Outs o → AnswersNamed (forms.tested items q o operand)
  tested_named (Go w) operand h = test_named (effects.IsTrue operand) w h
  tested_named (Unwind w) operand h = tt
  tested_named (Halts halt w) operand h = tt

  abbrev comparing : EffectSite → Operand → Action
  comparing site value = effects.Compare (forms.site_of_key site.node) Cmp.Eq (effects.Copied site) value

  equals_named : (site : EffectSite) (value : Operand) (v : V) → J v → AnswersNamed (forms.equals items q site value v)
  equals_named site value v i = tested_named (q.act (comparing site value) v) (forms.moved site.node site.node)
      (act_named (comparing site value) v tt i)

  after_named : (o : Choice V) (rest : V → Choice V) → AnswersNamed o → ((w : V) → J w → AnswersNamed (rest w)) →
      AnswersNamed (forms.tests_after items q o rest)
  after_named (Yes w) rest h f = f w h
  after_named (No w) rest h f = h
  after_named (Neither halt w) rest h f = tt

  else_named : (o : Choice V) (rest : V → Choice V) → AnswersNamed o → ((w : V) → J w → AnswersNamed (rest w)) →
      AnswersNamed (forms.alternatives_after items q o rest)
  else_named (Yes w) rest h f = h
  else_named (No w) rest h f = f w h
  else_named (Neither halt w) rest h f = tt

  mutual
    holds_named : (test : PatternTest) (v : V) → J v → AnswersNamed (forms.holds items q test v)
    holds_named (IsVariant site variant) v i = test_named (effects.HasVariant site variant) v i
    holds_named (IsNumber site value kind) v i = equals_named site (effects.Number value kind) v i
    holds_named (IsTruth site value) v i = equals_named site (effects.Truth value) v i
    holds_named (AnyOf alternatives) v i = any_named alternatives v i

    pub all_named : (list : PatternTests) (v : V) → J v → AnswersNamed (forms.all_hold items q list v)
    all_named no_test v i = i
    all_named (a_test first rest) v i = after_named (forms.holds items q first v) (forms.all_hold items q rest)
        (holds_named first v i) (λ w j. all_named rest w j)

    any_named : (alternatives : Alternatives) (v : V) → J v → AnswersNamed (forms.any_holds items q alternatives v)
    any_named no_alternative v i = i
    any_named (an_alternative tests rest) v i = else_named (forms.all_hold items q tests v)
        (forms.any_holds items q rest) (all_named tests v i) (λ w j. any_named rest w j)

  -- ---- in scopes

  in_scopes_named : (S : Scopes) (o : Out V) → Outs o → Ran (in_scopes S o)
  in_scopes_named S (Go w) h = h
  in_scopes_named S (Unwind w) h = h
  in_scopes_named S (Halts halt w) h = tt

  then_named : (r : Run V) (next : Does V) → Ran r → ((S : Scopes) (v : V) → J v → Ran (next S v)) →
      Ran (on_value r next)
  then_named (At Value S v) next h f = f S v h
  then_named (At (Rattle.src_meaning.specs.Scopes.Breaks loop) S v) next h f = h
  then_named (At (Rattle.src_meaning.specs.Scopes.Continues loop) S v) next h f = h
  then_named (At Rattle.src_meaning.specs.Scopes.Returns S v) next h f = h
  then_named (At Panics S v) next h f = h
  then_named (Over halt v) next h f = tt

  abbrev taking : BoundName → Action
  taking b = effects.Put (forms.site_of_key b.key) (operand_of_bound b)

  -- the names of a pattern
  pub bind_named : (in_that : (Scope → Scope) → Scopes → Scopes) (bounds : List BoundName) (S : Scopes) (v : V) → J v →
      Ran (forms.bind items q in_that bounds S v)
  bind_named in_that [] S v i = i
  bind_named in_that (b ∷ bounds) S v i = then_named (in_scopes S (q.act (taking b) v))
      (λ T w. forms.bind items q in_that bounds (in_that (with_entry (forms.bound_entry b)) T) w)
      (in_scopes_named S (q.act (taking b) v) (act_named (taking b) v tt i))
      (λ T w j. bind_named in_that bounds (in_that (with_entry (forms.bound_entry b)) T) w j)

  -- a value that is replaced
  abbrev storing : EffectSite → ℕ → Action
  storing site key = effects.Put site (forms.moved site.node key)

  stored_named : (site : EffectSite) (key : ℕ) (S : Scopes) (o : Out V) → Outs o →
      Ran (forms.stored_after items q site key S o)
  stored_named site key S (Go w) h = in_scopes_named (innermost (without_operands (key ∷ [])) S) (q.act (storing site key) w)
      (act_named (storing site key) w tt h)
  stored_named site key S (Unwind w) h = then_named
      (in_scopes (innermost (without_operands (key ∷ [])) S) (q.act (storing site key) w)) (At Panics)
      (in_scopes_named (innermost (without_operands (key ∷ [])) S) (q.act (storing site key) w)
      (act_named (storing site key) w tt h)) (λ T x j. j)
  stored_named site key S (Halts halt w) h = tt

  pub replacing_named : (drops : Bool) (site : EffectSite) (key : ℕ) (S : Scopes) (v : V) → J v →
      Ran (forms.replacing items q drops site key S v)
  replacing_named true site key S v i = stored_named site key S (q.drop Normal site v) (drop_named Normal site v i)
  replacing_named false site key S v i = stored_named site key S (Go v) i

  -- it is said of facts
  pub facts_named : (v w : V) → w.facts ≡ v.facts → J v → J w
  facts_named v w e i = Rattle.std.proofs.Common.subst Known (Rattle.std.proofs.Common.sym e) i
