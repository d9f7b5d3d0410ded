-- Patterns keep to what the pass says of scopes: their tests change nothing that is held, and their names become
-- entries.
use Rattle.std.proofs.Common.{◌≡◌, ◌⊎◌, inl, inr, ℕ, Bool, true, false, List, [], ◌∷◌, ◌++◌, Option, Some, None, refl, ap, sym, ◌∙◌, subst}
use Rattle.mir_base.specs.declared.operator.Cmp.{Cmp}
use Rattle.mir_ty.specs.declared.ty.TyId.{TyId}
use Rattle.mir_ty.specs.ItemTable.{ItemTable}
use Rattle.store_model.specs.Effects as effects
use Rattle.store_model.specs.Effects.{EffectSite, Operand, Copied, Action, Effects, stored_by, Out, Go, Unwind, Halts, Choice, Yes, No, Neither}
use Rattle.store_model.specs.Places.Place.{whole_local}
use Rattle.src_meaning.specs.Forms as forms
use Rattle.src_meaning.specs.Forms.{Destination, LoopsAndGuards, Meaning, bound_entry, site_of_key, moved}
use Rattle.src_meaning.specs.Scopes.{Entry, Scope, Scopes, with_entry, Exit, Value, Breaks, Continues, Returns, Panics, Does, in_scopes}
use Rattle.src_meaning.specs.Shape.{operand_of_bound, BoundName, PatternTest, IsVariant, IsNumber, IsTruth, AnyOf, PatternTests, no_test, a_test, Alternatives, no_alternative, an_alternative}
use Rattle.well_typed.specs.Places.{Context}
use Rattle.soundness_values.proofs.Leaving.{Shown, ShownOut, shown_more, Among}
use Rattle.soundness_cells.proofs.PassClear.{KeepsClear, any, Nothing, MovedByAny, operands_of, StoredAt, ShownChoice, Changes, tested_by as effects_tested}
use Rattle.soundness_cells.proofs.PassRules as rules
use Rattle.soundness_cells.proofs.PassScopes as scopes
use Rattle.soundness_cells.proofs.PassScopes.{entries_of, Other, seq}
use Rattle.soundness_cells.proofs.PassSteps as steps

module _ {V : Type 0} (items : ItemTable) (needs : ℕ → Bool) (q : Effects V) (clear : V → ℕ → Type 0)
    (keeps : KeepsClear q needs clear) where
  abbrev Held : (ℕ → Type 0) → List Entry → V → Type 0
  Held = scopes.Held items needs q clear keeps

  abbrev After : Context → LoopsAndGuards → (ℕ → Type 0) → (Scopes → Type 0) → Exit → Scopes → V → Type 0
  After = scopes.After items needs q clear keeps

  abbrev AroundOk : Context → LoopsAndGuards → Scopes → Type 0
  AroundOk = scopes.AroundOk items needs

  abbrev Inside : Bool → Scopes → Scopes → Type 0
  Inside = scopes.Inside items needs

  abbrev Grown : Bool → Scopes → Scopes → Type 0
  Grown = scopes.Grown items needs

  abbrev Grows : Scopes → Scopes → Type 0
  Grows = scopes.Grows items needs

  abbrev Lands : Scopes → ℕ → Type 0
  Lands = scopes.Lands items needs

  abbrev Typed : Entry → Type 0
  Typed = scopes.Typed items needs

  abbrev Suits : TyId → Destination → Type 0
  Suits = scopes.Suits items needs

  abbrev Sound : Context → Meaning V → Type 0
  Sound = rules.Sound items needs q clear keeps

  abbrev DoesSo : Context → LoopsAndGuards → (ℕ → Type 0) → Does V → Type 0
  DoesSo = steps.DoesSo items needs q clear keeps

  -- ---- the tests of a pattern

  abbrev Kept : V → V → Type 0
  Kept v w = (key : ℕ) → clear v key → clear w key

  abbrev pub TestedSo : V → Choice V → Type 0
  TestedSo v o = ShownChoice (Kept v) (Kept v) o

  tested_after : (v w : V) → Kept v w → (o : Choice V) → TestedSo w o → TestedSo v o
  tested_after v w k (Yes u) h = λ key c. h key (k key c)
  tested_after v w k (No u) h = λ key c. h key (k key c)
  tested_after v w k (Neither halt u) h = tt

  tests_so : (v : V) (o : Choice V) (rest : V → Choice V) → TestedSo v o → ((w : V) → TestedSo w (rest w)) →
      TestedSo v (forms.tests_after items q o rest)
  tests_so v (Yes w) rest h f = tested_after v w h (rest w) (f w)
  tests_so v (No w) rest h f = h
  tests_so v (Neither halt w) rest h f = tt

  alternatives_so : (v : V) (o : Choice V) (rest : V → Choice V) → TestedSo v o → ((w : V) → TestedSo w (rest w)) →
      TestedSo v (forms.alternatives_after items q o rest)
  alternatives_so v (Yes w) rest h f = h
  alternatives_so v (No w) rest h f = tested_after v w h (rest w) (f w)
  alternatives_so v (Neither halt w) rest h f = tt

  -- what is compared stands in the cell of the test, and is taken out of it
  equals_so : (site : EffectSite) (value : Operand) (v : V) → ((key : ℕ) → MovedByAny (value ∷ []) key → ⊥) →
      TestedSo v (forms.equals items q site value v)
  equals_so site value v none = by (q.act compare v) (keeps.acts compare v)
    where
      compare : Action
      compare = effects.Compare (site_of_key site.node) Cmp.Eq (Copied site) value

      test : effects.Test
      test = effects.IsTrue (moved site.node site.node)

      through : (w u : V) → Changes clear (MovedByAny (operands_of compare)) (StoredAt (stored_by compare)) v w →
          Changes clear (MovedByAny (moved site.node site.node ∷ [])) Nothing w u → Kept v u
      through w u f g key c = second (f key (inl c))
        where
          last : clear u key ⊎ ⊥ → clear u key
          last (inl x) = x
          last (inr n) = absurd n

          second : clear w key ⊎ (whole_local site.node ≡ whole_local key) → clear u key
          second (inl x) = last (g key (inl x))
          second (inr e) = last (g key (inr (inl e)))

      chosen_by : (w : V) → Changes clear (MovedByAny (operands_of compare)) (StoredAt (stored_by compare)) v w →
          (o : Choice V) → ShownChoice (Changes clear (MovedByAny (moved site.node site.node ∷ [])) Nothing w)
          (Changes clear (MovedByAny (moved site.node site.node ∷ [])) Nothing w) o → TestedSo v o
      chosen_by w f (Yes u) g = through w u f g
      chosen_by w f (No u) g = through w u f g
      chosen_by w f (Neither halt u) g = tt

      by : (o : Out V) → ShownOut any (Changes clear (MovedByAny (operands_of compare)) (StoredAt (stored_by compare)) v)
          (Changes clear (MovedByAny (operands_of compare)) Nothing v) o →
          TestedSo v (forms.tested items q o (moved site.node site.node))
      by (Go w) f = chosen_by w f (q.choose test w) (keeps.chooses test w)
      by (Unwind w) f = tt
      by (Halts halt w) f = tt

  no_operand : (key : ℕ) → ⊥ ⊎ ⊥ → ⊥
  no_operand key (inl n) = n
  no_operand key (inr n) = n

  of_test : (test : effects.Test) (v : V) → ((key : ℕ) → MovedByAny (effects_tested test) key → ⊥) →
      TestedSo v (q.choose test v)
  of_test test v none = by (q.choose test v) (keeps.chooses test v)
    where
      fewer : (w : V) → Changes clear (MovedByAny (effects_tested test)) Nothing v w → Kept v w
      fewer w f key c = last (f key (inl c))
        where
          last : clear w key ⊎ ⊥ → clear w key
          last (inl x) = x
          last (inr n) = absurd n

      by : (o : Choice V) → ShownChoice (Changes clear (MovedByAny (effects_tested test)) Nothing v)
          (Changes clear (MovedByAny (effects_tested test)) Nothing v) o → TestedSo v o
      by (Yes w) f = fewer w f
      by (No w) f = fewer w f
      by (Neither halt w) f = tt

  mutual
    holds_so : (test : PatternTest) (v : V) → TestedSo v (forms.holds items q test v)
    holds_so (IsVariant site variant) v = of_test (effects.HasVariant site variant) v (λ key n. n)
    holds_so (IsNumber site value kind) v = equals_so site (effects.Number value kind) v no_operand
    holds_so (IsTruth site value) v = equals_so site (effects.Truth value) v no_operand
    holds_so (AnyOf alternatives) v = any_so alternatives v

    pub all_so : (tests : PatternTests) (v : V) → TestedSo v (forms.all_hold items q tests v)
    all_so no_test v = λ key c. c
    all_so (a_test first rest) v =
        tests_so v (forms.holds items q first v) (forms.all_hold items q rest) (holds_so first v) (λ w. all_so rest w)

    any_so : (alternatives : Alternatives) (v : V) → TestedSo v (forms.any_holds items q alternatives v)
    any_so no_alternative v = λ key c. c
    any_so (an_alternative tests rest) v =
        alternatives_so v (forms.all_hold items q tests v) (forms.any_holds items q rest) (all_so tests v)
        (λ w. any_so rest w)

  -- ---- the names of a pattern

  -- at a value some of the entries have these keys
  abbrev pub NamedIn : (Scopes → List Entry) → Exit → (ℕ → Type 0) → Scopes → Type 0
  NamedIn seen Value known S = (key : ℕ) → known key → Among (seen S) key
  NamedIn seen (Breaks loop) known S = Unit {0}
  NamedIn seen (Continues loop) known S = Unit {0}
  NamedIn seen Returns known S = Unit {0}
  NamedIn seen Panics known S = Unit {0}

  pub other_in : (seen : Scopes → List Entry) (exit : Exit) (known : ℕ → Type 0) (S : Scopes) → Other exit →
      NamedIn seen exit known S
  other_in seen Value known S o = absurd o
  other_in seen (Breaks loop) known S o = tt
  other_in seen (Continues loop) known S o = tt
  other_in seen Returns known S o = tt
  other_in seen Panics known S o = tt

  abbrev pub Wide : (Scopes → List Entry) → Scopes → Entry → Scopes → Type 0
  Wide seen S e T = (key : ℕ) → Among (seen S) key ⊎ (e.key ≡ key) → Among (seen T) key

  -- a new entry of some scope stands among the entries, and among those that are seen
  abbrev pub Enters : (Scopes → Type 0) → (Scopes → List Entry) → ((Scope → Scope) → Scopes → Scopes) → Type 0
  Enters grown seen in_that = (e : Entry) (S : Scopes) → Typed e → grown S →
      grown (in_that (with_entry e) S)
      × (Wide entries_of S e (in_that (with_entry e) S) × Wide seen S e (in_that (with_entry e) S))

  abbrev pub AllBound : List BoundName → Type 0
  AllBound [] = Unit {0}
  AllBound (b ∷ bounds) = Typed (bound_entry b) × AllBound bounds

  abbrev pub BoundIn : List BoundName → ℕ → Type 0
  BoundIn [] key = ⊥
  BoundIn (b ∷ bounds) key = (b.key ≡ key) ⊎ BoundIn bounds key

  abbrev pub Bound : Context → LoopsAndGuards → (Scopes → Type 0) → (Scopes → List Entry) → (ℕ → Type 0) → Exit → Scopes → V →
      Type 0
  Bound c around grown seen known exit S v = After c around Nothing grown exit S v × NamedIn seen exit known S

  module _ (c : Context) (around : LoopsAndGuards) (grown : Scopes → Type 0) (seen : Scopes → List Entry)
      (in_that : (Scope → Scope) → Scopes → Scopes) (enters : Enters grown seen in_that) where
    -- what is in flight becomes an entry
    pub entered_so : (e : Entry) (known : ℕ → Type 0) (S : Scopes) (v : V) → Typed e → grown S →
        ((key : ℕ) → known key → Among (seen S) key) → Held (λ key. key ≡ e.key) (entries_of S) v →
        Bound c around grown seen (λ key. known key ⊎ (e.key ≡ key)) Value (in_that (with_entry e) S) v
    entered_so e known S v t g names h =
        let x = enters e S t g in
        ((x.0, λ key. held key x.1.0 (h key)), λ key k. named key x.1.1 k)
      where
        held : (key : ℕ) → Wide entries_of S e (in_that (with_entry e) S) →
            clear v key ⊎ (Among (entries_of S) key ⊎ (key ≡ e.key)) →
            clear v key ⊎ (Among (entries_of (in_that (with_entry e) S)) key ⊎ ⊥)
        held key f (inl y) = inl y
        held key f (inr (inl a)) = inr (inl (f key (inl a)))
        held key f (inr (inr same)) = inr (inl (f key (inr (sym same))))

        named : (key : ℕ) → Wide seen S e (in_that (with_entry e) S) → known key ⊎ (e.key ≡ key) →
            Among (seen (in_that (with_entry e) S)) key
        named key f (inl k) = f key (inl (names key k))
        named key f (inr same) = f key (inr same)

    pub bind_so : (bounds : List BoundName) (known : ℕ → Type 0) (S : Scopes) (v : V) → AllBound bounds → grown S →
        ((key : ℕ) → known key → Among (seen S) key) → Held Nothing (entries_of S) v →
        Shown any (Bound c around grown seen (λ key. known key ⊎ BoundIn bounds key)) (forms.bind items q in_that bounds S v)
    bind_so [] known S v t g names h = ((g, h), λ key k. only key k)
      where
        only : (key : ℕ) → known key ⊎ ⊥ → Among (seen S) key
        only key (inl k) = names key k
        only key (inr n) = absurd n
    bind_so (b ∷ bounds) known S v t g names h = seq
        (λ exit T u. After c around (λ key. key ≡ b.key) grown exit T u × NamedIn seen exit known T)
        (Bound c around grown seen (λ key. known key ⊎ BoundIn (b ∷ bounds) key))
        (forms.acts items q put S v) (λ T u. forms.bind items q in_that bounds (in_that (with_entry (bound_entry b)) T) u)
        (put_so (q.act put v) (scopes.acts_so items needs q clear keeps c around (λ T. grown T × (T ≡ S)) S (g, refl) put Nothing
        (λ key. key ≡ b.key) v (λ key n. absurd n) (λ key e. sym (ap (λ p. p.local) e)) h))
        (λ T u x. let y = entered_so (bound_entry b) known T u t.0 x.0.0 x.1 x.0.1 in
        after T u (bind_so bounds (λ key. known key ⊎ (b.key ≡ key)) (in_that (with_entry (bound_entry b)) T) u t.1 y.0.0
        y.1 y.0.1))
        (λ exit T u o x. (
          (
            x.0.0,
            scopes.other_held items needs q clear keeps c around (λ key. key ≡ b.key) Nothing exit T u
                o x.0.1,
          ),
          other_in seen exit (λ key. known key ⊎ BoundIn (b ∷ bounds) key) T o,
        ))
      where
        put : Action
        put = effects.Put (site_of_key b.key) (operand_of_bound b)

        put_so : (o : Out V) →
            Shown any (After c around (λ key. key ≡ b.key) (λ T. grown T × (T ≡ S))) (in_scopes S o) →
            Shown any (λ exit T u. After c around (λ key. key ≡ b.key) grown exit T u × NamedIn seen exit known T)
            (in_scopes S o)
        put_so (Go w) x = ((x.0.0, x.1), names)
        put_so (Unwind w) x = ((x.0.0, x.1), tt)
        put_so (Halts halt w) x = tt

        fewer : (exit : Exit) (T : Scopes) → NamedIn seen exit (λ key. (known key ⊎ (b.key ≡ key)) ⊎ BoundIn bounds key) T →
            NamedIn seen exit (λ key. known key ⊎ BoundIn (b ∷ bounds) key) T
        fewer Value T f = λ key k. f key (back key k)
          where
            back : (key : ℕ) → known key ⊎ ((b.key ≡ key) ⊎ BoundIn bounds key) →
                (known key ⊎ (b.key ≡ key)) ⊎ BoundIn bounds key
            back key (inl k) = inl (inl k)
            back key (inr (inl k)) = inl (inr k)
            back key (inr (inr k)) = inr k
        fewer (Breaks loop) T f = tt
        fewer (Continues loop) T f = tt
        fewer Returns T f = tt
        fewer Panics T f = tt

        after : (T : Scopes) (u : V) →
            Shown any (Bound c around grown seen (λ key. (known key ⊎ (b.key ≡ key)) ⊎ BoundIn bounds key))
            (forms.bind items q in_that bounds (in_that (with_entry (bound_entry b)) T) u) →
            Shown any (Bound c around grown seen (λ key. known key ⊎ BoundIn (b ∷ bounds) key))
            (forms.bind items q in_that bounds (in_that (with_entry (bound_entry b)) T) u)
        after T u x = shown_more any (λ exit Z z k. (k.0, fewer exit Z k.1))
            (forms.bind items q in_that bounds (in_that (with_entry (bound_entry b)) T) u) x
