-- What is free stays free, by the rules of conditions, patterns, `if let` and arms.
use Rattle.std.proofs.Common.{◌≡◌, ◌⊎◌, inl, inr, ℕ, Bool, true, false, List, [], ◌∷◌, ◌++◌, Option, Some, None, refl, ap, sym, ◌∙◌, subst}
use Rattle.mir_base.specs.declared.operator.Cmp.{Cmp}
use Rattle.mir_base.specs.declared.trace.Why.{Why}
use Rattle.mir_ty.specs.declared.ty.TyId.{TyId}
use Rattle.mir_ty.specs.ItemTable.{ItemTable}
use Rattle.store_model.specs.Effects as effects
use Rattle.store_model.specs.Effects.{EffectSite, Operand, Copied, Action, Test, Halt, Out, Go, Unwind, Halts, Choice, Yes, No, Neither, Effects, stored_by}
use Rattle.store_model.specs.Places.Place.{Place, whole_local}
use Rattle.typed_tree.specs.Tree.{Node}
use Rattle.src_meaning.specs.Forms as forms
use Rattle.src_meaning.specs.Forms.{Destination, Into, LoopsAndGuards, Meaning, bound_entry, site_of_key, moved, site_of, place_of, in_guard}
use Rattle.src_meaning.specs.Scopes as source
use Rattle.src_meaning.specs.Scopes.{Entry, Scope, Scopes, with_scope, innermost, with_entry, Exit, Value, Breaks, Continues, Returns, Panics, Run, At, Over, Does, on_value, in_scopes, leave, choosing, chosen, leaving, then_or_leave}
use Rattle.src_meaning.specs.Shape.{NodeHead, operand_of_bound, BoundName, PatternTest, IsVariant, IsNumber, IsTruth, AnyOf, PatternTests, no_test, a_test, Alternatives, no_alternative, an_alternative}
use Rattle.well_typed.specs.Places.{Context}
use Rattle.soundness_values.proofs.Leaving.{Shown, ShownOut, shown_more, Among}
use Rattle.soundness_cells.proofs.PassClear.{KeepsClear, any, Nothing, Changes, ShownChoice, MovedByAny, operands_of, tested_by, StoredAt}
use Rattle.soundness_cells.proofs.PassFree.{Always, Never, FindsNothing, DestKey, Fills, Ext, Top, ext_same, ext_then, top_then, AroundOk, around_ext, around_top, Enters}
use Rattle.soundness_cells.proofs.PassFreeRules as rules
use Rattle.soundness_cells.proofs.PassKept.{Answered}
use Rattle.soundness_cells.proofs.PassNumbers.{Numbered, Rises, numbered_left, numbered_right, rises_apart, rises_left, rises_right}
use Rattle.soundness_cells.proofs.PassScopes.{entries_of, Other}
use Rattle.soundness_cells.proofs.PassWell.{Chosen}

-- the cells in which tests of literals stand
abbrev mutual
  pub TestKey : PatternTest → ℕ → Type 0
  TestKey (IsVariant site variant) z = ⊥
  TestKey (IsNumber site value kind) z = site.node ≡ z
  TestKey (IsTruth site value) z = site.node ≡ z
  TestKey (AnyOf alternatives) z = AnyKey alternatives z

  pub TestsKey : PatternTests → ℕ → Type 0
  TestsKey no_test z = ⊥
  TestsKey (a_test first rest) z = TestKey first z ⊎ TestsKey rest z

  pub AnyKey : Alternatives → ℕ → Type 0
  AnyKey no_alternative z = ⊥
  AnyKey (an_alternative tests rest) z = TestsKey tests z ⊎ AnyKey rest z

-- the names of a pattern, of which no two have one key
abbrev pub BoundKey : List BoundName → ℕ → Type 0
BoundKey [] z = ⊥
BoundKey (b ∷ bounds) z = (b.key ≡ z) ⊎ BoundKey bounds z

abbrev pub DistinctNames : List BoundName → Type 0
DistinctNames [] = Unit {0}
DistinctNames (b ∷ bounds) = (BoundKey bounds b.key → ⊥) × DistinctNames bounds

module _ {V : Type 0} (items : ItemTable) (needs : ℕ → Bool) (q : Effects V) (clear : V → ℕ → Type 0)
    (keeps : KeepsClear q needs clear) (over : Halt → V → Type 0) (waits : EffectSite → V → Type 0)
    (first : FindsNothing q over needs clear waits) where
  abbrev Free : V → Scopes → ℕ → Type 0
  Free = rules.Free items needs q clear keeps over waits first

  abbrev Post : LoopsAndGuards → (ℕ → Type 0) → List Node → Scopes → V → (Exit → Scopes → Type 0) → Exit → Scopes →
      V → Type 0
  Post = rules.Post items needs q clear keeps over waits first

  abbrev Extends : Scopes → Exit → Scopes → Type 0
  Extends = rules.Extends items needs q clear keeps over waits first

  abbrev OnTop : Scopes → Exit → Scopes → Type 0
  OnTop = rules.OnTop items needs q clear keeps over waits first

  abbrev Ready : Context → LoopsAndGuards → List Node → Scopes → V → Type 0
  Ready = rules.Ready items needs q clear keeps over waits first

  abbrev DestOk : ℕ → List Node → Destination → Scopes → V → Type 0
  DestOk = rules.DestOk items needs q clear keeps over waits first

  abbrev FreeM : Context → Meaning V → List Node → Type 0
  FreeM = rules.FreeM items needs q clear keeps over waits first

  -- ---- conditions

  abbrev pub Kept : V → V → Type 0
  Kept v w = (z : ℕ) → clear v z → clear w z

  pub chooses_so : (test : Test) (v : V) → Answered over (Kept v) (q.choose test v)
  chooses_so test v = by (q.choose test v) (first.chooses test v) (keeps.chooses test v)
    where
      kept : (w : V) → Changes clear (MovedByAny (tested_by test)) Nothing v w → Kept v w
      kept w f z c = last (f z (inl c))
        where
          last : clear w z ⊎ ⊥ → clear w z
          last (inl x) = x
          last (inr n) = absurd n

      by : (o : Choice V) → Chosen over o → ShownChoice (Changes clear (MovedByAny (tested_by test)) Nothing v)
          (Changes clear (MovedByAny (tested_by test)) Nothing v) o → Answered over (Kept v) o
      by (Yes w) h k = kept w k
      by (No w) h k = kept w k
      by (Neither halt w) h k = h

  pub alone_free : (c : Context) (around : LoopsAndGuards) (m : Meaning V) (to : Destination) (ms : List Node) →
      FreeM c m ms → (S : Scopes) (v : V) → Ready c around ms S v → DestOk m.head.id ms to S v →
      Shown over (Post around (DestKey to) ms S v (Extends S)) (forms.alone items q around m to S v)
  alone_free c around m to ms f S v r d = rules.back_free items needs q clear keeps over waits first around (DestKey to)
      ms S v (m.evaluate around true to S v) (f.evaluates around true to S v r d)

  -- what follows these nodes
  abbrev pub Follows : LoopsAndGuards → (ℕ → Type 0) → List Node → List Node → (Exit → Scopes → Type 0) → Scopes → V →
      (Scopes → Type 0) → Does V → Type 0
  Follows around fl done ns ext S v known does = (T : Scopes) (w : V) → known T →
      ((z : ℕ) → Free v S z → (Numbered done z → ⊥) → Free w T z) →
      Shown over (Post around fl ns T w ext) (does T w)

  pub chosen_free : (around : LoopsAndGuards) (fl : ℕ → Type 0) (ns : List Node) (ext : Exit → Scopes → Type 0)
      (S : Scopes) (v : V) (o : Choice V) (f g : Does V) → Answered over (Kept v) o →
      ((w : V) → Kept v w → Shown over (Post around fl ns S w ext) (f S w)) →
      ((w : V) → Kept v w → Shown over (Post around fl ns S w ext) (g S w)) →
      Shown over (Post around fl ns S v ext) (chosen o (f S) (g S))
  chosen_free around fl ns ext S v (Yes w) f g h a b = shown_more over
      (λ exit T u p. (p.0, λ z fr n m. p.1 z (h z fr.0, fr.1) n m)) (f S w) (a w h)
  chosen_free around fl ns ext S v (No w) f g h a b = shown_more over
      (λ exit T u p. (p.0, λ z fr n m. p.1 z (h z fr.0, fr.1) n m)) (g S w) (b w h)
  chosen_free around fl ns ext S v (Neither halt w) f g h a b = h

  pub condition_free : (c : Context) (around : LoopsAndGuards) (m : Meaning V) (f g : Does V) (fl : ℕ → Type 0)
      (ms ns : List Node) → FreeM c m ms → ((z : ℕ) → Numbered ms z → Numbered ns z) → (S : Scopes) (v : V) →
      Ready c around ms S v → Follows around fl ms ns (Extends S) S v (Ext S) f →
      Follows around fl ms ns (Extends S) S v (Ext S) g →
      Shown over (Post around fl ns S v (Extends S)) (forms.condition items q around m f g S v)
  condition_free c around m f g fl ms ns k inside S v r a b =
      rules.then_free items needs q clear keeps over waits first around (DestKey (Into m.head.id)) fl ms ns (Extends S)
      (Extends S) S v (forms.alone items q around m (Into m.head.id) S v) (choosing (q.choose test) f g)
      (alone_free c around m (Into m.head.id) ms k S v r
      (rules.own_dest items needs q clear keeps over waits first c around m ms S v k.own r)) inside
      (λ z e. inside z (own z e)) (λ exit T o x. x)
      (λ T w x h. chosen_free around fl ns (Extends S) T w (q.choose test w) f g (chooses_so test w)
      (λ u j. a T u x (λ z fr n. let y = h z fr n (λ e. n (own z e)) in (j z y.0, y.1)))
      (λ u j. b T u x (λ z fr n. let y = h z fr n (λ e. n (own z e)) in (j z y.0, y.1))))
    where
      test : Test
      test = effects.IsTrue (moved m.head.id m.head.id)

      own : (z : ℕ) → m.head.id ≡ z → Numbered ms z
      own z e = subst (Numbered ms) e k.own

  -- ---- tests of patterns

  equals_free : (site : EffectSite) (value : Operand) (v : V) → clear v site.node →
      Answered over (Kept v) (forms.equals items q site value v)
  equals_free site value v c = by (q.act compare v)
      (rules.both_out items needs q clear keeps over waits first _ _ _ _ (q.act compare v)
      (first.compares (site_of_key site.node) Cmp.Eq (Copied site) value v
      (λ z s. subst (clear v) (ap (λ p. p.local) s) c)) (keeps.acts compare v))
    where
      compare : Action
      compare = effects.Compare (site_of_key site.node) Cmp.Eq (Copied site) value

      test : Test
      test = effects.IsTrue (moved site.node site.node)

      through : (w u : V) → Changes clear (MovedByAny (operands_of compare)) (StoredAt (stored_by compare)) v w →
          Changes clear (MovedByAny (moved site.node site.node ∷ [])) Nothing w u → Kept v u
      through w u f g key c = second (f key (inl c))
        where
          last : clear u key ⊎ ⊥ → clear u key
          last (inl x) = x
          last (inr n) = absurd n

          second : clear w key ⊎ (whole_local site.node ≡ whole_local key) → clear u key
          second (inl x) = last (g key (inl x))
          second (inr e) = last (g key (inr (inl e)))

      chosen_by : (w : V) → Changes clear (MovedByAny (operands_of compare)) (StoredAt (stored_by compare)) v w →
          (o : Choice V) → Chosen over o →
          ShownChoice (Changes clear (MovedByAny (moved site.node site.node ∷ [])) Nothing w)
          (Changes clear (MovedByAny (moved site.node site.node ∷ [])) Nothing w) o → Answered over (Kept v) o
      chosen_by w f (Yes u) h g = through w u f g
      chosen_by w f (No u) h g = through w u f g
      chosen_by w f (Neither halt u) h g = h

      by : (o : Out V) → ShownOut over
          (λ w. Always w × Changes clear (MovedByAny (operands_of compare)) (StoredAt (stored_by compare)) v w)
          (λ w. Never w × Changes clear (MovedByAny (operands_of compare)) Nothing v w) o →
          Answered over (Kept v) (forms.tested items q o (moved site.node site.node))
      by (Go w) f = chosen_by w f.1 (q.choose test w) (first.chooses test w) (keeps.chooses test w)
      by (Unwind w) f = absurd f.0
      by (Halts halt w) f = f

  kept_more : (v w : V) (o : Choice V) → Kept v w → Answered over (Kept w) o → Answered over (Kept v) o
  kept_more v w (Yes u) k h = λ z c. h z (k z c)
  kept_more v w (No u) k h = λ z c. h z (k z c)
  kept_more v w (Neither halt u) k h = h

  after_tests : (v : V) (o : Choice V) (rest : V → Choice V) → Answered over (Kept v) o →
      ((w : V) → Kept v w → Answered over (Kept w) (rest w)) → Answered over (Kept v) (forms.tests_after items q o rest)
  after_tests v (Yes w) rest h f = kept_more v w (rest w) h (f w h)
  after_tests v (No w) rest h f = h
  after_tests v (Neither halt w) rest h f = h

  after_alternatives : (v : V) (o : Choice V) (rest : V → Choice V) → Answered over (Kept v) o →
      ((w : V) → Kept v w → Answered over (Kept w) (rest w)) →
      Answered over (Kept v) (forms.alternatives_after items q o rest)
  after_alternatives v (Yes w) rest h f = h
  after_alternatives v (No w) rest h f = kept_more v w (rest w) h (f w h)
  after_alternatives v (Neither halt w) rest h f = h

  mutual
    holds_free : (test : PatternTest) (v : V) → ((z : ℕ) → TestKey test z → clear v z) →
        Answered over (Kept v) (forms.holds items q test v)
    holds_free (IsVariant site variant) v h = chooses_so (effects.HasVariant site variant) v
    holds_free (IsNumber site value kind) v h = equals_free site (effects.Number value kind) v (h site.node refl)
    holds_free (IsTruth site value) v h = equals_free site (effects.Truth value) v (h site.node refl)
    holds_free (AnyOf alternatives) v h = any_free alternatives v h

    pub all_free : (tests : PatternTests) (v : V) → ((z : ℕ) → TestsKey tests z → clear v z) →
        Answered over (Kept v) (forms.all_hold items q tests v)
    all_free no_test v h = λ z c. c
    all_free (a_test test rest) v h = after_tests v (forms.holds items q test v) (forms.all_hold items q rest)
        (holds_free test v (λ z k. h z (inl k))) (λ w g. all_free rest w (λ z k. g z (h z (inr k))))

    any_free : (alternatives : Alternatives) (v : V) → ((z : ℕ) → AnyKey alternatives z → clear v z) →
        Answered over (Kept v) (forms.any_holds items q alternatives v)
    any_free no_alternative v h = λ z c. c
    any_free (an_alternative tests rest) v h = after_alternatives v (forms.all_hold items q tests v)
        (forms.any_holds items q rest) (all_free tests v (λ z k. h z (inl k)))
        (λ w g. any_free rest w (λ z k. g z (h z (inr k))))

  -- ---- names of patterns

  -- a change of scopes that enters a name, where they are deep enough
  pub record Binds (in_that : (Scope → Scope) → Scopes → Scopes) (deep : Scopes → Type 0)
      (seen : Scopes → List Entry) : Type 0 where
    pub enters : (e : Entry) (S : Scopes) → Enters e.key S (in_that (with_entry e) S)
    pub among : (e : Entry) (S : Scopes) → deep S → Among (seen (in_that (with_entry e) S)) e.key
    pub kept : (S T : Scopes) → Ext S T → (z : ℕ) → Among (seen S) z → Among (seen T) z
    pub deeper : (S T : Scopes) → Ext S T → deep S → deep T

  abbrev pub Bound : (Scopes → List Entry) → Scopes → List BoundName → Exit → Scopes → Type 0
  Bound seen S bounds Value T = Ext S T × ((z : ℕ) → BoundKey bounds z → Among (seen T) z)
  Bound seen S bounds (Breaks loop) T = Ext S T
  Bound seen S bounds (Continues loop) T = Ext S T
  Bound seen S bounds Returns T = Ext S T
  Bound seen S bounds Panics T = Ext S T

  pub bind_free : (around : LoopsAndGuards) (in_that : (Scope → Scope) → Scopes → Scopes) (deep : Scopes → Type 0)
      (seen : Scopes → List Entry) → Binds in_that deep seen → (ns : List Node) (bounds : List BoundName) →
      DistinctNames bounds →
      ((z : ℕ) → BoundKey bounds z → Numbered ns z) → (S : Scopes) (v : V) → deep S →
      ((z : ℕ) → BoundKey bounds z → Free v S z) →
      Shown over (Post around Nothing ns S v (Bound seen S bounds)) (forms.bind items q in_that bounds S v)
  bind_free around in_that deep seen x ns [] d inside S v deep_enough free =
      ((ext_same S, λ z n. absurd n), λ z f n m. f)
  bind_free around in_that deep seen x ns (b ∷ bounds) d inside S v deep_enough free = by (q.act put v)
      (rules.acts_so items needs q clear keeps over waits first put v
      (first.acts put v (λ z s. (free z (inl (ap (λ p. p.local) s))).0)))
      (λ T w e g. bind_free around in_that deep seen x ns bounds d.1 (λ z k. inside z (inr k)) T w
      (x.deeper S T e deep_enough) g)
    where
      put : Action
      put = effects.Put (site_of_key b.key) (operand_of_bound b)

      T : Scopes
      T = in_that (with_entry (bound_entry b)) S

      enters : Enters b.key S (in_that (with_entry (bound_entry b)) S)
      enters = x.enters (bound_entry b) S

      Rest : Scopes → V → Type 0
      Rest T w = Shown over (Post around Nothing ns T w (Bound seen T bounds)) (forms.bind items q in_that bounds T w)

      other_name : (z : ℕ) → BoundKey bounds z → b.key ≡ z → ⊥
      other_name z k e = d.0 (subst (BoundKey bounds) (sym e) k)

      still : (w : V) → ((z : ℕ) → clear v z → (StoredAt (Some (site_of_key b.key)) z → ⊥) → clear w z) → (z : ℕ) →
          Free v S z → (b.key ≡ z → ⊥) → Free w (in_that (with_entry (bound_entry b)) S) z
      still w h z f n = rules.entered_free items needs q clear keeps over waits first b.key S
          (in_that (with_entry (bound_entry b)) S) w enters z n
          (h z f.0 (λ s. n (ap (λ p. p.local) s)), f.1)

      named : (U : Scopes) → Ext (in_that (with_entry (bound_entry b)) S) U → (z : ℕ) →
          ((z : ℕ) → BoundKey bounds z → Among (seen U) z) → (b.key ≡ z) ⊎ BoundKey bounds z → Among (seen U) z
      named U e z f (inl same) = x.kept (in_that (with_entry (bound_entry b)) S) U e z
          (subst (Among (seen (in_that (with_entry (bound_entry b)) S))) same (x.among (bound_entry b) S deep_enough))
      named U e z f (inr k) = f z k

      bound : (exit : Exit) (U : Scopes) → Bound seen (in_that (with_entry (bound_entry b)) S) bounds exit U →
          Bound seen S (b ∷ bounds) exit U
      bound Value U k = (
        ext_then S (in_that (with_entry (bound_entry b)) S) U enters.ext k.0,
        λ z i. named U k.0 z k.1
            i,
      )
      bound (Breaks loop) U k = ext_then S (in_that (with_entry (bound_entry b)) S) U enters.ext k
      bound (Continues loop) U k = ext_then S (in_that (with_entry (bound_entry b)) S) U enters.ext k
      bound Returns U k = ext_then S (in_that (with_entry (bound_entry b)) S) U enters.ext k
      bound Panics U k = ext_then S (in_that (with_entry (bound_entry b)) S) U enters.ext k

      by : (o : Out V) → rules.ActsSo items needs q clear keeps over waits first put v o →
          ((T : Scopes) (w : V) → Ext S T → ((z : ℕ) → BoundKey bounds z → Free w T z) → Rest T w) →
          Shown over (Post around Nothing ns S v (Bound seen S (b ∷ bounds)))
          (on_value (in_scopes S o) (λ T w. forms.bind items q in_that bounds (in_that (with_entry (bound_entry b)) T)
          w))
      by (Go w) h later = shown_more over
          (λ exit U u p. (bound exit U p.0, λ z f n m. p.1 z (still w h z f (λ e. n (inside z (inl e)))) n m))
          (forms.bind items q in_that bounds (in_that (with_entry (bound_entry b)) S) w)
          (later (in_that (with_entry (bound_entry b)) S) w enters.ext
          (λ z k. still w h z (free z (inr k)) (other_name z k)))
      by (Unwind w) h later = (ext_same S, λ z f n m. absurd (m tt))
      by (Halts halt w) h later = h
