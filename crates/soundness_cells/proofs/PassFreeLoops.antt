-- What is free stays free, by the rules of loops and jumps: the cells of the nodes inside a loop hold nothing where a
-- turn begins.
use Rattle.std.proofs.Common.{◌≡◌, ◌⊎◌, inl, inr, ℕ, zero, suc, ◌==◌, if◌then◌else◌, Bool, true, false, List, [], ◌∷◌, ◌++◌, Option, Some, None, refl, ap, sym, ◌∙◌, subst}
use Rattle.std.proofs.lemmas.Bool.{false≢true}
use Rattle.std.proofs.lemmas.Bool.Decides.{Decides-eqb}
use Rattle.mir_base.specs.declared.operator.Cmp.{Cmp}
use Rattle.mir_base.specs.declared.trace.Why.{Why}
use Rattle.mir_ty.specs.declared.ty.TyId.{TyId}
use Rattle.mir_ty.specs.Facts.{needs_drop}
use Rattle.mir_ty.specs.ItemTable.{ItemTable}
use Rattle.store_model.specs.Effects as effects
use Rattle.store_model.specs.Effects.{EffectSite, Operand, Copied, Action, Test, Normal, Halt, Out, Go, Unwind, Halts, Choice, Yes, No, Neither, Effects, stored_by}
use Rattle.store_model.specs.Places.Place.{Place, whole_local}
use Rattle.typed_tree.specs.Tree.{Node}
use Rattle.src_meaning.specs.Forms as forms
use Rattle.src_meaning.specs.Forms.{Destination, Into, LoopsAndGuards, in_loop, loop_destination, Meaning, entry_of, bound_entry, changed_if, site_of_key, moved, site_of, place_of, in_guard}
use Rattle.src_meaning.specs.Scopes as source
use Rattle.src_meaning.specs.Scopes.{Entry, Scope, Scopes, with_scope, innermost, with_entry, with_pending, without_pending, becomes_entry, Exit, Value, Breaks, Continues, Returns, Panics, Run, At, Over, Does, on_value, in_scopes, leave, choosing, chosen, leaving, then_or_leave}
use Rattle.src_meaning.specs.Shape.{NodeHead, operand_of_bound, BoundName, PatternTest, IsVariant, IsNumber, IsTruth, AnyOf, PatternTests, no_test, a_test, Alternatives, no_alternative, an_alternative}
use Rattle.well_typed.specs.Places.{Context}
use Rattle.soundness_values.proofs.Leaving.{Shown, ShownOut, shown_more, Among, among_right}
use Rattle.soundness_cells.proofs.PassClear.{KeepsClear, any, Nothing, Changes, ShownChoice, MovedByAny, operands_of, tested_by, StoredAt}
use Rattle.soundness_cells.proofs.PassFree.{Deep, Deeper, outer_entries, around_enters, completes, unpends, two_enter, Always, Never, FindsNothing, DestKey, Fills, Ext, Top, ext_same, ext_then, top_then, ext_entries, innermost_enters, enters, AroundOk, around_ext, around_top, Enters}
use Rattle.soundness_cells.proofs.PassFreeChoices as choices
use Rattle.soundness_cells.proofs.PassFreeChoices.{TestsKey, BoundKey, DistinctNames}
use Rattle.soundness_cells.proofs.PassFreeOperands as operands
use Rattle.soundness_cells.proofs.PassFreeRules as rules
use Rattle.soundness_cells.proofs.PassKept.{Answered}
use Rattle.soundness_cells.proofs.PassNumbers.{Numbered, Rises, numbered_left, numbered_right, rises_apart, rises_left, rises_right}
use Rattle.soundness_cells.proofs.PassScopes as scopes
use Rattle.soundness_cells.proofs.PassScopes.{entries_of, Other}
use Rattle.soundness_cells.proofs.PassWell.{Chosen}

module _ {V : Type 0} (items : ItemTable) (needs : ℕ → Bool) (q : Effects V) (clear : V → ℕ → Type 0)
    (keeps : KeepsClear q needs clear) (over : Halt → V → Type 0) (waits : EffectSite → V → Type 0)
    (first : FindsNothing q over needs clear waits) where
  abbrev Free : V → Scopes → ℕ → Type 0
  Free = rules.Free items needs q clear keeps over waits first

  abbrev Post : LoopsAndGuards → (ℕ → Type 0) → List Node → Scopes → V → (Exit → Scopes → Type 0) → Exit → Scopes →
      V → Type 0
  Post = rules.Post items needs q clear keeps over waits first

  abbrev Extends : Scopes → Exit → Scopes → Type 0
  Extends = rules.Extends items needs q clear keeps over waits first

  abbrev OnTop : Scopes → Exit → Scopes → Type 0
  OnTop = rules.OnTop items needs q clear keeps over waits first

  abbrev Ready : Context → LoopsAndGuards → List Node → Scopes → V → Type 0
  Ready = rules.Ready items needs q clear keeps over waits first

  abbrev DestOk : ℕ → List Node → Destination → Scopes → V → Type 0
  DestOk = rules.DestOk items needs q clear keeps over waits first

  abbrev FreeM : Context → Meaning V → List Node → Type 0
  FreeM = rules.FreeM items needs q clear keeps over waits first

  abbrev Part : ℕ → List Node → List Node → Type 0
  Part = rules.Part items needs q clear keeps over waits first

  abbrev Follows : LoopsAndGuards → (ℕ → Type 0) → List Node → List Node → (Exit → Scopes → Type 0) → Scopes → V →
      (Scopes → Type 0) → Does V → Type 0
  Follows = choices.Follows items needs q clear keeps over waits first

  -- ---- loops

  abbrev Rest : ℕ → Destination → LoopsAndGuards → LoopsAndGuards
  Rest id to around = in_loop id to around

  -- a turn that goes on leaves the scopes, and the cells of the nodes inside hold nothing then
  abbrev pub Again : List Node → Scopes → Exit → Scopes → V → Type 0
  Again os S Value T w = (T ≡ S) × ((z : ℕ) → Numbered os z → clear w z)
  Again os S (Breaks loop) T w = Unit {0}
  Again os S (Continues loop) T w = (z : ℕ) → Numbered os z → clear w z
  Again os S Returns T w = Unit {0}
  Again os S Panics T w = Unit {0}

  -- what a turn asks of cells: those inside are free, and those of the destinations of jumps
  abbrev pub Turns : List Node → LoopsAndGuards → (ℕ → Type 0) → Scopes → Does V → Type 0
  Turns os around goals S turn = (v : V) → ((z : ℕ) → Numbered os z → Free v S z) →
      ((z : ℕ) → goals z → Free v S z) →
      Shown over (Post around Nothing os S v (Extends S)) (turn S v) × Shown any (Again os S) (turn S v)

  module _ (around : LoopsAndGuards) (id : ℕ) (to : Destination) (os ns : List Node) (goals : ℕ → Type 0) (S : Scopes)
      (inside : (z : ℕ) → Numbered os z → Numbered ns z) (away : (z : ℕ) → goals z → Numbered os z → ⊥) where
    abbrev Looped : V → Run V → Type 0
    Looped v = Shown over (Post around (DestKey to) ns S v (Extends S))

    -- where a loop ends by a break, or goes on
    ends : (loop : ℕ) (T : Scopes) (v w : V) → (id == loop) ≡ true →
        rules.Frame items needs q clear keeps over waits first (in_loop id to around) Nothing os S v (Breaks loop) T w →
        rules.Frame items needs q clear keeps over waits first around (DestKey to) ns S v Value S w
    ends loop T v w same g z fr n m = ((g z fr (λ x. n (inside z x)) (λ x. m (to_there x))).0, fr.1)
      where
        to_there : DestKey (loop_destination loop ((id, to) ∷ around.loops)) z → DestKey to z
        to_there x = subst (λ k. DestKey k z) (ap (λ b. if b then to else loop_destination loop around.loops)
            ((Decides-eqb loop id).1 (sym ((Decides-eqb id loop).0 same)))) x

    passes : (loop : ℕ) (T : Scopes) (v w : V) → (id == loop) ≡ false →
        rules.Frame items needs q clear keeps over waits first (in_loop id to around) Nothing os S v (Breaks loop) T w →
        rules.Frame items needs q clear keeps over waits first around (DestKey to) ns S v (Breaks loop) T w
    passes loop T v w other g z fr n m = g z fr (λ x. n (inside z x)) (λ x. m (to_there (loop == id) refl x))
      where
        to_there : (b : Bool) → (loop == id) ≡ b → DestKey (if b then to else loop_destination loop around.loops) z →
            DestKey (loop_destination loop around.loops) z
        to_there true e x = absurd (false≢true (sym other ∙ (Decides-eqb id loop).1 (sym ((Decides-eqb loop id).0 e))))
        to_there false e x = x

    turned_free : (v : V) (r : Run V) (next : Does V) →
        ((z : ℕ) → Numbered os z → Free v S z) → ((z : ℕ) → goals z → Free v S z) →
        Shown over (Post (in_loop id to around) Nothing os S v (Extends S)) r → Shown any (Again os S) r →
        ((w : V) → ((z : ℕ) → Numbered os z → Free w S z) → ((z : ℕ) → goals z → Free w S z) → Looped w (next S w)) →
        Looped v (forms.turned items q id S r next)
    turned_free v (At Value T w) next inner goal h a later = subst (λ Z. Looped v (next Z w)) (sym a.0)
        (shown_more over (λ exit U u p. (p.0, λ z fr n m. p.1 z (still z fr (λ x. n (inside z x))) n m)) (next S w)
        (later w (λ z n. (a.1 z n, (inner z n).1)) (λ z x. still z (goal z x) (away z x))))
      where
        still : (z : ℕ) → Free v S z → (Numbered os z → ⊥) → Free w S z
        still z fr n = ((h.1 z fr n (λ x. x)).0, fr.1)
    turned_free v (At (Breaks loop) T w) next inner goal h a later = by (id == loop) refl
      where
        by : (b : Bool) → (id == loop) ≡ b → Looped v (if b then At Value S w else At (Breaks loop) T w)
        by true e = (ext_same S, ends loop T v w e h.1)
        by false e = (h.0, passes loop T v w e h.1)
    turned_free v (At (Continues loop) T w) next inner goal h a later = by (id == loop)
        (later w (λ z n. (a z n, (inner z n).1)) (λ z x. still z (goal z x) (away z x)))
      where
        still : (z : ℕ) → Free v S z → (Numbered os z → ⊥) → Free w S z
        still z fr n = ((h.1 z fr n (λ x. x)).0, fr.1)

        by : (b : Bool) → Looped w (next S w) → Looped v ((if b then next S else At (Continues loop) T) w)
        by true k = shown_more over
            (λ exit U u p. (p.0, λ z fr n m. p.1 z (still z fr (λ x. n (inside z x))) n m)) (next S w) k
        by false k = (h.0, λ z fr n m. h.1 z fr (λ x. n (inside z x)) m)
    turned_free v (At Returns T w) next inner goal h a later = (h.0, λ z fr n m. absurd (m tt))
    turned_free v (At Panics T w) next inner goal h a later = (h.0, λ z fr n m. absurd (m tt))
    turned_free v (Over halt w) next inner goal h a later = h

    pub turns_free : (fuel : ℕ) (turn : Does V) → Turns os (in_loop id to around) goals S turn → (v : V) →
        ((z : ℕ) → Numbered os z → Free v S z) → ((z : ℕ) → goals z → Free v S z) →
        Looped v (forms.turns items q fuel id turn S v)
    turns_free zero turn t v inner goal = first.lapses v
    turns_free (suc n) turn t v inner goal = by (q.tick v)
        (rules.both_out items needs q clear keeps over waits first _ _ _ _ (q.tick v) (first.ticks v) (keeps.ticks v))
        (λ w i g. let x = t w i g in turned_free w (turn S w) (forms.turns items q n id turn) i g x.0 x.1
        (λ u j k. turns_free n turn t u j k))
      where
        by : (o : Out V) → ShownOut over
            (λ w. Always w × ((key : ℕ) → clear v key → clear w key))
            (λ w. Never w × ((key : ℕ) → clear v key → clear w key)) o →
            ((w : V) → ((z : ℕ) → Numbered os z → Free w S z) → ((z : ℕ) → goals z → Free w S z) →
            Looped w (forms.turned items q id S (turn S w) (forms.turns items q n id turn))) →
            Looped v (forms.ticked items q o
            (λ w. forms.turned items q id S (turn S w) (forms.turns items q n id turn)))
        by (Go w) h later = shown_more over
            (λ exit U u p. (p.0, λ z fr x m. p.1 z (h.1 z fr.0, fr.1) x m))
            (forms.turned items q id S (turn S w) (forms.turns items q n id turn))
            (later w (λ z i. (h.1 z (inner z i).0, (inner z i).1)) (λ z i. (h.1 z (goal z i).0, (goal z i).1)))
        by (Unwind w) h later = absurd h.0
        by (Halts halt w) h later = h

  -- ---- jumps

  abbrev pub IsJump : Exit → Destination → LoopsAndGuards → Type 0
  IsJump Value to around = ⊥
  IsJump (Breaks loop) to around = to ≡ loop_destination loop around.loops
  IsJump (Continues loop) to around = ⊥
  IsJump Returns to around = to ≡ around.answer
  IsJump Panics to around = ⊥

  pub jumped : (around : LoopsAndGuards) (exit : Exit) (to : Destination) (fl : ℕ → Type 0) (ms ns : List Node) (S :
      Scopes)
      (v : V) (r : Run V) → IsJump exit to around → ((z : ℕ) → Numbered ms z → Numbered ns z) →
      Shown over (Post around (DestKey to) ms S v (Extends S)) r →
      Shown over (Post around fl ns S v (Extends S)) (on_value r (At exit))
  jumped around exit to fl ms ns S v (At Value T w) j f k = by exit j
    where
      by : (exit : Exit) → IsJump exit to around → Post around fl ns S v (Extends S) exit T w
      by Value j = absurd j
      by (Breaks loop) j = (
        k.0,
        λ z fr n m. k.1 z fr (λ x. n (f z x)) (λ x. m (subst (λ d. DestKey d z) j x)),
      )
      by (Continues loop) j = absurd j
      by Returns j = (k.0, λ z fr n m. absurd (m tt))
      by Panics j = absurd j
  jumped around exit to fl ms ns S v (At (Breaks loop) T w) j f k = (k.0, λ z fr n m. k.1 z fr (λ x. n (f z x)) m)
  jumped around exit to fl ms ns S v (At (Continues loop) T w) j f k = (k.0, λ z fr n m. k.1 z fr (λ x. n (f z x)) m)
  jumped around exit to fl ms ns S v (At Returns T w) j f k = (k.0, λ z fr n m. absurd (m tt))
  jumped around exit to fl ms ns S v (At Panics T w) j f k = (k.0, λ z fr n m. absurd (m tt))
  jumped around exit to fl ms ns S v (Over halt w) j f k = k

  pub jumping_free : (c : Context) (around : LoopsAndGuards) (exit : Exit) (h : NodeHead) (m : Option (Meaning V))
      (to : Destination) (fl : ℕ → Type 0) (ms ns : List Node) (S : Scopes) (v : V) → IsJump exit to around →
      ((x : Meaning V) → m ≡ Some x → FreeM c x ms) → ((z : ℕ) → Numbered ms z → Numbered ns z) →
      Ready c around ns S v → ((z : ℕ) → DestKey to z → rules.Jump items needs q clear keeps over waits first c around
      z) →
      rules.TwoCells items needs q clear keeps over waits first to →
      Shown over (Post around fl ns S v (Extends S)) (forms.jumping items q exit h m around to S v)
  jumping_free c around exit h None to fl ms ns S v j f inside r d two =
      jumped around exit to fl ns ns S v (forms.put_unit items q h to S v) j (λ z n. n)
      (rules.deliver_free items needs q clear keeps over waits first around ns (Extends S) h
      (λ site. effects.Put site effects.UnitValue) to S v (ext_same S) (ext_same S) (λ site key s. s)
      (λ z x. (r.jumps z (d z x)).0) two)
  jumping_free c around exit h (Some m) to fl ms ns S v j f inside r d two =
      jumped around exit to fl ms ns S v (m.evaluate around false to S v) j inside
      ((f m refl).evaluates around false to S v
      (rules.ready_part items needs q clear keeps over waits first c around ms ns S v inside r) (record {
        free = λ z x. (r.jumps z (d z x)).0;
        apart = λ z x. inr (λ n. (r.jumps z (d z x)).1 (inside z n));
        two = two;
      }))
