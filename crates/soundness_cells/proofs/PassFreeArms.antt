-- What is free stays free, by the rules of `if let` and of arms.
use Rattle.std.proofs.Common.{◌≡◌, ◌⊎◌, inl, inr, ℕ, Bool, true, false, List, [], ◌∷◌, ◌++◌, Option, Some, None, refl, ap, sym, ◌∙◌, subst}
use Rattle.mir_base.specs.declared.operator.Cmp.{Cmp}
use Rattle.mir_base.specs.declared.trace.Why.{Why}
use Rattle.mir_ty.specs.declared.ty.TyId.{TyId}
use Rattle.mir_ty.specs.ItemTable.{ItemTable}
use Rattle.store_model.specs.Effects as effects
use Rattle.store_model.specs.Effects.{EffectSite, Operand, Copied, Action, Test, Halt, Out, Go, Unwind, Halts, Choice, Yes, No, Neither, Effects, stored_by}
use Rattle.store_model.specs.Places.Place.{Place, whole_local}
use Rattle.typed_tree.specs.Tree.{Node}
use Rattle.src_meaning.specs.Forms as forms
use Rattle.src_meaning.specs.Forms.{Destination, Into, LoopsAndGuards, Meaning, bound_entry, site_of_key, moved, site_of, place_of, in_guard}
use Rattle.src_meaning.specs.Scopes as source
use Rattle.src_meaning.specs.Scopes.{Entry, Scope, Scopes, with_scope, innermost, with_entry, Exit, Value, Breaks, Continues, Returns, Panics, Run, At, Over, Does, on_value, in_scopes, leave, choosing, chosen, leaving, then_or_leave}
use Rattle.src_meaning.specs.Shape.{NodeHead, operand_of_bound, BoundName, PatternTest, IsVariant, IsNumber, IsTruth, AnyOf, PatternTests, no_test, a_test, Alternatives, no_alternative, an_alternative}
use Rattle.well_typed.specs.Places.{Context}
use Rattle.soundness_values.proofs.Leaving.{Shown, ShownOut, shown_more, Among}
use Rattle.soundness_cells.proofs.PassClear.{KeepsClear, any, Nothing, Changes, ShownChoice, MovedByAny, operands_of, tested_by, StoredAt}
use Rattle.soundness_cells.proofs.PassFree.{Deep, Always, Never, FindsNothing, DestKey, Fills, Ext, Top, ext_same, ext_then, top_then, ext_entries, innermost_enters, enters, AroundOk, around_ext, around_top, Enters}
use Rattle.soundness_cells.proofs.PassFreeChoices as choices
use Rattle.soundness_cells.proofs.PassFreeChoices.{TestsKey, BoundKey, DistinctNames}
use Rattle.soundness_cells.proofs.PassFreeRules as rules
use Rattle.soundness_cells.proofs.PassKept.{Answered}
use Rattle.soundness_cells.proofs.PassNumbers.{Numbered, Rises, numbered_left, numbered_right, rises_apart, rises_left, rises_right}
use Rattle.soundness_cells.proofs.PassScopes as scopes
use Rattle.soundness_cells.proofs.PassScopes.{entries_of, Other}
use Rattle.soundness_cells.proofs.PassWell.{Chosen}

module _ {V : Type 0} (items : ItemTable) (needs : ℕ → Bool) (q : Effects V) (clear : V → ℕ → Type 0)
    (keeps : KeepsClear q needs clear) (over : Halt → V → Type 0) (waits : EffectSite → V → Type 0)
    (first : FindsNothing q over needs clear waits) where
  abbrev Free : V → Scopes → ℕ → Type 0
  Free = rules.Free items needs q clear keeps over waits first

  abbrev Post : LoopsAndGuards → (ℕ → Type 0) → List Node → Scopes → V → (Exit → Scopes → Type 0) → Exit → Scopes →
      V → Type 0
  Post = rules.Post items needs q clear keeps over waits first

  abbrev Extends : Scopes → Exit → Scopes → Type 0
  Extends = rules.Extends items needs q clear keeps over waits first

  abbrev OnTop : Scopes → Exit → Scopes → Type 0
  OnTop = rules.OnTop items needs q clear keeps over waits first

  abbrev Ready : Context → LoopsAndGuards → List Node → Scopes → V → Type 0
  Ready = rules.Ready items needs q clear keeps over waits first

  abbrev DestOk : ℕ → List Node → Destination → Scopes → V → Type 0
  DestOk = rules.DestOk items needs q clear keeps over waits first

  abbrev FreeM : Context → Meaning V → List Node → Type 0
  FreeM = rules.FreeM items needs q clear keeps over waits first

  abbrev Part : ℕ → List Node → List Node → Type 0
  Part = rules.Part items needs q clear keeps over waits first

  abbrev Follows : LoopsAndGuards → (ℕ → Type 0) → List Node → List Node → (Exit → Scopes → Type 0) → Scopes → V →
      (Scopes → Type 0) → Does V → Type 0
  Follows = choices.Follows items needs q clear keeps over waits first

  abbrev Twos : Context → LoopsAndGuards → Type 0
  Twos = rules.Twos items needs q clear keeps over waits first

  pub innermost_binds : choices.Binds items needs q clear keeps over waits first innermost
      Deep entries_of
  innermost_binds = record {
    enters = λ e S. innermost_enters e.key (with_entry e) (enters e) S;
    among = among;
    deeper = deeper;
    kept = λ S T e z a. ext_entries S T e z a;
  }
    where
      among : (e : Entry) (S : Scopes) → Deep S →
          Among (entries_of (innermost (with_entry e) S)) e.key
      among e [] d = absurd d
      among e (s ∷ S) d = inl refl

      deeper : (S T : Scopes) → Ext S T → Deep S →
          Deep T
      deeper [] T e d = absurd d
      deeper (s ∷ S) [] e d = absurd e
      deeper (s ∷ S) (t ∷ T) e d = tt

  top_deep : (S T : Scopes) → Top S T → Deep T
  top_deep S [] e = absurd e
  top_deep S (t ∷ T) e = tt

  -- the names of a pattern in the innermost of scopes, on others; then what follows them
  pub named_free : (around : LoopsAndGuards) (fl : ℕ → Type 0) (ps ns : List Node) (bounds : List BoundName)
      (body : Does V) → DistinctNames bounds → ((z : ℕ) → BoundKey bounds z → Numbered ps z) →
      ((z : ℕ) → Numbered ps z → Numbered ns z) → (S T : Scopes) (v : V) → Top S T →
      ((z : ℕ) → Numbered ps z → Free v T z) →
      Follows around fl ps ns (OnTop S) T v
      (λ U. Top S U × ((z : ℕ) → BoundKey bounds z → Among (entries_of U) z)) body →
      Shown over (Post around fl ns T v (OnTop S)) (on_value (forms.bind items q innermost bounds T v) body)
  named_free around fl ps ns bounds body d into inside S T v k free does =
      rules.then_free items needs q clear keeps over waits first around Nothing fl ps ns
      (choices.Bound items needs q clear keeps over waits first entries_of T bounds) (OnTop S) T v
      (forms.bind items q innermost bounds T v) body
      (choices.bind_free items needs q clear keeps over waits first around innermost
      Deep entries_of innermost_binds ps bounds d into T v (top_deep S T k)
      (λ z n. free z (into z n))) inside (λ z n. absurd n) other
      (λ U w e g. does U w (top_then S T U k e.0, e.1) (λ z f n. g z f n (λ x. x)))
    where
      other : (exit : Exit) (U : Scopes) → Other exit →
          choices.Bound items needs q clear keeps over waits first entries_of T bounds exit U → Top S U
      other Value U o e = absurd o
      other (Breaks loop) U o e = top_then S T U k e
      other (Continues loop) U o e = top_then S T U k e
      other Returns U o e = top_then S T U k e
      other Panics U o e = top_then S T U k e

  -- ---- scrutinees and `if let`

  pub scrutinised_free : (c : Context) (around : LoopsAndGuards) (m : Meaning V) (ms : List Node) → FreeM c m ms →
      (S : Scopes) (v : V) → Ready c around ms S v →
      Shown over (Post around Nothing ms S v (Extends S)) (forms.scrutinised items q around m S v)
  scrutinised_free c around m ms f S v r =
      rules.then_free items needs q clear keeps over waits first around Nothing Nothing ms ms (Extends S) (Extends S) S
      v
      (m.reach around S v) (forms.touched items q m.shape.is_place (site_of m around)) (f.reaches around S v r)
      (λ z n. n) (λ z n. absurd n) (λ exit T o k. k) (λ T w k g. touched m.shape.is_place T w k)
    where
      touched : (b : Bool) (T : Scopes) (w : V) → Ext S T →
          Shown over (Post around Nothing ms T w (Extends S)) (forms.touched items q b (site_of m around) T w)
      touched true T w k = rules.acts_free items needs q clear keeps over waits first around Nothing ms (Extends S)
          (effects.Touch (site_of m around)) T w k k (λ z n. absurd n)
      touched false T w k = (k, λ z f n m. f)

  -- a scrutinee that is a whole local stands among the entries
  scrutinised_named : (c : Context) (around : LoopsAndGuards) (m : Meaning V) (ms : List Node) → FreeM c m ms →
      (S : Scopes) (v : V) → Ready c around ms S v →
      Shown any (λ exit U u. scopes.NamedAt exit (λ key. place_of m around ≡ whole_local key) U) (m.reach around S v) →
      Shown over (Post around Nothing ms S v
      (λ exit U. Ext S U × scopes.NamedAt exit (λ key. place_of m around ≡ whole_local key) U))
      (forms.scrutinised items q around m S v)
  scrutinised_named c around m ms f S v r named =
      rules.then_free items needs q clear keeps over waits first around Nothing Nothing ms ms ext ext S v
      (m.reach around S v) (forms.touched items q m.shape.is_place (site_of m around))
      (both (m.reach around S v) (f.reaches around S v r) named) (λ z n. n) (λ z n. absurd n) (λ exit T o k. k)
      (λ T w k g. touched m.shape.is_place T w k)
    where
      ext : Exit → Scopes → Type 0
      ext exit U = Ext S U × scopes.NamedAt exit (λ key. place_of m around ≡ whole_local key) U

      both : (r : Run V) → Shown over (Post around Nothing ms S v (Extends S)) r →
          Shown any (λ exit U u. scopes.NamedAt exit (λ key. place_of m around ≡ whole_local key) U) r →
          Shown over (Post around Nothing ms S v ext) r
      both (At exit U w) x y = ((x.0, y), x.1)
      both (Over halt w) x y = x

      touched : (b : Bool) (T : Scopes) (w : V) → ext Value T →
          Shown over (Post around Nothing ms T w ext) (forms.touched items q b (site_of m around) T w)
      touched true T w k = rules.acts_free items needs q clear keeps over waits first around Nothing ms ext
          (effects.Touch (site_of m around)) T w k (k.0, tt) (λ z n. absurd n)
      touched false T w k = (k, λ z f n m. f)

  -- the innermost scope is left at a value
  left_free : (around : LoopsAndGuards) (S T : Scopes) (v : V) → Top S T →
      Shown over (Post around Nothing [] T v (Extends S)) (leave items q (At Value T v))
  left_free around S T v k = rules.leave_free items needs q clear keeps over waits first around Nothing [] T v
      (Extends S) (At Value T v)
      (rules.top_beneath items needs q clear keeps over waits first S Value T k, λ z f n m. f)

  pub if_taken_free : (c : Context) (around : LoopsAndGuards) (h : NodeHead) (pattern scrutinee : Meaning V)
      (body otherwise : Does V) (fl : ℕ → Type 0) (ps ss ns : List Node) → FreeM c scrutinee ss →
      ((z : ℕ) → Numbered ps z → Numbered ss z → ⊥) → ((z : ℕ) → Numbered ps z → Numbered ns z) →
      ((z : ℕ) → Numbered ss z → Numbered ns z) →
      ((z : ℕ) → TestsKey (pattern.shape.tests (place_of scrutinee around)) z → Numbered ps z) →
      DistinctNames (pattern.shape.bindings (place_of scrutinee around)) →
      ((z : ℕ) → BoundKey (pattern.shape.bindings (place_of scrutinee around)) z → Numbered ps z) →
      (S : Scopes) (v : V) → Ready c around ns S v →
      Follows around fl (ps ++ ss) ns (OnTop S) S v (λ U. Top S U
      × ((z : ℕ) → BoundKey (pattern.shape.bindings (place_of scrutinee around)) z → Among (entries_of U) z)) body →
      Follows around fl ss ns (Extends S) S v (Ext S) otherwise →
      Shown over (Post around fl ns S v (Extends S))
      (forms.if_taken items q h around pattern scrutinee body otherwise S v)
  if_taken_free c around h pattern scrutinee body otherwise fl ps ss ns f apart in_p in_s tests d bound S v r does
      other =
      from (forms.scrutinised items q around scrutinee (with_scope h.id true S) v)
      (rules.opened_top items needs q clear keeps over waits first around Nothing ss h.id true S v _
      (scrutinised_free c around scrutinee ss f (with_scope h.id true S) v
      (rules.ready_opened items needs q clear keeps over waits first c around ss h.id true S v
      (rules.ready_part items needs q clear keeps over waits first c around ss ns S v in_s r))))
    where
      bounds : List BoundName
      bounds = pattern.shape.bindings (place_of scrutinee around)

      bound_body : Does V
      bound_body T w = on_value (forms.bind items q innermost bounds T w) body

      left : Does V
      left T w = on_value (leave items q (At Value T w)) otherwise

      then_test : Does V
      then_test = choosing (forms.all_hold items q (pattern.shape.tests (place_of scrutinee around)))
          (leaving items q bound_body) left

      both : (z : ℕ) → (Numbered (ps ++ ss) z → ⊥) → (Numbered ss z → ⊥) × (Numbered ps z → ⊥)
      both z n = ((λ x. n (numbered_right ps ss z x)), λ x. n (numbered_left ps ss z x))

      taken : (T : Scopes) (w : V) → Top S T → ((z : ℕ) → Free v S z → (Numbered ss z → ⊥) → Free w T z) →
          Shown over (Post around fl ns T w (Extends S)) (leaving items q bound_body T w)
      taken T w k g = rules.leave_free items needs q clear keeps over waits first around fl ns T w (Extends S)
          (bound_body T w)
          (shown_more over (λ exit U u p. (
            rules.top_beneath items needs q clear keeps over waits first S exit U p.0,
            p.1,
          )) (bound_body T w) (named_free around fl ps ns bounds body d bound in_p S T w k
          (λ z n. g z (r.free z (in_p z n)) (λ x. apart z n x))
          (λ U u e j. does U u e (λ z fr n. let y = both z n in j z (g z fr y.0) y.1))))

      declined : (T : Scopes) (w : V) → Top S T → ((z : ℕ) → Free v S z → (Numbered ss z → ⊥) → Free w T z) →
          Shown over (Post around fl ns T w (Extends S)) (left T w)
      declined T w k g = rules.then_free items needs q clear keeps over waits first around Nothing fl [] ns (Extends S)
          (Extends S) T w (leave items q (At Value T w)) otherwise (left_free around S T w k) (λ z n. absurd n)
          (λ z n. absurd n) (λ exit U o e. e)
          (λ U u e j. other U u e (λ z fr n. j z (g z fr n) (λ x. x) (λ x. x)))

      tested : (T : Scopes) (w : V) → Top S T → ((z : ℕ) → Free v S z → (Numbered ss z → ⊥) → Free w T z) →
          Shown over (Post around fl ns T w (Extends S)) (then_test T w)
      tested T w k g = choices.chosen_free items needs q clear keeps over waits first around fl ns (Extends S) T w
          (forms.all_hold items q (pattern.shape.tests (place_of scrutinee around)) w) (leaving items q bound_body) left
          (choices.all_free items needs q clear keeps over waits first
          (pattern.shape.tests (place_of scrutinee around)) w
          (λ z t. (g z (r.free z (in_p z (tests z t))) (λ x. apart z (tests z t) x)).0))
          (λ u j. taken T u k (λ z fr n. let y = g z fr n in (j z y.0, y.1)))
          (λ u j. declined T u k (λ z fr n. let y = g z fr n in (j z y.0, y.1)))

      left_otherwise : (exit : Exit) (T : Scopes) (w : V) → Other exit →
          Post around Nothing ss S v (OnTop S) exit T w → Post around fl ns S v
          (rules.Beneath items needs q clear keeps over waits first (Extends S)) exit T w
      left_otherwise Value T w o p = absurd o
      left_otherwise (Breaks loop) T w o p = (
        rules.top_beneath items needs q clear keeps over waits first S (Breaks loop) T p.0,
        λ z fr n m. p.1 z fr (λ x. n (in_s z x)) m,
      )
      left_otherwise (Continues loop) T w o p = (
        rules.top_beneath items needs q clear keeps over waits first S (Continues loop) T p.0,
        λ z fr n m. p.1 z fr (λ x. n (in_s z x)) m,
      )
      left_otherwise Returns T w o p = (
        rules.top_beneath items needs q clear keeps over waits first S Returns T p.0,
        λ z fr n m. absurd (m tt),
      )
      left_otherwise Panics T w o p = (
        rules.top_beneath items needs q clear keeps over waits first S Panics T p.0,
        λ z fr n m. absurd (m tt),
      )

      left_at : (exit : Exit) (T : Scopes) (w : V) → Other exit → Post around Nothing ss S v (OnTop S) exit T w →
          Shown over (Post around fl ns S v (Extends S)) (leave items q (At exit T w))
      left_at exit T w o p = rules.leave_free items needs q clear keeps over waits first around fl ns S v (Extends S)
          (At exit T w) (left_otherwise exit T w o p)

      from : (r : Run V) → Shown over (Post around Nothing ss S v (OnTop S)) r →
          Shown over (Post around fl ns S v (Extends S)) (then_or_leave items q r then_test)
      from (At Value T w) p = shown_more over
          (λ exit U u y. (y.0, λ z fr n m. y.1 z (p.1 z fr (λ x. n (in_s z x)) (λ x. x)) n m)) (then_test T w)
          (tested T w p.0 (λ z fr n. p.1 z fr n (λ x. x)))
      from (At (Breaks loop) T w) p = left_at (Breaks loop) T w tt p
      from (At (Continues loop) T w) p = left_at (Continues loop) T w tt p
      from (At Returns T w) p = left_at Returns T w tt p
      from (At Panics T w) p = left_at Panics T w tt p
      from (Over halt w) p = p

  -- ---- arms

  -- an arm, by what is done where it is not taken
  abbrev pub ArmFree : Context → LoopsAndGuards → Place → List Node → List Node → Meaning V → Type 0
  ArmFree c around matched ars ns m = (to : Destination) (otherwise : Does V) (S : Scopes) (v : V) →
      Ready c around ars S v → ((z : ℕ) → DestKey to z → Free v S z × (Numbered ars z → ⊥)) →
      rules.TwoCells items needs q clear keeps over waits first to →
      ((z : ℕ) → matched ≡ whole_local z → Among (entries_of S) z) →
      ((z : ℕ) → Numbered ars z → Numbered ns z) →
      Follows around (DestKey to) ars ns (Extends S) S v (Ext S) otherwise →
      Shown over (Post around (DestKey to) ns S v (Extends S)) (m.arm matched otherwise around to S v)

  -- arms one after the other
  abbrev pub AllArms : Context → LoopsAndGuards → Place → List Node → List (Meaning V) → List Node → Type 0
  AllArms c around matched ns [] ars = Unit {0}
  AllArms c around matched ns (m ∷ ms) ars = (a : List Node) × ((b : List Node) × ((ars ≡ a ++ b)
      × (ArmFree c around matched a ns m × AllArms c around matched ns ms b)))

  pub panics_free : (around : LoopsAndGuards) (fl : ℕ → Type 0) (ns : List Node) (ext : Exit → Scopes → Type 0)
      (why : Why) (S : Scopes) (v : V) → ext Panics S →
      Shown over (Post around fl ns S v ext) (forms.panics items q why S v)
  panics_free around fl ns ext why S v e = (e, λ z f n m. absurd (m tt))

  pub arms_free : (c : Context) (around : LoopsAndGuards) (matched : Place) (to : Destination) (ns : List Node)
      (ms : List (Meaning V)) (ars : List Node) → Rises ars → AllArms c around matched ns ms ars →
      ((z : ℕ) → Numbered ars z → Numbered ns z) → rules.TwoCells items needs q clear keeps over waits first to →
      (S : Scopes) (v : V) → Ready c around ars S v → ((z : ℕ) → DestKey to z → Free v S z × (Numbered ars z → ⊥)) →
      ((z : ℕ) → matched ≡ whole_local z → Among (entries_of S) z) →
      Shown over (Post around (DestKey to) ns S v (Extends S)) (forms.arms_in_order items q ms matched around to S v)
  arms_free c around matched to ns [] ars rise all inside two S v r d roots =
      panics_free around (DestKey to) ns (Extends S) Why.Match S v (ext_same S)
  arms_free c around matched to ns (m ∷ ms) ars rise (a, (b, (e, (one, more)))) inside two S v r d roots =
      one to (forms.arms_in_order items q ms matched around to) S v
      (rules.ready_part items needs q clear keeps over waits first c around a ars S v in_a r)
      (λ z k. ((d z k).0, λ n. (d z k).1 (in_a z n))) two roots (λ z n. inside z (in_a z n))
      (λ T w k g. shown_more over (λ exit U u p. (ext_then S T U k p.0, p.1))
      (forms.arms_in_order items q ms matched around to T w)
      (arms_free c around matched to ns ms b (rises_right a b both) more (λ z n. inside z (in_b z n)) two T w
      (rules.ready_after items needs q clear keeps over waits first c around a b ars Nothing S T v w r in_a in_b
      (rises_apart a b both) (λ z n. absurd n) (around_ext items c around S T k r.ok) (λ z fr n m. g z fr n))
      (λ z x. (g z (d z x).0 (λ n. (d z x).1 (in_a z n)), λ n. (d z x).1 (in_b z n)))
      (λ z x. ext_entries S T k z (roots z x))))
    where
      both : Rises (a ++ b)
      both = subst Rises e rise

      in_a : (z : ℕ) → Numbered a z → Numbered ars z
      in_a z n = subst (λ l. Numbered l z) (sym e) (numbered_left a b z n)

      in_b : (z : ℕ) → Numbered b z → Numbered ars z
      in_b z n = subst (λ l. Numbered l z) (sym e) (numbered_right a b z n)

  -- an arm that is taken: its names, and its body
  taken_free : (c : Context) (around : LoopsAndGuards) (h : NodeHead) (bounds : List BoundName) (body : Meaning V)
      (to : Destination) (ps bs ns : List Node) → FreeM c body bs → DistinctNames bounds →
      ((z : ℕ) → BoundKey bounds z → Numbered ps z) → ((z : ℕ) → Numbered ps z → Numbered bs z → ⊥) →
      ((z : ℕ) → Numbered ps z → Numbered ns z) → ((z : ℕ) → Numbered bs z → Numbered ns z) → (S : Scopes) (v : V) →
      ((z : ℕ) → Numbered ps z → Free v S z) →
      ((T : Scopes) (w : V) → (Top S T × ((z : ℕ) → BoundKey bounds z → Among (entries_of T) z)) →
      ((z : ℕ) → Free v S z → (Numbered ps z → ⊥) → Free w T z) →
      Ready c around bs T w × DestOk body.head.id bs to T w) →
      Shown over (Post around (DestKey to) ns S v (Extends S)) (forms.taken_arm items q h around bounds body to S v)
  taken_free c around h bounds body to ps bs ns f d into apart in_p in_b S v free ready =
      rules.scope_free items needs q clear keeps over waits first around (DestKey to) ns h.id false
      (λ T w. on_value (forms.bind items q innermost bounds T w) (forms.alone items q around body to)) S v
      (named_free around (DestKey to) ps ns bounds (forms.alone items q around body to) d into in_p S
      (with_scope h.id false S) v (ext_same S) free
      (λ T w k g. let x = ready T w k g in
      rules.more_free items needs q clear keeps over waits first around (DestKey to) (DestKey to) bs ns T w (Extends T)
      (OnTop S) (forms.alone items q around body to T w)
      (choices.alone_free items needs q clear keeps over waits first c around body to bs f T w x.0 x.1) in_b
      (λ z e. inr e) (λ exit U e. top_then S T U k.0 e)))

  abbrev pub GuardFree : Context → Option (Meaning V) → List Node → Type 0
  GuardFree c None gs = Unit {0}
  GuardFree c (Some m) gs = FreeM c m gs

  -- a guard stands among the names that it may use
  pub arm_free : (c guard_c body_c : Context) (around : LoopsAndGuards) (h : NodeHead) (pattern : Meaning V)
      (guard : Option (Meaning V)) (body : Meaning V) (matched : Place) (to : Destination) (otherwise : Does V)
      (ps gs bs ars ns : List Node) → GuardFree guard_c guard gs → FreeM body_c body bs →
      DistinctNames (pattern.shape.bindings matched) →
      ((z : ℕ) → BoundKey (pattern.shape.bindings matched) z → Numbered ps z) →
      ((z : ℕ) → TestsKey (pattern.shape.tests matched) z → Numbered ps z) →
      ((z : ℕ) → Numbered ps z → Numbered gs z → ⊥) → ((z : ℕ) → Numbered ps z → Numbered bs z → ⊥) →
      ((z : ℕ) → Numbered gs z → Numbered bs z → ⊥) → ((z : ℕ) → Numbered ps z → Numbered ars z) →
      ((z : ℕ) → Numbered gs z → Numbered ars z) → ((z : ℕ) → Numbered bs z → Numbered ars z) →
      ((z : ℕ) → Numbered ars z → Numbered ns z) → (S : Scopes) (v : V) → Ready c around ars S v →
      ((z : ℕ) → DestKey to z → Free v S z × (Numbered ars z → ⊥)) →
      rules.TwoCells items needs q clear keeps over waits first to →
      ((m : Meaning V) → guard ≡ Some m → AroundOk items guard_c (in_guard (pattern.shape.bindings matched) around) S) →
      ((z : ℕ) → rules.Jump items needs q clear keeps over waits first guard_c
      (in_guard (pattern.shape.bindings matched) around) z →
      rules.Jump items needs q clear keeps over waits first c around z) →
      ((z : ℕ) → rules.Jump items needs q clear keeps over waits first body_c around z →
      rules.Jump items needs q clear keeps over waits first c around z) →
      (Twos c around → Twos guard_c (in_guard (pattern.shape.bindings matched) around)) →
      (Twos c around → Twos body_c around) →
      ((T : Scopes) → AroundOk items c around T →
      ((z : ℕ) → BoundKey (pattern.shape.bindings matched) z → Among (entries_of T) z) →
      AroundOk items body_c around T) →
      Follows around (DestKey to) ars ns (Extends S) S v (Ext S) otherwise →
      Shown over (Post around (DestKey to) ns S v (Extends S))
      (forms.arm items q h pattern guard body matched otherwise around to S v)
  arm_free c guard_c body_c around h pattern guard body matched to otherwise ps gs bs ars ns fg fb d into tests pg pb gb
      in_p in_g in_b inside S v r dest two guard_ok guard_jumps body_jumps guard_twos body_twos body_ok other =
      choices.chosen_free items needs q clear keeps over waits first around (DestKey to) ns (Extends S) S v
      (forms.all_hold items q (pattern.shape.tests matched) v) (forms.guarded items q around bounds guard taken
      otherwise)
      otherwise
      (choices.all_free items needs q clear keeps over waits first (pattern.shape.tests matched) v
      (λ z t. (r.free z (in_p z (tests z t))).0))
      (λ w j. guarded guard fg guard_ok w j)
      (λ w j. other S w (ext_same S) (λ z fr n. (j z fr.0, fr.1)))
    where
      bounds : List BoundName
      bounds = pattern.shape.bindings matched

      taken : Does V
      taken = forms.taken_arm items q h around bounds body to

      -- from a state in which names and body are free
      body_taken : (T : Scopes) (w : V) → Ext S T → ((z : ℕ) → Free v S z → (Numbered gs z → ⊥) → Free w T z) →
          Shown over (Post around (DestKey to) ns T w (Extends T)) (taken T w)
      body_taken T w k g = taken_free body_c around h bounds body to ps bs ns fb d into pb
          (λ z n. inside z (in_p z n)) (λ z n. inside z (in_b z n)) T w
          (λ z n. g z (r.free z (in_p z n)) (λ x. pg z n x))
          (λ U u e y. (
            record {
              ok = body_ok U (around_top items c around T U e.0 (around_ext items c around S T k r.ok)) e.1;
              free = λ z n. y z (g z (r.free z (in_b z n)) (λ x. gb z x n)) (λ x. pb z x n);
              jumps = λ z x. let i = r.jumps z (body_jumps z x) in (
                y z (g z i.0 (λ n. i.1 (in_g z n))) (λ n. i.1 (in_p z n)),
                λ n. i.1 (in_b z n),
              );
              twos = body_twos r.twos;
            },
            record {
              free = λ z x. let i = dest z x in y z (g z i.0 (λ n. i.1 (in_g z n))) (λ n. i.1 (in_p z n));
              apart = λ z x. inr (λ n. (dest z x).1 (in_b z n));
              two = two;
            },
          ))

      from_there : (T : Scopes) (w : V) → Ext S T → ((z : ℕ) → Free v S z → (Numbered gs z → ⊥) → Free w T z) →
          Shown over (Post around (DestKey to) ns T w (Extends S)) (taken T w)
      from_there T w k g = shown_more over (λ exit U u p. (ext_then S T U k p.0, p.1)) (taken T w) (body_taken T w k g)

      guarded : (o : Option (Meaning V)) → GuardFree guard_c o gs →
          ((m : Meaning V) → o ≡ Some m → AroundOk items guard_c (in_guard bounds around) S) → (w : V) →
          ((z : ℕ) → clear v z → clear w z) →
          Shown over (Post around (DestKey to) ns S w (Extends S)) (forms.guarded items q around bounds o taken
          otherwise S w)
      guarded None f ok w j = from_there S w (ext_same S) (λ z fr n. (j z fr.0, fr.1))
      guarded (Some m) f ok w j = choices.condition_free items needs q clear keeps over waits first guard_c
          (in_guard bounds around) m taken otherwise (DestKey to) gs ns f (λ z n. inside z (in_g z n)) S w
          (record {
            ok = ok m refl;
            free = λ z n. let x = r.free z (in_g z n) in (j z x.0, x.1);
            jumps = λ z x. let i = r.jumps z (guard_jumps z x) in ((j z i.0.0, i.0.1), λ n. i.1 (in_g z n));
            twos = guard_twos r.twos;
          })
          (λ T u k g. from_there T u k (λ z fr n. g z (j z fr.0, fr.1) n))
          (λ T u k g. other T u k (λ z fr n. g z (j z fr.0, fr.1) (λ x. n (in_g z x))))

  pub matching_free : (c : Context) (around : LoopsAndGuards) (h : NodeHead) (scrutinee : Meaning V)
      (ms : List (Meaning V)) (own : Bool) (to : Destination) (ss ars ns : List Node) → Rises (ss ++ ars) →
      FreeM c scrutinee ss → AllArms c around (place_of scrutinee around) ns ms ars → Part h.id (ss ++ ars) ns →
      (S : Scopes) (v : V) → Ready c around ns S v → DestOk h.id ns to S v →
      ((T : Scopes) (w : V) → Ready c around ss T w →
      Shown any (λ exit U u. scopes.NamedAt exit (λ key. place_of scrutinee around ≡ whole_local key) U)
      (scrutinee.reach around T w)) →
      Shown over (Post around (DestKey to) ns S v (Extends S))
      (forms.matching items q h scrutinee ms around own to S v)
  matching_free c around h scrutinee ms own to ss ars ns rise f all part S v r d named =
      rules.own_free items needs q clear keeps over waits first around (DestKey to) ns h own
      (λ T w. on_value (forms.scrutinised items q around scrutinee T w) arms) S v (λ T e. at T e)
    where
      arms : Does V
      arms = forms.arms_in_order items q ms (place_of scrutinee around) around to

      in_s : (z : ℕ) → Numbered ss z → Numbered ns z
      in_s z n = part.within z (numbered_left ss ars z n)

      in_a : (z : ℕ) → Numbered ars z → Numbered ns z
      in_a z n = part.within z (numbered_right ss ars z n)

      within : (T : Scopes) → Ready c around ns T v → DestOk h.id ns to T v →
          Shown over (Post around (DestKey to) ns T v (Extends T))
          (on_value (forms.scrutinised items q around scrutinee T v) arms)
      within T t e = rules.then_free items needs q clear keeps over waits first around Nothing (DestKey to) ss ns
          (λ exit U. Ext T U × scopes.NamedAt exit (λ key. place_of scrutinee around ≡ whole_local key) U) (Extends T)
          T v
          (forms.scrutinised items q around scrutinee T v) arms
          (scrutinised_named c around scrutinee ss f T v ready_s (named T v ready_s)) in_s
          (λ z n. absurd n) (λ exit U o k. k.0)
          (λ U w k g. shown_more over (λ exit Z u p. (ext_then T U Z k.0 p.0, p.1)) (arms U w)
          (arms_free c around (place_of scrutinee around) to ns ms ars (rises_right ss ars rise) all in_a e.two U w
          (rules.ready_after items needs q clear keeps over waits first c around ss ars ns Nothing T U v w t in_s in_a
          (rises_apart ss ars rise) (λ z n. absurd n) (around_ext items c around T U k.0 t.ok) g)
          (λ z x. (
            g z (e.free z x) (λ n. no_dest z x (numbered_left ss ars z n)) (λ n. n),
            λ n. no_dest z x (numbered_right ss ars z n),
          )) k.1))
        where
          ready_s : Ready c around ss T v
          ready_s = rules.ready_part items needs q clear keeps over waits first c around ss ns T v in_s t

          no_dest : (z : ℕ) → DestKey to z → Numbered (ss ++ ars) z → ⊥
          no_dest z x n = rules.dest_apart items needs q clear keeps over waits first h.id (ss ++ ars) ns to T v e part
              z x n

      at : (T : Scopes) → (T ≡ S) ⊎ (T ≡ with_scope h.id true S) →
          Shown over (Post around (DestKey to) ns T v (Extends T))
          (on_value (forms.scrutinised items q around scrutinee T v) arms)
      at T (inl e) = subst (λ Z. Shown over (Post around (DestKey to) ns Z v (Extends Z))
          (on_value (forms.scrutinised items q around scrutinee Z v) arms)) (sym e) (within S r d)
      at T (inr e) = subst (λ Z. Shown over (Post around (DestKey to) ns Z v (Extends Z))
          (on_value (forms.scrutinised items q around scrutinee Z v) arms)) (sym e) (within (with_scope h.id true S)
          (rules.ready_opened items needs q clear keeps over waits first c around ns h.id true S v r)
          (record { free = d.free; apart = d.apart; two = d.two }))
