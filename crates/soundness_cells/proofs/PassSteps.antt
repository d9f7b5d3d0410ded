-- More rules of evaluation that keep to what the pass says of scopes: places and temporaries, assignments, conditions,
-- the tests and the names of patterns.
use Rattle.std.proofs.Common.{◌≡◌, ◌⊎◌, inl, inr, ℕ, ◌==◌, Bool, true, false, List, [], ◌∷◌, ◌++◌, Option, Some, None, if◌then◌else◌, refl, ap, sym, ◌∙◌, subst}
use Rattle.std.proofs.lemmas.Bool.{false≢true}
use Rattle.mir_base.specs.declared.operator.Cmp.{Cmp}
use Rattle.mir_ty.specs.declared.ty.TyId.{TyId}
use Rattle.mir_ty.specs.Facts.{needs_drop}
use Rattle.mir_ty.specs.ItemTable.{ItemTable}
use Rattle.store_model.specs.Effects as effects
use Rattle.store_model.specs.Effects.{EffectSite, Operand, Copied, Moved, Action, Effects, stored_by, Normal, Out, Go, Unwind, Halts, Choice, Yes, No, Neither}
use Rattle.store_model.specs.Places.Place.{Place, whole_local}
use Rattle.src_meaning.specs.Forms as forms
use Rattle.src_meaning.specs.Forms.{Destination, Into, Coerced, LoopsAndGuards, Meaning, entry_of, bound_entry, site_in, site_of_key, moved, keys_of, is_never, changed_if, site_of, place_of}
use Rattle.src_meaning.specs.Scopes.{Entry, Scope, Scopes, with_scope, innermost, nearest_temporary, nearest_from, with_entry, with_pending, becomes_entry, without_operands, all_entries, Exit, Value, Breaks, Continues, Returns, Panics, Run, At, Over, Does, ◌>>◌, on_value, changing, chosen, choosing}
use Rattle.src_meaning.specs.Shape.{NodeHead, Shape, operand_at, operand_of_bound, site_at, BoundName, PatternTest, IsVariant, IsNumber, IsTruth, AnyOf, PatternTests, no_test, a_test, Alternatives, no_alternative, an_alternative}
use Rattle.well_typed.specs.Places.{Context}
use Rattle.soundness_values.proofs.Leaving.{Shown, shown_more, Among, among_left, among_right, among_split, AllOf}
use Rattle.soundness_cells.proofs.PassClear.{KeepsClear, any, Nothing, MovedByAny, operands_of, StoredAt, ShownChoice, Changes}
use Rattle.soundness_cells.proofs.PassRules as rules
use Rattle.soundness_cells.proofs.PassRules.{InList}
use Rattle.soundness_cells.proofs.PassScopes as scopes
use Rattle.soundness_cells.proofs.PassScopes.{key_of, entries_of, entries_among, Other, NamedAt, other_named, seq, here, past, inside}

module _ {V : Type 0} (items : ItemTable) (needs : ℕ → Bool) (q : Effects V) (clear : V → ℕ → Type 0)
    (keeps : KeepsClear q needs clear) where
  abbrev Held : (ℕ → Type 0) → List Entry → V → Type 0
  Held = scopes.Held items needs q clear keeps

  abbrev After : Context → LoopsAndGuards → (ℕ → Type 0) → (Scopes → Type 0) → Exit → Scopes → V → Type 0
  After = scopes.After items needs q clear keeps

  abbrev Landing : (ℕ → Type 0) → Exit → Scopes → Type 0
  Landing = scopes.Landing items needs q clear keeps

  abbrev AroundOk : Context → LoopsAndGuards → Scopes → Type 0
  AroundOk = scopes.AroundOk items needs

  abbrev Inside : Bool → Scopes → Scopes → Type 0
  Inside = scopes.Inside items needs

  abbrev Grown : Bool → Scopes → Scopes → Type 0
  Grown = scopes.Grown items needs

  abbrev Grows : Scopes → Scopes → Type 0
  Grows = scopes.Grows items needs

  abbrev More : Scope → Scope → Type 0
  More = scopes.More items needs

  abbrev Lands : Scopes → ℕ → Type 0
  Lands = scopes.Lands items needs

  abbrev Typed : Entry → Type 0
  Typed = scopes.Typed items needs

  abbrev Suits : TyId → Destination → Type 0
  Suits = scopes.Suits items needs

  abbrev Sound : Context → Meaning V → Type 0
  Sound = rules.Sound items needs q clear keeps

  -- what a form does where it is no scope of its own
  abbrev pub DoesSo : Context → LoopsAndGuards → (ℕ → Type 0) → Does V → Type 0
  DoesSo c around flying does = (S : Scopes) (v : V) → AroundOk c around S → Held Nothing (entries_of S) v →
      Shown any (After c around flying (Grows S)) (does S v)

  -- what is cleared by nothing else
  pub unheld : (flying : ℕ → Type 0) (es : List Entry) (v : V) → ((key : ℕ) → flying key → needs key ≡ false) →
      Held flying es v → Held Nothing es v
  unheld flying es v f h key = by (h key)
    where
      by : clear v key ⊎ (Among es key ⊎ flying key) → clear v key ⊎ (Among es key ⊎ ⊥)
      by (inl x) = inl x
      by (inr (inl a)) = inr (inl a)
      by (inr (inr x)) = inl (keeps.needs_none key v (f key x))

  -- what comes of doing one thing after another, with the same known of scopes
  pub then_so : (c : Context) (around : LoopsAndGuards) (mid flying : ℕ → Type 0) (grown : Scopes → Type 0) (r : Run V)
      (next : Does V) → Shown any (After c around mid grown) r →
      ((S : Scopes) (v : V) → grown S → Held mid (entries_of S) v → Shown any (After c around flying grown) (next S v)) →
      Shown any (After c around flying grown) (on_value r next)
  then_so c around mid flying grown r next h f = seq (After c around mid grown) (After c around flying grown) r next h
      (λ S v x. f S v x.0 x.1)
      (λ exit S v o x. (x.0, scopes.other_held items needs q clear keeps c around mid flying exit S v o x.1))

  pub landing_own : (own : Bool) (S : Scopes) (flying : ℕ → Type 0) → ((key : ℕ) → flying key → Lands S key) →
      (exit : Exit) (T : Scopes) → Inside own S T → Landing flying exit T
  landing_own own S flying l Value A (inside s T f t g) =
      inr (λ key x. scopes.lands_more items needs S T (scopes.grown_wider items needs own S T g) key (l key x))
  landing_own own S flying l (Breaks loop) T i = tt
  landing_own own S flying l (Continues loop) T i = tt
  landing_own own S flying l Returns T i = tt
  landing_own own S flying l Panics T i = tt

  -- in the scope of a node
  pub scoped_so : (c : Context) (around : LoopsAndGuards) (flying : ℕ → Type 0) (id : ℕ) (own : Bool) (does : Does V)
      (S : Scopes) (v : V) → AroundOk c around S → ((key : ℕ) → flying key → Lands S key) →
      Shown any (After c around flying (Inside own S)) (does (with_scope id own S) v) →
      Shown any (After c around flying (Grown own S)) (Rattle.src_meaning.specs.Scopes.in_scope items q id own does S v)
  scoped_so c around flying id own does S v ok l k =
      scopes.in_scope_so items needs q clear keeps c around flying own S ok id does v
      (shown_more any (λ exit T u x. (x, landing_own own S flying l exit T x.0)) (does (with_scope id own S) v) k)

  pub owned_so : (c : Context) (around : LoopsAndGuards) (flying : ℕ → Type 0) (h : NodeHead) (own : Bool) (does : Does V)
      (S : Scopes) (v : V) → AroundOk c around S → (own ≡ true → (key : ℕ) → flying key → Lands S key) →
      Held Nothing (entries_of S) v →
      ((T : Scopes) (w : V) → scopes.Wider items needs S T → AroundOk c around T → Held Nothing (entries_of T) w →
      Shown any (After c around flying (Grows T)) (does T w)) →
      Shown any (After c around flying (Grown own S)) (forms.in_own_scope items q h own does S v)
  owned_so c around flying h false does S v ok l k d = d S v (scopes.not_wider items needs S) ok k
  owned_so c around flying h true does S v ok l k d =
      scoped_so c around flying h.id true does S v ok (l refl)
      (shown_more any (λ exit T u x. (
        scopes.inside_grows items needs true S (with_scope h.id true S) T
            (scopes.opened items needs h.id true S) x.0,
        x.1,
      )) (does (with_scope h.id true S) v)
      (d (with_scope h.id true S) v
      (scopes.inside_wider items needs true S (with_scope h.id true S) (scopes.opened items needs h.id true S))
      (scopes.around_more items needs c around S (with_scope h.id true S)
      (scopes.inside_wider items needs true S (with_scope h.id true S) (scopes.opened items needs h.id true S)) ok) k))

  -- known of scopes that grew
  grown_further : (c : Context) (around : LoopsAndGuards) (flying : ℕ → Type 0) (S T : Scopes) → Grows S T → (r : Run V) →
      Shown any (After c around flying (Grows T)) r → Shown any (After c around flying (Grows S)) r
  grown_further c around flying S T g r h =
      shown_more any (λ exit U u x. (scopes.grows_then items needs S T U g x.0, x.1)) r h

  around_grown : (c : Context) (around : LoopsAndGuards) (S T : Scopes) → Grows S T → AroundOk c around S → AroundOk c around T
  around_grown c around S T g ok = scopes.around_more items needs c around S T (scopes.grows_wider items needs S T g) ok

  -- ---- places

  pub reached : (c : Context) (around : LoopsAndGuards) (m : Meaning V) → Sound c m → DoesSo c around Nothing (m.reach around)
  reached c around m sound S v ok k =
      shown_more any (λ exit T u x. x.0) (m.reach around S v) (sound.reaches around S v ok k)

  pub use_so : (c : Context) (around : LoopsAndGuards) (h : NodeHead) (s : Shape) (reach : LoopsAndGuards → Does V) (own : Bool)
      (to : Destination) (S : Scopes) (v : V) → AroundOk c around S → (own ≡ true → Lands S (key_of to)) →
      Held Nothing (entries_of S) v → DoesSo c around Nothing (reach around) →
      Shown any (After c around (λ key. key ≡ key_of to) (Grown own S)) (forms.use_of_place items q h s reach around own to S v)
  use_so c around h s reach own to S v ok l k d =
      owned_so c around (λ key. key ≡ key_of to) h own
      (λ T w. on_value (reach around T w) (forms.deliver items q h (λ site. effects.Put site (operand_at h (s.place around.aliases))) to))
      S v ok (λ o key e. subst (Lands S) (sym e) (l o)) k
      (λ T w wide ok h'. then_so c around Nothing (λ key. key ≡ key_of to) (Grows T) (reach around T w)
      (forms.deliver items q h (λ site. effects.Put site (operand_at h (s.place around.aliases))) to) (d T w ok h')
      (λ U u g x. scopes.deliver_so items needs q clear keeps c around (Grows T) U g h
      (λ site. effects.Put site (operand_at h (s.place around.aliases))) to Nothing u (λ site key n. absurd n)
      (λ site key e. e) x))

  pub borrow_so : (c : Context) (around : LoopsAndGuards) (h : NodeHead) (unique : Bool) (base : Meaning V) (own : Bool)
      (to : Destination) (S : Scopes) (v : V) → AroundOk c around S → (own ≡ true → Lands S (key_of to)) →
      Held Nothing (entries_of S) v → Sound c base →
      Shown any (After c around (λ key. key ≡ key_of to) (Grown own S)) (forms.borrowing items q h unique base around own to S v)
  borrow_so c around h unique base own to S v ok l k sound =
      owned_so c around (λ key. key ≡ key_of to) h own
      (λ T w. on_value (base.reach around T w) (forms.deliver items q h action to))
      S v ok (λ o key e. subst (Lands S) (sym e) (l o)) k
      (λ T w wide ok h'. then_so c around Nothing (λ key. key ≡ key_of to) (Grows T) (base.reach around T w)
      (forms.deliver items q h action to) (reached c around base sound T w ok h')
      (λ U u g x. scopes.deliver_so items needs q clear keeps c around (Grows T) U g h action to Nothing u
      (λ site key n. absurd n) (λ site key e. e) x))
    where
      action : EffectSite → Action
      action site = effects.Borrow (record site { node = base.head.id }) unique (site_of base around)

  pub element_so : (c : Context) (around : LoopsAndGuards) (h : NodeHead) (s : Shape) (base index : Meaning V) (length : ℕ) →
      Sound c base → Sound c index → needs index.head.id ≡ false →
      DoesSo c around Nothing (forms.reach_element items q h s base index length around)
  element_so c around h s base index length b i n S v ok k =
      then_so c around Nothing Nothing (Grows S) (base.reach around S v) then_index (reached c around base b S v ok k)
      (λ T u g x. then_so c around (λ key. key ≡ index.head.id) Nothing (Grows S)
      (index.evaluate around false (Into index.head.id) T u) then_touch
      (grown_further c around (λ key. key ≡ index.head.id) S T g (index.evaluate around false (Into index.head.id) T u)
      (i.evaluates around false (Into index.head.id) T u (around_grown c around S T g ok) x (λ e. inl n) (inr i.in_cell)))
      (λ U w g x. then_so c around Nothing Nothing (Grows S) (forms.acts items q touch U w) (forms.acts items q bounds)
      (scopes.acts_so items needs q clear keeps c around (Grows S) U g touch Nothing Nothing w (λ key m. absurd m)
      (λ key m. absurd m) (unheld (λ key. key ≡ index.head.id) (entries_of U) w (λ key e. ap needs e ∙ n) x))
      (λ Z z g x. scopes.acts_so items needs q clear keeps c around (Grows S) Z g bounds Nothing Nothing z
      (λ key m. absurd m) (λ key m. absurd m) x)))
    where
      touch : Action
      touch = effects.Touch (site_at h (forms.array_around items q (s.place around.aliases)))

      bounds : Action
      bounds = effects.Bounds (Copied (site_of_key index.head.id)) length

      then_touch : Does V
      then_touch U w = on_value (forms.acts items q touch U w) (forms.acts items q bounds)

      then_index : Does V
      then_index T u = on_value (index.evaluate around false (Into index.head.id) T u) then_touch

  -- ---- temporaries

  nearest_grows : (change : Scope → Scope) → ((s : Scope) → More s (change s)) → (S : Scopes) →
      Grows S (nearest_temporary change S)
  nearest_grows change m [] = scopes.no_scope
  nearest_grows change m (s ∷ S) = by s.for_temporaries refl (nearest_grows change m S)
    where
      by : (b : Bool) → s.for_temporaries ≡ b → Grows S (nearest_temporary change S) →
          Grows (s ∷ S) (nearest_from b change s S (nearest_temporary change S))
      by true f g = here s (change s) S f (m s)
      by false f g = past s S (nearest_temporary change S) f g

  nearest_pending : (e : Entry) (S : Scopes) → scopes.HasTemporary items needs S →
      Among (all_entries (nearest_temporary (with_pending e) S)) e.key
  nearest_pending e [] t = absurd t
  nearest_pending e (s ∷ S) t = by s.for_temporaries refl (nearest_pending e S) t
    where
      by : (b : Bool) → s.for_temporaries ≡ b →
          (scopes.HasTemporary items needs S → Among (all_entries (nearest_temporary (with_pending e) S)) e.key) →
          (s.for_temporaries ≡ true) ⊎ scopes.HasTemporary items needs S →
          Among (all_entries (nearest_from b (with_pending e) s S (nearest_temporary (with_pending e) S))) e.key
      by true f later t = inl refl
      by false f later (inl u) = absurd (false≢true (sym f ∙ u))
      by false f later (inr u) = among_right (s.pending ++ s.entries) _ e.key (later u)

  nearest_entry : (e : Entry) (S : Scopes) → scopes.HasTemporary items needs S →
      Among (entries_of (nearest_temporary (becomes_entry e) S)) e.key
  nearest_entry e [] t = absurd t
  nearest_entry e (s ∷ S) t = by s.for_temporaries refl (nearest_entry e S) t
    where
      by : (b : Bool) → s.for_temporaries ≡ b →
          (scopes.HasTemporary items needs S → Among (entries_of (nearest_temporary (becomes_entry e) S)) e.key) →
          (s.for_temporaries ≡ true) ⊎ scopes.HasTemporary items needs S →
          Among (entries_of (nearest_from b (becomes_entry e) s S (nearest_temporary (becomes_entry e) S))) e.key
      by true f later t = inl refl
      by false f later (inl u) = absurd (false≢true (sym f ∙ u))
      by false f later (inr u) = among_right s.entries _ e.key (later u)

  -- a value in the place of a place
  pub temporary_so : (c : Context) (around : LoopsAndGuards) (h : NodeHead) (s : Shape)
      (evaluate : LoopsAndGuards → Bool → Destination → Does V) → Suits h.ty (Into h.id) →
      ((S : Scopes) (v : V) → AroundOk c around S → Held Nothing (entries_of S) v →
      (s.in_destination ≡ true → Lands S h.id) →
      Shown any (After c around (λ key. key ≡ h.id) (Grows S)) (evaluate around false (Into h.id) S v)) →
      (S : Scopes) (v : V) → AroundOk c around S → Held Nothing (entries_of S) v →
      Shown any (λ exit T u. After c around Nothing (Grows S) exit T u × NamedAt exit (λ key. key ≡ h.id) T)
      (forms.temporary items q h s evaluate around S v)
  temporary_so c around h s evaluate suits sound S v ok k = by s.in_destination refl
    where
      e : Entry
      e = entry_of h

      entry : (U : Scopes) (u : V) → scopes.HasTemporary items needs U →
          Held (λ key. key ≡ h.id) (entries_of U) u → (key : ℕ) →
          clear u key ⊎ (Among (entries_of (nearest_temporary (becomes_entry e) U)) key ⊎ ⊥)
      entry U u t x key = by (x key)
        where
          by : clear u key ⊎ (Among (entries_of U) key ⊎ (key ≡ h.id)) →
              clear u key ⊎ (Among (entries_of (nearest_temporary (becomes_entry e) U)) key ⊎ ⊥)
          by (inl y) = inl y
          by (inr (inl a)) = inr (inl (scopes.grows_entries items needs U (nearest_temporary (becomes_entry e) U)
              (nearest_grows (becomes_entry e) (λ s. rules.completed items needs q clear keeps e s suits) U) key a))
          by (inr (inr same)) = inr (inl (subst (Among (entries_of (nearest_temporary (becomes_entry e) U))) (sym same)
              (nearest_entry e U t)))

      Post : Exit → Scopes → V → Type 0
      Post exit T u = After c around Nothing (Grows S) exit T u × NamedAt exit (λ key. key ≡ h.id) T

      made : (T : Scopes) → Grows S T → (s.in_destination ≡ true → Lands T h.id) →
          Shown any Post
          (on_value (evaluate around false (Into h.id) T v) (forms.complete items q nearest_temporary h))
      made T g lands = seq (After c around (λ key. key ≡ h.id) (Grows T)) Post
          (evaluate around false (Into h.id) T v) (forms.complete items q nearest_temporary h)
          (sound T v (around_grown c around S T g ok) (λ key. still key (k key)) lands)
          (λ U u x. (
            (
              scopes.grows_then items needs S T (nearest_temporary (becomes_entry e) U) g
                  (scopes.grows_then items needs T U (nearest_temporary (becomes_entry e) U) x.0
                  (nearest_grows (becomes_entry e) (λ s. rules.completed items needs q clear keeps e s suits) U)),
              entry U u ((scopes.grows_wider items needs T U x.0).temporary
                  ((scopes.grows_wider items needs S T g).temporary ok.temporary)) x.1,
            ),
            λ key same. subst (Among (entries_of (nearest_temporary (becomes_entry e) U))) (sym same)
                (nearest_entry e U ((scopes.grows_wider items needs T U x.0).temporary
                ((scopes.grows_wider items needs S T g).temporary ok.temporary))),
          ))
          (λ exit U u o x. (
            rules.other_exit items needs q clear keeps c around (λ key. key ≡ h.id) Nothing (Grows T)
                (Grows S) (λ U f. scopes.grows_then items needs S T U g f) exit U u o x,
            other_named exit (λ key. key ≡ h.id) U o,
          ))
        where
          still : (key : ℕ) → clear v key ⊎ (Among (entries_of S) key ⊎ ⊥) →
              clear v key ⊎ (Among (entries_of T) key ⊎ ⊥)
          still key (inl y) = inl y
          still key (inr (inl a)) = inr (inl (scopes.grows_entries items needs S T g key a))
          still key (inr (inr n)) = absurd n

      by : (b : Bool) → s.in_destination ≡ b →
          Shown any Post
          (on_value (evaluate around false (Into h.id) (changed_if b (nearest_temporary (with_pending e)) S) v)
          (forms.complete items q nearest_temporary h))
      by true d = made (nearest_temporary (with_pending e) S)
          (nearest_grows (with_pending e) (λ s. rules.pended items needs q clear keeps e s suits) S)
          (λ x. inr (nearest_pending e S ok.temporary))
      by false d = made S (scopes.not_grown items needs S) (λ x. absurd (false≢true (sym d ∙ x)))

  -- ---- conditions

  pub alone_so : (c : Context) (around : LoopsAndGuards) (flying : ℕ → Type 0) (S : Scopes) (r : Run V) →
      Shown any (After c around flying (Grown true S)) r →
      Shown any (After c around flying (λ T. T ≡ S)) (Rattle.src_meaning.specs.Scopes.back_in S r)
  alone_so c around flying S (At Value T v) h = (refl, subst (λ X. Held flying (entries_of X) v) h.0 h.1)
  alone_so c around flying S (At (Breaks loop) T v) h = h
  alone_so c around flying S (At (Continues loop) T v) h = h
  alone_so c around flying S (At Returns T v) h = h
  alone_so c around flying S (At Panics T v) h = h
  alone_so c around flying S (Over halt v) h = tt

  -- a test, and what follows
  pub chosen_so : (post : Exit → Scopes → V → Type 0) (S : Scopes) (taken : ℕ → Type 0) (v : V) (o : Choice V)
      (f g : Does V) →
      ShownChoice (Changes clear taken Nothing v) (Changes clear taken Nothing v) o → Held taken (entries_of S) v →
      ((w : V) → Held Nothing (entries_of S) w → Shown any post (f S w)) →
      ((w : V) → Held Nothing (entries_of S) w → Shown any post (g S w)) → Shown any post (chosen o (f S) (g S))
  chosen_so post S taken v o f g h k a b = by o h
    where
      held : (w : V) → Changes clear taken Nothing v w → (key : ℕ) →
          clear v key ⊎ (Among (entries_of S) key ⊎ taken key) → clear w key ⊎ (Among (entries_of S) key ⊎ ⊥)
      held w x key (inr (inl y)) = inr (inl y)
      held w x key (inl y) = after (x key (inl y))
        where
          after : clear w key ⊎ ⊥ → clear w key ⊎ (Among (entries_of S) key ⊎ ⊥)
          after (inl z) = inl z
          after (inr n) = absurd n
      held w x key (inr (inr y)) = after (x key (inr y))
        where
          after : clear w key ⊎ ⊥ → clear w key ⊎ (Among (entries_of S) key ⊎ ⊥)
          after (inl z) = inl z
          after (inr n) = absurd n

      by : (o : Choice V) → ShownChoice (Changes clear taken Nothing v) (Changes clear taken Nothing v) o →
          Shown any post (chosen o (f S) (g S))
      by (Yes w) x = a w (λ key. held w x key (k key))
      by (No w) x = b w (λ key. held w x key (k key))
      by (Neither halt w) x = tt

  pub condition_so : (c : Context) (around : LoopsAndGuards) (m : Meaning V) (post : Exit → Scopes → V → Type 0) (f g : Does V)
      (S : Scopes) (v : V) → Sound c m → needs m.head.id ≡ false → AroundOk c around S →
      Held Nothing (entries_of S) v →
      ((w : V) → Held Nothing (entries_of S) w → Shown any post (f S w)) →
      ((w : V) → Held Nothing (entries_of S) w → Shown any post (g S w)) →
      ((exit : Exit) (T : Scopes) (w : V) → Other exit → After c around Nothing (λ T. T ≡ S) exit T w → post exit T w) →
      Shown any post (forms.condition items q around m f g S v)
  condition_so c around m post f g S v sound n ok k a b other =
      seq (After c around (λ key. key ≡ m.head.id) (λ T. T ≡ S)) post (forms.alone items q around m (Into m.head.id) S v)
      (choosing (q.choose test) f g)
      (alone_so c around (λ key. key ≡ m.head.id) S (m.evaluate around true (Into m.head.id) S v)
      (sound.evaluates around true (Into m.head.id) S v ok k (λ e. inl n) (inr sound.in_cell)))
      (λ T w x. subst (λ Z. Held (λ key. key ≡ m.head.id) (entries_of Z) w →
      Shown any post (chosen (q.choose test w) (f Z) (g Z))) (sym x.0)
      (λ h. chosen_so post S (λ key. key ≡ m.head.id) w (q.choose test w) f g (tested w) h a b) x.1)
      (λ exit T w o x. other exit T w o (
        x.0,
        scopes.other_held items needs q clear keeps c around
            (λ key. key ≡ m.head.id) Nothing exit T w o x.1,
      ))
    where
      test : effects.Test
      test = effects.IsTrue (moved m.head.id m.head.id)

      fewer : (w u : V) → Changes clear (MovedByAny (moved m.head.id m.head.id ∷ [])) Nothing w u →
          Changes clear (λ key. key ≡ m.head.id) Nothing w u
      fewer w u x key (inl y) = x key (inl y)
      fewer w u x key (inr y) = x key (inr (inl (ap whole_local (sym y))))

      tested : (w : V) → ShownChoice (Changes clear (λ key. key ≡ m.head.id) Nothing w)
          (Changes clear (λ key. key ≡ m.head.id) Nothing w) (q.choose test w)
      tested w = by (q.choose test w) (keeps.chooses test w)
        where
          by : (o : Choice V) → ShownChoice (Changes clear (MovedByAny (moved m.head.id m.head.id ∷ [])) Nothing w)
              (Changes clear (MovedByAny (moved m.head.id m.head.id ∷ [])) Nothing w) o →
              ShownChoice (Changes clear (λ key. key ≡ m.head.id) Nothing w)
              (Changes clear (λ key. key ≡ m.head.id) Nothing w) o
          by (Yes u) x = fewer w u x
          by (No u) x = fewer w u x
          by (Neither halt u) x = tt
