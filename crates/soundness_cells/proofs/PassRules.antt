-- The rules of evaluation keep to what the pass says of scopes: one lemma a rule, from what holds of the nodes inside.
use Rattle.std.proofs.Common.{◌≡◌, ◌⊎◌, inl, inr, ℕ, ◌==◌, ◌||◌, Bool, true, false, List, [], ◌∷◌, ◌++◌, Option, Some, None, if◌then◌else◌, refl, ap, sym, ◌∙◌, subst}
use Rattle.std.proofs.lemmas.Bool.{false≢true}
use Rattle.std.proofs.lemmas.Bool.Decides.{Decides-eqb}
use Rattle.mir_ty.specs.declared.ty.TyId.{TyId}
use Rattle.mir_ty.specs.Facts.{needs_drop}
use Rattle.mir_ty.specs.ItemTable.{ItemTable}
use Rattle.store_model.specs.Effects as effects
use Rattle.store_model.specs.Effects.{EffectSite, Operand, Action, Effects, stored_by, Normal, Out, Go, Unwind, Halts}
use Rattle.store_model.specs.Places.Place.{Place, whole_local}
use Rattle.src_meaning.specs.Forms as forms
use Rattle.src_meaning.specs.Forms.{Destination, Into, Coerced, LoopsAndGuards, Meaning, entry_of, site_in, moved, all_moved, keys_of, is_never, changed_if, loop_destination}
use Rattle.src_meaning.specs.Scopes.{Entry, Scope, Scopes, without_key, without_keys, with_scope, innermost, nearest_temporary, nearest_from, with_entry, with_pending, without_pending, becomes_entry, without_operands, all_entries, Exit, Value, Breaks, Continues, Returns, Panics, Run, At, Over, Does, ◌>>◌, on_value, changing, back_in}
use Rattle.src_meaning.specs.Shape.{NodeHead}
use Rattle.well_typed.specs.Places.{Context}
use Rattle.soundness_values.proofs.Leaving.{Shown, shown_more, Among, among_left, among_right, among_split, AllOf}
use Rattle.soundness_cells.proofs.PassClear.{KeepsClear, any, Nothing, MovedByAny, operands_of, StoredAt}
use Rattle.soundness_cells.proofs.PassScopes as scopes
use Rattle.soundness_cells.proofs.PassScopes.{key_of, entries_of, entries_among, Other, NamedAt, seq, here, past, inside}

-- ---- lists of keys

abbrev pub InList : List ℕ → ℕ → Type 0
InList [] key = ⊥
InList (k ∷ keys) key = (k ≡ key) ⊎ InList keys key

still_among : (k : ℕ) (es : List Entry) (key : ℕ) → Among es key → Among (without_key k es) key ⊎ (k ≡ key)
still_among k [] key h = absurd h
still_among k (e ∷ es) key h = by (k == e.key) refl (λ a. still_among k es key a) h
  where
    behind : Among (without_key k es) key ⊎ (k ≡ key) → Among (e ∷ without_key k es) key ⊎ (k ≡ key)
    behind (inl a) = inl (inr a)
    behind (inr s) = inr s

    by : (b : Bool) → (k == e.key) ≡ b → (Among es key → Among (without_key k es) key ⊎ (k ≡ key)) →
        (e.key ≡ key) ⊎ Among es key →
        Among (if b then without_key k es else e ∷ without_key k es) key ⊎ (k ≡ key)
    by true same later (inl first) = inr ((Decides-eqb k e.key).0 same ∙ first)
    by true same later (inr there) = later there
    by false other later (inl first) = inl (inl first)
    by false other later (inr there) = behind (later there)

pub all_still_among : (keys : List ℕ) (es : List Entry) (key : ℕ) → Among es key →
    Among (without_keys keys es) key ⊎ InList keys key
all_still_among [] es key a = inl a
all_still_among (k ∷ keys) es key a = by (still_among k es key a)
    (λ x. all_still_among keys (without_key k es) key x)
  where
    later : Among (without_keys keys (without_key k es)) key ⊎ InList keys key →
        Among (without_keys keys (without_key k es)) key ⊎ InList (k ∷ keys) key
    later (inl x) = inl x
    later (inr x) = inr (inr x)

    by : Among (without_key k es) key ⊎ (k ≡ key) →
        (Among (without_key k es) key → Among (without_keys keys (without_key k es)) key ⊎ InList keys key) →
        Among (without_keys keys (without_key k es)) key ⊎ InList (k ∷ keys) key
    by (inl x) f = later (f x)
    by (inr x) f = inr (inl x)

pub all_without : (holds : Entry → Type 0) (k : ℕ) (es : List Entry) → AllOf holds es → AllOf holds (without_key k es)
all_without holds k [] h = tt
all_without holds k (e ∷ es) h = by (k == e.key) (all_without holds k es h.1)
  where
    by : (b : Bool) → AllOf holds (without_key k es) →
        AllOf holds (if b then without_key k es else e ∷ without_key k es)
    by true later = later
    by false later = (h.0, later)

pub all_without_keys : (holds : Entry → Type 0) (keys : List ℕ) (es : List Entry) → AllOf holds es →
    AllOf holds (without_keys keys es)
all_without_keys holds [] es h = h
all_without_keys holds (k ∷ keys) es h = all_without_keys holds keys (without_key k es) (all_without holds k es h)

pub all_weaker : (holds more : Entry → Type 0) (es : List Entry) → ((e : Entry) → holds e → more e) → AllOf holds es →
    AllOf more es
all_weaker holds more [] f h = tt
all_weaker holds more (e ∷ es) f h = (f e h.0, all_weaker holds more es f h.1)

-- entries that are all taken are none any more
none_left : (keys : List ℕ) (es : List Entry) → AllOf (λ e. InList keys e.key) es → without_keys keys es ≡ []
none_left [] [] h = refl
none_left [] (e ∷ es) h = absurd h.0
none_left (k ∷ keys) es h = none_left keys (without_key k es) (others es h)
  where
    others : (es : List Entry) → AllOf (λ e. InList (k ∷ keys) e.key) es → AllOf (λ e. InList keys e.key) (without_key k es)
    others [] h = tt
    others (e ∷ es) h = by (k == e.key) refl (others es h.1) h.0
      where
        other : (k == e.key) ≡ false → (k ≡ e.key) ⊎ InList keys e.key → InList keys e.key
        other n (inl same) = absurd (false≢true (sym n ∙ (Decides-eqb k e.key).1 same))
        other n (inr x) = x

        by : (b : Bool) → (k == e.key) ≡ b → AllOf (λ e. InList keys e.key) (without_key k es) →
            (k ≡ e.key) ⊎ InList keys e.key →
            AllOf (λ e. InList keys e.key) (if b then without_key k es else e ∷ without_key k es)
        by true n later x = later
        by false n later x = (other n x, later)

module _ {V : Type 0} (items : ItemTable) (needs : ℕ → Bool) (q : Effects V) (clear : V → ℕ → Type 0)
    (keeps : KeepsClear q needs clear) where
  abbrev Held : (ℕ → Type 0) → List Entry → V → Type 0
  Held = scopes.Held items needs q clear keeps

  abbrev After : Context → LoopsAndGuards → (ℕ → Type 0) → (Scopes → Type 0) → Exit → Scopes → V → Type 0
  After = scopes.After items needs q clear keeps

  abbrev Landing : (ℕ → Type 0) → Exit → Scopes → Type 0
  Landing = scopes.Landing items needs q clear keeps

  abbrev AroundOk : Context → LoopsAndGuards → Scopes → Type 0
  AroundOk = scopes.AroundOk items needs

  abbrev Inside : Bool → Scopes → Scopes → Type 0
  Inside = scopes.Inside items needs

  abbrev Grown : Bool → Scopes → Scopes → Type 0
  Grown = scopes.Grown items needs

  abbrev Grows : Scopes → Scopes → Type 0
  Grows = scopes.Grows items needs

  abbrev More : Scope → Scope → Type 0
  More = scopes.More items needs

  abbrev Lands : Scopes → ℕ → Type 0
  Lands = scopes.Lands items needs

  abbrev Typed : Entry → Type 0
  Typed = scopes.Typed items needs

  abbrev Suits : TyId → Destination → Type 0
  Suits = scopes.Suits items needs

  -- what the pass says of a node: where it is evaluated into a destination, and where it is reached as a place
  pub record Sound (c : Context) (m : Meaning V) : Type 0 where
    pub evaluates : (around : LoopsAndGuards) (own : Bool) (to : Destination) (S : Scopes) (v : V) → AroundOk c around S →
        Held Nothing (entries_of S) v → ((own || m.shape.in_destination) ≡ true → Lands S (key_of to)) →
        (is_never items m.head.ty ≡ true) ⊎ Suits m.head.ty to →
        Shown any (After c around (λ key. key ≡ key_of to) (Grown own S)) (m.evaluate around own to S v)
    pub reaches : (around : LoopsAndGuards) (S : Scopes) (v : V) → AroundOk c around S → Held Nothing (entries_of S) v →
        Shown any (λ exit T u. After c around Nothing (Grows S) exit T u
        × NamedAt exit (λ key. m.shape.place around.aliases ≡ whole_local key) T) (m.reach around S v)
    pub in_cell : Suits m.head.ty (Into m.head.id)

  abbrev pub AllSound : Context → List (Meaning V) → Type 0
  AllSound c [] = Unit {0}
  AllSound c (m ∷ ms) = Sound c m × AllSound c ms

  pub or_second : (a b : Bool) → b ≡ true → (a || b) ≡ true
  or_second true b e = refl
  or_second false b e = e

  pub other_lands : (flying : ℕ → Type 0) (exit : Exit) (S : Scopes) → Other exit → Landing flying exit S
  other_lands flying Value S o = absurd o
  other_lands flying (Breaks loop) S o = tt
  other_lands flying (Continues loop) S o = tt
  other_lands flying Returns S o = tt
  other_lands flying Panics S o = tt

  -- by another exit than a value, in scopes of which less is known
  pub other_exit : (c : Context) (around : LoopsAndGuards) (flying flying' : ℕ → Type 0) (grown grown' : Scopes → Type 0) →
      ((S : Scopes) → grown S → grown' S) → (exit : Exit) (S : Scopes) (v : V) → Other exit →
      After c around flying grown exit S v → After c around flying' grown' exit S v
  other_exit c around flying flying' grown grown' f exit S v o h =
      (f S h.0, scopes.other_held items needs q clear keeps c around flying flying' exit S v o h.1)

  -- ---- entries and destinations

  pub pended : (e : Entry) (s : Scope) → Typed e → More s (with_pending e s)
  pended e s t = record {
    among = λ key a. inr a;
    entries = λ key a. a;
    typed = λ k. (k.0, (t, k.1));
    same = refl;
  }

  pub entered : (e : Entry) (s : Scope) → Typed e → More s (with_entry e s)
  entered e s t = record {
    among = λ key a. by key (among_split s.pending s.entries key a);
    entries = λ key a. inr a;
    typed = λ k. ((t, k.0), k.1);
    same = refl;
  }
    where
      by : (key : ℕ) → Among s.pending key ⊎ Among s.entries key → Among (s.pending ++ (e ∷ s.entries)) key
      by key (inl a) = among_left s.pending (e ∷ s.entries) key a
      by key (inr a) = among_right s.pending (e ∷ s.entries) key (inr a)

  pub completed : (e : Entry) (s : Scope) → Typed e → More s (becomes_entry e s)
  completed e s t = record {
    among = λ key a. by key (among_split s.pending s.entries key a);
    entries = λ key a. inr a;
    typed = λ k. ((t, k.0), all_without Typed e.key s.pending k.1);
    same = refl;
  }
    where
      still : (key : ℕ) → Among (without_key e.key s.pending) key ⊎ (e.key ≡ key) →
          Among (without_key e.key s.pending ++ (e ∷ s.entries)) key
      still key (inl a) = among_left (without_key e.key s.pending) (e ∷ s.entries) key a
      still key (inr same) = among_right (without_key e.key s.pending) (e ∷ s.entries) key (inl same)

      by : (key : ℕ) → Among s.pending key ⊎ Among s.entries key →
          Among (without_key e.key s.pending ++ (e ∷ s.entries)) key
      by key (inl a) = still key (still_among e.key s.pending key a)
      by key (inr a) = among_right (without_key e.key s.pending) (e ∷ s.entries) key (inr a)

  -- what is taken is no entry any more
  pub taken_held : (keys : List ℕ) (es others : List Entry) (v : V) → Held Nothing (es ++ others) v →
      Held (InList keys) (without_keys keys es ++ others) v
  taken_held keys es others v h key = by (h key)
    where
      still : Among (without_keys keys es) key ⊎ InList keys key →
          Among (without_keys keys es ++ others) key ⊎ InList keys key
      still (inl x) = inl (among_left (without_keys keys es) others key x)
      still (inr x) = inr x

      split : Among es key ⊎ Among others key → Among (without_keys keys es ++ others) key ⊎ InList keys key
      split (inl a) = still (all_still_among keys es key a)
      split (inr a) = inl (among_right (without_keys keys es) others key a)

      by : clear v key ⊎ (Among (es ++ others) key ⊎ ⊥) →
          clear v key ⊎ (Among (without_keys keys es ++ others) key ⊎ InList keys key)
      by (inl x) = inl x
      by (inr (inl a)) = inr (split (among_split es others key a))
      by (inr (inr n)) = absurd n

  -- ---- operands

  -- of a scope that is not for temporaries, all entries have such keys
  abbrev pub Only : Bool → (ℕ → Type 0) → Scopes → Type 0
  Only true known S = Unit {0}
  Only false known [] = Unit {0}
  Only false known (s ∷ S) = AllOf (λ e. known e.key) s.entries

  abbrev OnlyAt : Exit → Bool → (ℕ → Type 0) → Scopes → Type 0
  OnlyAt Value own known S = Only own known S
  OnlyAt (Breaks loop) own known S = Unit {0}
  OnlyAt (Continues loop) own known S = Unit {0}
  OnlyAt Returns own known S = Unit {0}
  OnlyAt Panics own known S = Unit {0}

  pub other_only : (exit : Exit) (own : Bool) (known : ℕ → Type 0) (S : Scopes) → Other exit → OnlyAt exit own known S
  other_only Value own known S o = absurd o
  other_only (Breaks loop) own known S o = tt
  other_only (Continues loop) own known S o = tt
  other_only Returns own known S o = tt
  other_only Panics own known S o = tt

  pub only_weaker : (own : Bool) (known more : ℕ → Type 0) (S : Scopes) → ((key : ℕ) → known key → more key) →
      Only own known S → Only own more S
  only_weaker true known more S f h = tt
  only_weaker false known more [] f h = tt
  only_weaker false known more (s ∷ S) f h = all_weaker (λ e. known e.key) (λ e. more e.key) s.entries (λ e. f e.key) h

  only_grows : (own : Bool) (known : ℕ → Type 0) (s : Scope) (S T : Scopes) → s.for_temporaries ≡ own →
      Grows (s ∷ S) T → Only own known (s ∷ S) → Only own known T
  only_grows true known s S T f g h = tt
  only_grows false known s S A f (here s2 t S2 e m) h = absurd (false≢true (sym f ∙ e))
  only_grows false known s S A f (past s2 S2 T e g) h = h

  abbrev pub Operated : Context → LoopsAndGuards → Bool → Scopes → (ℕ → Type 0) → Exit → Scopes → V → Type 0
  Operated c around own S known exit T v = After c around Nothing (Inside own S) exit T v × OnlyAt exit own known T

  module _ (c : Context) (around : LoopsAndGuards) (own : Bool) (S : Scopes) (ok : AroundOk c around S) where
    -- a node is evaluated into an entry of its own, which may be pending meanwhile
    pub made_entry : (b : Bool) (known : ℕ → Type 0) (m : Meaning V) → Sound c m →
        (m.shape.in_destination ≡ true → b ≡ true) → (T : Scopes) (v : V) → Inside own S T → Only own known T →
        Held Nothing (entries_of T) v →
        Shown any (Operated c around own S (λ key. known key ⊎ (m.head.id ≡ key)))
        (on_value (m.evaluate around false (Into m.head.id)
        (changed_if b (innermost (with_pending (entry_of m.head))) T) v) (forms.complete items q innermost m.head))
    made_entry b known m sound pends A v (inside s T f t g) only h = by b pends
      where
        e : Entry
        e = entry_of m.head

        complete : (U : Scopes) (u : V) → Inside own S U → Only own known U →
            Held (λ key. key ≡ m.head.id) (entries_of U) u →
            Shown any (Operated c around own S (λ key. known key ⊎ (m.head.id ≡ key)))
            (forms.complete items q innermost m.head U u)
        complete A u (inside r U f t g) only h = (
          (inside (becomes_entry e r) U f ((completed e r sound.in_cell).typed t) g, λ key. entry key (h key)),
          known_too own only,
        )
          where
            entry : (key : ℕ) → clear u key ⊎ (Among (r.entries ++ entries_of U) key ⊎ (key ≡ m.head.id)) →
                clear u key ⊎ (Among ((e ∷ r.entries) ++ entries_of U) key ⊎ ⊥)
            entry key (inl x) = inl x
            entry key (inr (inl a)) = inr (inl (inr a))
            entry key (inr (inr same)) = inr (inl (inl (sym same)))

            known_too : (own : Bool) → Only own known (r ∷ U) →
                Only own (λ key. known key ⊎ (m.head.id ≡ key)) (becomes_entry e r ∷ U)
            known_too true k = tt
            known_too false k = (
              inr refl,
              all_weaker (λ e. known e.key) (λ e. known e.key ⊎ (m.head.id ≡ e.key)) r.entries
                  (λ e x. inl x) k,
            )

        made : (r : Scope) → r.for_temporaries ≡ own → scopes.AllTyped items needs r → Only own known (r ∷ T) →
            r.entries ≡ s.entries → (m.shape.in_destination ≡ true → Lands (r ∷ T) m.head.id) →
            Shown any (Operated c around own S (λ key. known key ⊎ (m.head.id ≡ key)))
            (on_value (m.evaluate around false (Into m.head.id) (r ∷ T) v) (forms.complete items q innermost m.head))
        made r f t only same lands = seq
            (After c around (λ key. key ≡ m.head.id) (Grows (r ∷ T)))
            (Operated c around own S (λ key. known key ⊎ (m.head.id ≡ key)))
            (m.evaluate around false (Into m.head.id) (r ∷ T) v) (forms.complete items q innermost m.head)
            (sound.evaluates around false (Into m.head.id) (r ∷ T) v
            (scopes.around_more items needs c around S (r ∷ T)
            (scopes.inside_wider items needs own S (r ∷ T) (inside r T f t g)) ok)
            (subst (λ es. Held Nothing (es ++ entries_of T) v) (sym same) h) lands (inr sound.in_cell))
            (λ U u x. complete U u (scopes.inside_grows items needs own S (r ∷ T) U (inside r T f t g) x.0)
            (only_grows own known r T U f x.0 only) x.1)
            (λ exit U u o x. (
              other_exit c around (λ key. key ≡ m.head.id) Nothing (Grows (r ∷ T)) (Inside own S)
                  (λ U k. scopes.inside_grows items needs own S (r ∷ T) U (inside r T f t g) k) exit U u o x,
              other_only exit own (λ key. known key ⊎ (m.head.id ≡ key)) U o,
            ))

        only_pending : (own : Bool) → Only own known (s ∷ T) → Only own known (with_pending e s ∷ T)
        only_pending true k = tt
        only_pending false k = k

        by : (b : Bool) → (m.shape.in_destination ≡ true → b ≡ true) →
            Shown any (Operated c around own S (λ key. known key ⊎ (m.head.id ≡ key)))
            (on_value (m.evaluate around false (Into m.head.id) (changed_if b (innermost (with_pending e)) (s ∷ T)) v)
            (forms.complete items q innermost m.head))
        by true d = made (with_pending e s) f ((pended e s sound.in_cell).typed t) (only_pending own only) refl
            (λ x. inr (inl refl))
        by false d = made s f t only refl (λ x. absurd (false≢true (d x)))

    pub operand_so : (known : ℕ → Type 0) (m : Meaning V) → Sound c m → (T : Scopes) (v : V) → Inside own S T →
        Only own known T → Held Nothing (entries_of T) v →
        Shown any (Operated c around own S (λ key. known key ⊎ (m.head.id ≡ key)))
        (forms.operand items q around m T v)
    operand_so known m sound T v i only h =
        made_entry m.shape.in_destination known m sound (λ e. e) T v i only h

    operands_so : (known : ℕ → Type 0) (ms : List (Meaning V)) → AllSound c ms → (T : Scopes) (v : V) →
        Inside own S T → Only own known T → Held Nothing (entries_of T) v →
        Shown any (Operated c around own S (λ key. known key ⊎ InList (keys_of ms) key))
        (forms.operands items q around ms T v)
    operands_so known [] sound T v i only h =
        ((i, h), only_weaker own known (λ key. known key ⊎ ⊥) T (λ key k. inl k) only)
    operands_so known (m ∷ ms) sound T v i only h = seq
        (Operated c around own S (λ key. known key ⊎ (m.head.id ≡ key)))
        (Operated c around own S (λ key. known key ⊎ InList (keys_of (m ∷ ms)) key))
        (forms.operand items q around m T v) (forms.operands items q around ms)
        (operand_so known m sound.0 T v i only h)
        (λ U u x. shown_more any (λ exit Z z k. (k.0, regroup exit Z k.1)) (forms.operands items q around ms U u)
        (operands_so (λ key. known key ⊎ (m.head.id ≡ key)) ms sound.1 U u x.0.0 x.1 x.0.1))
        (λ exit U u o x. (x.0, other_only exit own (λ key. known key ⊎ InList (keys_of (m ∷ ms)) key) U o))
      where
        group : (key : ℕ) → (known key ⊎ (m.head.id ≡ key)) ⊎ InList (keys_of ms) key →
            known key ⊎ InList (keys_of (m ∷ ms)) key
        group key (inl (inl k)) = inl k
        group key (inl (inr k)) = inr (inl k)
        group key (inr k) = inr (inr k)

        regroup : (exit : Exit) (Z : Scopes) →
            OnlyAt exit own (λ key. (known key ⊎ (m.head.id ≡ key)) ⊎ InList (keys_of ms) key) Z →
            OnlyAt exit own (λ key. known key ⊎ InList (keys_of (m ∷ ms)) key) Z
        regroup Value Z k = only_weaker own (λ key. (known key ⊎ (m.head.id ≡ key)) ⊎ InList (keys_of ms) key)
            (λ key. known key ⊎ InList (keys_of (m ∷ ms)) key) Z group k
        regroup (Breaks loop) Z k = tt
        regroup (Continues loop) Z k = tt
        regroup Returns Z k = tt
        regroup Panics Z k = tt

    -- a form with operands, by what it does when it has them
    pub acting_so : (h : NodeHead) (to : Destination) (ms : List (Meaning V)) (act : Does V) (v : V) → AllSound c ms →
        (own ≡ true → Lands S (key_of to)) →
        ((grown : Scopes → Type 0) (U : Scopes) (u : V) → grown U → Held (InList (keys_of ms)) (entries_of U) u →
        Shown any (After c around (λ key. key ≡ key_of to) grown) (act U u)) → Held Nothing (entries_of S) v →
        Shown any (After c around (λ key. key ≡ key_of to) (Grown own S)) (forms.acting items q h around own ms act S v)
    acting_so h to ms act v sound lands does k =
        scopes.in_scope_so items needs q clear keeps c around flying own S ok h.id
        (λ T w. on_value (forms.operands items q around ms T w) (λ T w. on_value (forms.take items q (keys_of ms) T w) act)) v
        (seq (Operated c around own S (λ key. ⊥ ⊎ InList (keys_of ms) key)) Within
        (forms.operands items q around ms (with_scope h.id own S) v)
        (λ T w. on_value (forms.take items q (keys_of ms) T w) act)
        (operands_so (λ key. ⊥) ms sound (with_scope h.id own S) v (scopes.opened items needs h.id own S) (none own) k)
        (λ U u x. taken U u x.0.0 x.1 x.0.1)
        (λ exit U u o x. (
          other_exit c around Nothing flying (Inside own S) (Inside own S) (λ U k. k) exit U u o x.0,
          other_lands flying exit U o,
        )))
      where
        flying : ℕ → Type 0
        flying key = key ≡ key_of to

        Within : Exit → Scopes → V → Type 0
        Within exit U u = After c around flying (Inside own S) exit U u × Landing flying exit U

        none : (own : Bool) → Only own (λ key. ⊥) (with_scope h.id own S)
        none true = tt
        none false = tt

        Empty : Bool → Scopes → Type 0
        Empty true U = Unit {0}
        Empty false [] = Unit {0}
        Empty false (s ∷ U) = s.entries ≡ []

        landing : (b : Bool) → own ≡ b → (exit : Exit) (U : Scopes) → Inside own S U × Empty b U → Landing flying exit U
        landing true o Value A (inside s U f t g, e) =
            inr (λ key same. subst (Lands U) (sym same)
            (scopes.lands_more items needs S U (scopes.grown_wider items needs own S U g) (key_of to) (lands o)))
        landing false o Value A (inside s U f t g, e) = inl e
        landing b o (Breaks loop) U x = tt
        landing b o (Continues loop) U x = tt
        landing b o Returns U x = tt
        landing b o Panics U x = tt

        taken : (U : Scopes) (u : V) → Inside own S U → Only own (λ key. ⊥ ⊎ InList (keys_of ms) key) U →
            Held Nothing (entries_of U) u →
            Shown any Within (act (innermost (without_operands (keys_of ms)) U) u)
        taken A u (inside s U f t g) only h =
            shown_more any (λ exit Z z x. ((x.0.0, x.1), landing own refl exit Z x.0))
            (act (without_operands (keys_of ms) s ∷ U) u)
            (does (λ Z. Inside own S Z × Empty own Z) (without_operands (keys_of ms) s ∷ U) u (
              inside (without_operands (keys_of ms) s) U f (all_without_keys Typed (keys_of ms) s.entries t.0, t.1) g,
              emptied own only,
            ) (taken_held (keys_of ms) s.entries (entries_of U) u h))
          where
            only_them : (key : ℕ) → ⊥ ⊎ InList (keys_of ms) key → InList (keys_of ms) key
            only_them key (inl n) = absurd n
            only_them key (inr k) = k

            emptied : (own : Bool) → Only own (λ key. ⊥ ⊎ InList (keys_of ms) key) (s ∷ U) →
                Empty own (without_operands (keys_of ms) s ∷ U)
            emptied true k = tt
            emptied false k = none_left (keys_of ms) s.entries
                (all_weaker (λ e. ⊥ ⊎ InList (keys_of ms) e.key) (λ e. InList (keys_of ms) e.key) s.entries
                (λ e. only_them e.key) k)
