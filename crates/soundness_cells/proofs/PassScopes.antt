-- What the pass over the forms says of scopes: what is held in a body stands among the entries of its scopes, or is
-- in flight to a destination; what the scopes of a node may be when it has ended; and that a scope which is left, by
-- whatever exit, leaves nothing behind.
use Rattle.std.proofs.Common.{◌≡◌, ◌⊎◌, inl, inr, ℕ, Bool, true, false, List, [], ◌∷◌, ◌++◌, Option, Some, None, if◌then◌else◌, refl, ap, sym, ◌∙◌, subst}
use Rattle.std.proofs.lemmas.Bool.{false≢true}
use Rattle.mir_ty.specs.declared.ty.TyId.{TyId}
use Rattle.mir_ty.specs.Facts.{needs_drop}
use Rattle.mir_ty.specs.ItemTable.{ItemTable}
use Rattle.store_model.specs.Effects.{EffectSite, Action, Unsize, Halt, Out, Go, Unwind, Halts, Effects, stored_by}
use Rattle.store_model.specs.Places.Place.{whole_local}
use Rattle.src_meaning.specs.Forms.{Destination, Into, Coerced, LoopsAndGuards, loop_destination, site_in, moved, acts, deliver}
use Rattle.src_meaning.specs.Scopes.{Entry, Scope, Scopes, with_scope, all_entries, Exit, Value, Breaks, Continues, Returns, Panics, Run, At, Over, Does, on_value, in_scopes, needing_drop, drop_normally, leave, leaving, in_scope}
use Rattle.well_typed.specs.Places.{InScope, LoopAround, Context, entry_with, loop_with}
use Rattle.src_meaning.specs.Shape.{NodeHead, place_of_key}
use Rattle.soundness_values.proofs.Leaving.{Shown, ShownOut, shown_more, LeftBy, Among, among_left, among_right, among_split, AllOf, DropsClear, leaving_panicked, leaving_otherwise}
use Rattle.soundness_cells.proofs.PassClear.{KeepsClear, any, Changes, Nothing, MovedByAny, operands_of, StoredAt}

-- the key of the entry in which a destination is filled
abbrev pub key_of : Destination → ℕ
key_of (Into key) = key
key_of (Coerced key trait_no to) = to

-- the entries of scopes, without what is pending
abbrev pub entries_of : Scopes → List Entry
entries_of [] = []
entries_of (s ∷ S) = s.entries ++ entries_of S

pub entries_among : (S : Scopes) (key : ℕ) → Among (entries_of S) key → Among (all_entries S) key
entries_among [] key h = h
entries_among (s ∷ S) key h = by (λ a. entries_among S key a) (among_split s.entries (entries_of S) key h)
  where
    by : (Among (entries_of S) key → Among (all_entries S) key) → Among s.entries key ⊎ Among (entries_of S) key →
        Among (all_entries (s ∷ S)) key
    by later (inl a) = among_left (s.pending ++ s.entries) (all_entries S) key (among_right s.pending s.entries key a)
    by later (inr a) = among_right (s.pending ++ s.entries) (all_entries S) key (later a)

-- all but one kind of exit
abbrev pub Other : Exit → Type 0
Other Value = ⊥
Other (Breaks loop) = Unit {0}
Other (Continues loop) = Unit {0}
Other Returns = Unit {0}
Other Panics = Unit {0}

-- at a value entries have these keys
abbrev pub NamedAt : Exit → (ℕ → Type 0) → Scopes → Type 0
NamedAt Value known S = (key : ℕ) → known key → Among (entries_of S) key
NamedAt (Breaks loop) known S = Unit {0}
NamedAt (Continues loop) known S = Unit {0}
NamedAt Returns known S = Unit {0}
NamedAt Panics known S = Unit {0}

pub other_named : (exit : Exit) (known : ℕ → Type 0) (S : Scopes) → Other exit → NamedAt exit known S
other_named Value known S o = absurd o
other_named (Breaks loop) known S o = tt
other_named (Continues loop) known S o = tt
other_named Returns known S o = tt
other_named Panics known S o = tt

module _ {V : Type 0} where
  -- one after another: by an exit other than a value the first is the last
  pub seq : (first post : Exit → Scopes → V → Type 0) (r : Run V) (next : Does V) → Shown any first r →
      ((S : Scopes) (v : V) → first Value S v → Shown any post (next S v)) →
      ((exit : Exit) (S : Scopes) (v : V) → Other exit → first exit S v → post exit S v) →
      Shown any post (on_value r next)
  seq first post (At Value S v) next k f g = f S v k
  seq first post (At (Breaks loop) S v) next k f g = g (Breaks loop) S v tt k
  seq first post (At (Continues loop) S v) next k f g = g (Continues loop) S v tt k
  seq first post (At Returns S v) next k f g = g Returns S v tt k
  seq first post (At Panics S v) next k f g = g Panics S v tt k
  seq first post (Over halt v) next k f g = tt

module _ (items : ItemTable) (needs : ℕ → Bool) where
  -- an entry of a type that needs no dropping is in a cell that needs none
  abbrev pub Typed : Entry → Type 0
  Typed e = needs_drop items e.ty ≡ false → needs e.key ≡ false

  abbrev pub AllTyped : Scope → Type 0
  AllTyped s = AllOf Typed s.entries × AllOf Typed s.pending

  -- a destination for a value of a type: where that needs no dropping, neither does the cell
  abbrev pub Suits : TyId → Destination → Type 0
  Suits ty to = needs_drop items ty ≡ false → needs (key_of to) ≡ false

  -- a value that is dropped if the run panics before it is taken, or needs no dropping
  abbrev pub Lands : Scopes → ℕ → Type 0
  Lands S key = (needs key ≡ false) ⊎ Among (all_entries S) key

  -- a scope has new entries or destinations
  pub record More (s s' : Scope) : Type 0 where
    pub among : (key : ℕ) → Among (s.pending ++ s.entries) key → Among (s'.pending ++ s'.entries) key
    pub entries : (key : ℕ) → Among s.entries key → Among s'.entries key
    pub typed : AllTyped s → AllTyped s'
    pub same : s'.for_temporaries ≡ s.for_temporaries

  -- so has the nearest scope for temporaries
  pub data Grows : Scopes → Scopes → Type 0 where
    no_scope : Grows [] []
    here : (s s' : Scope) (S : Scopes) → s.for_temporaries ≡ true → More s s' → Grows (s ∷ S) (s' ∷ S)
    past : (s : Scope) (S T : Scopes) → s.for_temporaries ≡ false → Grows S T → Grows (s ∷ S) (s ∷ T)

  -- a node that is a scope for temporaries of its own leaves the scopes around it as they were
  abbrev pub Grown : Bool → Scopes → Scopes → Type 0
  Grown true S T = T ≡ S
  Grown false S T = Grows S T

  pub no_more : (s : Scope) → More s s
  no_more s = record { among = λ key a. a; entries = λ key a. a; typed = λ t. t; same = refl }

  pub more_then : (s t u : Scope) → More s t → More t u → More s u
  more_then s t u m n = record {
    among = λ key a. n.among key (m.among key a);
    entries = λ key a. n.entries key (m.entries key a);
    typed = λ k. n.typed (m.typed k);
    same = n.same ∙ m.same;
  }

  by_flag : (s : Scope) (S T : Scopes) (b : Bool) → s.for_temporaries ≡ b → Grows S S → Grows (s ∷ S) (s ∷ S)
  by_flag s S T true e g = here s s S e (no_more s)
  by_flag s S T false e g = past s S S e g

  pub not_grown : (S : Scopes) → Grows S S
  not_grown [] = no_scope
  not_grown (s ∷ S) = by_flag s S S s.for_temporaries refl (not_grown S)

  pub grows_then : (S T U : Scopes) → Grows S T → Grows T U → Grows S U
  grows_then A B C no_scope no_scope = no_scope
  grows_then A B C (here s t S e m) (here t2 u S2 f n) = here s u S e (more_then s t u m n)
  grows_then A B C (here s t S e m) (past t2 S2 U f g) =
      absurd (false≢true (sym f ∙ m.same ∙ e))
  grows_then A B C (past s S T e g) (here s2 u V f n) = absurd (false≢true (sym e ∙ f))
  grows_then A B C (past s S T e g) (past s2 V U f h) = past s S U e (grows_then S T U g h)

  pub grows_among : (S T : Scopes) → Grows S T → (key : ℕ) → Among (all_entries S) key → Among (all_entries T) key
  grows_among A B no_scope key a = a
  grows_among A B (here s t S e m) key a = by (among_split (s.pending ++ s.entries) (all_entries S) key a)
    where
      by : Among (s.pending ++ s.entries) key ⊎ Among (all_entries S) key → Among (all_entries (t ∷ S)) key
      by (inl x) = among_left (t.pending ++ t.entries) (all_entries S) key (m.among key x)
      by (inr x) = among_right (t.pending ++ t.entries) (all_entries S) key x
  grows_among A B (past s S T e g) key a =
      by (grows_among S T g key) (among_split (s.pending ++ s.entries) (all_entries S) key a)
    where
      by : (Among (all_entries S) key → Among (all_entries T) key) →
          Among (s.pending ++ s.entries) key ⊎ Among (all_entries S) key → Among (all_entries (s ∷ T)) key
      by later (inl x) = among_left (s.pending ++ s.entries) (all_entries T) key x
      by later (inr x) = among_right (s.pending ++ s.entries) (all_entries T) key (later x)

  pub grows_entries : (S T : Scopes) → Grows S T → (key : ℕ) → Among (entries_of S) key → Among (entries_of T) key
  grows_entries A B no_scope key a = a
  grows_entries A B (here s t S e m) key a = by (among_split s.entries (entries_of S) key a)
    where
      by : Among s.entries key ⊎ Among (entries_of S) key → Among (entries_of (t ∷ S)) key
      by (inl x) = among_left t.entries (entries_of S) key (m.entries key x)
      by (inr x) = among_right t.entries (entries_of S) key x
  grows_entries A B (past s S T e g) key a =
      by (grows_entries S T g key) (among_split s.entries (entries_of S) key a)
    where
      by : (Among (entries_of S) key → Among (entries_of T) key) →
          Among s.entries key ⊎ Among (entries_of S) key → Among (entries_of (s ∷ T)) key
      by later (inl x) = among_left s.entries (entries_of T) key x
      by later (inr x) = among_right s.entries (entries_of T) key (later x)

  -- some scope is one for temporaries
  abbrev pub HasTemporary : Scopes → Type 0
  HasTemporary [] = ⊥
  HasTemporary (s ∷ S) = (s.for_temporaries ≡ true) ⊎ HasTemporary S

  grows_temporary : (S T : Scopes) → Grows S T → HasTemporary S → HasTemporary T
  grows_temporary A B no_scope t = t
  grows_temporary A B (here s t S e m) (inl f) = inl (m.same ∙ f)
  grows_temporary A B (here s t S e m) (inr f) = inr f
  grows_temporary A B (past s S T e g) (inl f) = inl f
  grows_temporary A B (past s S T e g) (inr f) = inr (grows_temporary S T g f)

  -- what stands in the first scopes stands in the second
  pub record Wider (S T : Scopes) : Type 0 where
    pub among : (key : ℕ) → Among (all_entries S) key → Among (all_entries T) key
    pub entries : (key : ℕ) → Among (entries_of S) key → Among (entries_of T) key
    pub temporary : HasTemporary S → HasTemporary T

  pub not_wider : (S : Scopes) → Wider S S
  not_wider S = record { among = λ key a. a; entries = λ key a. a; temporary = λ t. t }

  -- What stands around a node: the destinations of the result and of the loops, and the variables in scope, which are
  -- entries. In a guard the names of its arm are none, but the local in which the scrutinee is.
  pub record AroundOk (c : Context) (around : LoopsAndGuards) (S : Scopes) : Type 0 where
    pub answer : Lands S (key_of around.answer)
    pub answer_suits : Suits c.answer around.answer
    pub loops : (loop : ℕ) (a : LoopAround) → loop_with loop c.loops ≡ Some a →
        Lands S (key_of (loop_destination loop around.loops))
    pub loops_suit : (loop : ℕ) (a : LoopAround) → loop_with loop c.loops ≡ Some a →
        Suits a.ty (loop_destination loop around.loops)
    pub names : (key : ℕ) (x : InScope) → entry_with key c.entries ≡ Some x → (k : ℕ) →
        place_of_key key around.aliases ≡ whole_local k → Among (entries_of S) k
    pub rooted : (key k : ℕ) → place_of_key key around.aliases ≡ whole_local k → Among (entries_of S) k ⊎ (k ≡ key)
    pub temporary : HasTemporary S

  pub lands_more : (S T : Scopes) → Wider S T → (key : ℕ) → Lands S key → Lands T key
  lands_more S T w key (inl n) = inl n
  lands_more S T w key (inr a) = inr (w.among key a)

  pub around_more : (c : Context) (around : LoopsAndGuards) (S T : Scopes) → Wider S T → AroundOk c around S →
      AroundOk c around T
  around_more c around S T w k = record {
    answer = lands_more S T w (key_of around.answer) k.answer;
    answer_suits = k.answer_suits;
    loops = λ loop a e. lands_more S T w (key_of (loop_destination loop around.loops)) (k.loops loop a e);
    loops_suit = k.loops_suit;
    names = λ key x e n p. w.entries n (k.names key x e n p);
    rooted = λ key n p. root n (k.rooted key n p);
    temporary = w.temporary k.temporary;
  }
    where
      root : {key : ℕ} (n : ℕ) → Among (entries_of S) n ⊎ (n ≡ key) → Among (entries_of T) n ⊎ (n ≡ key)
      root n (inl a) = inl (w.entries n a)
      root n (inr e) = inr e

  pub grows_wider : (S T : Scopes) → Grows S T → Wider S T
  grows_wider S T g = record {
    among = grows_among S T g;
    entries = grows_entries S T g;
    temporary = grows_temporary S T g;
  }

  pub grown_wider : (own : Bool) (S T : Scopes) → Grown own S T → Wider S T
  grown_wider true S T e = subst (Wider S) (sym e) (not_wider S)
  grown_wider false S T g = grows_wider S T g

  -- in a scope of a node's own
  pub data Inside (own : Bool) (S : Scopes) : Scopes → Type 0 where
    inside : (s : Scope) (T : Scopes) → s.for_temporaries ≡ own → AllTyped s → Grown own S T → Inside own S (s ∷ T)

  pub opened : (id : ℕ) (own : Bool) (S : Scopes) → Inside own S (with_scope id own S)
  opened id true S = inside _ S refl (tt, tt) refl
  opened id false S = inside _ S refl (tt, tt) (not_grown S)

  pub inside_grows : (own : Bool) (S T U : Scopes) → Inside own S T → Grows T U → Inside own S U
  inside_grows true S A B (inside s T f t g) (here s2 u V e m) = inside u T (m.same ∙ f) (m.typed t) g
  inside_grows true S A B (inside s T f t g) (past s2 V U e h) = absurd (false≢true (sym e ∙ f))
  inside_grows false S A B (inside s T f t g) (here s2 u V e m) = absurd (false≢true (sym f ∙ e))
  inside_grows false S A B (inside s T f t g) (past s2 V U e h) = inside s U f t (grows_then S T U g h)

  pub inside_wider : (own : Bool) (S T : Scopes) → Inside own S T → Wider S T
  inside_wider own S A (inside s T f t g) = record {
    among = λ key a. among_right (s.pending ++ s.entries) (all_entries T) key ((grown_wider own S T g).among key a);
    entries = λ key a. among_right s.entries (entries_of T) key ((grown_wider own S T g).entries key a);
    temporary = λ t. inr ((grown_wider own S T g).temporary t);
  }

  -- ---- what is held

  module _ {V : Type 0} (q : Effects V) (clear : V → ℕ → Type 0) (keeps : KeepsClear q needs clear) where
    owed : DropsClear items q any Typed clear
    owed = record { drops = keeps.drops; needs_none = λ e v t n. keeps.needs_none e.key v (t n); aborts = λ v. tt }

    -- it stands among entries, or is in flight
    abbrev pub Held : (ℕ → Type 0) → List Entry → V → Type 0
    Held flying es v = (key : ℕ) → clear v key ⊎ (Among es key ⊎ flying key)

    abbrev pub IsLoop : Context → ℕ → Type 0
    IsLoop c loop = (a : LoopAround) × (loop_with loop c.loops ≡ Some a)

    -- what is held at an exit; after a panic a destination that is pending may be filled
    abbrev pub HeldAt : Context → LoopsAndGuards → (ℕ → Type 0) → Exit → Scopes → V → Type 0
    HeldAt c around flying Value S v = Held flying (entries_of S) v
    HeldAt c around flying (Breaks loop) S v =
        Held (λ key. key ≡ key_of (loop_destination loop around.loops)) (entries_of S) v × IsLoop c loop
    HeldAt c around flying (Continues loop) S v = Held Nothing (entries_of S) v
    HeldAt c around flying Returns S v = Held (λ key. key ≡ key_of around.answer) (entries_of S) v
    HeldAt c around flying Panics S v = Held Nothing (all_entries S) v

    abbrev pub After : Context → LoopsAndGuards → (ℕ → Type 0) → (Scopes → Type 0) → Exit → Scopes → V → Type 0
    After c around flying grown exit S v = grown S × HeldAt c around flying exit S v

    pub other_held : (c : Context) (around : LoopsAndGuards) (flying flying' : ℕ → Type 0) (exit : Exit) (S : Scopes) (v : V) →
        Other exit → HeldAt c around flying exit S v → HeldAt c around flying' exit S v
    other_held c around flying flying' Value S v o h = absurd o
    other_held c around flying flying' (Breaks loop) S v o h = h
    other_held c around flying flying' (Continues loop) S v o h = h
    other_held c around flying flying' Returns S v o h = h
    other_held c around flying flying' Panics S v o h = h

    -- ---- a scope is left

    -- at a value nothing is dropped, or what is in flight would be dropped after a panic, or needs it not
    abbrev pub Landing : (ℕ → Type 0) → Exit → Scopes → Type 0
    Landing flying Value [] = Unit {0}
    Landing flying Value (s ∷ T) = (s.entries ≡ []) ⊎ ((key : ℕ) → flying key → Lands T key)
    Landing flying (Breaks loop) S = Unit {0}
    Landing flying (Continues loop) S = Unit {0}
    Landing flying Returns S = Unit {0}
    Landing flying Panics S = Unit {0}

    -- a scope with typed entries, on others
    abbrev pub OnTop : (Scopes → Type 0) → Scopes → Type 0
    OnTop rest [] = ⊥
    OnTop rest (s ∷ T) = AllTyped s × rest T

    module _ (c : Context) (around : LoopsAndGuards) (flying : ℕ → Type 0) (S : Scopes)
        (rest : Exit → Scopes → Type 0) (wider : (exit : Exit) (T : Scopes) → rest exit T → Wider S T)
        (panicked : (exit : Exit) (T : Scopes) → rest exit T → rest Panics T)
        (answer : Lands S (key_of around.answer))
        (loops : (loop : ℕ) (a : LoopAround) → loop_with loop c.loops ≡ Some a →
        Lands S (key_of (loop_destination loop around.loops))) where
      abbrev Done : Exit → Scopes → V → Type 0
      Done exit T v = After c around flying (rest exit) exit T v

      settled : (exit : Exit) (in_flight : ℕ → Type 0) (T : Scopes) → rest exit T →
          ((v : V) → Held in_flight (entries_of T) v → HeldAt c around flying exit T v) →
          (exit' : Exit) (T' : Scopes) (v' : V) →
          LeftBy items q any Typed clear owed in_flight exit (entries_of T) T exit' T' v' → Done exit' T' v'
      settled exit in_flight T g f exit' T' v' (same, inl (e, h)) = (
        subst (rest exit') (sym same) (subst (λ E. rest E T) (sym e) g),
        subst (λ X. HeldAt c around flying exit' X v') (sym same)
            (subst (λ E. HeldAt c around flying E T v') (sym e) (f v' h)),
      )
      settled exit in_flight T g f exit' T' v' (same, inr (e, h)) = (
        subst (rest exit') (sym same) (subst (λ E. rest E T) (sym e) (panicked exit T g)),
        subst (λ X. HeldAt c around flying exit' X v') (sym same)
            (subst (λ E. HeldAt c around flying E T v') (sym e) h),
      )

      landed : (T : Scopes) (key : ℕ) (v : V) → Lands T key → clear v key ⊎ Among (all_entries T) key
      landed T key v (inl n) = inl (keeps.needs_none key v n)
      landed T key v (inr a) = inr a

      leave_one : (exit : Exit) (in_flight : ℕ → Type 0) (s : Scope) (T : Scopes) (v : V) → (exit ≡ Panics → ⊥) →
          AllTyped s → rest exit T → ((key : ℕ) → in_flight key → Lands T key) →
          ((v : V) → Held in_flight (entries_of T) v → HeldAt c around flying exit T v) →
          Held in_flight (s.entries ++ entries_of T) v → Shown any Done (leave items q (At exit (s ∷ T) v))
      leave_one exit in_flight s T v unpanicked t g lands f h =
          shown_more any (settled exit in_flight T g f) (leave items q (At exit (s ∷ T) v))
          (leaving_otherwise items q any Typed clear owed in_flight exit s (entries_of T) T v unpanicked
          (λ key v k. landed T key v (lands key k)) (entries_among T) t.0 h)

      empty_left : (s : Scope) (T : Scopes) (v : V) → s.entries ≡ [] → rest Value T →
          Held flying (s.entries ++ entries_of T) v → Shown any Done (leave items q (At Value (s ∷ T) v))
      empty_left s T v e g h =
          subst (λ es. Shown any Done (drop_normally items q Value (needing_drop items es) T v)) (sym e)
          (g, subst (λ es. Held flying (es ++ entries_of T) v) e h)

      panicked_left : (T : Scopes) → rest Panics T → (exit' : Exit) (T' : Scopes) (v' : V) →
          (exit' ≡ Panics) × ((T' ≡ T) × Held Nothing (all_entries T) v') → Done exit' T' v'
      panicked_left T g exit' T' v' (e, (same, h)) = (
        subst (rest exit') (sym same) (subst (λ E. rest E T) (sym e) g),
        subst (λ X. HeldAt c around flying exit' X v') (sym same)
            (subst (λ E. HeldAt c around flying E T v') (sym e) h),
      )

      abbrev is_panic : Exit → Bool
      is_panic Panics = true
      is_panic exit = false

      leave_so : (exit : Exit) (T : Scopes) (v : V) → OnTop (rest exit) T → HeldAt c around flying exit T v →
          Landing flying exit T → Shown any Done (leave items q (At exit T v))
      leave_so exit [] v top h l = absurd top
      leave_so Value (s ∷ T) v (t, g) h (inl e) = empty_left s T v e g h
      leave_so Value (s ∷ T) v (t, g) h (inr l) =
          leave_one Value flying s T v (λ e. false≢true (ap is_panic e)) t g l (λ v h. h) h
      leave_so (Breaks loop) (s ∷ T) v (t, g) h l =
          leave_one (Breaks loop) (λ key. key ≡ key_of (loop_destination loop around.loops)) s T v
          (λ e. false≢true (ap is_panic e)) t g
          (λ key e. subst (Lands T) (sym e) (lands_more S T (wider (Breaks loop) T g) _ (loops loop h.1.0 h.1.1)))
          (λ v k. (k, h.1)) h.0
      leave_so (Continues loop) (s ∷ T) v (t, g) h l =
          leave_one (Continues loop) Nothing s T v (λ e. false≢true (ap is_panic e)) t g (λ key n. absurd n)
          (λ v h. h) h
      leave_so Returns (s ∷ T) v (t, g) h l =
          leave_one Returns (λ key. key ≡ key_of around.answer) s T v (λ e. false≢true (ap is_panic e)) t g
          (λ key e. subst (Lands T) (sym e) (lands_more S T (wider Returns T g) _ answer)) (λ v h. h) h
      leave_so Panics (s ∷ T) v (t, g) h l =
          shown_more any (panicked_left T g) (leave items q (At Panics (s ∷ T) v))
          (leaving_panicked items q any Typed clear owed s T v t.1 t.0 h)

      -- a run within a scope, which is left
      abbrev pub Within : Exit → Scopes → V → Type 0
      Within exit T v = After c around flying (OnTop (rest exit)) exit T v × Landing flying exit T

      pub leaving_so : (r : Run V) → Shown any Within r → Shown any Done (leave items q r)
      leaving_so (At exit T v) h = leave_so exit T v h.0.0 h.0.1 h.1
      leaving_so (Over halt v) h = tt

    pub inside_top : (own : Bool) (S T : Scopes) → Inside own S T → OnTop (Grown own S) T
    inside_top own S A (inside s T f t g) = (t, g)

    pub in_scope_landed : (c : Context) (around : LoopsAndGuards) (flying : ℕ → Type 0) (own : Bool) (S : Scopes) →
        Lands S (key_of around.answer) →
        ((loop : ℕ) (a : LoopAround) → loop_with loop c.loops ≡ Some a →
        Lands S (key_of (loop_destination loop around.loops))) → (id : ℕ) (does : Does V) (v : V) →
        Shown any (λ exit T v. After c around flying (Inside own S) exit T v × Landing flying exit T)
        (does (with_scope id own S) v) →
        Shown any (After c around flying (Grown own S)) (in_scope items q id own does S v)
    in_scope_landed c around flying own S answer loops id does v h =
        leaving_so c around flying S (λ exit. Grown own S) (λ exit. grown_wider own S) (λ exit T g. g) answer loops (does (with_scope id own S) v)
        (shown_more any (λ exit T u x. ((inside_top own S T x.0.0, x.0.1), x.1)) (does (with_scope id own S) v) h)

    pub in_scope_so : (c : Context) (around : LoopsAndGuards) (flying : ℕ → Type 0) (own : Bool) (S : Scopes) →
        AroundOk c around S → (id : ℕ) (does : Does V) (v : V) →
        Shown any (λ exit T v. After c around flying (Inside own S) exit T v × Landing flying exit T)
        (does (with_scope id own S) v) →
        Shown any (After c around flying (Grown own S)) (in_scope items q id own does S v)
    in_scope_so c around flying own S ok id does v h =
        in_scope_landed c around flying own S ok.answer ok.loops id does v h

    -- ---- actions

    pub acts_so : (c : Context) (around : LoopsAndGuards) (grown : Scopes → Type 0) (S : Scopes) → grown S →
        (action : Action) (taken filled : ℕ → Type 0) (v : V) →
        ((key : ℕ) → taken key → MovedByAny (operands_of action) key) →
        ((key : ℕ) → StoredAt (stored_by action) key → filled key) → Held taken (entries_of S) v →
        Shown any (After c around filled grown) (acts items q action S v)
    acts_so c around grown S g action taken filled v moves stores h = by (q.act action v) (keeps.acts action v)
      where
        goes : (v' : V) → Changes clear (MovedByAny (operands_of action)) (StoredAt (stored_by action)) v v' →
            (key : ℕ) → clear v key ⊎ (Among (entries_of S) key ⊎ taken key) →
            clear v' key ⊎ (Among (entries_of S) key ⊎ filled key)
        goes v' f key (inr (inl a)) = inr (inl a)
        goes v' f key (inl x) = after (f key (inl x))
          where
            after : clear v' key ⊎ StoredAt (stored_by action) key → clear v' key ⊎ (Among (entries_of S) key ⊎ filled key)
            after (inl y) = inl y
            after (inr y) = inr (inr (stores key y))
        goes v' f key (inr (inr m)) = after (f key (inr (moves key m)))
          where
            after : clear v' key ⊎ StoredAt (stored_by action) key → clear v' key ⊎ (Among (entries_of S) key ⊎ filled key)
            after (inl y) = inl y
            after (inr y) = inr (inr (stores key y))

        unwinds : (v' : V) → Changes clear (MovedByAny (operands_of action)) Nothing v v' → (key : ℕ) →
            clear v key ⊎ (Among (entries_of S) key ⊎ taken key) →
            clear v' key ⊎ (Among (all_entries S) key ⊎ ⊥)
        unwinds v' f key (inr (inl a)) = inr (inl (entries_among S key a))
        unwinds v' f key (inl x) = after (f key (inl x))
          where
            after : clear v' key ⊎ ⊥ → clear v' key ⊎ (Among (all_entries S) key ⊎ ⊥)
            after (inl y) = inl y
            after (inr n) = absurd n
        unwinds v' f key (inr (inr m)) = after (f key (inr (moves key m)))
          where
            after : clear v' key ⊎ ⊥ → clear v' key ⊎ (Among (all_entries S) key ⊎ ⊥)
            after (inl y) = inl y
            after (inr n) = absurd n

        by : (o : Out V) →
            ShownOut any (Changes clear (MovedByAny (operands_of action)) (StoredAt (stored_by action)) v)
            (Changes clear (MovedByAny (operands_of action)) Nothing v) o →
            Shown any (After c around filled grown) (in_scopes S o)
        by (Go v') f = (g, λ key. goes v' f key (h key))
        by (Unwind v') f = (g, λ key. unwinds v' f key (h key))
        by (Halts halt v') f = tt

    -- the answer of an action goes to a destination; what it takes is no entry
    pub deliver_so : (c : Context) (around : LoopsAndGuards) (grown : Scopes → Type 0) (S : Scopes) → grown S →
        (h : NodeHead) (action : EffectSite → Action) (to : Destination) (taken : ℕ → Type 0) (v : V) →
        ((site : EffectSite) (key : ℕ) → taken key → MovedByAny (operands_of (action site)) key) →
        ((site : EffectSite) (key : ℕ) → StoredAt (stored_by (action site)) key → site.place ≡ whole_local key) →
        Held taken (entries_of S) v →
        Shown any (After c around (λ key. key ≡ key_of to) grown) (deliver items q h action to S v)
    deliver_so c around grown S g h action (Into to) taken v moves stores k =
        acts_so c around grown S g (action (site_in h.id to)) taken (λ key. key ≡ to) v (moves (site_in h.id to))
        (λ key s. sym (ap (λ p. p.local) (stores (site_in h.id to) key s))) k
    deliver_so c around grown S g h action (Coerced own trait_no to) taken v moves stores k =
        seq (After c around (λ key. key ≡ own) grown) (After c around (λ key. key ≡ to) grown)
        (acts items q (action (site_in h.id own)) S v) (acts items q (Unsize (site_in h.id to) trait_no (moved h.id own)))
        (acts_so c around grown S g (action (site_in h.id own)) taken (λ key. key ≡ own) v (moves (site_in h.id own))
        (λ key s. sym (ap (λ p. p.local) (stores (site_in h.id own) key s))) k)
        (λ T u x. acts_so c around grown T x.0 (Unsize (site_in h.id to) trait_no (moved h.id own)) (λ key. key ≡ own)
        (λ key. key ≡ to) u (λ key e. inl (ap whole_local (sym e))) (λ key s. sym (ap (λ p. p.local) s)) x.1)
        (λ exit T u o x. (x.0, other_held c around (λ key. key ≡ own) (λ key. key ≡ to) exit T u o x.1))
