-- What is shown of one run alone, rule by rule; and that a scope which is left leaves nothing behind: what is held
-- in a body stands in the scopes that are still to leave, or it is the value in flight. Nothing of values is used
-- here.
use Rattle.std.proofs.Common.{◌≡◌, ◌⊎◌, inl, inr, ℕ, Bool, true, false, List, [], ◌∷◌, ◌++◌, if◌then◌else◌, refl, subst}
use Rattle.mir_ty.specs.Facts.{needs_drop}
use Rattle.mir_ty.specs.ItemTable.{ItemTable}
use Rattle.store_model.specs.Effects.{Mode, Normal, Unwinding, Halt, Aborted, Out, Go, Unwind, Halts, Choice, Yes, No, Neither, Effects}
use Rattle.src_meaning.specs.Scopes.{Entry, Scope, Scopes, all_entries, needing_drop, Exit, Value, Breaks, Continues, Returns, Panics, Run, At, Over, Does, on_value, in_scopes, chosen, entry_site, dropped_unwinding, drop_unwinding, dropped_normally, drop_normally, leave}

-- a run is at an exit of which this holds, or it has halted so
abbrev pub Shown : {V : Type 0} → (Halt → V → Type 0) → (Exit → Scopes → V → Type 0) → Run V → Type 0
Shown over post (At exit S v) = post exit S v
Shown over post (Over halt v) = over halt v

abbrev pub ShownOut : {V : Type 0} → (Halt → V → Type 0) → (V → Type 0) → (V → Type 0) → Out V → Type 0
ShownOut over went panicked (Go v) = went v
ShownOut over went panicked (Unwind v) = panicked v
ShownOut over went panicked (Halts halt v) = over halt v

-- what holds at a value, and at every other exit
abbrev pub if_value : {A : Type 1} → Exit → A → A → A
if_value Value valued other = valued
if_value (Breaks loop) valued other = other
if_value (Continues loop) valued other = other
if_value Returns valued other = other
if_value Panics valued other = other

module _ {V : Type 0} (over : Halt → V → Type 0) where
  pub shown_more : {post more : Exit → Scopes → V → Type 0} →
      ((exit : Exit) (S : Scopes) (v : V) → post exit S v → more exit S v) → (r : Run V) → Shown over post r →
      Shown over more r
  shown_more h (At exit S v) k = h exit S v k
  shown_more h (Over halt v) k = k

  -- one after another: by an exit other than a value the first is the last
  pub shown_then : (post : Exit → Scopes → V → Type 0) (mid : Scopes → V → Type 0) (r : Run V) (next : Does V) →
      Shown over (λ exit S v. if_value exit (mid S v) (post exit S v)) r →
      ((S : Scopes) (v : V) → mid S v → Shown over post (next S v)) → Shown over post (on_value r next)
  shown_then post mid (At Value S v) next k h = h S v k
  shown_then post mid (At (Breaks loop) S v) next k h = k
  shown_then post mid (At (Continues loop) S v) next k h = k
  shown_then post mid (At Returns S v) next k h = k
  shown_then post mid (At Panics S v) next k h = k
  shown_then post mid (Over halt v) next k h = k

  pub shown_doing : (post : Exit → Scopes → V → Type 0) (S : Scopes) (o : Out V) → ShownOut over (post Value S)
      (post Panics S) o → Shown over post (in_scopes S o)
  shown_doing post S (Go v) k = k
  shown_doing post S (Unwind v) k = k
  shown_doing post S (Halts halt v) k = k

  pub shown_chosen : (post : Exit → Scopes → V → Type 0) (takes leaves : V → Type 0) (o : Choice V)
      (f g : V → Run V) →
      (elim o as (λ x. Type 0) [ Yes v ↦ takes v | No v ↦ leaves v | Neither halt v ↦ over halt v ]) →
      ((v : V) → takes v → Shown over post (f v)) → ((v : V) → leaves v → Shown over post (g v)) →
      Shown over post (chosen o f g)
  shown_chosen post takes leaves (Yes v) f g k h j = h v k
  shown_chosen post takes leaves (No v) f g k h j = j v k
  shown_chosen post takes leaves (Neither halt v) f g k h j = k

-- a key is among entries
abbrev pub Among : List Entry → ℕ → Type 0
Among [] k = ⊥
Among (e ∷ es) k = (e.key ≡ k) ⊎ Among es k

pub among_left : (a b : List Entry) (k : ℕ) → Among a k → Among (a ++ b) k
among_left [] b k h = absurd h
among_left (e ∷ a) b k (inl h) = inl h
among_left (e ∷ a) b k (inr h) = inr (among_left a b k h)

pub among_right : (a b : List Entry) (k : ℕ) → Among b k → Among (a ++ b) k
among_right [] b k h = h
among_right (e ∷ a) b k h = inr (among_right a b k h)

pub among_split : (a b : List Entry) (k : ℕ) → Among (a ++ b) k → Among a k ⊎ Among b k
among_split [] b k h = inr h
among_split (e ∷ a) b k (inl h) = inl (inl h)
among_split (e ∷ a) b k (inr h) = by (among_split a b k h)
  where
    by : Among a k ⊎ Among b k → Among (e ∷ a) k ⊎ Among b k
    by (inl x) = inl (inr x)
    by (inr x) = inr x

-- What the effects owe: whether the cell of a key holds nothing that would need dropping.
abbrev pub AllOf : (Entry → Type 0) → List Entry → Type 0
AllOf typed [] = Unit {0}
AllOf typed (e ∷ es) = typed e × AllOf typed es

pub all_append : (typed : Entry → Type 0) (a b : List Entry) → AllOf typed a → AllOf typed b → AllOf typed (a ++ b)
all_append typed [] b h k = k
all_append typed (e ∷ a) b h k = (h.0, all_append typed a b h.1 k)

pub record DropsClear {V : Type 0} (items : ItemTable) (q : Effects V) (over : Halt → V → Type 0)
    (typed : Entry → Type 0) (clear : V → ℕ → Type 0) : Type 0 where
  pub drops : (mode : Mode) (e : Entry) (v : V) →
      ShownOut over (λ v'. clear v' e.key × ((k : ℕ) → clear v k → clear v' k))
      (λ v'. clear v' e.key × ((k : ℕ) → clear v k → clear v' k)) (q.drop mode (entry_site e) v)
  pub needs_none : (e : Entry) (v : V) → typed e → needs_drop items e.ty ≡ false → clear v e.key
  pub aborts : (v : V) → over Aborted v

module _ {V : Type 0} (items : ItemTable) (q : Effects V) (over : Halt → V → Type 0) (typed : Entry → Type 0)
    (clear : V → ℕ → Type 0) (owed : DropsClear items q over typed clear) where
  -- what is held stands among entries, or is in flight
  abbrev pub Held : (ℕ → Type 0) → List Entry → V → Type 0
  Held flying es v = (k : ℕ) → clear v k ⊎ (Among es k ⊎ flying k)

  abbrev nothing : ℕ → Type 0
  nothing k = ⊥

  -- an entry that is gone is none any more
  past : (flying : ℕ → Type 0) (e : Entry) (es : List Entry) (v v' : V) → Held flying (e ∷ es) v → clear v' e.key →
      ((k : ℕ) → clear v k → clear v' k) → Held flying es v'
  past flying e es v v' h c kept k = by (h k)
    where
      by : clear v k ⊎ (((e.key ≡ k) ⊎ Among es k) ⊎ flying k) → clear v' k ⊎ (Among es k ⊎ flying k)
      by (inl x) = inl (kept k x)
      by (inr (inl (inl same))) = inl (subst (clear v') same c)
      by (inr (inl (inr there))) = inr (inl there)
      by (inr (inr flies)) = inr (inr flies)

  -- entries are dropped while a panic unwinds
  unwinding_clears : (es rest : List Entry) (S : Scopes) (v : V) → AllOf typed es → Held nothing (es ++ rest) v →
      Shown over (λ exit S' v'. (exit ≡ Panics) × ((S' ≡ S) × Held nothing rest v'))
      (drop_unwinding items q (needing_drop items es) S v)
  unwinding_clears [] rest S v t h = (refl, (refl, h))
  unwinding_clears (e ∷ es) rest S v t h = by (needs_drop items e.ty) refl
      (λ v' k. unwinding_clears es rest S v' t.1 k)
    where
      abbrev_post : Exit → Scopes → V → Type 0
      abbrev_post exit S' v' = (exit ≡ Panics) × ((S' ≡ S) × Held nothing rest v')

      dropped : (o : Out V) → ShownOut over (λ v'. clear v' e.key × ((k : ℕ) → clear v k → clear v' k))
          (λ v'. clear v' e.key × ((k : ℕ) → clear v k → clear v' k)) o →
          ((v' : V) → Held nothing (es ++ rest) v' →
          Shown over abbrev_post (drop_unwinding items q (needing_drop items es) S v')) →
          Shown over abbrev_post (dropped_unwinding items q o (drop_unwinding items q (needing_drop items es) S))
      dropped (Go v') k later = later v' (past nothing e (es ++ rest) v v' h k.0 k.1)
      dropped (Unwind v') k later = owed.aborts v'
      dropped (Halts halt v') k later = k

      by : (b : Bool) → needs_drop items e.ty ≡ b →
          ((v' : V) → Held nothing (es ++ rest) v' →
          Shown over abbrev_post (drop_unwinding items q (needing_drop items es) S v')) →
          Shown over abbrev_post
          (drop_unwinding items q (if b then e ∷ needing_drop items es else needing_drop items es) S v)
      by true n later = dropped (q.drop Unwinding (entry_site e) v) (owed.drops Unwinding e v) later
      by false n later = later v (past nothing e (es ++ rest) v v h (owed.needs_none e v t.0 n) (λ k c. c))

  -- Entries are dropped by another exit. What is held besides stands among others, all of them entries of the scopes
  -- that are still to leave; and so is the value in flight pending there, where it needs dropping.
  normally_clears : (flying : ℕ → Type 0) (exit : Exit) (es others : List Entry) (S : Scopes) (v : V) →
      ((k : ℕ) (v : V) → flying k → clear v k ⊎ Among (all_entries S) k) →
      ((k : ℕ) → Among others k → Among (all_entries S) k) → AllOf typed es → Held flying (es ++ others) v →
      Shown over (λ exit' S' v'.
      (S' ≡ S) × (((exit' ≡ exit) × Held flying others v')
      ⊎ ((exit' ≡ Panics) × Held nothing (all_entries S) v')))
      (drop_normally items q exit (needing_drop items es) S v)
  normally_clears flying exit [] others S v lands within t h = (refl, inl (refl, h))
  normally_clears flying exit (e ∷ es) others S v lands within t h = by (needs_drop items e.ty) refl
      (λ v' k. normally_clears flying exit es others S v' lands within t.1 k)
    where
      left : Exit → Scopes → V → Type 0
      left exit' S' v' = (S' ≡ S)
          × (((exit' ≡ exit) × Held flying others v')
          ⊎ ((exit' ≡ Panics) × Held nothing (all_entries S) v'))

      -- after a panic the value in flight is one that is pending
      landed : (v' : V) → Held flying (es ++ others) v' → Held nothing (es ++ all_entries S) v'
      landed v' k n = by (k n)
        where
          there : clear v' n ⊎ Among (all_entries S) n → clear v' n ⊎ (Among (es ++ all_entries S) n ⊎ ⊥)
          there (inl c) = inl c
          there (inr a) = inr (inl (among_right es (all_entries S) n a))

          among : Among es n ⊎ Among others n → Among (es ++ all_entries S) n
          among (inl a) = among_left es (all_entries S) n a
          among (inr a) = among_right es (all_entries S) n (within n a)

          by : clear v' n ⊎ (Among (es ++ others) n ⊎ flying n) →
              clear v' n ⊎ (Among (es ++ all_entries S) n ⊎ ⊥)
          by (inl c) = inl c
          by (inr (inl a)) = inr (inl (among (among_split es others n a)))
          by (inr (inr f)) = there (lands n v' f)

      dropped : (o : Out V) → ShownOut over (λ v'. clear v' e.key × ((k : ℕ) → clear v k → clear v' k))
          (λ v'. clear v' e.key × ((k : ℕ) → clear v k → clear v' k)) o →
          ((v' : V) → Held flying (es ++ others) v' →
          Shown over left (drop_normally items q exit (needing_drop items es) S v')) →
          Shown over left (dropped_normally items q o (drop_normally items q exit (needing_drop items es) S)
          (drop_unwinding items q (needing_drop items es) S))
      dropped (Go v') k later = later v' (past flying e (es ++ others) v v' h k.0 k.1)
      dropped (Unwind v') k later =
          shown_more over (λ exit' S' u x. (x.1.0, inr (x.0, x.1.1)))
          (drop_unwinding items q (needing_drop items es) S v')
          (unwinding_clears es (all_entries S) S v' t.1
          (landed v' (past flying e (es ++ others) v v' h k.0 k.1)))
      dropped (Halts halt v') k later = k

      by : (b : Bool) → needs_drop items e.ty ≡ b →
          ((v' : V) → Held flying (es ++ others) v' →
          Shown over left (drop_normally items q exit (needing_drop items es) S v')) →
          Shown over left (drop_normally items q exit
          (if b then e ∷ needing_drop items es else needing_drop items es) S
          v)
      by true n later = dropped (q.drop Normal (entry_site e) v) (owed.drops Normal e v) later
      by false n later = later v (past flying e (es ++ others) v v h (owed.needs_none e v t.0 n) (λ k c. c))

  -- a scope is left after a panic
  pub leaving_panicked : (s : Scope) (S : Scopes) (v : V) → AllOf typed s.pending → AllOf typed s.entries →
      Held nothing (all_entries (s ∷ S)) v →
      Shown over (λ exit' S' v'. (exit' ≡ Panics) × ((S' ≡ S) × Held nothing (all_entries S) v'))
      (leave items q (At Panics (s ∷ S) v))
  leaving_panicked s S v t u h = unwinding_clears (s.pending ++ s.entries) (all_entries S) S v
      (all_append typed s.pending s.entries t u) h

  -- A scope is left by another exit: what is held stands among its entries or others, all of them entries of the
  -- scopes around it, or is in flight. Then it stands among the others, or is in flight; after a panic it stands in the
  -- scopes around it.
  abbrev pub LeftBy : (ℕ → Type 0) → Exit → List Entry → Scopes → Exit → Scopes → V → Type 0
  LeftBy flying exit others S exit' S' v' =
      (S' ≡ S) × (((exit' ≡ exit) × Held flying others v')
      ⊎ ((exit' ≡ Panics) × Held nothing (all_entries S) v'))

  pub leaving_otherwise : (flying : ℕ → Type 0) (exit : Exit) (s : Scope) (others : List Entry) (S : Scopes) (v : V) →
      (exit ≡ Panics → ⊥) →
      ((k : ℕ) (v : V) → flying k → clear v k ⊎ Among (all_entries S) k) →
      ((k : ℕ) → Among others k → Among (all_entries S) k) → AllOf typed s.entries →
      Held flying (s.entries ++ others) v → Shown over (LeftBy flying exit others S) (leave items q (At exit (s ∷ S) v))
  leaving_otherwise flying Value s others S v n lands within t h =
      normally_clears flying Value s.entries others S v lands within t h
  leaving_otherwise flying (Breaks loop) s others S v n lands within t h =
      normally_clears flying (Breaks loop) s.entries others S v lands within t h
  leaving_otherwise flying (Continues loop) s others S v n lands within t h =
      normally_clears flying (Continues loop) s.entries others S v lands within t h
  leaving_otherwise flying Returns s others S v n lands within t h =
      normally_clears flying Returns s.entries others S v lands within t h
  leaving_otherwise flying Panics s others S v n lands within t h = absurd (n refl)
