-- Statements keep to what the pass says of scopes: they leave their own, and the names of a `let` are entries of the
-- block's.
use Rattle.std.proofs.Common.{◌≡◌, ◌⊎◌, inl, inr, ℕ, ◌||◌, not, Bool, true, false, List, [], ◌∷◌, ◌++◌, refl, ap, sym, ◌∙◌, subst}
use Rattle.std.proofs.lemmas.Bool.{false≢true}
use Rattle.mir_ty.specs.declared.ty.TyId.{TyId}
use Rattle.mir_ty.specs.Facts.{needs_drop}
use Rattle.mir_ty.specs.ItemTable.{ItemTable}
use Rattle.store_model.specs.Effects.{Effects, Normal, Out, Go, Unwind, Halts}
use Rattle.src_meaning.specs.Forms as forms
use Rattle.src_meaning.specs.Forms.{Destination, Into, LoopsAndGuards, Meaning, entry_of, bound_entry, site_of_key, changed_if, is_never, place_of}
use Rattle.src_meaning.specs.Scopes.{Entry, Scope, Scopes, with_scope, innermost, around_innermost, with_entry, with_pending, without_pending, all_entries, Exit, Value, Breaks, Continues, Returns, Panics, Run, At, Does, on_value, in_scopes, in_scope}
use Rattle.src_meaning.specs.Shape.{NodeHead, BoundName}
use Rattle.well_typed.specs.Places.{Context}
use Rattle.soundness_values.proofs.Leaving.{Shown, ShownOut, shown_more, Among, among_left, among_right, among_split}
use Rattle.soundness_cells.proofs.PassClear.{KeepsClear, any, Nothing}
use Rattle.soundness_cells.proofs.PassPatterns as patterns
use Rattle.soundness_cells.proofs.PassRules as rules
use Rattle.soundness_cells.proofs.PassScopes as scopes
use Rattle.soundness_cells.proofs.PassScopes.{key_of, entries_of, entries_among, Other, seq, here, past, inside}
use Rattle.soundness_cells.proofs.PassSteps as steps

module _ {V : Type 0} (items : ItemTable) (needs : ℕ → Bool) (q : Effects V) (clear : V → ℕ → Type 0)
    (keeps : KeepsClear q needs clear) where
  abbrev Held : (ℕ → Type 0) → List Entry → V → Type 0
  Held = scopes.Held items needs q clear keeps

  abbrev After : Context → LoopsAndGuards → (ℕ → Type 0) → (Scopes → Type 0) → Exit → Scopes → V → Type 0
  After = scopes.After items needs q clear keeps

  abbrev AroundOk : Context → LoopsAndGuards → Scopes → Type 0
  AroundOk = scopes.AroundOk items needs

  abbrev Inside : Bool → Scopes → Scopes → Type 0
  Inside = scopes.Inside items needs

  abbrev Grown : Bool → Scopes → Scopes → Type 0
  Grown = scopes.Grown items needs

  abbrev Grows : Scopes → Scopes → Type 0
  Grows = scopes.Grows items needs

  abbrev Lands : Scopes → ℕ → Type 0
  Lands = scopes.Lands items needs

  abbrev Typed : Entry → Type 0
  Typed = scopes.Typed items needs

  abbrev Suits : TyId → Destination → Type 0
  Suits = scopes.Suits items needs

  abbrev Sound : Context → Meaning V → Type 0
  Sound = rules.Sound items needs q clear keeps

  abbrev DoesSo : Context → LoopsAndGuards → (ℕ → Type 0) → Does V → Type 0
  DoesSo = steps.DoesSo items needs q clear keeps

  abbrev AllBound : List BoundName → Type 0
  AllBound = patterns.AllBound items needs q clear keeps

  abbrev BoundIn : List BoundName → ℕ → Type 0
  BoundIn = patterns.BoundIn items needs q clear keeps

  abbrev Bound : Context → LoopsAndGuards → (Scopes → Type 0) → (Scopes → List Entry) → (ℕ → Type 0) → Exit → Scopes → V → Type 0
  Bound = patterns.Bound items needs q clear keeps

  abbrev NamedIn : (Scopes → List Entry) → Exit → (ℕ → Type 0) → Scopes → Type 0
  NamedIn = patterns.NamedIn items needs q clear keeps

  abbrev More : Scope → Scope → Type 0
  More = scopes.More items needs

  -- ---- scopes of which the innermost has new entries

  abbrev pub MoreIn : Scopes → Scopes → Type 0
  MoreIn [] T = ⊥
  MoreIn (s ∷ S) [] = ⊥
  MoreIn (s ∷ S) (t ∷ T) = More s t × (T ≡ S)

  pub more_in_wider : (S T : Scopes) → MoreIn S T → scopes.Wider items needs S T
  more_in_wider [] T m = absurd m
  more_in_wider (s ∷ S) [] m = absurd m
  more_in_wider (s ∷ S) (t ∷ T) (m, e) =
      subst (λ Z. scopes.Wider items needs (s ∷ S) (t ∷ Z)) (sym e) (record {
        among = λ key a. among key (among_split (s.pending ++ s.entries) (all_entries S) key a);
        entries = λ key a. entries key (among_split s.entries (entries_of S) key a);
        temporary = temporary;
      })
    where
      among : (key : ℕ) → Among (s.pending ++ s.entries) key ⊎ Among (all_entries S) key →
          Among (all_entries (t ∷ S)) key
      among key (inl a) = among_left (t.pending ++ t.entries) (all_entries S) key (m.among key a)
      among key (inr a) = among_right (t.pending ++ t.entries) (all_entries S) key a

      entries : (key : ℕ) → Among s.entries key ⊎ Among (entries_of S) key → Among (entries_of (t ∷ S)) key
      entries key (inl a) = among_left t.entries (entries_of S) key (m.entries key a)
      entries key (inr a) = among_right t.entries (entries_of S) key a

      temporary : (s.for_temporaries ≡ true) ⊎ scopes.HasTemporary items needs S →
          (t.for_temporaries ≡ true) ⊎ scopes.HasTemporary items needs S
      temporary (inl f) = inl (m.same ∙ f)
      temporary (inr f) = inr f

  pub inside_more : (own : Bool) (S T U : Scopes) → Inside own S T → MoreIn T U → Inside own S U
  inside_more own S A [] (inside s T f t g) m = absurd m
  inside_more own S A (u ∷ U) (inside s T f t g) (m, e) =
      inside u U (m.same ∙ f) (m.typed t) (subst (Grown own S) (sym e) g)

  pub more_in_then : (S T U : Scopes) → MoreIn S T → MoreIn T U → MoreIn S U
  more_in_then [] T U m n = m
  more_in_then (s ∷ S) [] U m n = absurd m
  more_in_then (s ∷ S) (t ∷ T) [] m n = absurd n
  more_in_then (s ∷ S) (t ∷ T) (u ∷ U) (m, e) (n, d) = (scopes.more_then items needs s t u m n, d ∙ e)

  enters_more : (S : Scopes) → patterns.Enters items needs q clear keeps (MoreIn S) entries_of innermost
  enters_more S e [] t m = absurd (none S m)
    where
      none : (S : Scopes) → MoreIn S [] → ⊥
      none [] m = m
      none (s ∷ S) m = m
  enters_more [] e (u ∷ U) t m = absurd m
  enters_more (s ∷ S) e (u ∷ U) t (m, d) = (
    (scopes.more_then items needs s u (with_entry e u) m (rules.entered items needs q clear keeps e u t), d),
    (among, among),
  )
    where
      among : (key : ℕ) → Among (u.entries ++ entries_of U) key ⊎ (e.key ≡ key) →
          Among ((e ∷ u.entries) ++ entries_of U) key
      among key (inl a) = inr a
      among key (inr same) = inl same

  -- ---- in the scope of a statement, on that of a block

  -- its own scope for temporaries, and the block's with new entries
  abbrev InStatement : Scopes → Scopes → Type 0
  InStatement S [] = ⊥
  InStatement S (s ∷ T) = ((s.for_temporaries ≡ true) × scopes.AllTyped items needs s) × MoreIn S T

  statement_wider : (S T : Scopes) → InStatement S T → scopes.Wider items needs S T
  statement_wider S [] i = absurd i
  statement_wider S (s ∷ T) (f, m) = let w = more_in_wider S T m in record {
    among = λ key a. among_right (s.pending ++ s.entries) (all_entries T) key (w.among key a);
    entries = λ key a. among_right s.entries (entries_of T) key (w.entries key a);
    temporary = λ t. inr (w.temporary t);
  }

  statement_grows : (S T U : Scopes) → Grows T U → InStatement S T → InStatement S U
  statement_grows S A B scopes.no_scope i = absurd i
  statement_grows S A B (here s u T e n) ((f, t), m) = ((n.same ∙ f, n.typed t), m)
  statement_grows S A B (past s T U e g) ((f, t), m) = absurd (false≢true (sym e ∙ f))

  -- the entries of all scopes but the innermost
  abbrev pub outer_entries : Scopes → List Entry
  outer_entries [] = []
  outer_entries (s ∷ T) = entries_of T

  enters_block : (S : Scopes) → patterns.Enters items needs q clear keeps (InStatement S) outer_entries around_innermost
  enters_block S e [] t i = absurd i
  enters_block S e (s ∷ T) t (f, m) =
      let x = enters_more S e T t m in ((f, x.0), (λ key k. among key x.1.0 k, x.1.0))
    where
      among : (key : ℕ) →
          ((key : ℕ) → Among (entries_of T) key ⊎ (e.key ≡ key) → Among (entries_of (innermost (with_entry e) T)) key) →
          Among (s.entries ++ entries_of T) key ⊎ (e.key ≡ key) →
          Among (s.entries ++ entries_of (innermost (with_entry e) T)) key
      among key f (inl a) = by (among_split s.entries (entries_of T) key a)
        where
          by : Among s.entries key ⊎ Among (entries_of T) key →
              Among (s.entries ++ entries_of (innermost (with_entry e) T)) key
          by (inl x) = among_left s.entries (entries_of (innermost (with_entry e) T)) key x
          by (inr x) = among_right s.entries (entries_of (innermost (with_entry e) T)) key (f key (inl x))
      among key f (inr same) = among_right s.entries (entries_of (innermost (with_entry e) T)) key (f key (inr same))

  -- the block's scope, as the statement leaves it; at a value it has the names
  abbrev Rest : (ℕ → Type 0) → Scopes → Exit → Scopes → Type 0
  Rest known S exit T = MoreIn S T × NamedIn entries_of exit known T

  panicked_rest : (known : ℕ → Type 0) (S : Scopes) (exit : Exit) (T : Scopes) → Rest known S exit T → Rest known S Panics T
  panicked_rest known S exit T x = (x.0, tt)

  abbrev Statement : Context → LoopsAndGuards → (ℕ → Type 0) → Scopes → Exit → Scopes → V → Type 0
  Statement c around known S = Bound c around (InStatement S) outer_entries known

  open_statement : (id : ℕ) (s : Scope) (S : Scopes) → InStatement (s ∷ S) (with_scope id true (s ∷ S))
  open_statement id s S = ((refl, (tt, tt)), (scopes.no_more items needs s, refl))

  leave_statement : (c : Context) (around : LoopsAndGuards) (known : ℕ → Type 0) (id : ℕ) (does : Does V) (S : Scopes) (v : V) →
      AroundOk c around S → Shown any (Statement c around known S) (does (with_scope id true S) v) →
      Shown any (Bound c around (MoreIn S) entries_of known) (in_scope items q id true does S v)
  leave_statement c around known id does S v ok h =
      shown_more any (λ exit T u x. ((x.0.0, x.1), x.0.1)) (in_scope items q id true does S v)
      (scopes.leaving_so items needs q clear keeps c around Nothing S (Rest known S)
      (λ exit T x. more_in_wider S T x.0) (panicked_rest known S) ok.answer ok.loops (does (with_scope id true S) v)
      (shown_more any top (does (with_scope id true S) v) h))
    where
      landing : (exit : Exit) (T : Scopes) → scopes.Landing items needs q clear keeps Nothing exit T
      landing Value [] = tt
      landing Value (s ∷ T) = inr (λ key n. absurd n)
      landing (Breaks loop) T = tt
      landing (Continues loop) T = tt
      landing Returns T = tt
      landing Panics T = tt

      seen : (exit : Exit) (s : Scope) (T : Scopes) → NamedIn outer_entries exit known (s ∷ T) →
          NamedIn entries_of exit known T
      seen Value s T n = n
      seen (Breaks loop) s T n = n
      seen (Continues loop) s T n = n
      seen Returns s T n = n
      seen Panics s T n = n

      on_top : (exit : Exit) (T : Scopes) → InStatement S T → NamedIn outer_entries exit known T →
          scopes.OnTop items needs q clear keeps (Rest known S exit) T
      on_top exit [] i n = i
      on_top exit (s ∷ T) i n = (i.0.1, (i.1, seen exit s T n))

      top : (exit : Exit) (T : Scopes) (u : V) → Statement c around known S exit T u →
          After c around Nothing (scopes.OnTop items needs q clear keeps (Rest known S exit)) exit T u
          × scopes.Landing items needs q clear keeps Nothing exit T
      top exit T u x = ((on_top exit T x.0.0 x.1, x.0.1), landing exit T)

  -- ---- `let` and expression statements

  unpended : (x : Entry) (S T : Scopes) → InStatement S T → InStatement S (innermost (without_pending x) T)
  unpended x S [] i = i
  unpended x S (s ∷ T) ((f, t), m) = ((f, (t.0, rules.all_without Typed x.key s.pending t.1)), m)

  same_entries : (x : Entry) (T : Scopes) → entries_of (innermost (without_pending x) T) ≡ entries_of T
  same_entries x [] = refl
  same_entries x (s ∷ T) = refl

  pub let_name_so : (c : Context) (around : LoopsAndGuards) (h x : NodeHead) (m : Meaning V) → Sound c m →
      Suits x.ty (Into x.id) → (is_never items m.head.ty ≡ true) ⊎ Suits m.head.ty (Into x.id) →
      (s : Scope) (S : Scopes) (v : V) → AroundOk c around (s ∷ S) → Held Nothing (entries_of (s ∷ S)) v →
      Shown any (Bound c around (MoreIn (s ∷ S)) entries_of (λ key. x.id ≡ key)) (forms.let_name items q h x m around (s ∷ S) v)
  let_name_so c around h x m sound typed suits s S v ok k =
      leave_statement c around (λ key. x.id ≡ key) h.id
      (λ T w. on_value (m.evaluate around false (Into x.id) (innermost (with_pending e) T) w) named) (s ∷ S) v ok
      (seq (After c around (λ key. key ≡ x.id) (InStatement (s ∷ S))) (Statement c around (λ key. x.id ≡ key) (s ∷ S))
      (m.evaluate around false (Into x.id) begun v) named
      (shown_more any (λ exit T u y. (statement_grows (s ∷ S) begun T y.0 in_it, y.1))
      (m.evaluate around false (Into x.id) begun v)
      (sound.evaluates around false (Into x.id) begun v
      (scopes.around_more items needs c around (s ∷ S) begun (statement_wider (s ∷ S) begun in_it) ok) k
      (λ f. inr (inl refl)) suits))
      (λ T u y. let z = patterns.entered_so items needs q clear keeps c around (InStatement (s ∷ S)) outer_entries
      around_innermost (enters_block (s ∷ S)) e (λ key. ⊥) (innermost (without_pending e) T) u typed
      (unpended e (s ∷ S) T y.0) (λ key n. absurd n)
      (subst (λ es. Held (λ key. key ≡ x.id) es u) (sym (same_entries e T)) y.1) in
      (z.0, λ key same. z.1 key (inr same)))
      (λ exit T u o y. (
        (
          y.0,
          scopes.other_held items needs q clear keeps c around (λ key. key ≡ x.id) Nothing exit T u o
              y.1,
        ),
        patterns.other_in items needs q clear keeps outer_entries exit (λ key. x.id ≡ key) T o,
      )))
    where
      e : Entry
      e = entry_of x

      begun : Scopes
      begun = with_pending e (record { node = h.id; for_temporaries = true; entries = []; pending = [] }) ∷ s ∷ S

      in_it : InStatement (s ∷ S) begun
      in_it = ((refl, (tt, (typed, tt))), (scopes.no_more items needs s, refl))

      named : Does V
      named T u = At Value (around_innermost (with_entry e) (innermost (without_pending e) T)) u

  pub let_parts_so : (c : Context) (around : LoopsAndGuards) (h : NodeHead) (pattern m : Meaning V) → Sound c m →
      AllBound (pattern.shape.bindings (place_of m around)) →
      (s : Scope) (S : Scopes) (v : V) → AroundOk c around (s ∷ S) → Held Nothing (entries_of (s ∷ S)) v →
      Shown any (Bound c around (MoreIn (s ∷ S)) entries_of
      (λ key. ⊥ ⊎ BoundIn (pattern.shape.bindings (place_of m around)) key))
      (forms.let_parts items q h pattern m around (s ∷ S) v)
  let_parts_so c around h pattern m sound typed s S v ok k =
      leave_statement c around known h.id
      (λ T w. on_value (m.reach around (changed_if b (innermost (with_pending e)) T) w)
      (forms.bind items q around_innermost bounds)) (s ∷ S) v ok
      (by b)
    where
      e : Entry
      e = entry_of m.head

      b : Bool
      b = not (m.shape.is_place || m.shape.in_destination)

      bounds : List BoundName
      bounds = pattern.shape.bindings (place_of m around)

      known : ℕ → Type 0
      known key = ⊥ ⊎ BoundIn bounds key

      begun : Scope
      begun = record { node = h.id; for_temporaries = true; entries = []; pending = [] }

      reached : (r : Scope) → r.for_temporaries ≡ true → scopes.AllTyped items needs r → r.entries ≡ [] →
          Shown any (Statement c around known (s ∷ S))
          (on_value (m.reach around (r ∷ s ∷ S) v) (forms.bind items q around_innermost bounds))
      reached r f t empty = seq (After c around Nothing (InStatement (s ∷ S))) (Statement c around known (s ∷ S))
          (m.reach around (r ∷ s ∷ S) v) (forms.bind items q around_innermost bounds)
          (shown_more any (λ exit T u y. (statement_grows (s ∷ S) (r ∷ s ∷ S) T y.0 in_it, y.1))
          (m.reach around (r ∷ s ∷ S) v)
          (steps.reached items needs q clear keeps c around m sound (r ∷ s ∷ S) v
          (scopes.around_more items needs c around (s ∷ S) (r ∷ s ∷ S) (statement_wider (s ∷ S) (r ∷ s ∷ S) in_it) ok)
          (subst (λ es. Held Nothing (es ++ entries_of (s ∷ S)) v) (sym empty) k)))
          (λ T u y. patterns.bind_so items needs q clear keeps c around (InStatement (s ∷ S)) outer_entries
          around_innermost (enters_block (s ∷ S)) bounds (λ key. ⊥) T u typed y.0 (λ key n. absurd n) y.1)
          (λ exit T u o y. (y, patterns.other_in items needs q clear keeps outer_entries exit known T o))
        where
          in_it : InStatement (s ∷ S) (r ∷ s ∷ S)
          in_it = ((f, t), (scopes.no_more items needs s, refl))

      by : (b : Bool) → Shown any (Statement c around known (s ∷ S))
          (on_value (m.reach around (changed_if b (innermost (with_pending e)) (begun ∷ s ∷ S)) v)
          (forms.bind items q around_innermost bounds))
      by true = reached (with_pending e begun) refl (tt, (sound.in_cell, tt)) refl
      by false = reached begun refl (tt, tt) refl

  -- `let` without a value
  pub declared_so : (c : Context) (around : LoopsAndGuards) (bounds : List BoundName) → AllBound bounds → (S T : Scopes) (v : V) →
      MoreIn S T → (known : ℕ → Type 0) → ((key : ℕ) → known key → Among (entries_of T) key) →
      Held Nothing (entries_of T) v →
      Shown any (Bound c around (MoreIn S) entries_of (λ key. known key ⊎ BoundIn bounds key))
      (forms.declared items q bounds T v)
  declared_so c around [] typed S T v m known names k = ((m, k), λ key x. only key x)
    where
      only : (key : ℕ) → known key ⊎ ⊥ → Among (entries_of T) key
      only key (inl x) = names key x
      only key (inr n) = absurd n
  declared_so c around (b ∷ bounds) typed S T v m known names k =
      let x = enters_more S (bound_entry b) T typed.0 m in
      by (needs_drop items b.ty)
      (λ w h. shown_more any (λ exit U u y. (y.0, fewer exit U y.1))
      (forms.declared items q bounds (innermost (with_entry (bound_entry b)) T) w)
      (declared_so c around bounds typed.1 S (innermost (with_entry (bound_entry b)) T) w x.0
      (λ key. known key ⊎ (b.key ≡ key)) (λ key y. x.1.0 key (named key y)) (λ key. wider x.1.0 w key (h key))))
    where
      Wider : Type 0
      Wider = (key : ℕ) → Among (entries_of T) key ⊎ (b.key ≡ key) →
          Among (entries_of (innermost (with_entry (bound_entry b)) T)) key

      named : (key : ℕ) → known key ⊎ (b.key ≡ key) → Among (entries_of T) key ⊎ (b.key ≡ key)
      named key (inl y) = inl (names key y)
      named key (inr same) = inr same

      wider : Wider → (w : V) (key : ℕ) → clear w key ⊎ (Among (entries_of T) key ⊎ ⊥) →
          clear w key ⊎ (Among (entries_of (innermost (with_entry (bound_entry b)) T)) key ⊎ ⊥)
      wider f w key (inl y) = inl y
      wider f w key (inr (inl a)) = inr (inl (f key (inl a)))
      wider f w key (inr (inr n)) = absurd n

      back : (key : ℕ) → known key ⊎ ((b.key ≡ key) ⊎ BoundIn bounds key) →
          (known key ⊎ (b.key ≡ key)) ⊎ BoundIn bounds key
      back key (inl y) = inl (inl y)
      back key (inr (inl y)) = inl (inr y)
      back key (inr (inr y)) = inr y

      fewer : (exit : Exit) (U : Scopes) →
          NamedIn entries_of exit (λ key. (known key ⊎ (b.key ≡ key)) ⊎ BoundIn bounds key) U →
          NamedIn entries_of exit (λ key. known key ⊎ BoundIn (b ∷ bounds) key) U
      fewer Value U f = λ key y. f key (back key y)
      fewer (Breaks loop) U f = tt
      fewer (Continues loop) U f = tt
      fewer Returns U f = tt
      fewer Panics U f = tt

      Then : V → Type 0
      Then w = Shown any (Bound c around (MoreIn S) entries_of (λ key. known key ⊎ BoundIn (b ∷ bounds) key))
          (forms.declared items q bounds (innermost (with_entry (bound_entry b)) T) w)

      dropped : (o : Out V) →
          ShownOut any (λ w. (key : ℕ) → clear v key → clear w key) (λ w. (key : ℕ) → clear v key → clear w key) o →
          ((w : V) → Held Nothing (entries_of T) w → Then w) →
          Shown any (Bound c around (MoreIn S) entries_of (λ key. known key ⊎ BoundIn (b ∷ bounds) key))
          (on_value (in_scopes T o) (λ T w. forms.declared items q bounds (innermost (with_entry (bound_entry b)) T) w))
      dropped (Go w) f g = g w (λ key. kept key (k key))
        where
          kept : (key : ℕ) → clear v key ⊎ (Among (entries_of T) key ⊎ ⊥) → clear w key ⊎ (Among (entries_of T) key ⊎ ⊥)
          kept key (inl y) = inl (f key y)
          kept key (inr y) = inr y
      dropped (Unwind w) f g = ((m, λ key. all key (k key)), tt)
        where
          all : (key : ℕ) → clear v key ⊎ (Among (entries_of T) key ⊎ ⊥) → clear w key ⊎ (Among (all_entries T) key ⊎ ⊥)
          all key (inl y) = inl (f key y)
          all key (inr (inl a)) = inr (inl (entries_among T key a))
          all key (inr (inr n)) = absurd n
      dropped (Halts halt w) f g = tt

      by : (d : Bool) → ((w : V) → Held Nothing (entries_of T) w → Then w) →
          Shown any (Bound c around (MoreIn S) entries_of (λ key. known key ⊎ BoundIn (b ∷ bounds) key))
          (on_value (forms.emptied items q d b.key T v)
          (λ T w. forms.declared items q bounds (innermost (with_entry (bound_entry b)) T) w))
      by true f = f v k
      by false f = dropped (q.drop Normal (site_of_key b.key) v) (keeps.drops_at Normal (site_of_key b.key) v) f

  -- a value of which only the effects are wanted
  pub evaluating_so : (c : Context) (around : LoopsAndGuards) (h : NodeHead) (m : Meaning V) → Sound c m → (S : Scopes) (v : V) →
      AroundOk c around S → Held Nothing (entries_of S) v →
      Shown any (After c around Nothing (λ T. T ≡ S)) (forms.evaluating items q h m around S v)
  evaluating_so c around h m sound S v ok k =
      steps.scoped_so items needs q clear keeps c around Nothing h.id true
      (λ T w. on_value (m.evaluate around false (Into m.head.id) (innermost (with_pending (entry_of m.head)) T) w)
      (forms.complete items q innermost m.head)) S v ok (λ key n. absurd n)
      (shown_more any (λ exit T u x. x.0)
      (on_value (m.evaluate around false (Into m.head.id) (innermost (with_pending (entry_of m.head)) (with_scope h.id true S)) v)
      (forms.complete items q innermost m.head))
      (rules.made_entry items needs q clear keeps c around true S ok true (λ key. ⊥) m sound (λ e. refl)
      (with_scope h.id true S) v (scopes.opened items needs h.id true S) tt k))
