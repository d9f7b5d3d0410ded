-- Cells that hold nothing and stand in no scope are free, and stay so: what a node does comes to cells of its own, to
-- its destination, and to those to which it jumps. So the cell into which an action stores holds nothing. One lemma a
-- rule, from what holds of the nodes inside; which cells are free is known from the numbers of the nodes.
use Rattle.std.proofs.Common.{◌≡◌, ◌⊎◌, inl, inr, ℕ, ◌==◌, Bool, true, false, List, [], ◌∷◌, ◌++◌, Option, Some, None, if◌then◌else◌, refl, ap, sym, ◌∙◌, subst}
use Rattle.std.proofs.lemmas.Bool.{false≢true}
use Rattle.mir_base.specs.declared.operator.Cmp.{Cmp}
use Rattle.mir_base.specs.declared.trace.Why.{Why}
use Rattle.mir_ty.specs.declared.ty.TyId.{TyId}
use Rattle.mir_ty.specs.Facts.{needs_drop}
use Rattle.mir_ty.specs.ItemTable.{ItemTable}
use Rattle.store_model.specs.Effects as effects
use Rattle.store_model.specs.Effects.{EffectSite, Operand, Copied, Action, Test, Mode, Normal, Unwinding, Halt, Aborted, OutOfTicks, Out, Go, Unwind, Halts, Choice, Yes, No, Neither, Effects, stored_by}
use Rattle.store_model.specs.Places.Place.{Place, whole_local}
use Rattle.typed_tree.specs.Tree.{Node}
use Rattle.src_meaning.specs.Forms as forms
use Rattle.src_meaning.specs.Forms.{Destination, Into, Coerced, LoopsAndGuards, Meaning, entry_of, site_in, site_of_key, moved, keys_of, changed_if, site_of, loop_destination}
use Rattle.src_meaning.specs.Scopes as source
use Rattle.src_meaning.specs.Scopes.{Entry, Scope, Scopes, without_key, without_keys, with_scope, innermost, nearest_temporary, nearest_from, with_entry, with_pending, without_pending, becomes_entry, without_operands, needing_drop, Exit, Value, Breaks, Continues, Returns, Panics, Run, At, Over, Does, on_value, in_scopes, back_in, leave, drop_normally, drop_unwinding, entry_site}
use Rattle.src_meaning.specs.Shape.{NodeHead, Shape, operand_at, site_at}
use Rattle.well_typed.specs.Places.{LoopAround, Context, loop_with}
use Rattle.soundness_values.proofs.Leaving.{Shown, ShownOut, shown_more, Among, among_left, among_right, among_split}
use Rattle.soundness_cells.proofs.PassClear.{KeepsClear, any, Nothing, Changes, ShownChoice, MovedByAny, operands_of, tested_by, StoredAt}
use Rattle.soundness_cells.proofs.PassNumbers.{Numbered}
use Rattle.soundness_cells.proofs.PassScopes as scopes
use Rattle.soundness_cells.proofs.PassScopes.{key_of, entries_of, Other}
use Rattle.soundness_cells.proofs.PassWell.{Chosen}

abbrev pub Always : {V : Type 0} → V → Type 0
Always v = Unit {0}

abbrev pub Never : {V : Type 0} → V → Type 0
Never v = ⊥

-- What is asked of effects: an action whose store finds nothing ends a run in no other way than it may. A place that
-- was dropped is clear; a value that needs no dropping may be stored anywhere.
pub record FindsNothing {V : Type 0} (q : Effects V) (over : Halt → V → Type 0) (needs : ℕ → Bool)
    (clear : V → ℕ → Type 0) (waits : EffectSite → V → Type 0) : Type 0 where
  pub acts : (action : Action) (v : V) → ((key : ℕ) → StoredAt (stored_by action) key → clear v key) →
      ShownOut over Always Always (q.act action v)
  pub compares : (to : EffectSite) (operator : Cmp) (left right : Operand) (v : V) →
      ((key : ℕ) → StoredAt (Some to) key → clear v key) →
      ShownOut over Always Never (q.act (effects.Compare to operator left right) v)
  pub chooses : (test : Test) (v : V) → Chosen over (q.choose test v)
  pub drops : (mode : Mode) (e : Entry) (v : V) → ShownOut over Always Always (q.drop mode (entry_site e) v)
  pub empties : (site : EffectSite) (v : V) → ShownOut over (waits site) (waits site) (q.drop Normal site v)
  pub refills : (site : EffectSite) (key : ℕ) (v : V) → waits site v →
      ShownOut over Always Always (q.act (effects.Put site (moved site.node key)) v)
  pub assigns : (site : EffectSite) (key : ℕ) (v : V) → needs key ≡ false →
      ShownOut over Always Always (q.act (effects.Put site (moved site.node key)) v)
  pub ticks : (v : V) → ShownOut over Always Never (q.tick v)
  pub aborts : (v : V) → over Aborted v
  pub lapses : (v : V) → over OutOfTicks v

-- the cells that are filled on the way to a destination
abbrev pub DestKey : Destination → ℕ → Type 0
DestKey (Into key) z = key ≡ z
DestKey (Coerced key trait_no to) z = (key ≡ z) ⊎ (to ≡ z)

-- what may be filled at an exit; where a body returns or panics nothing more is stored
abbrev pub Fills : LoopsAndGuards → (ℕ → Type 0) → Exit → ℕ → Type 0
Fills around fl Value z = fl z
Fills around fl (Breaks loop) z = DestKey (loop_destination loop around.loops) z
Fills around fl (Continues loop) z = ⊥
Fills around fl Returns z = Unit {0}
Fills around fl Panics z = Unit {0}

-- ---- scopes that have as many scopes with more entries

abbrev pub Ext : Scopes → Scopes → Type 0
Ext [] [] = Unit {0}
Ext [] (t ∷ T) = ⊥
Ext (s ∷ S) [] = ⊥
Ext (s ∷ S) (t ∷ T) =
    (((key : ℕ) → Among s.entries key → Among t.entries key) × (t.for_temporaries ≡ s.for_temporaries)) × Ext S T

-- on top of which there is one more
abbrev pub Top : Scopes → Scopes → Type 0
Top S [] = ⊥
Top S (t ∷ T) = Ext S T

-- there is a scope, and there are two
abbrev pub Deep : Scopes → Type 0
Deep [] = ⊥
Deep (s ∷ S) = Unit {0}

abbrev pub Deeper : Scopes → Type 0
Deeper [] = ⊥
Deeper (s ∷ S) = Deep S

-- the entries of all scopes but the innermost
abbrev pub outer_entries : Scopes → List Entry
outer_entries [] = []
outer_entries (s ∷ S) = entries_of S

pub ext_same : (S : Scopes) → Ext S S
ext_same [] = tt
ext_same (s ∷ S) = (((λ key a. a), refl), ext_same S)

pub ext_then : (S T U : Scopes) → Ext S T → Ext T U → Ext S U
ext_then [] [] [] e f = tt
ext_then [] [] (u ∷ U) e f = f
ext_then [] (t ∷ T) U e f = absurd e
ext_then (s ∷ S) [] U e f = absurd e
ext_then (s ∷ S) (t ∷ T) [] e f = absurd f
ext_then (s ∷ S) (t ∷ T) (u ∷ U) e f =
    (((λ key a. f.0.0 key (e.0.0 key a)), f.0.1 ∙ e.0.1), ext_then S T U e.1 f.1)

pub top_then : (S T U : Scopes) → Top S T → Ext T U → Top S U
top_then S [] U e f = absurd e
top_then S (t ∷ T) [] e f = absurd f
top_then S (t ∷ T) (u ∷ U) e f = ext_then S T U e f.1

pub ext_entries : (S T : Scopes) → Ext S T → (key : ℕ) → Among (entries_of S) key → Among (entries_of T) key
ext_entries [] T e key a = absurd a
ext_entries (s ∷ S) [] e key a = absurd e
ext_entries (s ∷ S) (t ∷ T) e key a = by (among_split s.entries (entries_of S) key a)
    (λ x. ext_entries S T e.1 key x)
  where
    by : Among s.entries key ⊎ Among (entries_of S) key → (Among (entries_of S) key → Among (entries_of T) key) →
        Among (t.entries ++ entries_of T) key
    by (inl x) later = among_left t.entries (entries_of T) key (e.0.0 key x)
    by (inr x) later = among_right t.entries (entries_of T) key (later x)

pub top_entries : (S T : Scopes) → Top S T → (key : ℕ) → Among (entries_of S) key → Among (entries_of T) key
top_entries S [] e key a = absurd e
top_entries S (t ∷ T) e key a = among_right t.entries (entries_of T) key (ext_entries S T e key a)

module _ (items : ItemTable) where
  abbrev none_needs : ℕ → Bool
  none_needs key = false

  -- what stands around a node, but for what is dropped
  abbrev pub AroundOk : Context → LoopsAndGuards → Scopes → Type 0
  AroundOk = scopes.AroundOk items (λ key. false)

  ext_temporary : (S T : Scopes) → Ext S T → scopes.HasTemporary items (λ key. false) S →
      scopes.HasTemporary items (λ key. false) T
  ext_temporary [] T e h = absurd h
  ext_temporary (s ∷ S) [] e h = absurd e
  ext_temporary (s ∷ S) (t ∷ T) e (inl h) = inl (e.0.1 ∙ h)
  ext_temporary (s ∷ S) (t ∷ T) e (inr h) = inr (ext_temporary S T e.1 h)

  around_by : (c : Context) (around : LoopsAndGuards) (S T : Scopes) →
      ((key : ℕ) → Among (entries_of S) key → Among (entries_of T) key) →
      (scopes.HasTemporary items (λ key. false) S → scopes.HasTemporary items (λ key. false) T) →
      AroundOk c around S → AroundOk c around T
  around_by c around S T f g ok = record {
    answer = inl refl;
    answer_suits = λ e. refl;
    loops = λ loop a e. inl refl;
    loops_suit = λ loop a e k. refl;
    names = λ key x e k p. f k (ok.names key x e k p);
    rooted = λ key k p. by k (ok.rooted key k p);
    temporary = g ok.temporary;
  }
    where
      by : {key : ℕ} (k : ℕ) → Among (entries_of S) k ⊎ (k ≡ key) → Among (entries_of T) k ⊎ (k ≡ key)
      by k (inl a) = inl (f k a)
      by k (inr e) = inr e

  pub around_ext : (c : Context) (around : LoopsAndGuards) (S T : Scopes) → Ext S T → AroundOk c around S →
      AroundOk c around T
  around_ext c around S T e ok = around_by c around S T (ext_entries S T e) (ext_temporary S T e) ok

  pub around_top : (c : Context) (around : LoopsAndGuards) (S T : Scopes) → Top S T → AroundOk c around S →
      AroundOk c around T
  around_top c around S [] e ok = absurd e
  around_top c around S (t ∷ T) e ok = around_by c around S (t ∷ T) (top_entries S (t ∷ T) e)
      (λ h. inr (ext_temporary S T e h)) ok

  pub around_opened : (c : Context) (around : LoopsAndGuards) (id : ℕ) (own : Bool) (S : Scopes) →
      AroundOk c around S → AroundOk c around (with_scope id own S)
  around_opened c around id own S ok = around_top c around S (with_scope id own S) (ext_same S) ok

-- a cell in which an action of a whole local does not store, and fewer entries
pub fewer_without : (k : ℕ) (es : List Entry) (key : ℕ) → Among (without_key k es) key → Among es key
fewer_without k [] key a = a
fewer_without k (e ∷ es) key a = by (k == e.key) a (λ x. fewer_without k es key x)
  where
    by : (b : Bool) → Among (if b then without_key k es else e ∷ without_key k es) key →
        (Among (without_key k es) key → Among es key) → (e.key ≡ key) ⊎ Among es key
    by true x later = inr (later x)
    by false (inl x) later = inl x
    by false (inr x) later = inr (later x)

pub fewer_without_keys : (ks : List ℕ) (es : List Entry) (key : ℕ) → Among (without_keys ks es) key → Among es key
fewer_without_keys [] es key a = a
fewer_without_keys (k ∷ ks) es key a = fewer_without k es key (fewer_without_keys ks (without_key k es) key a)

pub taken_fewer : (ks : List ℕ) (S : Scopes) (key : ℕ) → Among (entries_of (innermost (without_operands ks) S)) key →
    Among (entries_of S) key
taken_fewer ks [] key a = a
taken_fewer ks (s ∷ S) key a = by (among_split (without_keys ks s.entries) (entries_of S) key a)
  where
    by : Among (without_keys ks s.entries) key ⊎ Among (entries_of S) key → Among (s.entries ++ entries_of S) key
    by (inl x) = among_left s.entries (entries_of S) key (fewer_without_keys ks s.entries key x)
    by (inr x) = among_right s.entries (entries_of S) key x

pub taken_top : (ks : List ℕ) (S T : Scopes) → Top S T → Top S (innermost (without_operands ks) T)
taken_top ks S [] e = e
taken_top ks S (t ∷ T) e = e

-- ---- a new entry in some scope

-- a change keeps the scopes, and its only new entry is that of a key
pub record Enters (k : ℕ) (S T : Scopes) : Type 0 where
  pub ext : Ext S T
  pub only : (key : ℕ) → Among (entries_of T) key → Among (entries_of S) key ⊎ (k ≡ key)

same_enters : (k : ℕ) (S : Scopes) → Enters k S S
same_enters k S = record { ext = ext_same S; only = λ key a. inl a }

-- in the innermost scope
head_enters : (k : ℕ) (s t : Scope) (S : Scopes) → ((key : ℕ) → Among s.entries key → Among t.entries key) →
    ((key : ℕ) → Among t.entries key → Among s.entries key ⊎ (k ≡ key)) → t.for_temporaries ≡ s.for_temporaries →
    Enters k (s ∷ S) (t ∷ S)
head_enters k s t S f g e = record {
  ext = ((f, e), ext_same S);
  only = λ key a. by key (among_split t.entries (entries_of S) key a);
}
  where
    new : (key : ℕ) → Among s.entries key ⊎ (k ≡ key) → Among (s.entries ++ entries_of S) key ⊎ (k ≡ key)
    new key (inl x) = inl (among_left s.entries (entries_of S) key x)
    new key (inr x) = inr x

    by : (key : ℕ) → Among t.entries key ⊎ Among (entries_of S) key →
        Among (s.entries ++ entries_of S) key ⊎ (k ≡ key)
    by key (inl x) = new key (g key x)
    by key (inr x) = inl (among_right s.entries (entries_of S) key x)

pub tail_enters : (k : ℕ) (s : Scope) (S T : Scopes) → Enters k S T → Enters k (s ∷ S) (s ∷ T)
tail_enters k s S T x = record {
  ext = (((λ key a. a), refl), x.ext);
  only = λ key a. by key (among_split s.entries (entries_of T) key a);
}
  where
    new : (key : ℕ) → Among (entries_of S) key ⊎ (k ≡ key) → Among (s.entries ++ entries_of S) key ⊎ (k ≡ key)
    new key (inl y) = inl (among_right s.entries (entries_of S) key y)
    new key (inr y) = inr y

    by : (key : ℕ) → Among s.entries key ⊎ Among (entries_of T) key →
        Among (s.entries ++ entries_of S) key ⊎ (k ≡ key)
    by key (inl y) = inl (among_left s.entries (entries_of S) key y)
    by key (inr y) = new key (x.only key y)

-- a change of one scope that enters at most a key
pub record Changing (k : ℕ) (change : Scope → Scope) : Type 0 where
  pub more : (s : Scope) (key : ℕ) → Among s.entries key → Among (change s).entries key
  pub only : (s : Scope) (key : ℕ) → Among (change s).entries key → Among s.entries key ⊎ (k ≡ key)
  pub flag : (s : Scope) → (change s).for_temporaries ≡ s.for_temporaries

pub pends : (k : ℕ) (e : Entry) → Changing k (with_pending e)
pends k e = record { more = λ s key a. a; only = λ s key a. inl a; flag = λ s. refl }

pub unpends : (k : ℕ) (e : Entry) → Changing k (without_pending e)
unpends k e = record { more = λ s key a. a; only = λ s key a. inl a; flag = λ s. refl }

pub completes : (e : Entry) → Changing e.key (becomes_entry e)
completes e = record { more = λ s key a. inr a; only = λ s key a. by s.entries key a; flag = λ s. refl }
  where
    by : (es : List Entry) (key : ℕ) → (e.key ≡ key) ⊎ Among es key → Among es key ⊎ (e.key ≡ key)
    by es key (inl x) = inr x
    by es key (inr x) = inl x

pub enters : (e : Entry) → Changing e.key (with_entry e)
enters e = record { more = λ s key a. inr a; only = λ s key a. by s.entries key a; flag = λ s. refl }
  where
    by : (es : List Entry) (key : ℕ) → (e.key ≡ key) ⊎ Among es key → Among es key ⊎ (e.key ≡ key)
    by es key (inl x) = inr x
    by es key (inr x) = inl x

pub innermost_enters : (k : ℕ) (change : Scope → Scope) → Changing k change → (S : Scopes) →
    Enters k S (innermost change S)
innermost_enters k change x [] = same_enters k []
innermost_enters k change x (s ∷ S) = head_enters k s (change s) S (x.more s) (x.only s) (x.flag s)

pub around_enters : (k : ℕ) (change : Scope → Scope) → Changing k change → (S : Scopes) →
    Enters k S (source.around_innermost change S)
around_enters k change x [] = same_enters k []
around_enters k change x (s ∷ S) = tail_enters k s S (innermost change S) (innermost_enters k change x S)

pub nearest_enters : (k : ℕ) (change : Scope → Scope) → Changing k change → (S : Scopes) →
    Enters k S (nearest_temporary change S)
nearest_enters k change x [] = same_enters k []
nearest_enters k change x (s ∷ S) = by s.for_temporaries (nearest_enters k change x S)
  where
    by : (b : Bool) → Enters k S (nearest_temporary change S) →
        Enters k (s ∷ S) (nearest_from b change s S (nearest_temporary change S))
    by true later = head_enters k s (change s) S (x.more s) (x.only s) (x.flag s)
    by false later = tail_enters k s S (nearest_temporary change S) later

pub enters_if : (k : ℕ) (b : Bool) (S T : Scopes) (change : Scopes → Scopes) → Enters k S (change S) →
    Enters k S (changed_if b change S)
enters_if k true S T change x = x
enters_if k false S T change x = same_enters k S

pub two_enter : (k : ℕ) (S T U : Scopes) → Enters k S T → Enters k T U → Enters k S U
two_enter k S T U x y = record {
  ext = ext_then S T U x.ext y.ext;
  only = λ key a. by key (y.only key a);
}
  where
    by : (key : ℕ) → Among (entries_of T) key ⊎ (k ≡ key) → Among (entries_of S) key ⊎ (k ≡ key)
    by key (inl a) = x.only key a
    by key (inr e) = inr e
