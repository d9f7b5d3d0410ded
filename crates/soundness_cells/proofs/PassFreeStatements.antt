-- What is free stays free, by the rules of blocks, statements, loops and jumps.
use Rattle.std.proofs.Common.{◌≡◌, ◌⊎◌, inl, inr, ℕ, not, ◌||◌, Bool, true, false, List, [], ◌∷◌, ◌++◌, Option, Some, None, refl, ap, sym, ◌∙◌, subst}
use Rattle.mir_base.specs.declared.operator.Cmp.{Cmp}
use Rattle.mir_base.specs.declared.trace.Why.{Why}
use Rattle.mir_ty.specs.declared.ty.TyId.{TyId}
use Rattle.mir_ty.specs.Facts.{needs_drop}
use Rattle.mir_ty.specs.ItemTable.{ItemTable}
use Rattle.store_model.specs.Effects as effects
use Rattle.store_model.specs.Effects.{EffectSite, Operand, Copied, Action, Test, Normal, Halt, Out, Go, Unwind, Halts, Choice, Yes, No, Neither, Effects, stored_by}
use Rattle.store_model.specs.Places.Place.{Place, whole_local}
use Rattle.typed_tree.specs.Tree.{Node}
use Rattle.src_meaning.specs.Forms as forms
use Rattle.src_meaning.specs.Forms.{Destination, Into, LoopsAndGuards, Meaning, entry_of, bound_entry, changed_if, site_of_key, moved, site_of, place_of, in_guard}
use Rattle.src_meaning.specs.Scopes as source
use Rattle.src_meaning.specs.Scopes.{Entry, Scope, Scopes, with_scope, innermost, with_entry, with_pending, without_pending, becomes_entry, Exit, Value, Breaks, Continues, Returns, Panics, Run, At, Over, Does, on_value, in_scopes, leave, choosing, chosen, leaving, then_or_leave}
use Rattle.src_meaning.specs.Shape.{NodeHead, operand_of_bound, BoundName, PatternTest, IsVariant, IsNumber, IsTruth, AnyOf, PatternTests, no_test, a_test, Alternatives, no_alternative, an_alternative}
use Rattle.well_typed.specs.Places.{Context}
use Rattle.soundness_values.proofs.Leaving.{Shown, ShownOut, shown_more, Among, among_right}
use Rattle.soundness_cells.proofs.PassClear.{KeepsClear, any, Nothing, Changes, ShownChoice, MovedByAny, operands_of, tested_by, StoredAt}
use Rattle.soundness_cells.proofs.PassFree.{Deep, Deeper, outer_entries, around_enters, completes, unpends, two_enter, Always, Never, FindsNothing, DestKey, Fills, Ext, Top, ext_same, ext_then, top_then, ext_entries, innermost_enters, enters, AroundOk, around_ext, around_top, Enters}
use Rattle.soundness_cells.proofs.PassFreeChoices as choices
use Rattle.soundness_cells.proofs.PassFreeChoices.{TestsKey, BoundKey, DistinctNames}
use Rattle.soundness_cells.proofs.PassFreeOperands as operands
use Rattle.soundness_cells.proofs.PassFreeRules as rules
use Rattle.soundness_cells.proofs.PassKept.{Answered}
use Rattle.soundness_cells.proofs.PassNumbers.{Numbered, Rises, numbered_left, numbered_right, rises_apart, rises_left, rises_right}
use Rattle.soundness_cells.proofs.PassScopes as scopes
use Rattle.soundness_cells.proofs.PassScopes.{entries_of, Other}
use Rattle.soundness_cells.proofs.PassWell.{Chosen}

module _ {V : Type 0} (items : ItemTable) (needs : ℕ → Bool) (q : Effects V) (clear : V → ℕ → Type 0)
    (keeps : KeepsClear q needs clear) (over : Halt → V → Type 0) (waits : EffectSite → V → Type 0)
    (first : FindsNothing q over needs clear waits) where
  abbrev Free : V → Scopes → ℕ → Type 0
  Free = rules.Free items needs q clear keeps over waits first

  abbrev Post : LoopsAndGuards → (ℕ → Type 0) → List Node → Scopes → V → (Exit → Scopes → Type 0) → Exit → Scopes →
      V → Type 0
  Post = rules.Post items needs q clear keeps over waits first

  abbrev Extends : Scopes → Exit → Scopes → Type 0
  Extends = rules.Extends items needs q clear keeps over waits first

  abbrev OnTop : Scopes → Exit → Scopes → Type 0
  OnTop = rules.OnTop items needs q clear keeps over waits first

  abbrev Ready : Context → LoopsAndGuards → List Node → Scopes → V → Type 0
  Ready = rules.Ready items needs q clear keeps over waits first

  abbrev DestOk : ℕ → List Node → Destination → Scopes → V → Type 0
  DestOk = rules.DestOk items needs q clear keeps over waits first

  abbrev FreeM : Context → Meaning V → List Node → Type 0
  FreeM = rules.FreeM items needs q clear keeps over waits first

  abbrev Part : ℕ → List Node → List Node → Type 0
  Part = rules.Part items needs q clear keeps over waits first

  abbrev Follows : LoopsAndGuards → (ℕ → Type 0) → List Node → List Node → (Exit → Scopes → Type 0) → Scopes → V →
      (Scopes → Type 0) → Does V → Type 0
  Follows = choices.Follows items needs q clear keeps over waits first

  -- ---- blocks

  -- what stands around the rest of a block, at a value
  abbrev pub OkAt : Exit → Context → LoopsAndGuards → Scopes → Type 0
  OkAt Value c around S = AroundOk items c around S
  OkAt (Breaks loop) c around S = Unit {0}
  OkAt (Continues loop) c around S = Unit {0}
  OkAt Returns c around S = Unit {0}
  OkAt Panics c around S = Unit {0}

  pub other_ok : (exit : Exit) (c : Context) (around : LoopsAndGuards) (S : Scopes) → Other exit → OkAt exit c around S
  other_ok Value c around S o = absurd o
  other_ok (Breaks loop) c around S o = tt
  other_ok (Continues loop) c around S o = tt
  other_ok Returns c around S o = tt
  other_ok Panics c around S o = tt

  abbrev pub Behind : Scopes → Context → LoopsAndGuards → Exit → Scopes → Type 0
  Behind S c around exit T = Top S T × OkAt exit c around T

  -- a statement, in the scope of a block, and what stands around what is behind it
  abbrev pub StatementFree : Context → Context → LoopsAndGuards → Meaning V → List Node → Type 0
  StatementFree c behind around m ms = (S T : Scopes) (v : V) → Top S T → Ready c around ms T v →
      Shown over (Post around Nothing ms T v (Behind S behind around))
      (m.evaluate around false (Into m.head.id) T v)

  pub tail_free : (c : Context) (around : LoopsAndGuards) (h : NodeHead) (tail : Option (Meaning V)) (to : Destination)
      (ms ns : List Node) (S T : Scopes) (w : V) → Top S T →
      ((m : Meaning V) → tail ≡ Some m → FreeM c m ms × (Ready c around ms T w × DestOk m.head.id ms to T w)) →
      ((z : ℕ) → Numbered ms z → Numbered ns z) → ((z : ℕ) → DestKey to z → Free w T z) →
      rules.TwoCells items needs q clear keeps over waits first to →
      Shown over (Post around (DestKey to) ns T w (OnTop S)) (forms.tail_of items q h tail around to T w)
  tail_free c around h None to ms ns S T w k f inside d two = by (forms.is_never items h.ty)
    where
      by : (b : Bool) → Shown over (Post around (DestKey to) ns T w (OnTop S)) (forms.put_unit_if items q b h to T w)
      by true = (k, λ z fr n m. fr)
      by false = rules.deliver_free items needs q clear keeps over waits first around ns (OnTop S) h
          (λ site. effects.Put site effects.UnitValue) to T w k k (λ site key s. s) d two
  tail_free c around h (Some m) to ms ns S T w k f inside d two = let x = f m refl in
      rules.more_free items needs q clear keeps over waits first around (DestKey to) (DestKey to) ms ns T w (Extends T)
      (OnTop S) (forms.alone items q around m to T w)
      (choices.alone_free items needs q clear keeps over waits first c around m to ms x.0 T w x.1.0 x.1.1) inside
      (λ z e. inr e) (λ exit U e. top_then S T U k e)

  -- ---- statements

  same_free : (key : ℕ) (S T : Scopes) (v : V) → Enters key S T → (z : ℕ) → (key ≡ z → ⊥) → Free v S z → Free v T z
  same_free key S T v e z n f = rules.entered_free items needs q clear keeps over waits first key S T v e z n f

  -- an expression statement leaves the scopes as they were
  pub evaluating_free : (c : Context) (around : LoopsAndGuards) (h : NodeHead) (m : Meaning V) (ms : List Node) →
      FreeM c m ms → (S : Scopes) (v : V) → Ready c around ms S v →
      Shown over (Post around Nothing ms S v (Extends S)) (forms.evaluating items q h m around S v)
  evaluating_free c around h m ms f S v r =
      rules.scope_free items needs q clear keeps over waits first around Nothing ms h.id true
      (λ T w. on_value (m.evaluate around false (Into m.head.id) (innermost (with_pending (entry_of m.head)) T) w)
      (source.changing (innermost (becomes_entry (entry_of m.head))))) S v
      (rules.opened_top items needs q clear keeps over waits first around Nothing ms h.id true S v _
      (operands.made_free items needs q clear keeps over waits first c around m ms f (with_scope h.id true S)
      (innermost (with_pending (entry_of m.head)) (with_scope h.id true S)) v
      (rules.ready_opened items needs q clear keeps over waits first c around ms h.id true S v r)
      (rules.same_pending items needs q clear keeps over waits first (entry_of m.head) (with_scope h.id true S))
      (innermost (becomes_entry (entry_of m.head)))
      (λ U. innermost_enters m.head.id (becomes_entry (entry_of m.head)) (completes (entry_of m.head)) U)))

  -- scopes of which the innermost has new entries
  name_among : (e : Entry) (S T : Scopes) → Top S T → Deep S →
      Among (entries_of (source.around_innermost (with_entry e) T)) e.key
  name_among e S [] k d = absurd k
  name_among e [] (t ∷ T) k d = absurd d
  name_among e (s ∷ S) (t ∷ []) k d = absurd k
  name_among e (s ∷ S) (t ∷ (u ∷ U)) k d = among_right t.entries ((e ∷ u.entries) ++ entries_of U) e.key (inl refl)

  top_around : (e : Entry) (S T : Scopes) → Top S T → Top S (source.around_innermost (with_entry e) T)
  top_around e S [] k = k
  top_around e [] (t ∷ T) k = outer T k
    where
      outer : (T : Scopes) → Ext [] T → Ext [] (innermost (with_entry e) T)
      outer [] k = k
      outer (u ∷ U) k = k
  top_around e (s ∷ S) (t ∷ []) k = k
  top_around e (s ∷ S) (t ∷ (u ∷ U)) k = (((λ key a. inr (k.0.0 key a)), k.0.1), k.1)

  top_innermost : (change : Scope → Scope) (S T : Scopes) → Top S T → Top S (innermost change T)
  top_innermost change S [] k = k
  top_innermost change S (t ∷ T) k = k

  -- in the scope of a statement, on that of a block, an entry of which has a key
  abbrev Named : (ℕ → Type 0) → Scopes → Exit → Scopes → Type 0
  Named known S Value [] = ⊥
  Named known S Value (t ∷ T) = Ext S T × ((z : ℕ) → known z → Among (entries_of T) z)
  Named known S (Breaks loop) T = Top S T
  Named known S (Continues loop) T = Top S T
  Named known S Returns T = Top S T
  Named known S Panics T = Top S T

  abbrev pub NamesAt : (ℕ → Type 0) → Scopes → Exit → Scopes → Type 0
  NamesAt known S Value T = Ext S T × ((z : ℕ) → known z → Among (entries_of T) z)
  NamesAt known S (Breaks loop) T = Ext S T
  NamesAt known S (Continues loop) T = Ext S T
  NamesAt known S Returns T = Ext S T
  NamesAt known S Panics T = Ext S T

  named_beneath : (known : ℕ → Type 0) (S : Scopes) (exit : Exit) (T : Scopes) → Named known S exit T →
      rules.Beneath items needs q clear keeps over waits first (NamesAt known S) exit T
  named_beneath known S Value [] k = k
  named_beneath known S Value (t ∷ T) k = (k, k.0)
  named_beneath known S (Breaks loop) [] k = k
  named_beneath known S (Breaks loop) (t ∷ T) k = (k, k)
  named_beneath known S (Continues loop) [] k = k
  named_beneath known S (Continues loop) (t ∷ T) k = (k, k)
  named_beneath known S Returns [] k = k
  named_beneath known S Returns (t ∷ T) k = (k, k)
  named_beneath known S Panics [] k = k
  named_beneath known S Panics (t ∷ T) k = (k, k)

  statement_left : (around : LoopsAndGuards) (ns : List Node) (known : ℕ → Type 0) (id : ℕ) (does : Does V)
      (S : Scopes) (v : V) → Shown over (Post around Nothing ns S v (Named known S)) (does (with_scope id true S) v) →
      Shown over (Post around Nothing ns S v (NamesAt known S)) (source.in_scope items q id true does S v)
  statement_left around ns known id does S v h =
      rules.leave_free items needs q clear keeps over waits first around Nothing ns S v (NamesAt known S)
      (does (with_scope id true S) v)
      (shown_more over (λ exit T w p. (named_beneath known S exit T p.0, p.1)) (does (with_scope id true S) v) h)

  as_named : (known : ℕ → Type 0) (S T : Scopes) (exit : Exit) → Other exit → Top S T → Named known S exit T
  as_named known S T Value o k = absurd o
  as_named known S T (Breaks loop) o k = k
  as_named known S T (Continues loop) o k = k
  as_named known S T Returns o k = k
  as_named known S T Panics o k = k

  -- `let` of one name, whose value is made in the cell of the name
  pub let_name_free : (c : Context) (around : LoopsAndGuards) (h x : NodeHead) (m : Meaning V) (ps ms ns : List Node) →
      FreeM c m ms → Numbered ps x.id → ((z : ℕ) → Numbered ps z → Numbered ms z → ⊥) →
      ((z : ℕ) → Numbered ps z → Numbered ns z) → ((z : ℕ) → Numbered ms z → Numbered ns z) → (S : Scopes) (v : V) →
      Deep S → Ready c around ns S v →
      Shown over (Post around Nothing ns S v (NamesAt (λ z. x.id ≡ z) S)) (forms.let_name items q h x m around S v)
  let_name_free c around h x m ps ms ns f own apart in_p in_m S v deep r =
      statement_left around ns (λ z. x.id ≡ z) h.id
      (λ T w. on_value (m.evaluate around false (Into x.id) (innermost (with_pending (entry_of x)) T) w) named) S v
      (rules.then_free items needs q clear keeps over waits first around (DestKey (Into x.id)) Nothing ms ns (OnTop S)
      (Named (λ z. x.id ≡ z) S) (with_scope h.id true S) v (m.evaluate around false (Into x.id) begun v) named
      (shown_more over (λ exit U u p. (top_then S begun U (ext_same S) p.0, p.1))
      (m.evaluate around false (Into x.id) begun v)
      (f.evaluates around false (Into x.id) begun v ready (record {
        free = λ z e. subst (Free v begun) e (t.free x.id (in_p x.id own));
        apart = λ z e. inr (λ n. apart z (subst (Numbered ps) e own) n);
        two = tt;
      }))) in_m (λ z e. in_p z (subst (Numbered ps) e own)) (λ exit T o k. as_named (λ z. x.id ≡ z) S T exit o k)
      (λ T w k g. (
        at_value T k,
        λ z fr n m. same_free x.id T (source.around_innermost (with_entry (entry_of x))
            (innermost (without_pending (entry_of x)) T)) w (both_enter T) z
            (λ e. n (in_p z (subst (Numbered ps) e own))) fr,
      )))
    where
      begun : Scopes
      begun = innermost (with_pending (entry_of x)) (with_scope h.id true S)

      t : Ready c around ns (innermost (with_pending (entry_of x)) (with_scope h.id true S)) v
      t = rules.ready_same items needs q clear keeps over waits first c around ns (with_scope h.id true S)
          (innermost (with_pending (entry_of x)) (with_scope h.id true S)) v
          (rules.same_pending items needs q clear keeps over waits first (entry_of x) (with_scope h.id true S))
          (rules.ready_opened items needs q clear keeps over waits first c around ns h.id true S v r)

      ready : Ready c around ms (innermost (with_pending (entry_of x)) (with_scope h.id true S)) v
      ready = rules.ready_part items needs q clear keeps over waits first c around ms ns
          (innermost (with_pending (entry_of x)) (with_scope h.id true S)) v in_m t

      named : Does V
      named T w = At Value (source.around_innermost (with_entry (entry_of x))
          (innermost (without_pending (entry_of x)) T)) w

      both_enter : (T : Scopes) → Enters x.id T (source.around_innermost (with_entry (entry_of x))
          (innermost (without_pending (entry_of x)) T))
      both_enter T = two_enter x.id T (innermost (without_pending (entry_of x)) T)
          (source.around_innermost (with_entry (entry_of x)) (innermost (without_pending (entry_of x)) T))
          (innermost_enters x.id (without_pending (entry_of x)) (unpends x.id (entry_of x)) T)
          (around_enters x.id (with_entry (entry_of x)) (enters (entry_of x))
          (innermost (without_pending (entry_of x)) T))

      at_value : (T : Scopes) → Top S T → Named (λ z. x.id ≡ z) S Value (source.around_innermost
          (with_entry (entry_of x)) (innermost (without_pending (entry_of x)) T))
      at_value [] k = k
      at_value (a ∷ T) k = (
        top_around (entry_of x) S (without_pending (entry_of x) a ∷ T) k,
        λ z e. subst (Among (entries_of (innermost (with_entry (entry_of x)) T))) e (among_there S T k deep),
      )
        where
          among_there : (S T : Scopes) → Ext S T → Deep S → Among (entries_of (innermost (with_entry (entry_of x)) T))
              x.id
          among_there [] T k d = absurd d
          among_there (s ∷ S) [] k d = absurd k
          among_there (s ∷ S) (u ∷ U) k d = inl refl

  around_binds : choices.Binds items needs q clear keeps over waits first source.around_innermost Deeper
      outer_entries
  around_binds = record {
    enters = λ e S. around_enters e.key (with_entry e) (enters e) S;
    among = among;
    deeper = deeper;
    kept = kept;
  }
    where
      among : (e : Entry) (S : Scopes) → Deeper S → Among (outer_entries (source.around_innermost (with_entry e) S))
          e.key
      among e [] d = absurd d
      among e (s ∷ []) d = absurd d
      among e (s ∷ (t ∷ S)) d = inl refl

      kept : (S T : Scopes) → Ext S T → (z : ℕ) → Among (outer_entries S) z → Among (outer_entries T) z
      kept [] T e z a = absurd a
      kept (s ∷ S) [] e z a = absurd e
      kept (s ∷ S) (t ∷ T) e z a = ext_entries S T e.1 z a

      deeper : (S T : Scopes) → Ext S T → Deeper S → Deeper T
      deeper [] T e d = absurd d
      deeper (s ∷ S) [] e d = absurd e
      deeper (s ∷ []) (t ∷ T) e d = absurd d
      deeper (s ∷ (u ∷ S)) (t ∷ []) e d = absurd e.1
      deeper (s ∷ (u ∷ S)) (t ∷ (w ∷ T)) e d = tt

  top_deeper : (S T : Scopes) → Deep S → Top S T → Deeper T
  top_deeper S [] d k = absurd k
  top_deeper [] (t ∷ T) d k = absurd d
  top_deeper (s ∷ S) (t ∷ []) d k = absurd k
  top_deeper (s ∷ S) (t ∷ (u ∷ U)) d k = tt

  -- `let` of another pattern
  pub let_parts_free : (c : Context) (around : LoopsAndGuards) (h : NodeHead) (pattern m : Meaning V)
      (ps ms ns : List Node) → FreeM c m ms → DistinctNames (pattern.shape.bindings (place_of m around)) →
      ((z : ℕ) → BoundKey (pattern.shape.bindings (place_of m around)) z → Numbered ps z) →
      ((z : ℕ) → Numbered ps z → Numbered ms z → ⊥) → ((z : ℕ) → Numbered ps z → Numbered ns z) →
      ((z : ℕ) → Numbered ms z → Numbered ns z) → (S : Scopes) (v : V) → Deep S → Ready c around ns S v →
      Shown over (Post around Nothing ns S v (NamesAt (BoundKey (pattern.shape.bindings (place_of m around))) S))
      (forms.let_parts items q h pattern m around S v)
  let_parts_free c around h pattern m ps ms ns f d into apart in_p in_m S v deep r =
      statement_left around ns (BoundKey bounds) h.id
      (λ T w. on_value (m.reach around (changed_if b (innermost (with_pending (entry_of m.head))) T) w) bind) S v
      (rules.then_free items needs q clear keeps over waits first around Nothing Nothing ms ns (OnTop S)
      (Named (BoundKey bounds) S) (with_scope h.id true S) v (m.reach around begun v) bind
      (shown_more over (λ exit U u p. (top_then S (with_scope h.id true S) U (ext_same S) p.0, p.1))
      (m.reach around begun v)
      (rules.from_same items needs q clear keeps over waits first around Nothing ms (with_scope h.id true S) begun v
      (Extends begun) (m.reach around begun v) same (f.reaches around begun v
      (rules.ready_same items needs q clear keeps over waits first c around ms (with_scope h.id true S) begun v same
      (rules.ready_opened items needs q clear keeps over waits first c around ms h.id true S v
      (rules.ready_part items needs q clear keeps over waits first c around ms ns S v in_m r)))))) in_m
      (λ z n. absurd n) (λ exit T o k. as_named (BoundKey bounds) S T exit o k)
      (λ T w k g. rules.more_free items needs q clear keeps over waits first around Nothing Nothing ps ns T w
      (choices.Bound items needs q clear keeps over waits first outer_entries T bounds) (Named (BoundKey bounds) S)
      (bind T w)
      (choices.bind_free items needs q clear keeps over waits first around source.around_innermost Deeper outer_entries
      around_binds ps bounds d into T w (top_deeper S T deep k)
      (λ z n. g z (r.free z (in_p z (into z n))) (λ x. apart z (into z n) x) (λ x. x))) in_p (λ z n. absurd n)
      (λ exit U e. bound exit T U k e)))
    where
      bounds : List BoundName
      bounds = pattern.shape.bindings (place_of m around)

      b : Bool
      b = not (m.shape.is_place || m.shape.in_destination)

      begun : Scopes
      begun = changed_if (not (m.shape.is_place || m.shape.in_destination)) (innermost (with_pending (entry_of m.head)))
          (with_scope h.id true S)

      same : rules.Same items needs q clear keeps over waits first (with_scope h.id true S)
          (changed_if (not (m.shape.is_place || m.shape.in_destination)) (innermost (with_pending (entry_of m.head)))
          (with_scope h.id true S))
      same = rules.same_if items needs q clear keeps over waits first
          (not (m.shape.is_place || m.shape.in_destination)) (with_scope h.id true S)
          (innermost (with_pending (entry_of m.head)))
          (rules.same_pending items needs q clear keeps over waits first (entry_of m.head) (with_scope h.id true S))

      bind : Does V
      bind = forms.bind items q source.around_innermost (pattern.shape.bindings (place_of m around))

      bound : (exit : Exit) (T U : Scopes) → Top S T →
          choices.Bound items needs q clear keeps over waits first outer_entries T bounds exit U →
          Named (BoundKey bounds) S exit U
      bound Value [] U k e = absurd k
      bound Value (t ∷ T) [] k e = absurd e.0
      bound Value (t ∷ T) (u ∷ U) k e = (ext_then S T U k e.0.1, e.1)
      bound (Breaks loop) T U k e = top_then S T U k e
      bound (Continues loop) T U k e = top_then S T U k e
      bound Returns T U k e = top_then S T U k e
      bound Panics T U k e = top_then S T U k e

  -- `let` without a value
  pub declared_free : (around : LoopsAndGuards) (ns : List Node) (bounds : List BoundName) →
      ((z : ℕ) → BoundKey bounds z → Numbered ns z) → (S : Scopes) (v : V) → Deep S →
      Shown over (Post around Nothing ns S v (NamesAt (BoundKey bounds) S)) (forms.declared items q bounds S v)
  declared_free around ns [] inside S v deep = ((ext_same S, λ z n. absurd n), λ z f n m. f)
  declared_free around ns (b ∷ bounds) inside S v deep = by (needs_drop items b.ty)
      (λ w. declared_free around ns bounds (λ z k. inside z (inr k)) (innermost (with_entry (bound_entry b)) S) w
      (deep_then S deep))
    where
      T : Scopes
      T = innermost (with_entry (bound_entry b)) S

      entered : Enters b.key S (innermost (with_entry (bound_entry b)) S)
      entered = innermost_enters b.key (with_entry (bound_entry b)) (enters (bound_entry b)) S

      deep_then : (S : Scopes) → Deep S → Deep (innermost (with_entry (bound_entry b)) S)
      deep_then [] d = d
      deep_then (s ∷ S) d = d

      own : (S : Scopes) → Deep S → Among (entries_of (innermost (with_entry (bound_entry b)) S)) b.key
      own [] d = absurd d
      own (s ∷ S) d = inl refl

      named : (U : Scopes) → Ext (innermost (with_entry (bound_entry b)) S) U → (z : ℕ) →
          ((z : ℕ) → BoundKey bounds z → Among (entries_of U) z) → (b.key ≡ z) ⊎ BoundKey bounds z →
          Among (entries_of U) z
      named U e z f (inl same) = ext_entries (innermost (with_entry (bound_entry b)) S) U e z
          (subst (Among (entries_of (innermost (with_entry (bound_entry b)) S))) same (own S deep))
      named U e z f (inr k) = f z k

      names : (exit : Exit) (U : Scopes) → NamesAt (BoundKey bounds) (innermost (with_entry (bound_entry b)) S) exit U →
          NamesAt (BoundKey (b ∷ bounds)) S exit U
      names Value U k = (
        ext_then S (innermost (with_entry (bound_entry b)) S) U entered.ext k.0,
        λ z i. named U k.0 z k.1 i,
      )
      names (Breaks loop) U k = ext_then S (innermost (with_entry (bound_entry b)) S) U entered.ext k
      names (Continues loop) U k = ext_then S (innermost (with_entry (bound_entry b)) S) U entered.ext k
      names Returns U k = ext_then S (innermost (with_entry (bound_entry b)) S) U entered.ext k
      names Panics U k = ext_then S (innermost (with_entry (bound_entry b)) S) U entered.ext k

      Later : Type 0
      Later = (w : V) → Shown over (Post around Nothing ns (innermost (with_entry (bound_entry b)) S) w
          (NamesAt (BoundKey bounds) (innermost (with_entry (bound_entry b)) S)))
          (forms.declared items q bounds (innermost (with_entry (bound_entry b)) S) w)

      rest : Later → (w : V) → ((z : ℕ) → clear v z → clear w z) →
          Shown over (Post around Nothing ns S v (NamesAt (BoundKey (b ∷ bounds)) S))
          (forms.declared items q bounds (innermost (with_entry (bound_entry b)) S) w)
      rest later w g = shown_more over
          (λ exit U u p. (
            names exit U p.0,
            λ z f n m. p.1 z (same_free b.key S
                (innermost (with_entry (bound_entry b)) S) w entered z (λ e. n (inside z (inl e))) (g z f.0, f.1)) n m,
          ))
          (forms.declared items q bounds (innermost (with_entry (bound_entry b)) S) w)
          (later w)

      dropped : Later → (o : Out V) → ShownOut over (λ w. (z : ℕ) → clear v z → clear w z) Always o →
          Shown over (Post around Nothing ns S v (NamesAt (BoundKey (b ∷ bounds)) S))
          (on_value (in_scopes S o)
          (λ T w. forms.declared items q bounds (innermost (with_entry (bound_entry b)) T) w))
      dropped later (Go w) h = rest later w h
      dropped later (Unwind w) h = (ext_same S, λ z f n m. absurd (m tt))
      dropped later (Halts halt w) h = h

      by : (d : Bool) → Later → Shown over (Post around Nothing ns S v (NamesAt (BoundKey (b ∷ bounds)) S))
          (on_value (forms.emptied items q d b.key S v)
          (λ T w. forms.declared items q bounds (innermost (with_entry (bound_entry b)) T) w))
      by true later = rest later v (λ z c. c)
      by false later = dropped later (q.drop Normal (site_of_key b.key) v)
          (rules.dropped_so items needs q clear keeps over waits first Normal (bound_entry b) v)
