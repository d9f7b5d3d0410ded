-- What is free stays free, by the rules of evaluation of values, operands, places and assignments.
use Rattle.std.proofs.Common.{◌≡◌, ◌⊎◌, inl, inr, ℕ, ◌==◌, Bool, true, false, List, [], ◌∷◌, ◌++◌, Option, Some, None, if◌then◌else◌, refl, ap, sym, ◌∙◌, subst}
use Rattle.std.proofs.lemmas.Bool.{false≢true}
use Rattle.mir_base.specs.declared.operator.Cmp.{Cmp}
use Rattle.mir_base.specs.declared.trace.Why.{Why}
use Rattle.mir_ty.specs.declared.ty.TyId.{TyId}
use Rattle.mir_ty.specs.Facts.{needs_drop}
use Rattle.mir_ty.specs.ItemTable.{ItemTable}
use Rattle.store_model.specs.Effects as effects
use Rattle.store_model.specs.Effects.{EffectSite, Operand, Copied, Action, Test, Mode, Normal, Unwinding, Halt, Out, Go, Unwind, Halts, Choice, Yes, No, Neither, Effects, stored_by}
use Rattle.store_model.specs.Places.Place.{Place, whole_local}
use Rattle.typed_tree.specs.Tree.{Node}
use Rattle.src_meaning.specs.Forms as forms
use Rattle.src_meaning.specs.Forms.{Destination, Into, Coerced, LoopsAndGuards, Meaning, entry_of, site_in, site_of_key, moved, keys_of, changed_if, site_of, loop_destination}
use Rattle.src_meaning.specs.Scopes as source
use Rattle.src_meaning.specs.Scopes.{Entry, Scope, Scopes, with_scope, innermost, nearest_temporary, with_pending, becomes_entry, without_operands, needing_drop, Exit, Value, Breaks, Continues, Returns, Panics, Run, At, Over, Does, on_value, in_scopes, back_in, leave, drop_normally, drop_unwinding, entry_site}
use Rattle.src_meaning.specs.Shape.{NodeHead, Shape, operand_at, site_at}
use Rattle.well_typed.specs.Places.{LoopAround, Context, loop_with}
use Rattle.soundness_values.proofs.Leaving.{Shown, ShownOut, shown_more, Among, among_left, among_right, among_split}
use Rattle.soundness_cells.proofs.PassClear.{KeepsClear, any, Nothing, Changes, MovedByAny, operands_of, StoredAt}
use Rattle.soundness_cells.proofs.PassFree.{Always, Never, FindsNothing, DestKey, Fills, Ext, Top, ext_same, ext_then, top_then, AroundOk, around_ext, around_top, around_opened, taken_fewer, taken_top, Enters, enters_if, innermost_enters, nearest_enters, pends, completes}
use Rattle.soundness_cells.proofs.PassNumbers.{Numbered, Rises, numbered_left, numbered_right, rises_apart, rises_right}
use Rattle.soundness_cells.proofs.PassScopes.{entries_of, Other}

module _ {V : Type 0} (items : ItemTable) (needs : ℕ → Bool) (q : Effects V) (clear : V → ℕ → Type 0)
    (keeps : KeepsClear q needs clear) (over : Halt → V → Type 0) (waits : EffectSite → V → Type 0)
    (first : FindsNothing q over needs clear waits) where
  -- a cell that holds nothing, and is no entry
  abbrev pub Free : V → Scopes → ℕ → Type 0
  Free v S z = clear v z × (Among (entries_of S) z → ⊥)

  abbrev pub Frame : LoopsAndGuards → (ℕ → Type 0) → List Node → Scopes → V → Exit → Scopes → V → Type 0
  Frame around fl ns S v exit T w = (z : ℕ) → Free v S z → (Numbered ns z → ⊥) → (Fills around fl exit z → ⊥) →
      Free w T z

  -- what is known at an exit: of its scopes, and that what was free is so still, but for what these nodes fill
  abbrev pub Post : LoopsAndGuards → (ℕ → Type 0) → List Node → Scopes → V → (Exit → Scopes → Type 0) → Exit →
      Scopes → V → Type 0
  Post around fl ns S v ext exit T w = ext exit T × Frame around fl ns S v exit T w

  abbrev pub Extends : Scopes → Exit → Scopes → Type 0
  Extends S exit T = Ext S T

  abbrev pub OnTop : Scopes → Exit → Scopes → Type 0
  OnTop S exit T = Top S T

  -- the destinations of jumps
  abbrev pub Jump : Context → LoopsAndGuards → ℕ → Type 0
  Jump c around z = DestKey around.answer z
      ⊎ ((loop : ℕ) × ((a : LoopAround) × ((loop_with loop c.loops ≡ Some a)
      × DestKey (loop_destination loop around.loops) z)))

  abbrev pub TwoCells : Destination → Type 0
  TwoCells (Into key) = Unit {0}
  TwoCells (Coerced key trait_no to) = key ≡ to → ⊥

  -- the cells of each destination of a jump are two
  abbrev pub Twos : Context → LoopsAndGuards → Type 0
  Twos c around = TwoCells around.answer × ((loop : ℕ) (a : LoopAround) → loop_with loop c.loops ≡ Some a →
      TwoCells (loop_destination loop around.loops))

  -- before these nodes are evaluated their cells are free, and so are the destinations of jumps, which are none of them
  pub record Ready (c : Context) (around : LoopsAndGuards) (ns : List Node) (S : Scopes) (v : V) : Type 0 where
    pub ok : AroundOk items c around S
    pub free : (z : ℕ) → Numbered ns z → Free v S z
    pub jumps : (z : ℕ) → Jump c around z → Free v S z × (Numbered ns z → ⊥)
    pub twos : Twos c around

  -- a destination of a node: its cells are free, and none of a node inside
  pub record DestOk (id : ℕ) (ns : List Node) (to : Destination) (S : Scopes) (v : V) : Type 0 where
    pub free : (z : ℕ) → DestKey to z → Free v S z
    pub apart : (z : ℕ) → DestKey to z → (id ≡ z) ⊎ (Numbered ns z → ⊥)
    pub two : TwoCells to

  pub record FreeM (c : Context) (m : Meaning V) (ns : List Node) : Type 0 where
    pub own : Numbered ns m.head.id
    pub evaluates : (around : LoopsAndGuards) (own : Bool) (to : Destination) (S : Scopes) (v : V) →
        Ready c around ns S v → DestOk m.head.id ns to S v →
        Shown over (Post around (DestKey to) ns S v (Extends S)) (m.evaluate around own to S v)
    pub reaches : (around : LoopsAndGuards) (S : Scopes) (v : V) → Ready c around ns S v →
        Shown over (Post around Nothing ns S v (Extends S)) (m.reach around S v)

  -- nodes inside a node with a number
  pub record Part (id : ℕ) (ms ns : List Node) : Type 0 where
    pub within : (z : ℕ) → Numbered ms z → Numbered ns z
    pub apart : Numbered ms id → ⊥

  -- ---- what is ready

  pub ready_part : (c : Context) (around : LoopsAndGuards) (ms ns : List Node) (S : Scopes) (v : V) →
      ((z : ℕ) → Numbered ms z → Numbered ns z) → Ready c around ns S v → Ready c around ms S v
  ready_part c around ms ns S v f r = record {
    ok = r.ok;
    free = λ z n. r.free z (f z n);
    jumps = λ z j. ((r.jumps z j).0, λ n. (r.jumps z j).1 (f z n));
    twos = r.twos;
  }

  -- after other nodes
  pub ready_after : (c : Context) (around : LoopsAndGuards) (done ms ns : List Node) (fl : ℕ → Type 0) (S T : Scopes)
      (v w : V) → Ready c around ns S v → ((z : ℕ) → Numbered done z → Numbered ns z) →
      ((z : ℕ) → Numbered ms z → Numbered ns z) → ((z : ℕ) → Numbered done z → Numbered ms z → ⊥) →
      ((z : ℕ) → fl z → Numbered done z) → AroundOk items c around T →
      ((z : ℕ) → Free v S z → (Numbered done z → ⊥) → (fl z → ⊥) → Free w T z) → Ready c around ms T w
  ready_after c around done ms ns fl S T v w r in_done in_ms apart filled ok frame = record {
    ok = ok;
    free = λ z n. frame z (r.free z (in_ms z n)) (λ d. apart z d n) (λ x. apart z (filled z x) n);
    jumps = λ z j. let k = r.jumps z j in (
      frame z k.0 (λ d. k.1 (in_done z d)) (λ x. k.1 (in_done z (filled z x))),
      λ n. k.1 (in_ms z n),
    );
    twos = r.twos;
  }

  pub ready_opened : (c : Context) (around : LoopsAndGuards) (ns : List Node) (id : ℕ) (own : Bool) (S : Scopes) (v :
      V) →
      Ready c around ns S v → Ready c around ns (with_scope id own S) v
  ready_opened c around ns id own S v r = record {
    ok = around_opened items c around id own S r.ok;
    free = r.free;
    jumps = r.jumps;
    twos = r.twos;
  }

  -- where a change enters no key that is looked at
  pub entered_free : (k : ℕ) (S T : Scopes) (v : V) → Enters k S T → (z : ℕ) → (k ≡ z → ⊥) → Free v S z → Free v T z
  entered_free k S T v e z n f = (f.0, λ a. by (e.only z a))
    where
      by : Among (entries_of S) z ⊎ (k ≡ z) → ⊥
      by (inl x) = f.1 x
      by (inr x) = n x

  -- scopes with the same entries
  pub record Same (S T : Scopes) : Type 0 where
    pub ext : Ext S T
    pub only : (key : ℕ) → Among (entries_of T) key → Among (entries_of S) key

  pub same_if : (b : Bool) (S : Scopes) (change : Scopes → Scopes) → Same S (change S) → Same S (changed_if b change S)
  same_if true S change x = x
  same_if false S change x = record { ext = ext_same S; only = λ key a. a }

  pub same_pending : (e : Entry) (S : Scopes) → Same S (innermost (with_pending e) S)
  same_pending e [] = record { ext = tt; only = λ key a. a }
  same_pending e (s ∷ S) = record { ext = (((λ key a. a), refl), ext_same S); only = λ key a. a }

  same_tail : (s : Scope) (S T : Scopes) → Same S T → Same (s ∷ S) (s ∷ T)
  same_tail s S T x = record {
    ext = (((λ key a. a), refl), x.ext);
    only = λ key a. by key (among_split s.entries (entries_of T) key a);
  }
    where
      by : (key : ℕ) → Among s.entries key ⊎ Among (entries_of T) key → Among (s.entries ++ entries_of S) key
      by key (inl y) = among_left s.entries (entries_of S) key y
      by key (inr y) = among_right s.entries (entries_of S) key (x.only key y)

  pub same_nearest : (e : Entry) (S : Scopes) → Same S (nearest_temporary (with_pending e) S)
  same_nearest e [] = record { ext = tt; only = λ key a. a }
  same_nearest e (s ∷ S) = by s.for_temporaries (same_nearest e S)
    where
      by : (b : Bool) → Same S (nearest_temporary (with_pending e) S) →
          Same (s ∷ S) (source.nearest_from b (with_pending e) s S (nearest_temporary (with_pending e) S))
      by true later = record { ext = (((λ key a. a), refl), ext_same S); only = λ key a. a }
      by false later = same_tail s S (nearest_temporary (with_pending e) S) later

  pub same_free : (S T : Scopes) (v : V) → Same S T → (z : ℕ) → Free v S z → Free v T z
  same_free S T v x z f = (f.0, λ a. f.1 (x.only z a))

  pub ready_same : (c : Context) (around : LoopsAndGuards) (ns : List Node) (S T : Scopes) (v : V) → Same S T →
      Ready c around ns S v → Ready c around ns T v
  ready_same c around ns S T v x r = record {
    ok = around_ext items c around S T x.ext r.ok;
    free = λ z n. same_free S T v x z (r.free z n);
    jumps = λ z j. (same_free S T v x z (r.jumps z j).0, (r.jumps z j).1);
    twos = r.twos;
  }

  -- what is known of a run that began in other scopes with the same entries
  pub from_same : (around : LoopsAndGuards) (fl : ℕ → Type 0) (ns : List Node) (S T : Scopes) (v : V)
      (ext : Exit → Scopes → Type 0) (r : Run V) → Same S T → Shown over (Post around fl ns T v (Extends T)) r →
      Shown over (Post around fl ns S v (Extends S)) r
  from_same around fl ns S T v ext r x h = shown_more over
      (λ exit U u k. (ext_then S T U x.ext k.0, λ z f n m. k.1 z (same_free S T v x z f) n m)) r h

  -- the destination of a node inside, which is its own cell or that of the node
  pub own_dest : (c : Context) (around : LoopsAndGuards) (m : Meaning V) (ns : List Node) (S : Scopes) (v : V) →
      Numbered ns m.head.id → Ready c around ns S v → DestOk m.head.id ns (Into m.head.id) S v
  own_dest c around m ns S v own r = record {
    free = λ z e. subst (Free v S) e (r.free m.head.id own);
    apart = λ z e. inl e;
    two = tt;
  }

  pub dest_apart : (id : ℕ) (ms ns : List Node) (to : Destination) (S : Scopes) (v : V) → DestOk id ns to S v →
      Part id ms ns → (z : ℕ) → DestKey to z → Numbered ms z → ⊥
  dest_apart id ms ns to S v d p z k n = by (d.apart z k)
    where
      by : (id ≡ z) ⊎ (Numbered ns z → ⊥) → ⊥
      by (inl e) = p.apart (subst (Numbered ms) (sym e) n)
      by (inr f) = f (p.within z n)

  pub dest_after : (id child : ℕ) (done ms ns : List Node) (fl : ℕ → Type 0) (to : Destination) (S T : Scopes)
      (v w : V) → DestOk id ns to S v → Part id done ns → Part id ms ns → ((z : ℕ) → fl z → Numbered done z) →
      ((z : ℕ) → Free v S z → (Numbered done z → ⊥) → (fl z → ⊥) → Free w T z) → DestOk child ms to T w
  dest_after id child done ms ns fl to S T v w d p n filled frame = record {
    free = λ z k. frame z (d.free z k) (dest_apart id done ns to S v d p z k)
        (λ x. dest_apart id done ns to S v d p z k (filled z x));
    apart = λ z k. inr (dest_apart id ms ns to S v d n z k);
    two = d.two;
  }

  -- ---- one after another

  pub more_free : (around : LoopsAndGuards) (fl fl' : ℕ → Type 0) (ms ns : List Node) (S : Scopes) (v : V)
      (ext ext' : Exit → Scopes → Type 0) (r : Run V) → Shown over (Post around fl ms S v ext) r →
      ((z : ℕ) → Numbered ms z → Numbered ns z) → ((z : ℕ) → fl z → Numbered ns z ⊎ fl' z) →
      ((exit : Exit) (T : Scopes) → ext exit T → ext' exit T) → Shown over (Post around fl' ns S v ext') r
  more_free around fl fl' ms ns S v ext ext' r h f g e = shown_more over so r h
    where
      both : {z : ℕ} → (Numbered ns z → ⊥) → (fl' z → ⊥) → Numbered ns z ⊎ fl' z → ⊥
      both n m (inl x) = n x
      both n m (inr x) = m x

      so : (exit : Exit) (T : Scopes) (w : V) → Post around fl ms S v ext exit T w →
          Post around fl' ns S v ext' exit T w
      so Value T w k = (e Value T k.0, λ z fr n m. k.1 z fr (λ x. n (f z x)) (λ x. both n m (g z x)))
      so (Breaks loop) T w k = (e (Breaks loop) T k.0, λ z fr n m. k.1 z fr (λ x. n (f z x)) m)
      so (Continues loop) T w k = (e (Continues loop) T k.0, λ z fr n m. k.1 z fr (λ x. n (f z x)) m)
      so Returns T w k = (e Returns T k.0, λ z fr n m. absurd (m tt))
      so Panics T w k = (e Panics T k.0, λ z fr n m. absurd (m tt))

  pub then_free : (around : LoopsAndGuards) (fl1 fl : ℕ → Type 0) (done ns : List Node)
      (ext1 ext : Exit → Scopes → Type 0) (S : Scopes) (v : V) (r : Run V) (next : Does V) →
      Shown over (Post around fl1 done S v ext1) r → ((z : ℕ) → Numbered done z → Numbered ns z) →
      ((z : ℕ) → fl1 z → Numbered ns z) →
      ((exit : Exit) (T : Scopes) → Other exit → ext1 exit T → ext exit T) →
      ((T : Scopes) (w : V) → ext1 Value T →
      ((z : ℕ) → Free v S z → (Numbered done z → ⊥) → (fl1 z → ⊥) → Free w T z) →
      Shown over (Post around fl ns T w ext) (next T w)) → Shown over (Post around fl ns S v ext) (on_value r next)
  then_free around fl1 fl done ns ext1 ext S v (At Value T w) next k f g e h = shown_more over
      (λ exit U u p. (p.0, λ z fr n m. p.1 z (k.1 z fr (λ x. n (f z x)) (λ x. n (g z x))) n m)) (next T w)
      (h T w k.0 k.1)
  then_free around fl1 fl done ns ext1 ext S v (At (Breaks loop) T w) next k f g e h =
      (e (Breaks loop) T tt k.0, λ z fr n m. k.1 z fr (λ x. n (f z x)) m)
  then_free around fl1 fl done ns ext1 ext S v (At (Continues loop) T w) next k f g e h =
      (e (Continues loop) T tt k.0, λ z fr n m. k.1 z fr (λ x. n (f z x)) m)
  then_free around fl1 fl done ns ext1 ext S v (At Returns T w) next k f g e h =
      (e Returns T tt k.0, λ z fr n m. absurd (m tt))
  then_free around fl1 fl done ns ext1 ext S v (At Panics T w) next k f g e h =
      (e Panics T tt k.0, λ z fr n m. absurd (m tt))
  then_free around fl1 fl done ns ext1 ext S v (Over halt w) next k f g e h = k

  -- ---- effects

  pub both_out : (a b c d : V → Type 0) (o : Out V) → ShownOut over a b o → ShownOut any c d o →
      ShownOut over (λ w. a w × c w) (λ w. b w × d w) o
  both_out a b c d (Go w) h k = (h, k)
  both_out a b c d (Unwind w) h k = (h, k)
  both_out a b c d (Halts halt w) h k = h

  -- an action after which what was clear is so still, but where it stored
  abbrev pub ActsSo : Action → V → Out V → Type 0
  ActsSo action v o = ShownOut over
      (λ w. (z : ℕ) → clear v z → (StoredAt (stored_by action) z → ⊥) → clear w z) Always o

  pub acts_so : (action : Action) (v : V) → ShownOut over Always Always (q.act action v) → ActsSo action v (q.act
      action v)
  acts_so action v h = by (q.act action v) (both_out _ _ _ _ (q.act action v) h (keeps.acts action v))
    where
      kept : {w : V} → Changes clear (MovedByAny (operands_of action)) (StoredAt (stored_by action)) v w → (z : ℕ) →
          clear v z → (StoredAt (stored_by action) z → ⊥) → clear w z
      kept {w} f z c n = last (f z (inl c))
        where
          last : clear w z ⊎ StoredAt (stored_by action) z → clear w z
          last (inl x) = x
          last (inr x) = absurd (n x)

      by : (o : Out V) → ShownOut over
          (λ w. Always w × Changes clear (MovedByAny (operands_of action)) (StoredAt (stored_by action)) v w)
          (λ w. Always w × Changes clear (MovedByAny (operands_of action)) Nothing v w) o → ActsSo action v o
      by (Go w) k = kept k.1
      by (Unwind w) k = tt
      by (Halts halt w) k = k

  acted_free : (around : LoopsAndGuards) (fl : ℕ → Type 0) (ns : List Node) (ext : Exit → Scopes → Type 0)
      (action : Action) (S : Scopes) (v : V) (o : Out V) → ActsSo action v o → ext Value S → ext Panics S →
      ((z : ℕ) → StoredAt (stored_by action) z → fl z ⊎ Among (entries_of S) z) →
      Shown over (Post around fl ns S v ext) (in_scopes S o)
  acted_free around fl ns ext action S v (Go w) h e p stores = (
    e,
    λ z f n m. (h z f.0 (λ x. by z f m (stores z x)), f.1),
  )
    where
      by : (z : ℕ) → Free v S z → (fl z → ⊥) → fl z ⊎ Among (entries_of S) z → ⊥
      by z f m (inl x) = m x
      by z f m (inr x) = f.1 x
  acted_free around fl ns ext action S v (Unwind w) h e p stores = (p, λ z f n m. absurd (m tt))
  acted_free around fl ns ext action S v (Halts halt w) h e p stores = h

  pub acts_free : (around : LoopsAndGuards) (fl : ℕ → Type 0) (ns : List Node) (ext : Exit → Scopes → Type 0)
      (action : Action) (S : Scopes) (v : V) → ext Value S → ext Panics S →
      ((z : ℕ) → StoredAt (stored_by action) z → clear v z × fl z) →
      Shown over (Post around fl ns S v ext) (forms.acts items q action S v)
  acts_free around fl ns ext action S v e p stores = acted_free around fl ns ext action S v (q.act action v)
      (acts_so action v (first.acts action v (λ z x. (stores z x).0))) e p (λ z x. inl (stores z x).1)

  -- the answer of an action goes to a destination
  abbrev pub ToSite : (EffectSite → Action) → Type 0
  ToSite action = (site : EffectSite) (key : ℕ) → StoredAt (stored_by (action site)) key →
      site.place ≡ whole_local key

  pub deliver_free : (around : LoopsAndGuards) (ns : List Node) (ext : Exit → Scopes → Type 0) (h : NodeHead)
      (action : EffectSite → Action) (to : Destination) (S : Scopes) (v : V) → ext Value S → ext Panics S →
      ToSite action → ((z : ℕ) → DestKey to z → Free v S z) → TwoCells to →
      Shown over (Post around (DestKey to) ns S v ext) (forms.deliver items q h action to S v)
  deliver_free around ns ext h action (Into key) S v e p stores f two =
      acts_free around (DestKey (Into key)) ns ext (action (site_in h.id key)) S v e p (λ z x.
      let same : key ≡ z = ap (λ p. p.local) (stores (site_in h.id key) z x) in ((f z same).0, same))
  deliver_free around ns ext h action (Coerced key trait_no to) S v e p stores f two =
      after_first (q.act one v) (acts_so one v (first.acts one v (λ z s. (f z (inl (into_first z s))).0)))
    where
      one : Action
      one = action (site_in h.id key)

      unsize : Action
      unsize = effects.Unsize (site_in h.id to) trait_no (moved h.id key)

      into_first : (z : ℕ) → StoredAt (stored_by (action (site_in h.id key))) z → key ≡ z
      into_first z s = ap (λ p. p.local) (stores (site_in h.id key) z s)

      into_second : (z : ℕ) → StoredAt (Some (site_in h.id to)) z → to ≡ z
      into_second z s = ap (λ p. p.local) s

      Delivered : Run V → Type 0
      Delivered = Shown over (Post around (DestKey (Coerced key trait_no to)) ns S v ext)

      after_second : (w : V) → ((z : ℕ) → clear v z → (key ≡ z → ⊥) → clear w z) → (o : Out V) → ActsSo unsize w o →
          Delivered (in_scopes S o)
      after_second w g (Go u) k = (
        e,
        λ z fr n m. (k z (g z fr.0 (λ x. m (inl x))) (λ s. m (inr (into_second z s))), fr.1),
      )
      after_second w g (Unwind u) k = (p, λ z fr n m. absurd (m tt))
      after_second w g (Halts halt u) k = k

      after_first : (o : Out V) → ActsSo one v o → Delivered (on_value (in_scopes S o) (forms.acts items q unsize))
      after_first (Go w) k = after_second w (λ z c n. k z c (λ s. n (into_first z s))) (q.act unsize w)
          (acts_so unsize w (first.acts unsize w (λ z s. subst (clear w) (into_second z s)
          (k to (f to (inr refl)).0 (λ s. two (into_first to s))))))
      after_first (Unwind w) k = (p, λ z fr n m. absurd (m tt))
      after_first (Halts halt w) k = k

  -- ---- a scope is left

  pub dropped_so : (mode : Mode) (e : Entry) (v : V) →
      ShownOut over (λ w. (z : ℕ) → clear v z → clear w z) Always (q.drop mode (entry_site e) v)
  dropped_so mode e v = by (q.drop mode (entry_site e) v)
      (both_out _ _ _ _ (q.drop mode (entry_site e) v) (first.drops mode e v) (keeps.drops mode e v))
    where
      by : (o : Out V) → ShownOut over
          (λ w. Always w × (clear w e.key × ((key : ℕ) → clear v key → clear w key)))
          (λ w. Always w × (clear w e.key × ((key : ℕ) → clear v key → clear w key))) o →
          ShownOut over (λ w. (z : ℕ) → clear v z → clear w z) Always o
      by (Go w) h = h.1.1
      by (Unwind w) h = tt
      by (Halts halt w) h = h

  module _ (post : Exit → Scopes → V → Type 0) (S : Scopes) (panicked : (w : V) → post Panics S w) where
    unwinding_free : (es : List Entry) (v : V) → Shown over post (drop_unwinding items q es S v)
    unwinding_free [] v = panicked v
    unwinding_free (e ∷ es) v = by (q.drop Unwinding (entry_site e) v) (dropped_so Unwinding e v)
        (λ w. unwinding_free es w)
      where
        by : (o : Out V) → ShownOut over (λ w. (z : ℕ) → clear v z → clear w z) Always o →
            ((w : V) → Shown over post (drop_unwinding items q es S w)) →
            Shown over post (source.dropped_unwinding items q o (drop_unwinding items q es S))
        by (Go w) h later = later w
        by (Unwind w) h later = first.aborts w
        by (Halts halt w) h later = h

    normally_free : (exit : Exit) (es : List Entry) (v : V) →
        ((w : V) → ((z : ℕ) → clear v z → clear w z) → post exit S w) →
        Shown over post (drop_normally items q exit es S v)
    normally_free exit [] v f = f v (λ z c. c)
    normally_free exit (e ∷ es) v f = by (q.drop Normal (entry_site e) v) (dropped_so Normal e v)
        (λ w g. normally_free exit es w (λ u k. f u (λ z c. k z (g z c))))
      where
        by : (o : Out V) → ShownOut over (λ w. (z : ℕ) → clear v z → clear w z) Always o →
            ((w : V) → ((z : ℕ) → clear v z → clear w z) → Shown over post (drop_normally items q exit es S w)) →
            Shown over post (source.dropped_normally items q o (drop_normally items q exit es S)
            (drop_unwinding items q es S))
        by (Go w) h later = later w h
        by (Unwind w) h later = unwinding_free es w
        by (Halts halt w) h later = h

  -- within a scope, of which it is known what is beneath it
  abbrev pub Beneath : (Exit → Scopes → Type 0) → Exit → Scopes → Type 0
  Beneath outer exit [] = ⊥
  Beneath outer exit (s ∷ T) = outer exit T × outer Panics T

  pub leave_free : (around : LoopsAndGuards) (fl : ℕ → Type 0) (ns : List Node) (S : Scopes) (v : V)
      (outer : Exit → Scopes → Type 0) (r : Run V) → Shown over (Post around fl ns S v (Beneath outer)) r →
      Shown over (Post around fl ns S v outer) (leave items q r)
  leave_free around fl ns S v outer (Over halt w) h = h
  leave_free around fl ns S v outer (At exit [] w) h = absurd h.0
  leave_free around fl ns S v outer (At exit (s ∷ T) w) h = by exit h
    where
      panicked : (exit : Exit) → Post around fl ns S v (Beneath outer) exit (s ∷ T) w → (u : V) →
          Post around fl ns S v outer Panics T u
      panicked exit k u = (k.0.1, λ z f n m. absurd (m tt))

      left : (exit : Exit) → Post around fl ns S v (Beneath outer) exit (s ∷ T) w → (u : V) →
          ((z : ℕ) → clear w z → clear u z) → Post around fl ns S v outer exit T u
      left exit k u g = (
        k.0.0,
        λ z f n m. let x = k.1 z f n m in (g z x.0, λ a. x.1 (among_right s.entries (entries_of T) z a)),
      )

      normally : (exit : Exit) → Post around fl ns S v (Beneath outer) exit (s ∷ T) w →
          Shown over (Post around fl ns S v outer) (drop_normally items q exit (needing_drop items s.entries) T w)
      normally exit k = normally_free (Post around fl ns S v outer) T (panicked exit k) exit
          (needing_drop items s.entries) w (left exit k)

      by : (exit : Exit) → Post around fl ns S v (Beneath outer) exit (s ∷ T) w →
          Shown over (Post around fl ns S v outer) (leave items q (At exit (s ∷ T) w))
      by Value k = normally Value k
      by (Breaks loop) k = normally (Breaks loop) k
      by (Continues loop) k = normally (Continues loop) k
      by Returns k = normally Returns k
      by Panics k = unwinding_free (Post around fl ns S v outer) T (panicked Panics k)
          (needing_drop items (s.pending ++ s.entries)) w

  -- a scope that was opened on others
  pub top_beneath : (S : Scopes) (exit : Exit) (T : Scopes) → Top S T → Beneath (Extends S) exit T
  top_beneath S exit [] e = absurd e
  top_beneath S exit (t ∷ T) e = (e, e)

  pub scope_free : (around : LoopsAndGuards) (fl : ℕ → Type 0) (ns : List Node) (id : ℕ) (own : Bool) (does : Does V)
      (S : Scopes) (v : V) → Shown over (Post around fl ns S v (OnTop S)) (does (with_scope id own S) v) →
      Shown over (Post around fl ns S v (Extends S)) (source.in_scope items q id own does S v)
  scope_free around fl ns id own does S v h = leave_free around fl ns S v (Extends S) (does (with_scope id own S) v)
      (shown_more over (λ exit T w k. (top_beneath S exit T k.0, k.1)) (does (with_scope id own S) v) h)

  -- what is known within scopes that were opened
  pub opened_top : (around : LoopsAndGuards) (fl : ℕ → Type 0) (ns : List Node) (id : ℕ) (own : Bool) (S : Scopes)
      (v : V) (r : Run V) → Shown over (Post around fl ns (with_scope id own S) v (Extends (with_scope id own S))) r →
      Shown over (Post around fl ns S v (OnTop S)) r
  opened_top around fl ns id own S v r h =
      shown_more over (λ exit T w k. (top_then S (with_scope id own S) T (ext_same S) k.0, k.1)) r h

  -- a node that is a scope of its own, or not
  pub own_free : (around : LoopsAndGuards) (fl : ℕ → Type 0) (ns : List Node) (h : NodeHead) (own : Bool) (does : Does
      V)
      (S : Scopes) (v : V) → ((T : Scopes) → (T ≡ S) ⊎ (T ≡ with_scope h.id true S) →
      Shown over (Post around fl ns T v (Extends T)) (does T v)) →
      Shown over (Post around fl ns S v (Extends S)) (forms.in_own_scope items q h own does S v)
  own_free around fl ns h false does S v f = f S (inl refl)
  own_free around fl ns h true does S v f = scope_free around fl ns h.id true does S v
      (opened_top around fl ns h.id true S v (does (with_scope h.id true S) v) (f (with_scope h.id true S) (inr refl)))

  pub back_free : (around : LoopsAndGuards) (fl : ℕ → Type 0) (ns : List Node) (S : Scopes) (v : V) (r : Run V) →
      Shown over (Post around fl ns S v (Extends S)) r → Shown over (Post around fl ns S v (Extends S)) (back_in S r)
  back_free around fl ns S v (At Value T w) h = (
    ext_same S,
    λ z f n m. ((h.1 z f n m).0, f.1),
  )
  back_free around fl ns S v (At (Breaks loop) T w) h = h
  back_free around fl ns S v (At (Continues loop) T w) h = h
  back_free around fl ns S v (At Returns T w) h = h
  back_free around fl ns S v (At Panics T w) h = h
  back_free around fl ns S v (Over halt w) h = h
