-- What is free stays free, by the rules of operands, places, borrows and assignments.
use Rattle.std.proofs.Common.{◌≡◌, ◌⊎◌, inl, inr, ℕ, Bool, true, false, List, [], ◌∷◌, ◌++◌, Option, Some, None, refl, ap, sym, ◌∙◌, subst}
use Rattle.mir_ty.specs.declared.ty.TyId.{TyId}
use Rattle.mir_ty.specs.Facts.{needs_drop}
use Rattle.mir_ty.specs.ItemTable.{ItemTable}
use Rattle.store_model.specs.Effects as effects
use Rattle.store_model.specs.Effects.{EffectSite, Operand, Copied, Action, Normal, Halt, Out, Go, Unwind, Halts, Effects, stored_by}
use Rattle.store_model.specs.Places.Place.{Place, whole_local}
use Rattle.typed_tree.specs.Tree.{Node}
use Rattle.src_meaning.specs.Forms as forms
use Rattle.src_meaning.specs.Forms.{Destination, Into, Coerced, LoopsAndGuards, Meaning, entry_of, site_of_key, moved, keys_of, changed_if, site_of}
use Rattle.src_meaning.specs.Scopes as source
use Rattle.src_meaning.specs.Scopes.{Entry, Scopes, with_scope, innermost, nearest_temporary, with_pending, becomes_entry, without_operands, Exit, Value, Breaks, Continues, Returns, Panics, Run, At, Over, Does, on_value, in_scopes, entry_site}
use Rattle.src_meaning.specs.Shape.{NodeHead, Shape, operand_at, site_at}
use Rattle.well_typed.specs.Places.{Context}
use Rattle.soundness_values.proofs.Leaving.{Shown, ShownOut, shown_more, Among}
use Rattle.soundness_cells.proofs.PassClear.{KeepsClear, any, Nothing, Changes, MovedByAny, operands_of, StoredAt}
use Rattle.soundness_cells.proofs.PassFree.{Always, Never, FindsNothing, DestKey, Fills, Ext, Top, ext_same, ext_then, top_then, AroundOk, around_ext, around_top, around_opened, taken_fewer, taken_top, Enters, enters_if, innermost_enters, nearest_enters, pends, completes}
use Rattle.soundness_cells.proofs.PassFreeRules as rules
use Rattle.soundness_cells.proofs.PassNumbers.{Numbered, Rises, numbered_left, numbered_right, rises_apart, rises_right}
use Rattle.soundness_cells.proofs.PassScopes.{entries_of, Other}

module _ {V : Type 0} (items : ItemTable) (needs : ℕ → Bool) (q : Effects V) (clear : V → ℕ → Type 0)
    (keeps : KeepsClear q needs clear) (over : Halt → V → Type 0) (waits : EffectSite → V → Type 0)
    (first : FindsNothing q over needs clear waits) where
  abbrev Free : V → Scopes → ℕ → Type 0
  Free = rules.Free items needs q clear keeps over waits first

  abbrev Post : LoopsAndGuards → (ℕ → Type 0) → List Node → Scopes → V → (Exit → Scopes → Type 0) → Exit → Scopes →
      V → Type 0
  Post = rules.Post items needs q clear keeps over waits first

  abbrev Extends : Scopes → Exit → Scopes → Type 0
  Extends = rules.Extends items needs q clear keeps over waits first

  abbrev OnTop : Scopes → Exit → Scopes → Type 0
  OnTop = rules.OnTop items needs q clear keeps over waits first

  abbrev Ready : Context → LoopsAndGuards → List Node → Scopes → V → Type 0
  Ready = rules.Ready items needs q clear keeps over waits first

  abbrev DestOk : ℕ → List Node → Destination → Scopes → V → Type 0
  DestOk = rules.DestOk items needs q clear keeps over waits first

  abbrev FreeM : Context → Meaning V → List Node → Type 0
  FreeM = rules.FreeM items needs q clear keeps over waits first

  abbrev Part : ℕ → List Node → List Node → Type 0
  Part = rules.Part items needs q clear keeps over waits first

  abbrev ToSite : (EffectSite → Action) → Type 0
  ToSite = rules.ToSite items needs q clear keeps over waits first

  -- ---- values that become entries

  -- scopes that change where a value is complete
  complete_free : (around : LoopsAndGuards) (ns : List Node) (key : ℕ) (change : Scopes → Scopes) →
      ((T : Scopes) → Enters key T (change T)) → Numbered ns key → (T : Scopes) (w : V) →
      Shown over (Post around Nothing ns T w (Extends T)) (source.changing change T w)
  complete_free around ns key change e n T w = (
    (e T).ext,
    λ z f m x. rules.entered_free items needs q clear keeps over waits first key T (change T) w (e T) z
        (λ s. m (subst (Numbered ns) s n)) f,
  )

  -- a value is made in its own cell, which is pending meanwhile, and is an entry then
  pub made_free : (c : Context) (around : LoopsAndGuards) (m : Meaning V) (ns : List Node) → FreeM c m ns →
      (S T : Scopes) (v : V) → Ready c around ns S v → rules.Same items needs q clear keeps over waits first S T →
      (change : Scopes → Scopes) → ((U : Scopes) → Enters m.head.id U (change U)) →
      Shown over (Post around Nothing ns S v (Extends S))
      (on_value (m.evaluate around false (Into m.head.id) T v) (source.changing change))
  made_free c around m ns f S T v r x change e =
      let t = rules.ready_same items needs q clear keeps over waits first c around ns S T v x r in
      rules.from_same items needs q clear keeps over waits first around Nothing ns S T v (Extends T) _ x
      (rules.then_free items needs q clear keeps over waits first around (DestKey (Into m.head.id)) Nothing ns ns
      (Extends T) (Extends T) T v (m.evaluate around false (Into m.head.id) T v) (source.changing change)
      (f.evaluates around false (Into m.head.id) T v t
      (rules.own_dest items needs q clear keeps over waits first c around m ns T v f.own t))
      (λ z n. n) (λ z s. subst (Numbered ns) s f.own) (λ exit U o k. k)
      (λ U w k g. rules.more_free items needs q clear keeps over waits first around Nothing Nothing ns ns U w (Extends
      U)
      (Extends T) (source.changing change U w) (complete_free around ns m.head.id change e f.own U w) (λ z n. n)
      (λ z n. absurd n) (λ exit Z x. ext_then T U Z k x)))

  pub operand_free : (c : Context) (around : LoopsAndGuards) (m : Meaning V) (ns : List Node) → FreeM c m ns →
      (S : Scopes) (v : V) → Ready c around ns S v →
      Shown over (Post around Nothing ns S v (Extends S)) (forms.operand items q around m S v)
  operand_free c around m ns f S v r = made_free c around m ns f S
      (changed_if m.shape.in_destination (innermost (with_pending (entry_of m.head))) S) v r
      (rules.same_if items needs q clear keeps over waits first m.shape.in_destination S
      (innermost (with_pending (entry_of m.head)))
      (rules.same_pending items needs q clear keeps over waits first (entry_of m.head) S))
      (innermost (becomes_entry (entry_of m.head)))
      (λ U. innermost_enters m.head.id (becomes_entry (entry_of m.head)) (completes (entry_of m.head)) U)

  pub temporary_free : (c : Context) (around : LoopsAndGuards) (h : NodeHead) (s : Shape)
      (evaluate : LoopsAndGuards → Bool → Destination → Does V) (ns : List Node) → Numbered ns h.id →
      ((S : Scopes) (v : V) → Ready c around ns S v → DestOk h.id ns (Into h.id) S v →
      Shown over (Post around (DestKey (Into h.id)) ns S v (Extends S)) (evaluate around false (Into h.id) S v)) →
      (S : Scopes) (v : V) → Ready c around ns S v →
      Shown over (Post around Nothing ns S v (Extends S)) (forms.temporary items q h s evaluate around S v)
  temporary_free c around h s evaluate ns own does S v r =
      let t = rules.ready_same items needs q clear keeps over waits first c around ns S begun v x r in
      rules.from_same items needs q clear keeps over waits first around Nothing ns S begun v (Extends begun) _ x
      (rules.then_free items needs q clear keeps over waits first around (DestKey (Into h.id)) Nothing ns ns
      (Extends begun) (Extends begun) begun v (evaluate around false (Into h.id) begun v) (source.changing change)
      (does begun v t (record {
        free = λ z e. subst (Free v begun) e (t.free h.id own);
        apart = λ z e. inl e;
        two = tt;
      })) (λ z n. n) (λ z e. subst (Numbered ns) e own) (λ exit U o k. k)
      (λ U w k g. rules.more_free items needs q clear keeps over waits first around Nothing Nothing ns ns U w (Extends
      U)
      (Extends begun) (source.changing change U w) (complete_free around ns h.id change
      (λ T. nearest_enters h.id (becomes_entry (entry_of h)) (completes (entry_of h)) T) own U w) (λ z n. n)
      (λ z n. absurd n) (λ exit Z x. ext_then begun U Z k x)))
    where
      begun : Scopes
      begun = changed_if s.in_destination (nearest_temporary (with_pending (entry_of h))) S

      change : Scopes → Scopes
      change = nearest_temporary (becomes_entry (entry_of h))

      x : rules.Same items needs q clear keeps over waits first S
          (changed_if s.in_destination (nearest_temporary (with_pending (entry_of h))) S)
      x = rules.same_if items needs q clear keeps over waits first s.in_destination S
          (nearest_temporary (with_pending (entry_of h)))
          (rules.same_nearest items needs q clear keeps over waits first (entry_of h) S)

  -- ---- operands

  -- these have nodes one after the other
  abbrev pub AllFree : Context → List (Meaning V) → List Node → Type 0
  AllFree c [] ns = Unit {0}
  AllFree c (m ∷ ms) ns = (a : List Node) × ((b : List Node) × ((ns ≡ a ++ b) × (FreeM c m a × AllFree c ms b)))

  pub operands_free : (c : Context) (around : LoopsAndGuards) (ms : List (Meaning V)) (ns : List Node) → Rises ns →
      AllFree c ms ns → (S : Scopes) (v : V) → Ready c around ns S v →
      Shown over (Post around Nothing ns S v (Extends S)) (forms.operands items q around ms S v)
  operands_free c around [] ns rise f S v r = (ext_same S, λ z k n m. k)
  operands_free c around (m ∷ ms) ns rise (a, (b, (e, (one, more)))) S v r =
      rules.then_free items needs q clear keeps over waits first around Nothing Nothing a ns (Extends S) (Extends S) S v
      (forms.operand items q around m S v) (forms.operands items q around ms)
      (operand_free c around m a one S v
      (rules.ready_part items needs q clear keeps over waits first c around a ns S v in_first r)) in_first
      (λ z n. absurd n) (λ exit T o k. k)
      (λ T w k g. rules.more_free items needs q clear keeps over waits first around Nothing Nothing b ns T w (Extends T)
      (Extends S) (forms.operands items q around ms T w)
      (operands_free c around ms b (rises_right a b both) more T w
      (rules.ready_after items needs q clear keeps over waits first c around a b ns Nothing S T v w r in_first in_more
      (rises_apart a b both) (λ z n. absurd n) (around_ext items c around S T k r.ok) g))
      in_more (λ z n. absurd n) (λ exit U x. ext_then S T U k x))
    where
      both : Rises (a ++ b)
      both = subst Rises e rise

      in_first : (z : ℕ) → Numbered a z → Numbered ns z
      in_first z n = subst (λ l. Numbered l z) (sym e) (numbered_left a b z n)

      in_more : (z : ℕ) → Numbered b z → Numbered ns z
      in_more z n = subst (λ l. Numbered l z) (sym e) (numbered_right a b z n)

  -- what a form does when it has its operands
  abbrev pub Acting : LoopsAndGuards → (ℕ → Type 0) → List Node → List Node → Scopes → V → Does V → Type 0
  Acting around fl os ns S v act = (T : Scopes) (w : V) → Top S T →
      ((z : ℕ) → Free v S z → (Numbered os z → ⊥) → Free w T z) →
      Shown over (Post around fl ns T w (OnTop S)) (act T w)

  pub acting_free : (c : Context) (around : LoopsAndGuards) (own : Bool) (h : NodeHead) (ms : List (Meaning V))
      (act : Does V) (fl : ℕ → Type 0) (os ns : List Node) → Rises os → AllFree c ms os →
      ((z : ℕ) → Numbered os z → Numbered ns z) → (S : Scopes) (v : V) → Ready c around ns S v →
      Acting around fl os ns S v act →
      Shown over (Post around fl ns S v (Extends S)) (forms.acting items q h around own ms act S v)
  acting_free c around own h ms act fl os ns rise f inside S v r does =
      rules.scope_free items needs q clear keeps over waits first around fl ns h.id own
      (λ T w. on_value (forms.operands items q around ms T w) taken) S v
      (rules.then_free items needs q clear keeps over waits first around Nothing fl os ns (OnTop S) (OnTop S)
      (with_scope h.id own S) v (forms.operands items q around ms (with_scope h.id own S) v) taken
      (rules.opened_top items needs q clear keeps over waits first around Nothing os h.id own S v _
      (operands_free c around ms os rise f (with_scope h.id own S) v
      (rules.ready_opened items needs q clear keeps over waits first c around os h.id own S v
      (rules.ready_part items needs q clear keeps over waits first c around os ns S v inside r)))) inside
      (λ z n. absurd n) (λ exit T o k. k)
      (λ T w k g. shown_more over (λ exit Z u p. (p.0, λ z fr n m. p.1 z (fewer T w z fr) n m))
      (act (innermost (without_operands (keys_of ms)) T) w)
      (does (innermost (without_operands (keys_of ms)) T) w (taken_top (keys_of ms) S T k)
      (λ z fr n. fewer T w z (g z fr n (λ x. x))))))
    where
      taken : Does V
      taken T w = on_value (forms.take items q (keys_of ms) T w) act

      fewer : (T : Scopes) (w : V) (z : ℕ) → Free w T z → Free w (innermost (without_operands (keys_of ms)) T) z
      fewer T w z fr = (fr.0, λ a. fr.1 (taken_fewer (keys_of ms) T z a))

  pub dropping_free : (c : Context) (around : LoopsAndGuards) (own : Bool) (h : NodeHead) (m : Meaning V)
      (act : Does V) (fl : ℕ → Type 0) (os ns : List Node) → FreeM c m os →
      ((z : ℕ) → Numbered os z → Numbered ns z) → (S : Scopes) (v : V) → Ready c around ns S v →
      Acting around fl os ns S v act →
      Shown over (Post around fl ns S v (Extends S)) (forms.dropping items q h around own m act S v)
  dropping_free c around own h m act fl os ns f inside S v r does =
      rules.scope_free items needs q clear keeps over waits first around fl ns h.id own
      (λ T w. on_value (forms.operand items q around m T w) act) S v
      (rules.then_free items needs q clear keeps over waits first around Nothing fl os ns (OnTop S) (OnTop S)
      (with_scope h.id own S) v (forms.operand items q around m (with_scope h.id own S) v) act
      (rules.opened_top items needs q clear keeps over waits first around Nothing os h.id own S v _
      (operand_free c around m os f (with_scope h.id own S) v
      (rules.ready_opened items needs q clear keeps over waits first c around os h.id own S v
      (rules.ready_part items needs q clear keeps over waits first c around os ns S v inside r)))) inside
      (λ z n. absurd n) (λ exit T o k. k) (λ T w k g. does T w k (λ z fr n. g z fr n (λ x. x))))

  -- an answer that goes to a destination, when what is inside has been evaluated
  pub delivers_top : (around : LoopsAndGuards) (h : NodeHead) (action : EffectSite → Action) (to : Destination)
      (os ns : List Node) (S : Scopes) (v : V) → ToSite action → DestOk h.id ns to S v → Part h.id os ns →
      Acting around (DestKey to) os ns S v (forms.deliver items q h action to)
  delivers_top around h action to os ns S v stores d p T w k g =
      rules.deliver_free items needs q clear keeps over waits first around ns (OnTop S) h action to T w k k stores
      (λ z x. g z (d.free z x)
      (rules.dest_apart items needs q clear keeps over waits first h.id os ns to S v d p z x)) d.two

  -- ---- places

  pub use_free : (c : Context) (around : LoopsAndGuards) (h : NodeHead) (s : Shape) (reach : LoopsAndGuards → Does V)
      (own : Bool) (to : Destination) (os ns : List Node) → Part h.id os ns → (S : Scopes) (v : V) →
      Ready c around ns S v → DestOk h.id ns to S v →
      ((T : Scopes) → Ready c around os T v → Shown over (Post around Nothing os T v (Extends T)) (reach around T v)) →
      Shown over (Post around (DestKey to) ns S v (Extends S)) (forms.use_of_place items q h s reach around own to S v)
  use_free c around h s reach own to os ns p S v r d does =
      rules.own_free items needs q clear keeps over waits first around (DestKey to) ns h own
      (λ T w. on_value (reach around T w) deliver) S v (λ T e. at T e)
    where
      put : EffectSite → Action
      put site = effects.Put site (operand_at h (s.place around.aliases))

      deliver : Does V
      deliver = forms.deliver items q h put to

      within : (T : Scopes) → Ready c around ns T v → DestOk h.id ns to T v →
          Shown over (Post around (DestKey to) ns T v (Extends T)) (on_value (reach around T v) deliver)
      within T t e = rules.then_free items needs q clear keeps over waits first around Nothing (DestKey to) os ns
          (Extends T) (Extends T) T v (reach around T v) deliver
          (does T (rules.ready_part items needs q clear keeps over waits first c around os ns T v p.within t)) p.within
          (λ z n. absurd n) (λ exit U o k. k)
          (λ U w k g. rules.deliver_free items needs q clear keeps over waits first around ns (Extends T) h put to U w
          k k
          (λ site key x. x) (λ z x. g z (e.free z x)
          (rules.dest_apart items needs q clear keeps over waits first h.id os ns to T v e p z x) (λ n. n)) e.two)

      at : (T : Scopes) → (T ≡ S) ⊎ (T ≡ with_scope h.id true S) →
          Shown over (Post around (DestKey to) ns T v (Extends T)) (on_value (reach around T v) deliver)
      at T (inl e) = subst (λ Z. Shown over (Post around (DestKey to) ns Z v (Extends Z))
          (on_value (reach around Z v) deliver)) (sym e) (within S r d)
      at T (inr e) = subst (λ Z. Shown over (Post around (DestKey to) ns Z v (Extends Z))
          (on_value (reach around Z v) deliver)) (sym e) (within (with_scope h.id true S)
          (rules.ready_opened items needs q clear keeps over waits first c around ns h.id true S v r)
          (record { free = d.free; apart = d.apart; two = d.two }))

  pub borrowing_free : (c : Context) (around : LoopsAndGuards) (h : NodeHead) (unique : Bool) (base : Meaning V)
      (own : Bool) (to : Destination) (os ns : List Node) → Part h.id os ns → FreeM c base os → (S : Scopes) (v : V) →
      Ready c around ns S v → DestOk h.id ns to S v →
      Shown over (Post around (DestKey to) ns S v (Extends S))
      (forms.borrowing items q h unique base around own to S v)
  borrowing_free c around h unique base own to os ns p f S v r d =
      rules.own_free items needs q clear keeps over waits first around (DestKey to) ns h own
      (λ T w. on_value (base.reach around T w) deliver) S v (λ T e. at T e)
    where
      borrow : EffectSite → Action
      borrow site = effects.Borrow (record site { node = base.head.id }) unique (site_of base around)

      deliver : Does V
      deliver = forms.deliver items q h borrow to

      within : (T : Scopes) → Ready c around ns T v → DestOk h.id ns to T v →
          Shown over (Post around (DestKey to) ns T v (Extends T)) (on_value (base.reach around T v) deliver)
      within T t e = rules.then_free items needs q clear keeps over waits first around Nothing (DestKey to) os ns
          (Extends T) (Extends T) T v (base.reach around T v) deliver
          (f.reaches around T v
          (rules.ready_part items needs q clear keeps over waits first c around os ns T v p.within t)) p.within
          (λ z n. absurd n) (λ exit U o k. k)
          (λ U w k g. rules.deliver_free items needs q clear keeps over waits first around ns (Extends T) h borrow to U
          w
          k k (λ site key x. x) (λ z x. g z (e.free z x)
          (rules.dest_apart items needs q clear keeps over waits first h.id os ns to T v e p z x) (λ n. n)) e.two)

      at : (T : Scopes) → (T ≡ S) ⊎ (T ≡ with_scope h.id true S) →
          Shown over (Post around (DestKey to) ns T v (Extends T)) (on_value (base.reach around T v) deliver)
      at T (inl e) = subst (λ Z. Shown over (Post around (DestKey to) ns Z v (Extends Z))
          (on_value (base.reach around Z v) deliver)) (sym e) (within S r d)
      at T (inr e) = subst (λ Z. Shown over (Post around (DestKey to) ns Z v (Extends Z))
          (on_value (base.reach around Z v) deliver)) (sym e) (within (with_scope h.id true S)
          (rules.ready_opened items needs q clear keeps over waits first c around ns h.id true S v r)
          (record { free = d.free; apart = d.apart; two = d.two }))

  -- the base, then the index in its cell, which stays there
  pub element_free : (c : Context) (around : LoopsAndGuards) (h : NodeHead) (s : Shape) (base index : Meaning V)
      (length : ℕ) (a b ns : List Node) → Rises (a ++ b) → FreeM c base a → FreeM c index b →
      ((z : ℕ) → Numbered (a ++ b) z → Numbered ns z) → (S : Scopes) (v : V) → Ready c around ns S v →
      Shown over (Post around Nothing ns S v (Extends S))
      (forms.reach_element items q h s base index length around S v)
  element_free c around h s base index length a b ns rise fa fb inside S v r =
      rules.then_free items needs q clear keeps over waits first around Nothing Nothing a ns (Extends S) (Extends S) S v
      (base.reach around S v) then_index
      (fa.reaches around S v (rules.ready_part items needs q clear keeps over waits first c around a ns S v in_a r))
      in_a
      (λ z n. absurd n) (λ exit T o k. k)
      (λ T w k g. let t = rules.ready_after items needs q clear keeps over waits first c around a b ns Nothing S T v w r
      in_a in_b (rises_apart a b rise) (λ z n. absurd n) (around_ext items c around S T k r.ok) g in
      rules.then_free items needs q clear keeps over waits first around (DestKey (Into index.head.id)) Nothing b ns
      (Extends S) (Extends S) T w (index.evaluate around false (Into index.head.id) T w) then_touch
      (shown_more over (λ exit U u x. (ext_then S T U k x.0, x.1)) (index.evaluate around false (Into index.head.id) T
      w)
      (fb.evaluates around false (Into index.head.id) T w t
      (rules.own_dest items needs q clear keeps over waits first c around index b T w fb.own t))) in_b
      (λ z e. in_b z (subst (Numbered b) e fb.own)) (λ exit U o x. x)
      (λ U u x y. rules.then_free items needs q clear keeps over waits first around Nothing Nothing [] ns (Extends S)
      (Extends S) U u (forms.acts items q touch U u) (forms.acts items q bounds)
      (rules.acts_free items needs q clear keeps over waits first around Nothing [] (Extends S) touch U u x x
      (λ z n. absurd n)) (λ z n. absurd n) (λ z n. absurd n) (λ exit Z o e. e)
      (λ Z z e f. rules.acts_free items needs q clear keeps over waits first around Nothing ns (Extends S) bounds Z z e
      e
      (λ key n. absurd n))))
    where
      in_a : (z : ℕ) → Numbered a z → Numbered ns z
      in_a z n = inside z (numbered_left a b z n)

      in_b : (z : ℕ) → Numbered b z → Numbered ns z
      in_b z n = inside z (numbered_right a b z n)

      touch : Action
      touch = effects.Touch (site_at h (forms.array_around items q (s.place around.aliases)))

      bounds : Action
      bounds = effects.Bounds (Copied (site_of_key index.head.id)) length

      then_touch : Does V
      then_touch U u = on_value (forms.acts items q touch U u) (forms.acts items q bounds)

      then_index : Does V
      then_index T w = on_value (index.evaluate around false (Into index.head.id) T w) then_touch

  -- ---- assignment

  stored_free : (around : LoopsAndGuards) (site : EffectSite) (key : ℕ) (S T : Scopes) (w : V) → Top S T →
      ShownOut over Always Always (q.act (effects.Put site (moved site.node key)) w) →
      ((z : ℕ) → StoredAt (Some site) z → Among (entries_of T) z) →
      Shown over (Post around Nothing [] T w (OnTop S)) (forms.stored items q site key T w)
  stored_free around site key S T w k h names = by (q.act (effects.Put site (moved site.node key)) w)
      (rules.acts_so items needs q clear keeps over waits first (effects.Put site (moved site.node key)) w h)
    where
      top : Top S (innermost (without_operands (key ∷ [])) T)
      top = taken_top (key ∷ []) S T k

      by : (o : Out V) →
          rules.ActsSo items needs q clear keeps over waits first (effects.Put site (moved site.node key)) w o →
          Shown over (Post around Nothing [] T w (OnTop S)) (in_scopes (innermost (without_operands (key ∷ [])) T) o)
      by (Go u) f = (
        top,
        λ z fr n m. (f z fr.0 (λ s. fr.1 (names z s)), λ a. fr.1 (taken_fewer (key ∷ []) T z a)),
      )
      by (Unwind u) f = (top, λ z fr n m. absurd (m tt))
      by (Halts halt u) f = f

  -- a panic of the drop goes on when the value is stored
  panicked_free : (around : LoopsAndGuards) (site : EffectSite) (key : ℕ) (S T : Scopes) (v w : V) → Top S T →
      ShownOut over Always Always (q.act (effects.Put site (moved site.node key)) w) →
      Shown over (Post around Nothing [] T v (OnTop S)) (on_value (forms.stored items q site key T w) (At Panics))
  panicked_free around site key S T v w k h = by (q.act (effects.Put site (moved site.node key)) w) h
    where
      top : Top S (innermost (without_operands (key ∷ [])) T)
      top = taken_top (key ∷ []) S T k

      by : (o : Out V) → ShownOut over Always Always o → Shown over (Post around Nothing [] T v (OnTop S))
          (on_value (in_scopes (innermost (without_operands (key ∷ [])) T) o) (At Panics))
      by (Go u) f = (top, λ z fr n m. absurd (m tt))
      by (Unwind u) f = (top, λ z fr n m. absurd (m tt))
      by (Halts halt u) f = f

  abbrev Emptied : EffectSite → V → Out V → Type 0
  Emptied site v o = ShownOut over (λ w. waits site w × ((z : ℕ) → clear v z → clear w z))
      (λ w. waits site w × ((z : ℕ) → clear v z → clear w z)) o

  replacing_free : (around : LoopsAndGuards) (drops : Bool) (site : EffectSite) (key : ℕ) (S T : Scopes) (v : V) →
      Top S T → (drops ≡ false → needs key ≡ false) → ((z : ℕ) → StoredAt (Some site) z → Among (entries_of T) z) →
      Shown over (Post around Nothing [] T v (OnTop S)) (forms.replacing items q drops site key T v)
  replacing_free around false site key S T v k n names =
      stored_free around site key S T v k (first.assigns site key v (n refl)) names
  replacing_free around true site key S T v k n names = by (q.drop Normal site v)
      (rules.both_out items needs q clear keeps over waits first _ _ _ _ (q.drop Normal site v) (first.empties site v)
      (keeps.drops_at Normal site v))
    where
      by : (o : Out V) → Emptied site v o →
          Shown over (Post around Nothing [] T v (OnTop S)) (forms.stored_after items q site key T o)
      by (Go w) h = shown_more over
          (λ exit U u p. (p.0, λ z fr x m. p.1 z (h.1 z fr.0, fr.1) x m)) (forms.stored items q site key T w)
          (stored_free around site key S T w k (first.refills site key w h.0) names)
      by (Unwind w) h = panicked_free around site key S T v w k (first.refills site key w h.0)
      by (Halts halt w) h = h

  -- the value first, then the place, into which it is stored
  pub assigning_free : (c : Context) (around : LoopsAndGuards) (own : Bool) (h : NodeHead) (place value : Meaning V)
      (to : Destination) (a b ns : List Node) → Rises (a ++ b) → FreeM c place a → FreeM c value b →
      Part h.id (a ++ b) ns →
      (needs_drop items place.head.ty ≡ false → needs value.head.id ≡ false) →
      ((T : Scopes) → AroundOk items c around T → (z : ℕ) → StoredAt (Some (site_of place around)) z →
      Among (entries_of T) z) → (S : Scopes) (v : V) → Ready c around ns S v → DestOk h.id ns to S v →
      Shown over (Post around (DestKey to) ns S v (Extends S))
      (forms.assigning items q h place value around own to S v)
  assigning_free c around own h place value to a b ns rise fa fb part undropped names S v r d =
      rules.scope_free items needs q clear keeps over waits first around (DestKey to) ns h.id own
      (λ T w. on_value (forms.operand items q around value T w) then_place) S v
      (rules.then_free items needs q clear keeps over waits first around Nothing (DestKey to) b ns (OnTop S) (OnTop S)
      (with_scope h.id own S) v (forms.operand items q around value (with_scope h.id own S) v) then_place
      (rules.opened_top items needs q clear keeps over waits first around Nothing b h.id own S v _
      (operand_free c around value b fb (with_scope h.id own S) v
      (rules.ready_opened items needs q clear keeps over waits first c around b h.id own S v
      (rules.ready_part items needs q clear keeps over waits first c around b ns S v in_b r)))) in_b
      (λ z n. absurd n) (λ exit T o k. k)
      (λ T w k g. rules.then_free items needs q clear keeps over waits first around Nothing (DestKey to) a ns (OnTop S)
      (OnTop S) T w (place.reach around T w) then_store
      (shown_more over (λ exit U u x. (top_then S T U k x.0, x.1)) (place.reach around T w)
      (fa.reaches around T w
      (rules.ready_after items needs q clear keeps over waits first c around b a ns Nothing S T v w r in_b in_a
      (λ z x y. rises_apart a b rise z y x) (λ z n. absurd n) (around_top items c around S T k r.ok) g))) in_a
      (λ z n. absurd n) (λ exit U o x. x)
      (λ U u x y. rules.then_free items needs q clear keeps over waits first around Nothing (DestKey to) [] ns (OnTop S)
      (OnTop S) U u (forms.replacing items q drops (site_of place around) value.head.id U u) (forms.put_unit items q h
      to)
      (replacing_free around drops (site_of place around) value.head.id S U u x undropped
      (names U (around_top items c around S U x r.ok))) (λ z n. absurd n) (λ z n. absurd n) (λ exit Z o e. e)
      (λ Z z e f. rules.deliver_free items needs q clear keeps over waits first around ns (OnTop S) h
      (λ site. effects.Put site effects.UnitValue) to Z z e e (λ site key s. s)
      (λ l i. f l (y l (g l (d.free l i) (λ n. no_dest l i (numbered_right a b l n)) (λ n. n))
      (λ n. no_dest l i (numbered_left a b l n)) (λ n. n)) (λ n. n) (λ n. n)) d.two))))
    where
      drops : Bool
      drops = needs_drop items place.head.ty

      in_a : (z : ℕ) → Numbered a z → Numbered ns z
      in_a z n = part.within z (numbered_left a b z n)

      in_b : (z : ℕ) → Numbered b z → Numbered ns z
      in_b z n = part.within z (numbered_right a b z n)

      no_dest : (z : ℕ) → DestKey to z → Numbered (a ++ b) z → ⊥
      no_dest z x n = rules.dest_apart items needs q clear keeps over waits first h.id (a ++ b) ns to S v d part z x n

      then_store : Does V
      then_store U u = on_value (forms.replacing items q drops (site_of place around) value.head.id U u)
          (forms.put_unit items q h to)

      then_place : Does V
      then_place T w = on_value (place.reach around T w) then_store
