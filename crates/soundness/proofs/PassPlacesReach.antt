-- Rules for places: what is known of a place as it is reached, and what its use, a borrow, an assignment and a
-- scrutinee ask. None fails for want of what is known, and no place waits for its value behind it.
use Rattle.std.proofs.Common.{◌≡◌, ℕ, ◌&&◌, ◌||◌, not, Bool, true, false, Option, Some, None, refl, ap, sym, ◌∙◌, subst}
use Rattle.std.specs.Option.{option_map_or}
use Rattle.std.specs.Cmp.Derive.{both_true}
use Rattle.std.proofs.lemmas.Bool.{false≢true}
use Rattle.mir_ty.specs.declared.ty.TyId.{TyId}
use Rattle.mir_ty.specs.Facts.{needs_drop}
use Rattle.mir_ty.specs.ItemTable.{ItemTable, type_at}
use Rattle.store_model.specs.Effects as effects
use Rattle.store_model.specs.Effects.{EffectSite, Operand, Copied, Moved, Action, Out, Go, Unwind, Halts, Effects}
use Rattle.store_model.specs.Places.Place.{ToElement, Place, whole_local, is_reference}
use Rattle.typed_tree.specs.Tree.{BodyTree}
use Rattle.src_meaning.specs.Forms as forms
use Rattle.src_meaning.specs.Forms.{Destination, Into, Coerced, LoopsAndGuards, Meaning, site_in, site_of_key, moved, site_of, place_of}
use Rattle.src_meaning.specs.Locals.Effects.{place_at, action_at}
use Rattle.src_meaning.specs.Locals.OfBody.{local_of, local_ty}
use Rattle.src_meaning.specs.Scopes.{Exit, Value, Breaks, Continues, Returns, Panics, Scopes, Run, At, Over, Does, ◌>>◌, on_value, in_scopes}
use Rattle.src_meaning.specs.Shape.{NodeHead, Shape, Aliases, extended, site_at, copied_or_moved, moves, operand_at}
use Rattle.soundness_values.proofs.AlsoTests.{Also}
use Rattle.soundness_values.proofs.Checked.{Checking}
use Rattle.soundness_values.proofs.CheckedBodies.{is_reference_param}
use Rattle.soundness_values.proofs.Checks as checks
use Rattle.soundness_values.proofs.Facts.{Facts, bounded_by, without}
use Rattle.soundness_values.proofs.Leaving.{Shown, ShownOut}
use Rattle.soundness_cells.proofs.PassCellTests as tests
use Rattle.soundness.proofs.PassKnownPlaces.{Known, StepKnown, cell_known}
use Rattle.soundness.proofs.PassKnownRules as known
use Rattle.soundness.proofs.PassKnownStores as stores
use Rattle.soundness.proofs.PassKnownStores.{Replaced}
use Rattle.soundness.proofs.PassMovable.{Movable, movable_moved}
use Rattle.soundness.proofs.PassAloneRun.{BorrowAt}
use Rattle.soundness.proofs.PassPlacesCalm as calm
use Rattle.soundness.proofs.PassPlacesCalm.{watching, Calm, safe, acts_calm, settled}
use Rattle.soundness.proofs.PassPlacesEffects.{q, Settled}
use Rattle.soundness.proofs.PassPlacesNamed as named
use Rattle.soundness.proofs.PassPlacesRules as rules
use Rattle.soundness_cells.proofs.PassRefilled.{not_mark}
use Rattle.soundness_cells.proofs.PassRest.{own_local}
use Rattle.soundness_cells.proofs.PassRestEnds.{plain_value}
use Rattle.soundness_cells.proofs.PassRestMarks.{left_refill}
use Rattle.soundness_cells.proofs.PassRestSplit.{places_act}

module _ (items : ItemTable) (body : BodyTree) (also : Also) (aliases : Aliases) where
  abbrev pub V : Type 0
  V = Checking Facts

  abbrev L : ℕ → ℕ
  L = local_of items body

  abbrev r : Effects V
  r = watching items body also aliases

  abbrev pub Kept : Run V → Type 0
  Kept = rules.Kept items r (not_mark 5) (Calm items body also aliases) (safe items body also aliases)

  abbrev pub Keeps : Does V → Type 0
  Keeps = rules.Keeps items r (not_mark 5) (Calm items body also aliases) (safe items body also aliases)

  abbrev pub After : (V → Type 0) → Exit → Scopes → V → Type 0
  After = rules.After items r (not_mark 5) (Calm items body also aliases) (safe items body also aliases)

  abbrev pub Brings : (V → Type 0) → Does V → Type 0
  Brings = rules.Brings items r (not_mark 5) (Calm items body also aliases) (safe items body also aliases)

  abbrev pub KeepsIf : (V → Type 0) → Does V → Type 0
  KeepsIf = rules.KeepsIf items r (not_mark 5) (Calm items body also aliases) (safe items body also aliases)

  -- enough is known of a place
  abbrev pub Led : Place → V → Type 0
  Led place v = Known items body v.facts place

  -- ---- the use of a place

  first : (a b : Bool) → a ≡ true → (a || b) ≡ true
  first true b h = refl
  first false b h = absurd (false≢true h)

  left_so : (a b : Bool) → (a && b) ≡ true → a ≡ true
  left_so true b h = refl
  left_so false b h = absurd (false≢true h)

  own_changed : (key : ℕ) → tests.value_at items (local_ty items body) (is_reference_param items body)
      (whole_local (L key)) ≡ true →
      checks.may_change items (local_ty items body) (is_reference_param items body) (whole_local (L key)) ≡ true
  own_changed key h = by (local_ty items body (L key)) refl
      (plain_value items (local_ty items body) (is_reference_param items body) (own_local items body)
      (whole_local (L key)) refl h)
    where
      plain : (b : Bool) → not b ≡ true → b ≡ false
      plain true e = absurd (false≢true e)
      plain false e = refl

      by : (o : Option TyId) → local_ty items body (L key) ≡ o → option_map_or (tests.no_reference items) o false ≡
          true → checks.may_change items (local_ty items body) (is_reference_param items body) (whole_local (L key)) ≡
          true
      by None e h = absurd (false≢true h)
      by (Some id) e h = first _ _ (ap not (own_local items body (L key) id e
          (plain (is_reference (type_at items id)) h)))

  pub put_calm : (t : Bool) (node key : ℕ) (site : EffectSite) (v : V) → Calm items body also aliases v → Led
      site.place v → (t ≡ true → Movable items body site.place) →
      ShownOut (not_mark 5) (Calm items body also aliases) (Calm items body also aliases)
      (r.act (effects.Put (site_in node key) (copied_or_moved t site)) v)
  put_calm true node key site v c k m =
      acts_calm items body also aliases (effects.Put (site_in node key) (Moved site)) v tt c (λ typed. both_true
      (both_true (cell_known items body (without (place_at L site.place) v.facts) key)
      (both_true (own_changed key (left_so _ _ typed)) refl))
      (both_true k (movable_moved items body site.place (m refl))))
  put_calm false node key site v c k m =
      acts_calm items body also aliases (effects.Put (site_in node key) (Copied site)) v tt c (λ typed. k)

  delivered_kept : (h : NodeHead) (place : Place) (to : Destination) →
      (moves h.by ≡ true → Movable items body place) →
      KeepsIf (Led place) (forms.deliver items r h (λ site. effects.Put site (operand_at h place)) to)
  delivered_kept h place (Into key) m S v c k =
      rules.in_scopes_kept items r (not_mark 5) (Calm items body also aliases) (safe items body also aliases) S
      (r.act (effects.Put (site_in h.id key) (operand_at h place)) v)
      (put_calm (moves h.by) h.id key (site_at h place) v c k m)
  delivered_kept h place (Coerced key trait_no to) m S v c k =
      rules.then_kept items r (not_mark 5) (Calm items body also aliases) (safe items body also aliases)
      (in_scopes S (r.act (effects.Put (site_in h.id key) (operand_at h place)) v))
      (forms.acts items r (effects.Unsize (site_in h.id to) trait_no (moved h.id key)))
      (rules.in_scopes_kept items r (not_mark 5) (Calm items body also aliases) (safe items body also aliases) S
      (r.act (effects.Put (site_in h.id key) (operand_at h place)) v)
      (put_calm (moves h.by) h.id key (site_at h place) v c k m))
      (rules.acts_kept items r (not_mark 5) (Calm items body also aliases) (safe items body also aliases)
      (effects.Unsize (site_in h.id to) trait_no (moved h.id key)) refl)

  pub used_kept : (h : NodeHead) (s : Shape) (reach : LoopsAndGuards → Does V) (around : LoopsAndGuards) (own : Bool)
      (to : Destination) → Brings (Led (s.place around.aliases)) (reach around) →
      (moves h.by ≡ true → Movable items body (s.place around.aliases)) →
      Keeps (forms.use_of_place items r h s reach around own to)
  used_kept h s reach around own to b m =
      rules.own_kept items r (not_mark 5) (Calm items body also aliases) (safe items body also aliases) h own
      (reach around >> forms.deliver items r h (λ site. effects.Put site (operand_at h (s.place around.aliases))) to)
      (rules.bringing items r (not_mark 5) (Calm items body also aliases) (safe items body also aliases) (Led (s.place
      around.aliases)) (reach around) (forms.deliver items r h (λ site. effects.Put site (operand_at h (s.place
      around.aliases))) to) b (delivered_kept h (s.place around.aliases) to m))

  -- ---- elements

  shown_less : (post : Exit → Scopes → V → Type 0) (x : Run V) →
      Shown (not_mark 5) (λ exit S w. post exit S w × calm.Stand items body also aliases w.facts) x →
      Shown (not_mark 5) post x
  shown_less post (At exit S v) h = h.0
  shown_less post (Over halt v) h = h

  both_shown : (place : Place) (x : Run V) → Shown (not_mark 5) (known.KnownAt items body also place) x → Kept x →
      Shown (not_mark 5) (After (Led place)) x
  both_shown place (At Value S v) h k = (k, h)
  both_shown place (At (Breaks loop) S v) h k = k
  both_shown place (At (Continues loop) S v) h k = k
  both_shown place (At Returns S v) h k = k
  both_shown place (At Panics S v) h k = k
  both_shown place (Over halt v) h k = k

  abbrev Bounding : NodeHead → Place → ℕ → ℕ → ℕ → Does V
  Bounding h place key found length S v = on_value
      (forms.acts items r (effects.Touch (site_at h (forms.array_around items r (extended (ToElement key) place)))) S v)
      (forms.acts items r (effects.Bounds (Copied (site_of_key found)) length))

  bounding_kept : (h : NodeHead) (place : Place) (key found length : ℕ) →
      KeepsIf (Led place) (Bounding h place key found length)
  bounding_kept h place key found length S v c k =
      rules.then_kept items r (not_mark 5) (Calm items body also aliases) (safe items body also aliases)
      (in_scopes S (r.act touch v)) (forms.acts items r bounds)
      (rules.in_scopes_kept items r (not_mark 5) (Calm items body also aliases) (safe items body also aliases) S
      (r.act touch v) (acts_calm items body also aliases touch v tt c (λ typed. known.array_at items body also v.facts
      place key k))) (rules.acts_kept items r (not_mark 5) (Calm items body also aliases) (safe items body also
      aliases) bounds refl)
    where
      touch : Action
      touch = effects.Touch (site_at h (forms.array_around items r (extended (ToElement key) place)))

      bounds : Action
      bounds = effects.Bounds (Copied (site_of_key found)) length

  -- what the run that watches nothing brings
  known_bounded : (h : NodeHead) (place : Place) (key length : ℕ) (S : Scopes) (v : V) → Calm items body also aliases
      v → Led place v →
      ((facts : Facts) → bounded_by facts (L key) length ≡ true → StepKnown items body facts place (ToElement key)) →
      Shown (not_mark 5) (known.KnownAt items body also (extended (ToElement key) place))
      (Bounding h place key key length S v)
  known_bounded h place key length S v c k step = shown_less
      (known.KnownAt items body also (extended (ToElement key) place)) (Bounding h place key key length S v)
      (calm.shown_so items body also aliases (known.KnownAt items body also (extended (ToElement key) place))
      (Bounding h place key key length S v) _
      (calm.two_so items body also aliases
      (effects.Touch (site_at h (forms.array_around items r (extended (ToElement key) place))))
      (effects.Bounds (Copied (site_of_key key)) length) S v c.1.1)
      (known.element_known items body also h place key length S v k step))

  -- the base, an index that leaves it, and the test of its bounds
  pub element_brings : (h : NodeHead) (s : Shape) (base index : Meaning V) (length key : ℕ) (place : Place)
      (around : LoopsAndGuards) → s.place around.aliases ≡ extended (ToElement key) place → index.head.id ≡ key →
      Brings (Led place) (base.reach around) →
      ((S : Scopes) (v : V) → Calm items body also aliases v → Led place v →
      Shown (not_mark 5) (After (Led place)) (index.evaluate around false (Into index.head.id) S v)) →
      ((facts : Facts) → bounded_by facts (L key) length ≡ true → StepKnown items body facts place (ToElement key)) →
      Brings (Led (s.place around.aliases)) (forms.reach_element items r h s base index length around)
  element_brings h s base index length key place around p n b i step S v c =
      rules.brought_more items r (not_mark 5) (Calm items body also aliases) (safe items body also aliases) (Led place)
      (Led (s.place around.aliases)) (base.reach around S v) (λ T w. on_value
      (index.evaluate around false (Into index.head.id) T w) then_touch) (b S v c)
      (λ T w d k. rules.brought_more items r (not_mark 5) (Calm items body also aliases) (safe items body also
      aliases) (Led place) (Led (s.place around.aliases)) (index.evaluate around false (Into index.head.id) T w)
      then_touch (i T w d k) (λ U u e l. last U u e l))
    where
      then_touch : Does V
      then_touch S v = on_value
          (forms.acts items r (effects.Touch (site_at h (forms.array_around items r (s.place around.aliases)))) S v)
          (forms.acts items r (effects.Bounds (Copied (site_of_key index.head.id)) length))

      last : (U : Scopes) (u : V) → Calm items body also aliases u → Led place u →
          Shown (not_mark 5) (After (Led (s.place around.aliases))) (then_touch U u)
      last U u e l = subst (λ (at_ : Place). Shown (not_mark 5) (After (Led at_)) (on_value
          (forms.acts items r (effects.Touch (site_at h (forms.array_around items r at_))) U u)
          (forms.acts items r (effects.Bounds (Copied (site_of_key index.head.id)) length)))) (sym p)
          (subst (λ k. Shown (not_mark 5) (After (Led (extended (ToElement key) place))) (Bounding h place key k
          length U u)) (sym n) (both_shown (extended (ToElement key) place) (Bounding h place key key length U u)
          (known_bounded h place key length U u e l step)
          (bounding_kept h place key key length U u e l)))

  -- ---- borrows

  borrowed_kept : (h : NodeHead) (node : ℕ) (unique : Bool) (base : EffectSite) (key : ℕ) → BorrowAt items body also
      key → KeepsIf (Led base.place) (forms.deliver items r h
      (λ site. effects.Borrow (record site { node = node }) unique base) (Into key))
  borrowed_kept h node unique base key made S v c k =
      rules.in_scopes_kept items r (not_mark 5) (Calm items body also aliases) (safe items body also aliases) S
      (r.act (effects.Borrow (site_in node key) unique base) v)
      (acts_calm items body also aliases (effects.Borrow (site_in node key) unique base) v (key, (refl, made)) c
      (λ typed. k))

  -- each borrow goes to its own cell
  pub borrowing_kept : (h : NodeHead) (unique : Bool) (base : Meaning V) (around : LoopsAndGuards) (own : Bool)
      (to : Destination) (key : ℕ) → to ≡ Into key → BorrowAt items body also key →
      Brings (Led (place_of base around)) (base.reach around) →
      Keeps (forms.borrowing items r h unique base around own to)
  borrowing_kept h unique base around own to key e made b =
      subst (λ z. Keeps (forms.borrowing items r h unique base around own z)) (sym e)
      (rules.own_kept items r (not_mark 5) (Calm items body also aliases) (safe items body also aliases) h own
      (base.reach around >> forms.deliver items r h
      (λ site. effects.Borrow (record site { node = base.head.id }) unique (site_of base around)) (Into key))
      (rules.bringing items r (not_mark 5) (Calm items body also aliases) (safe items body also aliases) (Led
      (place_of base around)) (base.reach around)
      (forms.deliver items r h (λ site. effects.Borrow (record site { node = base.head.id }) unique (site_of base
      around)) (Into key)) b (borrowed_kept h base.head.id unique (site_of base around) key made)))

  -- ---- assignment

  replaced_settled : (drops : Bool) (site : EffectSite) (key : ℕ) (facts : Facts) (x : Run V) →
      Shown (not_mark 5) (λ exit S w. w.facts ≡ stores.replaced items body also drops site key facts) x →
      named.Ran items body also x → Shown (not_mark 5) (λ exit S w. Settled items body also w) x
  replaced_settled drops site key facts (At exit S w) h i = (ap (λ (f : Facts). f.refilled) h, i)
  replaced_settled drops site key facts (Over halt w) h i = h

  pub kept_so : (x : Run V) → Shown (not_mark 5)
      (λ exit S w. Settled items body also w × calm.Stand items body also aliases w.facts) x → Kept x
  kept_so (At exit S w) h = calm.calm_if items body also aliases w h
  kept_so (Over halt w) h = h

  pub assigning_kept : (A : Type 0) (h : NodeHead) (place value : Meaning V) (around : LoopsAndGuards) (own : Bool)
      (to : Destination) → Brings (λ w. A) (value.evaluate around false (Into value.head.id)) →
      Brings (Led (place_of place around)) (place.reach around) →
      (A → (v : V) → Led (place_of place around) v →
      Replaced items body also v.facts (place_of place around) value.head.id) →
      (needs_drop items place.head.ty ≡ false → checks.needs items (local_ty items body) (is_reference_param items body)
      (place_at L (place_of place around)) ≡ false) →
      Keeps (forms.assigning items r h place value around own to)
  assigning_kept A h place value around own to e b rep needs =
      rules.scope_kept items r (not_mark 5) (Calm items body also aliases) (safe items body also aliases) h.id own
      (forms.operand items r around value >> then_place)
      (rules.bringing items r (not_mark 5) (Calm items body also aliases) (safe items body also aliases) (λ w. A)
      (forms.operand items r around value) then_place
      (rules.operand_brings items r (not_mark 5) (Calm items body also aliases) (safe items body also aliases) (λ w.
      A) around value e) (λ T w d a. rules.bringing items r (not_mark 5) (Calm items body also aliases) (safe items
      body also aliases) (Led (place_of place around)) (place.reach around) then_store b
      (λ S v c k. rules.then_kept items r (not_mark 5) (Calm items body also aliases) (safe items body also aliases)
      (forms.replacing items r (needs_drop items place.head.ty) (site_of place around) value.head.id S v)
      (forms.put_unit items r h to)
      (kept_so (forms.replacing items r (needs_drop items place.head.ty) (site_of place around) value.head.id S v)
      (calm.shown_so items body also aliases (λ exit S w. Settled items body also w)
      (forms.replacing items r (needs_drop items place.head.ty) (site_of place around) value.head.id S v) _
      (calm.replacing_so items body also aliases (needs_drop items place.head.ty) (site_of place around) value.head.id
      S v c.1.1)
      (replaced_settled (needs_drop items place.head.ty) (site_of place around) value.head.id v.facts
      (forms.replacing items (q items body also) (needs_drop items place.head.ty) (site_of place around) value.head.id
      S v) (stores.replacing_known items body also (site_of place around) value.head.id v.facts c.0 (rep a v k)
      (needs_drop items place.head.ty) needs S v refl)
      (named.replacing_named items body also (needs_drop items place.head.ty) (site_of place around) value.head.id S v
      c.1.0))))
      (rules.unit_kept items r (not_mark 5) (Calm items body also aliases) (safe items body also aliases) h to)) T w d))
    where
      then_store : Does V
      then_store S v = on_value
          (forms.replacing items r (needs_drop items place.head.ty) (site_of place around) value.head.id S v)
          (forms.put_unit items r h to)

      then_place : Does V
      then_place S v = on_value (place.reach around S v) then_store

  -- ---- scrutinees

  touched_brings : (A : Type 0) (b : Bool) (site : EffectSite) (S : Scopes) (v : V) → Calm items body also aliases v →
      Led site.place v → A → Shown (not_mark 5) (After (λ w. Led site.place w × A)) (forms.touched items r b site S v)
  touched_brings A false site S v c k a = (c, (k, a))
  touched_brings A true site S v c k a = by (r.act (effects.Touch site) v)
      (calm.acts_so items body also aliases (effects.Touch site) (known.With items body also v.facts)
      (known.With items body also v.facts) v c.1.1
      (known.acts_shown items body also (effects.Touch site) v (subst (λ o. checks.unless_refilled o
      (places_act items body v.facts v.free.cells (action_at L (effects.Touch site)))
      (λ hole. left_refill items body v.facts hole (action_at L (effects.Touch site))) ≡ true) (sym c.0) k)))
    where
      calm_then : (w : V) → known.With items body also v.facts w → calm.Stand items body also aliases w.facts →
          Calm items body also aliases w
      calm_then w h s = (ap (λ (f : Facts). f.refilled) h ∙ c.0, (named.facts_named items body also v w h c.1.0, s))

      by : (o : Out V) → ShownOut (not_mark 5)
          (λ w. known.With items body also v.facts w × calm.Stand items body also aliases w.facts)
          (λ w. known.With items body also v.facts w × calm.Stand items body also aliases w.facts) o →
          Shown (not_mark 5) (After (λ w. Led site.place w × A)) (in_scopes S o)
      by (Go w) h = (calm_then w h.0 h.1, (subst (λ f. Known items body f site.place) (sym h.0) k, a))
      by (Unwind w) h = calm_then w h.0 h.1
      by (Halts halt w) h = h

  -- something else, that does not change, may be known too
  pub scrutinised_brings : (A : Type 0) (around : LoopsAndGuards) (m : Meaning V) →
      Brings (λ w. Led (place_of m around) w × A) (m.reach around) →
      Brings (λ w. Led (place_of m around) w × A) (forms.scrutinised items r around m)
  scrutinised_brings A around m b S v c =
      rules.brought_more items r (not_mark 5) (Calm items body also aliases) (safe items body also aliases)
      (λ w. Led (place_of m around) w × A) (λ w. Led (place_of m around) w × A) (m.reach around S v)
      (forms.touched items r m.shape.is_place (site_of m around)) (b S v c)
      (λ T w d k. touched_brings A m.shape.is_place (site_of m around) T w d k.0 k.1)
