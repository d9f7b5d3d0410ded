-- Effects on places, in a run that marks what is left: where enough is known, none fails for want of that. A test of bounds
-- makes known the element of which it is; the names of a pattern are bound one after another, each from a part that those
-- before it leave alone.
use Rattle.std.proofs.Common.{◌≡◌, ◌⊎◌, inl, inr, ℕ, ◌==◌, ◌&&◌, ◌||◌, not, Bool, true, false, List, [], ◌∷◌, ◌++◌, map, Option, Some, None, refl, ap, sym, ◌∙◌, subst}
use Rattle.std.specs.Cmp.Derive.{both_true}
use Rattle.std.proofs.lemmas.Bool.{false≢true}
use Rattle.mir_ty.specs.declared.ty.TyId.{TyId}
use Rattle.mir_ty.specs.ItemTable.{ItemTable, type_at}
use Rattle.store_model.specs.Abstract.Effects.{AbstractState, acted_on, never_at}
use Rattle.store_model.specs.Effects as effects
use Rattle.store_model.specs.Effects.{EffectSite, Copied, Action, Unreachable, Out, Go, Unwind, Halts, Effects, halting_if, stores_where}
use Rattle.store_model.specs.Places.Place.{Step, ToPart, ToField, ToContent, ToElement, Place, whole_local, before_element, is_reference}
use Rattle.typed_tree.specs.Tree.{BodyTree}
use Rattle.src_meaning.specs.Forms as forms
use Rattle.src_meaning.specs.Forms.{site_of_key, bound_entry}
use Rattle.src_meaning.specs.Locals.Effects as locals_of
use Rattle.src_meaning.specs.Locals.Effects.{step_at, place_at, action_at}
use Rattle.src_meaning.specs.Locals.OfBody.{local_of, local_ty}
use Rattle.src_meaning.specs.Scopes.{Scope, Scopes, with_entry, Exit, Value, Breaks, Continues, Returns, Panics, Run, At, Over, on_value, in_scopes}
use Rattle.src_meaning.specs.Shape.{NodeHead, BoundName, extended, site_at, copied_or_moved}
use Rattle.soundness_values.proofs.AlsoTests.{Also}
use Rattle.soundness_values.proofs.Checked.{Checking, with_facts}
use Rattle.soundness_values.proofs.CheckedBodies.{is_reference_param}
use Rattle.soundness_values.proofs.Checks as checks
use Rattle.soundness_values.proofs.Checks.{with_bounded}
use Rattle.soundness_values.proofs.Facts.{Facts, bounded_by, takes_index, without}
use Rattle.soundness_values.proofs.Leaving.{Shown, ShownOut}
use Rattle.soundness_cells.proofs.PassCellActs.{Cell}
use Rattle.soundness_cells.proofs.PassCellEffects.{Quiet, acted_quiet}
use Rattle.soundness_cells.proofs.PassCellNames.{before_at}
use Rattle.soundness.proofs.PassKnownKept.{Away, Keeps, keeps_without, known_kept}
use Rattle.soundness.proofs.PassKnownMoved.{Leaves, known_left, known_bounded, array_known}
use Rattle.soundness.proofs.PassKnownPlaces.{Known, StepKnown, cell_known, further_known}
use Rattle.soundness_cells.proofs.PassMarks.{marked}
use Rattle.soundness.proofs.PassMovable.{Movable, movable_moved}
use Rattle.soundness_cells.proofs.PassRefilled.{not_mark, unmarked}
use Rattle.soundness_cells.proofs.PassRest.{own_local}
use Rattle.soundness.proofs.PassCallsAlone.{alone_run}
use Rattle.soundness.proofs.PassPlacesMarks.{act_places}
use Rattle.soundness_cells.proofs.PassRestSplit.{places_now, places_act}

-- an element of an array is reached as far as the array is
before_more : (steps : List Step) (i : ℕ) → before_element (steps ++ ToElement i ∷ []) ≡ before_element steps
before_more [] i = refl
before_more (ToElement k ∷ steps) i = refl
before_more (ToPart n ∷ steps) i = ap (λ l. ToPart n ∷ l) (before_more steps i)
before_more (ToField v n ∷ steps) i = ap (λ l. ToField v n ∷ l) (before_more steps i)
before_more (ToContent ∷ steps) i = ap (λ l. ToContent ∷ l) (before_more steps i)

module _ (items : ItemTable) (body : BodyTree) (also : Also) where
  abbrev V : Type 0
  V = Checking Facts

  abbrev q : Effects V
  q = alone_run items body also

  abbrev L : ℕ → ℕ
  L = local_of items body

  abbrev pub With : Facts → V → Type 0
  With facts w = w.facts ≡ facts

  halting_quiet : (b : Bool) (o : Out AbstractState) → Quiet items (local_ty items body) (Unit {0}) o →
      Quiet items (local_ty items body) (Unit {0}) (halting_if b Unreachable o)
  halting_quiet true (Go w) h = tt
  halting_quiet true (Unwind w) h = h
  halting_quiet true (Halts halt w) h = h
  halting_quiet false o h = h

  pub shown : (mark : Option ℕ) (v : V) (went unwound : Facts) (o : Out AbstractState) → (mark ≡ Some 5 → ⊥) →
      Quiet items (local_ty items body) (Unit {0}) o →
      ShownOut (not_mark 5) (With went) (With unwound) (marked mark v (with_facts went unwound o))
  shown None v went unwound (Go w) n h = refl
  shown None v went unwound (Unwind w) n h = refl
  shown None v went unwound (Halts halt w) n h = unmarked 5 halt h
  shown (Some m) v went unwound o n h = λ e. n (ap Some e)

  -- what an action does, where the half on places holds of it
  pub acts_shown : (action : Action) (v : V) →
      places_now items body v.facts v.free.cells (action_at L action) ≡ true →
      ShownOut (not_mark 5)
      (With (checks.after_action items (local_ty items body) (is_reference_param items body) (action_at L action) v.facts))
      (With (checks.after_unwound items (local_ty items body) (is_reference_param items body) (action_at L action)
      v.facts)) (q.act action v)
  acts_shown action v h = shown _ v _ _ _ (act_places items body also (action_at L action) v.free v.facts h)
      (halting_quiet (stores_where (never_at items (local_ty items body)) (action_at L action))
      (acted_on items (local_ty items body) (action_at L action) v.free)
      (acted_quiet items (local_ty items body) (action_at L action) v.free))

  either_now : (o : Option Place) (k : Bool) → k ≡ true → checks.unless_refilled o k (λ hole. true) ≡ true
  either_now None k h = h
  either_now (Some hole) k h = refl

  -- ---- elements

  pub array_at : (facts : Facts) (place : Place) (i : ℕ) → Known items body facts place →
      Known items body facts (forms.array_around items q (extended (ToElement i) place))
  array_at facts place i h = subst (λ s. Known items body facts (record { local = place.local; steps = s }))
      (sym (before_more place.steps i))
      (subst (λ s. Rattle.soundness_cells.proofs.PassSure.known_place items (local_ty items body)
      (is_reference_param items body) facts (record { local = L place.local; steps = s }) ≡ true)
      (before_at items body place.steps)
      (array_known items (local_ty items body) (is_reference_param items body) facts (place_at L place) h))

  abbrev pub KnownAt : Place → Exit → Scopes → V → Type 0
  KnownAt place Value S w = Known items body w.facts place
  KnownAt place (Breaks loop) S w = Unit {0}
  KnownAt place (Continues loop) S w = Unit {0}
  KnownAt place Returns S w = Unit {0}
  KnownAt place Panics S w = Unit {0}

  -- the array is touched, and its bounds are tested: so the element is known
  pub element_known : (h : NodeHead) (place : Place) (key length : ℕ) (S : Scopes) (v : V) →
      Known items body v.facts place →
      ((facts : Facts) → bounded_by facts (L key) length ≡ true → StepKnown items body facts place (ToElement key)) →
      Shown (not_mark 5) (KnownAt (extended (ToElement key) place))
      (on_value (forms.acts items q (effects.Touch (site_at h (forms.array_around items q (extended (ToElement key) place))))
      S v) (forms.acts items q (effects.Bounds (Copied (site_of_key key)) length)))
  element_known h place key length S v k step = touched (q.act touch v)
      (acts_shown touch v (either_now v.facts.refilled _ (array_at v.facts place key k)))
    where
      touch : Action
      touch = effects.Touch (site_at h (forms.array_around items q (extended (ToElement key) place)))

      bounds : Action
      bounds = effects.Bounds (Copied (site_of_key key)) length

      found : (facts : Facts) → bounded_by (with_bounded (L key) length facts) (L key) length ≡ true
      found facts = first _ _ (both_true (itself (L key)) (itself length))
        where
          itself : (n : ℕ) → (n == n) ≡ true
          itself n = (Rattle.std.proofs.lemmas.Bool.Decides.Decides-eqb n n).1 refl

          first : (a b : Bool) → a ≡ true → (a || b) ≡ true
          first true b h = refl
          first false b h = absurd (false≢true h)

      known_then : (w u : V) → With v.facts w → With (with_bounded (L key) length w.facts) u →
          Known items body u.facts (extended (ToElement key) place)
      known_then w u e f = subst (λ facts. Known items body facts (extended (ToElement key) place)) (sym f)
          (further_known items body (with_bounded (L key) length w.facts) place (ToElement key)
          (known_bounded items (local_ty items body) (is_reference_param items body) w.facts (L key) length
          (place_at L place) (subst (λ facts. Known items body facts place) (sym e) k))
          (step (with_bounded (L key) length w.facts) (found w.facts)))

      bounded : (w : V) → With v.facts w → (o : Out V) →
          ShownOut (not_mark 5) (With (with_bounded (L key) length w.facts)) (With w.facts) o →
          Shown (not_mark 5) (KnownAt (extended (ToElement key) place)) (in_scopes S o)
      bounded w e (Go u) h = known_then w u e h
      bounded w e (Unwind u) h = tt
      bounded w e (Halts halt u) h = h

      touched : (o : Out V) → ShownOut (not_mark 5) (With v.facts) (With v.facts) o →
          Shown (not_mark 5) (KnownAt (extended (ToElement key) place))
          (on_value (in_scopes S o) (forms.acts items q bounds))
      touched (Go w) h = bounded w h (q.act bounds w) (acts_shown bounds w (either_now w.facts.refilled true refl))
      touched (Unwind w) h = tt
      touched (Halts halt w) h = h

  -- ---- names

  -- a name, of which the part may be taken
  pub record Fits (facts : Facts) (b : BoundName) : Type 0 where
    pub cell : Cell items body b.key b.ty
    pub plain : is_reference (type_at items b.ty) ≡ false
    pub known : Known items body facts b.site.place
    pub movable : b.takes ≡ true → Movable items body b.site.place

  -- it leaves alone the parts of those behind it
  pub record Spares (b later : BoundName) : Type 0 where
    pub cell : Away (λ z. z ≡ L b.key) (place_at L later.site.place)
    pub part : b.takes ≡ true → Leaves (place_at L b.site.place) (place_at L later.site.place)

  abbrev pub AllSpared : BoundName → List BoundName → Type 0
  AllSpared b [] = Unit {0}
  AllSpared b (x ∷ bounds) = Spares b x × AllSpared b bounds

  abbrev pub AllFit : Facts → List BoundName → Type 0
  AllFit facts [] = Unit {0}
  AllFit facts (b ∷ bounds) = Fits facts b × (AllSpared b bounds × AllFit facts bounds)

  -- what is known after a name has taken its part
  abbrev Taken : Bool → BoundName → Facts → Facts
  Taken true b facts = without (whole_local (L b.key)) (without (place_at L b.site.place) facts)
  Taken false b facts = without (whole_local (L b.key)) facts

  pub own_cell : (facts : Facts) (key : ℕ) (place : Place) → Away (λ z. z ≡ L key) (place_at L place) →
      Known items body facts place → Known items body (without (whole_local (L key)) facts) place
  own_cell facts key place a h = known_kept (λ z. z ≡ L key) items (local_ty items body) (is_reference_param items body)
      facts (without (whole_local (L key)) facts) (keeps_without (λ z. z ≡ L key) facts (L key) refl) (place_at L place) a h

  spared : (t : Bool) (b later : BoundName) (facts : Facts) → b.takes ≡ t → Spares b later →
      Known items body facts later.site.place → Known items body (Taken t b facts) later.site.place
  spared true b later facts e s h = own_cell (without (place_at L b.site.place) facts) b.key later.site.place s.cell
      (known_left items (local_ty items body) (is_reference_param items body) facts (place_at L b.site.place)
      (place_at L later.site.place) (s.part e) h)
  spared false b later facts e s h = own_cell facts b.key later.site.place s.cell h

  all_spared : (t : Bool) (b : BoundName) (bounds : List BoundName) (facts : Facts) → b.takes ≡ t →
      AllSpared b bounds → AllFit facts bounds → AllFit (Taken t b facts) bounds
  all_spared t b [] facts e s f = tt
  all_spared t b (x ∷ bounds) facts e s f = (
    record {
      cell = f.0.cell;
      plain = f.0.plain;
      known = spared t b x facts e s.0 f.0.known;
      movable = f.0.movable;
    },
    (f.1.0, all_spared t b bounds facts e s.1 f.1.1),
  )

  -- facts that say the same of places
  same_fit : (facts other : Facts) (bounds : List BoundName) → facts ≡ other → AllFit facts bounds → AllFit other bounds
  same_fit facts other bounds e f = subst (λ x. AllFit x bounds) e f

  calm_fit : (facts : Facts) (bounds : List BoundName) → AllFit facts bounds →
      AllFit (record facts { refilled = None }) bounds
  calm_fit facts [] f = tt
  calm_fit facts (b ∷ bounds) f = (
    record { cell = f.0.cell; plain = f.0.plain; known = f.0.known; movable = f.0.movable },
    (f.1.0, calm_fit facts bounds f.1.1),
  )

  abbrev Put : Bool → BoundName → Action
  Put t b = effects.Put (site_of_key b.key) (copied_or_moved t b.site)

  put_places : (t : Bool) (b : BoundName) (v : V) → b.takes ≡ t → v.facts.refilled ≡ None → Fits v.facts b →
      places_now items body v.facts v.free.cells (action_at L (Put t b)) ≡ true
  put_places true b v e c f = subst (λ o. checks.unless_refilled o
      (places_act items body v.facts v.free.cells (action_at L (Put true b)))
      (λ hole. Rattle.soundness_cells.proofs.PassRestMarks.left_refill items body v.facts hole (action_at L (Put true b)))
      ≡ true) (sym c) (both_true (both_true
      (cell_known items body (without (place_at L b.site.place) v.facts) b.key)
      (both_true (first _ _ (ap not (own_local items body (L b.key) b.ty f.cell f.plain))) refl))
      (both_true f.known (movable_moved items body b.site.place (f.movable e))))
    where
      first : (a b : Bool) → a ≡ true → (a || b) ≡ true
      first true b h = refl
      first false b h = absurd (false≢true h)
  put_places false b v e c f = either_now v.facts.refilled _ f.known

  abbrev pub Calm : Exit → Scopes → V → Type 0
  Calm exit S w = w.facts.refilled ≡ None

  put_shown : (t : Bool) (b : BoundName) (bounds : List BoundName) (v : V) → b.takes ≡ t → v.facts.refilled ≡ None →
      Fits v.facts b → AllSpared b bounds → AllFit v.facts bounds →
      ShownOut (not_mark 5) (λ w. (w.facts.refilled ≡ None) × AllFit w.facts bounds) (λ w. w.facts.refilled ≡ None)
      (q.act (Put t b) v)
  put_shown true b bounds v e c f s fits = by (q.act (Put true b) v) (acts_shown (Put true b) v (put_places true b v e c f))
    where
      by : (o : Out V) → ShownOut (not_mark 5)
          (With (record (Taken true b v.facts) { refilled = None }))
          (With (record (Taken true b v.facts) { refilled = None })) o →
          ShownOut (not_mark 5) (λ w. (w.facts.refilled ≡ None) × AllFit w.facts bounds)
          (λ w. w.facts.refilled ≡ None) o
      by (Go w) h = (
        ap (λ (x : Facts). x.refilled) h,
        same_fit (record (Taken true b v.facts) { refilled = None }) w.facts bounds (sym h)
            (calm_fit (Taken true b v.facts) bounds (all_spared true b bounds v.facts e s fits)),
      )
      by (Unwind w) h = ap (λ (x : Facts). x.refilled) h
      by (Halts halt w) h = h
  put_shown false b bounds v e c f s fits =
      by (q.act (Put false b) v) (acts_shown (Put false b) v (put_places false b v e c f))
    where
      by : (o : Out V) → ShownOut (not_mark 5)
          (With (record (Taken false b v.facts) { refilled = None }))
          (With (record (Taken false b v.facts) { refilled = None })) o →
          ShownOut (not_mark 5) (λ w. (w.facts.refilled ≡ None) × AllFit w.facts bounds)
          (λ w. w.facts.refilled ≡ None) o
      by (Go w) h = (
        ap (λ (x : Facts). x.refilled) h,
        same_fit (record (Taken false b v.facts) { refilled = None }) w.facts bounds (sym h)
            (calm_fit (Taken false b v.facts) bounds (all_spared false b bounds v.facts e s fits)),
      )
      by (Unwind w) h = ap (λ (x : Facts). x.refilled) h
      by (Halts halt w) h = h

  -- the names of a pattern are bound
  pub bind_known : (in_that : (Scope → Scope) → Scopes → Scopes) (bounds : List BoundName) (S : Scopes) (v : V) →
      v.facts.refilled ≡ None → AllFit v.facts bounds →
      Shown (not_mark 5) Calm (forms.bind items q in_that bounds S v)
  bind_known in_that [] S v c f = c
  bind_known in_that (b ∷ bounds) S v c f = by (q.act (Put b.takes b) v)
      (put_shown b.takes b bounds v refl c f.0 f.1.0 f.1.1)
      (λ w d g. bind_known in_that bounds (in_that (with_entry (bound_entry b)) S) w d g)
    where
      by : (o : Out V) →
          ShownOut (not_mark 5) (λ w. (w.facts.refilled ≡ None) × AllFit w.facts bounds) (λ w. w.facts.refilled ≡ None)
          o →
          ((w : V) → w.facts.refilled ≡ None → AllFit w.facts bounds →
          Shown (not_mark 5) Calm (forms.bind items q in_that bounds (in_that (with_entry (bound_entry b)) S) w)) →
          Shown (not_mark 5) Calm (on_value (in_scopes S o)
          (λ T w. forms.bind items q in_that bounds (in_that (with_entry (bound_entry b)) T) w))
      by (Go w) h later = later w h.0 h.1
      by (Unwind w) h later = h
      by (Halts halt w) h later = h
