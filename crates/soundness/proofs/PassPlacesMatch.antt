-- Patterns that are matched with a place of which enough is known: rules of `if let`, of arms and of `let`, from what
-- the tests and the names of a pattern ask; and that its cells leave the place alone, since they are other nodes. A
-- pattern that takes all values has no variant that is tested.
use Rattle.std.proofs.Common.{◌≡◌, ◌⊎◌, inl, inr, ℕ, suc, ◌==◌, ◌&&◌, ◌||◌, not, Bool, true, false, List, [], ◌∷◌, Option, Some, None, refl, sym, ◌∙◌, subst}
use Rattle.std.specs.Prelude.{replicate}
use Rattle.std.proofs.lemmas.Bool.{false≢true}
use Rattle.std.proofs.lemmas.Option.{none-some}
use Rattle.mir_base.specs.declared.trace.Why.{Why}
use Rattle.mir_ty.specs.declared.ty.TyId.{TyId}
use Rattle.mir_ty.specs.Facts.{has_drop_impl}
use Rattle.mir_ty.specs.ItemTable.{ItemTable}
use Rattle.mir_ty.specs.Parts.{field_ty}
use Rattle.store_model.specs.Effects.{Choice, Yes, No, Neither, Effects}
use Rattle.store_model.specs.Places.Place.{Step, ToPart, ToField, Place, whole_local}
use Rattle.typed_tree.specs.declared.node.Use.{Use}
use Rattle.typed_tree.specs.Nodes.{number_of, nodes_of, nodes_in}
use Rattle.typed_tree.specs.Tree as tree
use Rattle.typed_tree.specs.Tree.{Node, node, Form, Nodes, no_node, a_node, Fields, no_field, a_field, BodyTree}
use Rattle.src_meaning.specs.Forms as forms
use Rattle.src_meaning.specs.Forms.{Destination, LoopsAndGuards, Meaning, entry_of, in_guard, place_of}
use Rattle.src_meaning.specs.Locals.Effects.{place_at}
use Rattle.src_meaning.specs.Locals.OfBody.{cells, local_of, local_keys}
use Rattle.src_meaning.specs.Scopes.{Scope, Scopes, with_scope, innermost, around_innermost, with_pending, Value, Run, At, Over, Does, ◌>>◌, on_value, leave, leaving, choosing, chosen}
use Rattle.src_meaning.specs.Shape.{NodeHead, Aliases, BoundName, extended, shape}
use Rattle.well_typed.specs.Claim.{Holds}
use Rattle.well_typed.specs.Nodes as typing
use Rattle.well_typed.specs.Patterns as patterns
use Rattle.well_typed.specs.Patterns.{Matched, within}
use Rattle.well_typed.specs.Types as types
use Rattle.soundness_values.proofs.AlsoTests.{Also}
use Rattle.soundness_values.proofs.Checked.{Checking}
use Rattle.soundness_values.proofs.Facts.{Facts, takes_index}
use Rattle.soundness.proofs.PassBorrowApart.{no_index}
use Rattle.soundness_cells.proofs.PassCellNames.{PlaceOk}
use Rattle.soundness_cells.proofs.PassCellPatterns.{Told, Has}
use Rattle.soundness_frame.proofs.PassKeys.{Keys, keys_in_more}
use Rattle.soundness.proofs.PassKnownKept.{Keeps as FactsKeep}
use Rattle.soundness.proofs.PassKnownMatched as matching
use Rattle.soundness.proofs.PassKnownNames.{Stands, StandsIn, StandFields, StandParts}
use Rattle.soundness.proofs.PassKnownPlaces.{cell_known}
use Rattle.soundness.proofs.PassKnownRules as known
use Rattle.soundness.proofs.PassKnownTests as tests
use Rattle.soundness.proofs.PassKnownTests.{Answers}
use Rattle.soundness.proofs.PassMovable.{Movable}
use Rattle.soundness_cells.proofs.PassNumbers.{Numbered, Rises, rises_apart}
use Rattle.soundness.proofs.PassPlaceMade.{Made}
use Rattle.soundness.proofs.PassPlacesCalm as calm
use Rattle.soundness.proofs.PassPlacesCalm.{watching, Calm, safe}
use Rattle.soundness.proofs.PassPlacesEffects.{q, Settled}
use Rattle.soundness_values.proofs.Leaving.{Shown}
use Rattle.soundness.proofs.PassPlacesNamed as named
use Rattle.soundness.proofs.PassPlacesReach as reach
use Rattle.soundness.proofs.PassPlacesReach.{Kept, Keeps, After, Brings, KeepsIf, Led}
use Rattle.soundness.proofs.PassPlacesRules as rules
use Rattle.soundness.proofs.PassWatched.{AlikeChoice}
use Rattle.soundness_cells.proofs.PassRefilled.{not_mark}
use Rattle.soundness.proofs.PassReplacedBy.{no_index_at, other_local}
use Rattle.soundness_values.proofs.PlaceTypes.{some_holds}

-- ---- a pattern that takes all values

module _ (items : ItemTable) (body : BodyTree) (facts : Facts) where
  untested : (by is_test all : Bool) → (by && not (is_test && all)) ≡ true → all ≡ true → is_test ≡ true → ⊥
  untested true true true h a e = false≢true h
  untested true true false h a e = false≢true a
  untested true false all h a e = false≢true e
  untested false is_test all h a e = false≢true h

  mutual
    pub all_stand : (p : Node) (m : Matched) (want : TyId) → Holds (patterns.pattern items m want p) →
        m.takes_all ≡ true → (place : Place) → Stands items body facts p place
    all_stand (node id at ty by form) m want h a place = form_stands form m ty by h.1 a place

    form_stands : (form : Form) (m : Matched) (ty : TyId) (by : Option Use) →
        Holds (patterns.pattern_row items m ty by form) → m.takes_all ≡ true → (place : Place) →
        StandsIn items body facts form place
    form_stands (tree.StructPattern fields) m ty by h a place =
        fields_stand fields (within (has_drop_impl items ty) m) ty 0 h.1.1.1 a ToPart place
    form_stands (tree.VariantPattern variant is_test fields) m ty by h a place = (
      λ e. absurd (untested (patterns.is_test_by items is_test by) is_test m.takes_all h.0 a e),
      fields_stand fields (within (has_drop_impl items ty) m) ty variant h.1.1.1 a (ToField variant) place,
    )
    form_stands (tree.TuplePattern parts) m ty by h a place =
        let t = some_holds (patterns.tuple_types items ty) (λ tys. patterns.part_patterns items m tys parts) h.1 in
        parts_stand parts m t.0 t.1.1 a 0 place
    form_stands (tree.ArrayPattern elements) m ty by h a place =
        let t = some_holds (types.array_of items ty)
        (λ a. patterns.part_patterns items m (replicate a.1 a.0) elements) h.1 in
        parts_stand elements m (replicate t.0.1 t.0.0) t.1.1 a 0 place
    form_stands form m ty by h a place = tt

    fields_stand : (fs : Fields) (m : Matched) (ty : TyId) (variant : ℕ) →
        Holds (patterns.field_patterns items m ty variant fs) → m.takes_all ≡ true → (step : ℕ → Step) (place : Place) →
        StandFields items body facts fs step place
    fields_stand no_field m ty variant h a step place = tt
    fields_stand (a_field number value rest) m ty variant h a step place =
        let t = some_holds (field_ty items ty variant number) (λ want. patterns.pattern items m want value) h.0 in
        (all_stand value m t.0 t.1.1 a (extended (step number) place), fields_stand rest m ty variant h.1 a step place)

    parts_stand : (ns : Nodes) (m : Matched) (tys : List TyId) → Holds (patterns.part_patterns items m tys ns) →
        m.takes_all ≡ true → (n : ℕ) (place : Place) → StandParts items body facts ns n place
    parts_stand no_node m tys h a n place = tt
    parts_stand (a_node one rest) m [] h a n place = absurd (false≢true h)
    parts_stand (a_node one rest) m (t ∷ tys) h a n place =
        (all_stand one m t h.0 a (extended (ToPart n) place), parts_stand rest m tys h.1 a (suc n) place)

module _ (items : ItemTable) (body : BodyTree) (also : Also) (aliases : Aliases) (told : Told items) where
  abbrev V : Type 0
  V = Checking Facts

  abbrev r : Effects V
  r = watching items body also aliases

  abbrev L : ℕ → ℕ
  L = local_of items body

  -- ---- the cells of a pattern leave alone a place of other nodes

  abbrev Own : List Node → ℕ → Type 0
  Own ns z = (key : ℕ) × (Numbered ns key × (L key ≡ z))

  abbrev pub Lies : List Node → Place → Type 0
  Lies ns = matching.Lies items body also told (Own ns)

  pub lies_by : (ns pattern : List Node) (root : Option ℕ) (place : Place) → Made ns root place →
      ((key : ℕ) → Numbered ns key → Numbered pattern key → ⊥) →
      ((key : ℕ) → root ≡ Some key → Numbered pattern key → ⊥) → Lies pattern place
  lies_by ns pattern root place m apart named = record {
    clear = record {
      root = λ z own. subst (λ l. (l == (place_at L place).local) ≡ false) own.1.1
          (other_local items body also own.0 place.local (λ same. at_root own.0 own.1.0 same m.rooted));
      way = λ z own. subst (λ l. Rattle.soundness_values.proofs.Facts.takes_index l (place_at L place).steps ≡ false) own.1.1
          (no_index_at items body also own.0 place (λ i. apart own.0 (m.indices own.0 i) own.1.0));
    };
    rooted = no_index_at items body also place.local place (λ i. false≢true (sym m.unmet ∙ i));
  }
    where
      at_root : (key : ℕ) → Numbered pattern key → key ≡ place.local → (root ≡ Some place.local) ⊎ Numbered ns
          place.local → ⊥
      at_root key n same (inl e) = named place.local e (subst (Numbered pattern) same n)
      at_root key n same (inr i) = apart place.local i (subst (Numbered pattern) same n)

  -- by its keys
  pub lies_keys : (pattern : List Node) (place : Place) → Keys (λ k. Numbered pattern k → ⊥) place →
      takes_index place.local place.steps ≡ false → Lies pattern place
  lies_keys pattern place keys unmet = record {
    clear = record {
      root = λ z own. subst (λ l. (l == (place_at L place).local) ≡ false) own.1.1
          (other_local items body also own.0 place.local
          (λ same. keys.0 (subst (Numbered pattern) same own.1.0)));
      way = λ z own. subst (λ l. takes_index l (place_at L place).steps ≡ false) own.1.1
          (no_index (local_keys items body) own.0 place.steps
          (keys_in_more (λ k. Numbered pattern k → ⊥) (λ k. k ≡ own.0 → ⊥)
          (λ k none same. none (subst (Numbered pattern) (sym same) own.1.0)) place.steps keys.1));
    };
    rooted = no_index_at items body also place.local place (λ i. false≢true (sym unmet ∙ i));
  }

  -- ---- what a pattern asks

  abbrev pub Fit : List BoundName → V → Type 0
  Fit bounds v = known.AllFit items body also v.facts bounds

  -- its tests, matched with a place
  abbrev pub Tested : Rattle.src_meaning.specs.Shape.PatternTests → Place → List BoundName → Type 0
  Tested list place bounds = (v : V) → Calm items body also aliases v → Led items body also aliases place v →
      Answers (λ w. (Calm items body also aliases w × Fit bounds w) × Led items body also aliases place w)
      (λ w. Calm items body also aliases w × Led items body also aliases place w) (forms.all_hold items r list v)

  with_named : (F X : V → Type 0) (o : Choice V) →
      Answers (λ w. ((w.facts.refilled ≡ None) × F w) × X w) (λ w. (w.facts.refilled ≡ None) × X w) o →
      named.AnswersNamed items body also o →
      Answers (λ w. (Settled items body also w × F w) × X w) (λ w. Settled items body also w × X w) o
  with_named F X (Yes w) h i = (((h.0.0, i), h.0.1), h.1)
  with_named F X (No w) h i = ((h.0, i), h.1)
  with_named F X (Neither halt w) h i = h

  -- what is known of the answer where nothing is watched
  answered_so : (F X : V → Type 0) (o s : Choice V) →
      AlikeChoice items body also (calm.Stand items body also aliases) (calm.Lost items body also aliases) o s →
      Answers (λ w. (Settled items body also w × F w) × X w) (λ w. Settled items body also w × X w) s →
      Answers (λ w. (Calm items body also aliases w × F w) × X w) (λ w. Calm items body also aliases w × X w) o
  answered_so F X (Yes w) s a h =
      let k = subst (Answers (λ w. (Settled items body also w × F w) × X w) (λ w. Settled items body also w × X w))
      a.0 h in
      ((calm.calm_if items body also aliases w (k.0.0, a.1), k.0.1), k.1)
  answered_so F X (No w) s a h =
      let k = subst (Answers (λ w. (Settled items body also w × F w) × X w) (λ w. Settled items body also w × X w))
      a.0 h in
      (calm.calm_if items body also aliases w (k.0, a.1), k.1)
  answered_so F X (Neither halt w) s (inl e) h =
      subst (Answers (λ w. (Settled items body also w × F w) × X w) (λ w. Settled items body also w × X w)) e h
  answered_so F X (Neither halt w) s (inr l) h = subst (λ x. not_mark 5 x w) (sym l.0) tt

  pub tested_so : (p : Node) (m : Matched) (want : TyId) → Holds (patterns.pattern items m want p) →
      (typing.is_one_name p ≡ true → types.is_reference items want ≡ false) → Has items body (cells items true p) →
      (place : Place) → PlaceOk items body want place → (m.may_move ≡ true → Movable items body place) →
      Lies (nodes_of p) place →
      Tested ((shape items p).tests place) place ((shape items p).bindings place)
  tested_so p m want h plain k place ok moved lies v c l = answered_so (Fit ((shape items p).bindings place))
      (Led items body also aliases place) (forms.all_hold items r ((shape items p).tests place) v)
      (forms.all_hold items (q items body also) ((shape items p).tests place) v)
      (calm.all_so items body also aliases ((shape items p).tests place) v c.1.1)
      (with_named (Fit ((shape items p).bindings place)) (Led items body also aliases place)
      (forms.all_hold items (q items body also) ((shape items p).tests place) v)
      (tests.answers_more items body also (Own (nodes_of p))
      (forms.all_hold items (q items body also) ((shape items p).tests place) v)
      (λ w. ((w.facts.refilled ≡ None) × Fit ((shape items p).bindings place) w)
      × FactsKeep (Own (nodes_of p)) v.facts w.facts)
      (λ w. ((w.facts.refilled ≡ None) × Fit ((shape items p).bindings place) w) × Led items body also aliases place w)
      (λ w. (w.facts.refilled ≡ None) × FactsKeep (Own (nodes_of p)) v.facts w.facts)
      (λ w. (w.facts.refilled ≡ None) × Led items body also aliases place w)
      (λ w x. (x.0, still w x.1)) (λ w x. (x.0, still w x.1))
      (matching.matched_both items body also told (Own (nodes_of p)) p m want h plain k
      (λ key n. (key, (n, refl))) place ok moved lies v c.0 l))
      (named.all_named items body also ((shape items p).tests place) v c.1.0))
    where
      still : (w : V) → FactsKeep (Own (nodes_of p)) v.facts w.facts → Led items body also aliases place w
      still w x = tests.known_still items body also (Own (nodes_of p)) v.facts w.facts place x lies.clear l

  -- its names, where it takes all values
  pub taken_so : (p : Node) (m : Matched) (want : TyId) → Holds (patterns.pattern items m want p) →
      m.takes_all ≡ true →
      (typing.is_one_name p ≡ true → types.is_reference items want ≡ false) → Has items body (cells items true p) →
      (place : Place) → PlaceOk items body want place → (m.may_move ≡ true → Movable items body place) →
      Lies (nodes_of p) place → (v : V) → Led items body also aliases place v → Fit ((shape items p).bindings place) v
  taken_so p m want h a plain k place ok moved lies v l =
      matching.names_fit items body also told (Own (nodes_of p)) p m want h plain k (λ key n. (key, (n, refl))) place ok
      moved lies v.facts (all_stand items body v.facts p m want h a place) l

  -- those of a parameter, from its own local
  pub param_so : (p : Node) (want : TyId) → Holds (patterns.pattern items typing.whole want p) →
      (shape items p).is_binding ≡ false → types.is_reference items want ≡ false →
      Has items body (cells items true p) → Rises (nodes_of p) →
      PlaceOk items body want (whole_local (number_of p)) → Movable items body (whole_local (number_of p)) → (v : V) →
      Fit ((shape items p).bindings (whole_local (number_of p))) v
  param_so (node id at ty by form) want h b plain k rises ok moved v =
      matching.inner_fit items body also told (Own (nodes_in form)) form id at ty by typing.whole want h b
      (λ e. plain) k (λ key n. (key, (n, refl))) (whole_local id) ok (λ e. moved)
      (lies_by (node id at ty by form ∷ []) (nodes_in form) None (whole_local id)
      (record {
        fieldless = refl;
        indices = λ i e. absurd (false≢true e);
        rooted = inr (inl refl);
        unmet = refl;
      })
      (λ key n i. rises_apart (node id at ty by form ∷ []) (nodes_in form) rises key n i)
      (λ key e i. absurd (none-some key e)))
      v.facts (all_stand items body v.facts (node id at ty by form) typing.whole want h refl (whole_local id))
      (cell_known items body v.facts id)

  -- ---- rules

  settled_run : (x : Run V) → Shown (not_mark 5) (λ exit S w. w.facts.refilled ≡ None) x →
      named.Ran items body also x → Shown (not_mark 5) (λ exit S w. Settled items body also w) x
  settled_run (At exit S w) h i = (h, i)
  settled_run (Over halt w) h i = h

  pub bound_kept : (in_that : (Scope → Scope) → Scopes → Scopes) (bounds : List BoundName) →
      KeepsIf items body also aliases (Fit bounds) (forms.bind items r in_that bounds)
  bound_kept in_that bounds S v c f = reach.kept_so items body also aliases (forms.bind items r in_that bounds S v)
      (calm.shown_so items body also aliases (λ exit S w. Settled items body also w)
      (forms.bind items r in_that bounds S v) (forms.bind items (q items body also) in_that bounds S v)
      (calm.bind_so items body also aliases in_that bounds S v c.1.1)
      (settled_run (forms.bind items (q items body also) in_that bounds S v)
      (known.bind_known items body also in_that bounds S v c.0 f)
      (named.bind_named items body also in_that bounds S v c.1.0)))

  chosen_so : (place : Place) (bounds : List BoundName) (S : Scopes) (o : Choice V) (f g : Does V) →
      Answers (λ w. (Calm items body also aliases w × Fit bounds w) × Led items body also aliases place w)
      (λ w. Calm items body also aliases w × Led items body also aliases place w) o →
      KeepsIf items body also aliases (Fit bounds) f → KeepsIf items body also aliases (Led items body also aliases
      place) g → Kept items body also aliases (chosen o (f S) (g S))
  chosen_so place bounds S (Yes w) f g h a b = a S w h.0.0 h.0.1
  chosen_so place bounds S (No w) f g h a b = b S w h.0 h.1
  chosen_so place bounds S (Neither halt w) f g h a b = h

  -- `if let`, and a turn of `while let`
  pub if_taken_kept : (A : Type 0) (h : NodeHead) (around : LoopsAndGuards) (pattern scrutinee : Meaning V)
      (then_does otherwise : Does V) →
      Brings items body also aliases (λ w. Led items body also aliases (place_of scrutinee around) w × A)
      (scrutinee.reach around) → (A → Tested (pattern.shape.tests (place_of scrutinee around)) (place_of scrutinee
      around) (pattern.shape.bindings (place_of scrutinee around))) →
      Keeps items body also aliases then_does → Keeps items body also aliases otherwise →
      Keeps items body also aliases (forms.if_taken items r h around pattern scrutinee then_does otherwise)
  if_taken_kept A h around pattern scrutinee then_does otherwise b t d o S v c =
      rules.then_or_leave_kept items r (not_mark 5) (Calm items body also aliases) (safe items body also aliases)
      (λ w. Led items body also aliases (place_of scrutinee around) w × A)
      (forms.scrutinised items r around scrutinee (with_scope h.id true S) v)
      (choosing (forms.all_hold items r (pattern.shape.tests (place_of scrutinee around))) (leaving items r
      bound_body) left) (reach.scrutinised_brings items body also aliases A around scrutinee b (with_scope h.id true
      S) v c) (λ T w e k. chosen_so (place_of scrutinee around) (pattern.shape.bindings (place_of scrutinee around)) T
      (forms.all_hold items r (pattern.shape.tests (place_of scrutinee around)) w) (leaving items r bound_body) left
      (t k.1 w e k.0)
      (λ U u x f. rules.leave_kept items r (not_mark 5) (Calm items body also aliases) (safe items body also aliases)
      (bound_body U u) (rules.then_kept items r (not_mark 5) (Calm items body also aliases) (safe items body also
      aliases) (forms.bind items r innermost (pattern.shape.bindings (place_of scrutinee around)) U u) then_does
      (bound_kept innermost (pattern.shape.bindings (place_of scrutinee around)) U u x f) d))
      (λ U u x f. rules.then_kept items r (not_mark 5) (Calm items body also aliases) (safe items body also aliases)
      (leave items r (At Value U u)) otherwise
      (rules.leave_kept items r (not_mark 5) (Calm items body also aliases) (safe items body also aliases) (At Value U
      u) x) o))
    where
      bound_body : Does V
      bound_body T w = on_value
          (forms.bind items r innermost (pattern.shape.bindings (place_of scrutinee around)) T w) then_does

      left : Does V
      left T w = on_value (leave items r (At Value T w)) otherwise

  -- an arm that is taken
  taken_kept : (h : NodeHead) (around : LoopsAndGuards) (bounds : List BoundName) (m : Meaning V) (to : Destination) →
      Keeps items body also aliases (m.evaluate around true to) →
      KeepsIf items body also aliases (Fit bounds) (forms.taken_arm items r h around bounds m to)
  taken_kept h around bounds m to k S v c f =
      rules.leave_kept items r (not_mark 5) (Calm items body also aliases) (safe items body also aliases)
      (on_value (forms.bind items r innermost bounds (with_scope h.id false S) v) (forms.alone items r around m to))
      (rules.then_kept items r (not_mark 5) (Calm items body also aliases) (safe items body also aliases)
      (forms.bind items r innermost bounds (with_scope h.id false S) v) (forms.alone items r around m to)
      (bound_kept innermost bounds (with_scope h.id false S) v c f)
      (rules.alone_kept items r (not_mark 5) (Calm items body also aliases) (safe items body also aliases) around m to
      k))

  -- a guard leaves its scrutinee, and what its names may take: whatever is done behind it, where it holds and where not
  abbrev pub Guards : LoopsAndGuards → Place → List BoundName → Meaning V → Type 0
  Guards around place bounds guard = (f g : Does V) → KeepsIf items body also aliases (Fit bounds) f →
      KeepsIf items body also aliases (Led items body also aliases place) g → (S : Scopes) (v : V) → Calm items body
      also aliases v → Fit bounds v → Led items body also aliases place v →
      Kept items body also aliases (forms.condition items r (in_guard bounds around) guard f g S v)

  abbrev pub GuardsIfAny : LoopsAndGuards → Place → List BoundName → Option (Meaning V) → Type 0
  GuardsIfAny around place bounds None = Unit {0}
  GuardsIfAny around place bounds (Some guard) = Guards around place bounds guard

  guarded_kept : (around : LoopsAndGuards) (place : Place) (bounds : List BoundName) (guard : Option (Meaning V))
      (f g : Does V) → GuardsIfAny around place bounds guard → KeepsIf items body also aliases (Fit bounds) f →
      KeepsIf items body also aliases (Led items body also aliases place) g → (S : Scopes) (v : V) → Calm items body
      also aliases v → Fit bounds v → Led items body also aliases place v →
      Kept items body also aliases (forms.guarded items r around bounds guard f g S v)
  guarded_kept around place bounds None f g k a b S v c x l = a S v c x
  guarded_kept around place bounds (Some guard) f g k a b S v c x l = k f g a b S v c x l

  pub arm_kept : (h : NodeHead) (pattern : Meaning V) (guard : Option (Meaning V)) (m : Meaning V) (place : Place)
      (otherwise : Does V) (around : LoopsAndGuards) (to : Destination) →
      Tested (pattern.shape.tests place) place (pattern.shape.bindings place) →
      GuardsIfAny around place (pattern.shape.bindings place) guard → Keeps items body also aliases (m.evaluate around
      true to) → KeepsIf items body also aliases (Led items body also aliases place) otherwise →
      KeepsIf items body also aliases (Led items body also aliases place)
      (forms.arm items r h pattern guard m place otherwise around to)
  arm_kept h pattern guard m place otherwise around to t g k o S v c l =
      by (forms.all_hold items r (pattern.shape.tests place) v) (t v c l)
    where
      taken : Does V
      taken = forms.taken_arm items r h around (pattern.shape.bindings place) m to

      by : (x : Choice V) → Answers (λ w. (Calm items body also aliases w × Fit (pattern.shape.bindings place) w)
          × Led items body also aliases place w)
          (λ w. Calm items body also aliases w × Led items body also aliases place w) x →
          Kept items body also aliases (chosen x
          (forms.guarded items r around (pattern.shape.bindings place) guard taken otherwise S) (otherwise S))
      by (Yes w) a = guarded_kept around place (pattern.shape.bindings place) guard taken otherwise g
          (taken_kept h around (pattern.shape.bindings place) m to k) o S w a.0.0 a.0.1 a.1
      by (No w) a = o S w a.0 a.1
      by (Neither halt w) a = a

  -- arms, each by what is done where it is not taken
  abbrev pub AllArms : Place → LoopsAndGuards → Destination → List (Meaning V) → Type 0
  AllArms place around to [] = Unit {0}
  AllArms place around to (m ∷ ms) = ((otherwise : Does V) → KeepsIf items body also aliases (Led items body also
      aliases place) otherwise → KeepsIf items body also aliases (Led items body also aliases place) (m.arm place
      otherwise around to)) × AllArms place around to ms

  arms_kept : (ms : List (Meaning V)) (place : Place) (around : LoopsAndGuards) (to : Destination) →
      AllArms place around to ms →
      KeepsIf items body also aliases (Led items body also aliases place) (forms.arms_in_order items r ms place around
      to)
  arms_kept [] place around to a S v c l =
      rules.panics_kept items r (not_mark 5) (Calm items body also aliases) (safe items body also aliases) Why.Match S
      v c
  arms_kept (m ∷ ms) place around to a S v c l =
      a.0 (forms.arms_in_order items r ms place around to) (arms_kept ms place around to a.1) S v c l

  pub matching_kept : (A : Type 0) (h : NodeHead) (scrutinee : Meaning V) (ms : List (Meaning V))
      (around : LoopsAndGuards) (own : Bool) (to : Destination) →
      Brings items body also aliases (λ w. Led items body also aliases (place_of scrutinee around) w × A)
      (scrutinee.reach around) → (A → AllArms (place_of scrutinee around) around to ms) →
      Keeps items body also aliases (forms.matching items r h scrutinee ms around own to)
  matching_kept A h scrutinee ms around own to b a =
      rules.own_kept items r (not_mark 5) (Calm items body also aliases) (safe items body also aliases) h own
      (forms.scrutinised items r around scrutinee >> forms.arms_in_order items r ms (place_of scrutinee around) around
      to) (rules.bringing items r (not_mark 5) (Calm items body also aliases) (safe items body also aliases)
      (λ w. Led items body also aliases (place_of scrutinee around) w × A) (forms.scrutinised items r around scrutinee)
      (forms.arms_in_order items r ms (place_of scrutinee around) around to)
      (reach.scrutinised_brings items body also aliases A around scrutinee b)
      (λ S v c k. arms_kept ms (place_of scrutinee around) around to (a k.1) S v c k.0))

  -- `let` of a pattern with parts
  pub let_parts_kept : (h : NodeHead) (pattern m : Meaning V) (around : LoopsAndGuards) →
      Brings items body also aliases (Fit (pattern.shape.bindings (place_of m around))) (m.reach around) →
      Keeps items body also aliases (forms.let_parts items r h pattern m around)
  let_parts_kept h pattern m around b =
      rules.scope_kept items r (not_mark 5) (Calm items body also aliases) (safe items body also aliases) h.id true
      (λ S v. on_value (m.reach around (begun S) v) bound)
      (λ S v c. rules.brought_then items r (not_mark 5) (Calm items body also aliases) (safe items body also aliases)
      (Fit (pattern.shape.bindings (place_of m around))) (m.reach around (begun S) v) bound (b (begun S) v c)
      (bound_kept around_innermost (pattern.shape.bindings (place_of m around))))
    where
      begun : Scopes → Scopes
      begun = forms.changed_if (not (m.shape.is_place || m.shape.in_destination)) (innermost (with_pending (entry_of
          m.head)))

      bound : Does V
      bound = forms.bind items r around_innermost (pattern.shape.bindings (place_of m around))
