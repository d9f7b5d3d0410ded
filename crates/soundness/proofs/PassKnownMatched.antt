-- A pattern that is matched with a place of which enough is known: its tests fail for want of nothing, and where they hold,
-- its names may be bound, each from a part that is known, may be moved if it is, and is spared by those before it.
use Rattle.std.proofs.Common.{◌≡◌, ◌⊎◌, inl, inr, ℕ, suc, ◌==◌, not, Bool, true, false, List, [], ◌∷◌, ◌++◌, map, Option, None, refl, ap, sym, ◌∙◌, subst}
use Rattle.std.proofs.lemmas.Bool.{false≢true}
use Rattle.mir_base.specs.declared.place_in_text.Pos.{Pos}
use Rattle.mir_ty.specs.declared.ty.TyId.{TyId}
use Rattle.mir_ty.specs.ItemTable.{ItemTable, type_at}
use Rattle.store_model.specs.Effects.{Effects}
use Rattle.store_model.specs.Places.Place.{Step, ToPart, ToField, ToContent, ToElement, Place, is_reference}
use Rattle.typed_tree.specs.declared.node.Use.{Use}
use Rattle.typed_tree.specs.Nodes.{nodes_of, nodes_in, nodes_among, nodes_of_fields}
use Rattle.typed_tree.specs.Tree as tree
use Rattle.typed_tree.specs.Tree.{Node, node, Form, Nodes, no_node, a_node, Fields, no_field, a_field, BodyTree}
use Rattle.src_meaning.specs.Forms as forms
use Rattle.src_meaning.specs.Locals.Effects.{step_at, place_at}
use Rattle.src_meaning.specs.Locals.OfBody.{cells, local_of}
use Rattle.src_meaning.specs.Shape as shapes
use Rattle.src_meaning.specs.Shape.{BoundName, head, extended, shape, shape_of}
use Rattle.well_typed.specs.Claim.{Holds}
use Rattle.well_typed.specs.Nodes as typing
use Rattle.well_typed.specs.Patterns as patterns
use Rattle.well_typed.specs.Patterns.{Matched}
use Rattle.well_typed.specs.Types as types
use Rattle.soundness_values.proofs.AlsoTests.{Also}
use Rattle.soundness_values.proofs.Checked.{Checking}
use Rattle.soundness_values.proofs.Facts.{Facts, takes_index}
use Rattle.soundness_cells.proofs.PassCellNames.{PlaceOk, place_further}
use Rattle.soundness_cells.proofs.PassCellPatterns.{Told, Has}
use Rattle.soundness_cells.proofs.PassCellTaken.{AllTaken, names_taken}
use Rattle.soundness_cells.proofs.PassCellTypes as facts_of
use Rattle.soundness.proofs.PassKnownKept.{Away, Keeps}
use Rattle.soundness.proofs.PassKnownNames.{Stands, AllKnown, names_known}
use Rattle.soundness.proofs.PassKnownPatterns as answers
use Rattle.soundness.proofs.PassKnownPlaces.{Known}
use Rattle.soundness.proofs.PassKnownRules as rules
use Rattle.soundness.proofs.PassKnownSpread.{Diverge, Apart, Spread, names_spread, diverge_at, leaves_apart}
use Rattle.soundness.proofs.PassKnownTests as tests
use Rattle.soundness.proofs.PassKnownTests.{Answers, no_way, same_index}
use Rattle.soundness.proofs.PassMovable.{Movable, is_index}
use Rattle.soundness.proofs.PassMovableNames.{AllMovable, names_movable}
use Rattle.soundness_cells.proofs.PassNumbers.{Numbered, numbered_left, numbered_right}
use Rattle.soundness.proofs.PassCallsAlone.{alone_run}

module _ (items : ItemTable) (Q : Place → Type 0)
    (further : (place : Place) (step : Step) → Q place → is_index step ≡ false → Q (extended step place)) where
  -- what each step of a pattern keeps holds of the part that each name takes; and each name is one of the nodes
  abbrev pub Each : List Node → List BoundName → Type 0
  Each ns [] = Unit {0}
  Each ns (b ∷ bounds) = (Q b.site.place × Numbered ns b.key) × Each ns bounds

  both_each : (ns : List Node) (a b : List BoundName) → Each ns a → Each ns b → Each ns (a ++ b)
  both_each ns [] b f g = g
  both_each ns (x ∷ a) b f g = (f.0, both_each ns a b f.1 g)

  more_nodes : (ns more : List Node) → ((key : ℕ) → Numbered ns key → Numbered more key) → (bounds : List BoundName) →
      Each ns bounds → Each more bounds
  more_nodes ns more f [] e = tt
  more_nodes ns more f (b ∷ bounds) e = ((e.0.0, f b.key e.0.1), more_nodes ns more f bounds e.1)

  mutual
    pub names_each : (p : Node) (place : Place) → Q place → Each (nodes_of p) ((shape items p).bindings place)
    names_each (node id at ty by form) place k = form_each form id at ty by place k

    form_each : (form : Form) (id : ℕ) (at : Pos) (ty : TyId)
        (by : Option Use) (place : Place) → Q place →
        Each (nodes_of (node id at ty by form)) ((shape_of items form (head id ty by)).bindings place)
    form_each (tree.Binding name) id at ty by place k = ((k, inl refl), tt)
    form_each (tree.StructPattern fields) id at ty by place k =
        more_nodes (nodes_of_fields fields) (node id at ty by (tree.StructPattern fields) ∷ nodes_of_fields fields)
        (λ key n. inr n) ((shapes.in_fields items fields ToPart).bindings place)
        (fields_each fields ToPart (λ j. refl) place k)
    form_each (tree.VariantPattern variant is_test fields) id at ty by place k =
        more_nodes (nodes_of_fields fields)
        (node id at ty by (tree.VariantPattern variant is_test fields) ∷ nodes_of_fields fields) (λ key n. inr n)
        ((shapes.in_fields items fields (ToField variant)).bindings place)
        (fields_each fields (ToField variant) (λ j. refl) place k)
    form_each (tree.TuplePattern parts) id at ty by place k =
        more_nodes (nodes_among parts) (node id at ty by (tree.TuplePattern parts) ∷ nodes_among parts)
        (λ key n. inr n) ((shapes.in_parts items parts 0).bindings place) (parts_each parts 0 place k)
    form_each (tree.ArrayPattern elements) id at ty by place k =
        more_nodes (nodes_among elements) (node id at ty by (tree.ArrayPattern elements) ∷ nodes_among elements)
        (λ key n. inr n) ((shapes.in_parts items elements 0).bindings place) (parts_each elements 0 place k)
    form_each form id at ty by place k = tt

    fields_each : (fs : Fields) (step : ℕ → Step) → ((j : ℕ) → is_index (step j) ≡ false) → (place : Place) → Q place →
        Each (nodes_of_fields fs) ((shapes.in_fields items fs step).bindings place)
    fields_each no_field step i place k = tt
    fields_each (a_field number value rest) step i place k = both_each (nodes_of value ++ nodes_of_fields rest)
        ((shape items value).bindings (extended (step number) place)) ((shapes.in_fields items rest step).bindings place)
        (more_nodes (nodes_of value) (nodes_of value ++ nodes_of_fields rest)
        (λ key n. numbered_left (nodes_of value) (nodes_of_fields rest) key n)
        ((shape items value).bindings (extended (step number) place))
        (names_each value (extended (step number) place) (further place (step number) k (i number))))
        (more_nodes (nodes_of_fields rest) (nodes_of value ++ nodes_of_fields rest)
        (λ key n. numbered_right (nodes_of value) (nodes_of_fields rest) key n)
        ((shapes.in_fields items rest step).bindings place) (fields_each rest step i place k))

    parts_each : (ns : Nodes) (n : ℕ) (place : Place) → Q place →
        Each (nodes_among ns) ((shapes.in_parts items ns n).bindings place)
    parts_each no_node n place k = tt
    parts_each (a_node one rest) n place k = both_each (nodes_of one ++ nodes_among rest)
        ((shape items one).bindings (extended (ToPart n) place)) ((shapes.in_parts items rest (suc n)).bindings place)
        (more_nodes (nodes_of one) (nodes_of one ++ nodes_among rest)
        (λ key i. numbered_left (nodes_of one) (nodes_among rest) key i)
        ((shape items one).bindings (extended (ToPart n) place))
        (names_each one (extended (ToPart n) place) (further place (ToPart n) k refl)))
        (more_nodes (nodes_among rest) (nodes_of one ++ nodes_among rest)
        (λ key i. numbered_right (nodes_of one) (nodes_among rest) key i)
        ((shapes.in_parts items rest (suc n)).bindings place) (parts_each rest (suc n) place k))

  -- each name of a pattern that is no name itself is one of the nodes inside
  pub inner_each : (form : Form) (id : ℕ) (ty : TyId) (by : Option Use) → (shape_of items form (head id ty by)).is_binding
      ≡ false → (place : Place) → Q place → Each (nodes_in form) ((shape_of items form (head id ty by)).bindings place)
  inner_each (tree.Binding name) id ty by b place k = absurd (false≢true (sym b))
  inner_each (tree.StructPattern fields) id ty by b place k = fields_each fields ToPart (λ j. refl) place k
  inner_each (tree.VariantPattern variant is_test fields) id ty by b place k =
      fields_each fields (ToField variant) (λ j. refl) place k
  inner_each (tree.TuplePattern parts) id ty by b place k = parts_each parts 0 place k
  inner_each (tree.ArrayPattern elements) id ty by b place k = parts_each elements 0 place k
  inner_each form id ty by b place k = tt

module _ (items : ItemTable) (body : BodyTree) (also : Also) (told : Told items) (Own : ℕ → Type 0) where
  abbrev V : Type 0
  V = Checking Facts

  abbrev L : ℕ → ℕ
  L = local_of items body

  abbrev pub Clear : Place → Type 0
  Clear = tests.Clear items body also Own

  -- the cells of the pattern leave a place alone, and its own local is no index on its way
  pub record Lies (place : Place) : Type 0 where
    pub clear : Clear place
    pub rooted : takes_index (place_at L place).local (place_at L place).steps ≡ false

  lies_further : (place : Place) (step : Step) → Lies place → is_index step ≡ false → Lies (extended step place)
  lies_further place step l i = record {
    clear = tests.clear_further items body also Own place step l.clear i;
    rooted = subst (λ (q : Place). takes_index (place_at L place).local q.steps ≡ false)
        (sym (place_further items body place step))
        (no_way (place_at L place).local (place_at L place).steps (step_at L step) l.rooted (same_index L step ∙ i));
  }

  abbrev EachLies : List Node → List BoundName → Type 0
  EachLies = Each items Lies lies_further

  module _ (facts : Facts) (ns : List Node) (own : (key : ℕ) → Numbered ns key → Own (L key)) where
    spares : (b x : BoundName) → Numbered ns b.key → Lies x.site.place →
        (b.takes ≡ true → Movable items body b.site.place) → (b.site.place.local ≡ x.site.place.local) →
        Diverge b.site.place.steps x.site.place.steps →
        rules.Spares items body also b x
    spares b x n l m same d = record {
      cell = record {
        root = λ z e. subst (λ k. (k == (place_at L x.site.place).local) ≡ false) (sym e)
            (l.clear.root (L b.key) (own b.key n));
        way = λ z e. subst (λ k. takes_index k (place_at L x.site.place).steps ≡ false) (sym e)
            (l.clear.way (L b.key) (own b.key n));
      };
      part = λ t. leaves_apart (place_at L b.site.place) (place_at L x.site.place) (ap L same)
          (diverge_at L b.site.place.steps x.site.place.steps d) (m t).unindexed l.rooted;
    }

    all_spare : (b : BoundName) → Numbered ns b.key → (b.takes ≡ true → Movable items body b.site.place) →
        (bounds : List BoundName) → Apart b bounds → EachLies ns bounds → rules.AllSpared items body also b bounds
    all_spare b n m [] a e = tt
    all_spare b n m (x ∷ bounds) a e =
        (spares b x n e.0.0 m a.0.0 a.0.1, all_spare b n m bounds a.1 e.1)

    all_fit : (bounds : List BoundName) → AllTaken items body bounds → AllKnown items body facts bounds →
        AllMovable items body bounds → Spread bounds → EachLies ns bounds → rules.AllFit items body also facts bounds
    all_fit [] t k m s e = tt
    all_fit (b ∷ bounds) t k m s e = (
      record {
        cell = t.0.0;
        plain = facts_of.is_false (is_reference (type_at items b.ty))
            (facts_of.left_of (not (is_reference (type_at items b.ty))) _ t.0.1.0);
        known = k.0;
        movable = m.0;
      },
      (all_spare b e.0.1 m.0 bounds s.0 e.1, all_fit bounds t.1 k.1 m.1 s.1 e.1),
    )

  -- a pattern is matched; what else is known stays so
  pub matched_both : (p : Node) (m : Matched) (want : TyId) → Holds (patterns.pattern items m want p) →
      (typing.is_one_name p ≡ true → types.is_reference items want ≡ false) → Has items body (cells items true p) →
      ((key : ℕ) → Numbered (nodes_of p) key → Own (L key)) → (place : Place) → PlaceOk items body want place →
      (m.may_move ≡ true → Movable items body place) → Lies place → (v : V) → v.facts.refilled ≡ None →
      Known items body v.facts place →
      Answers (λ w. ((w.facts.refilled ≡ None)
      × rules.AllFit items body also w.facts ((shape items p).bindings place)) × Keeps Own v.facts w.facts)
      (λ w. (w.facts.refilled ≡ None) × Keeps Own v.facts w.facts)
      (forms.all_hold items (alone_run items body also) ((shape items p).tests place) v)
  matched_both p m want h r cells_in own place ok moved lies v calm k =
      tests.answers_more items body also Own
      (forms.all_hold items (alone_run items body also) ((shape items p).tests place) v)
      (λ w. Keeps Own v.facts w.facts × Stands items body w.facts p place)
      (λ w. ((w.facts.refilled ≡ None) × rules.AllFit items body also w.facts ((shape items p).bindings place))
      × Keeps Own v.facts w.facts)
      (λ w. Keeps Own v.facts w.facts) (λ w. (w.facts.refilled ≡ None) × Keeps Own v.facts w.facts)
      (λ w x. (
        (
          x.0.waiting ∙ calm,
          all_fit w.facts (nodes_of p) own ((shape items p).bindings place)
              (names_taken items body told p m want h r cells_in place ok)
              (names_known items body w.facts told p m want h place
              (tests.known_still items body also Own v.facts w.facts place x.0 lies.clear k) x.1 ok)
              (names_movable items body told p m want h place ok moved) (names_spread items p m want h place)
              (names_each items Lies lies_further p place lies),
        ),
        x.0,
      ))
      (λ w x. (x.waiting ∙ calm, x))
      (answers.tests_answer items body also told Own p m want h own place ok lies.clear v k)

  pub matched_answer : (p : Node) (m : Matched) (want : TyId) → Holds (patterns.pattern items m want p) →
      (typing.is_one_name p ≡ true → types.is_reference items want ≡ false) → Has items body (cells items true p) →
      ((key : ℕ) → Numbered (nodes_of p) key → Own (L key)) → (place : Place) → PlaceOk items body want place →
      (m.may_move ≡ true → Movable items body place) → Lies place → (v : V) → v.facts.refilled ≡ None →
      Known items body v.facts place →
      Answers (λ w. (w.facts.refilled ≡ None)
      × rules.AllFit items body also w.facts ((shape items p).bindings place))
      (λ w. (w.facts.refilled ≡ None) × Keeps Own v.facts w.facts)
      (forms.all_hold items (alone_run items body also) ((shape items p).tests place) v)
  matched_answer p m want h r cells_in own place ok moved lies v calm k =
      tests.answers_more items body also Own
      (forms.all_hold items (alone_run items body also) ((shape items p).tests place) v)
      (λ w. ((w.facts.refilled ≡ None) × rules.AllFit items body also w.facts ((shape items p).bindings place))
      × Keeps Own v.facts w.facts)
      (λ w. (w.facts.refilled ≡ None) × rules.AllFit items body also w.facts ((shape items p).bindings place))
      (λ w. (w.facts.refilled ≡ None) × Keeps Own v.facts w.facts)
      (λ w. (w.facts.refilled ≡ None) × Keeps Own v.facts w.facts) (λ w x. x.0) (λ w x. x)
      (matched_both p m want h r cells_in own place ok moved lies v calm k)

  -- where the variants stand that a pattern names, its names may be bound
  pub names_fit : (p : Node) (m : Matched) (want : TyId) → Holds (patterns.pattern items m want p) →
      (typing.is_one_name p ≡ true → types.is_reference items want ≡ false) → Has items body (cells items true p) →
      ((key : ℕ) → Numbered (nodes_of p) key → Own (L key)) → (place : Place) → PlaceOk items body want place →
      (m.may_move ≡ true → Movable items body place) → Lies place → (facts : Facts) →
      Stands items body facts p place → Known items body facts place →
      rules.AllFit items body also facts ((shape items p).bindings place)
  names_fit p m want h r cells_in own place ok moved lies facts s k =
      all_fit facts (nodes_of p) own ((shape items p).bindings place)
      (names_taken items body told p m want h r cells_in place ok)
      (names_known items body facts told p m want h place k s ok)
      (names_movable items body told p m want h place ok moved) (names_spread items p m want h place)
      (names_each items Lies lies_further p place lies)

  -- the same where the nodes inside are told apart from the pattern itself, as in a parameter
  pub inner_fit : (form : Form) (id : ℕ) (at : Pos) (ty : TyId) (by : Option Use) (m : Matched) (want : TyId) →
      Holds (patterns.pattern items m want (node id at ty by form)) →
      (shape_of items form (head id ty by)).is_binding ≡ false →
      (typing.is_one_name (node id at ty by form) ≡ true → types.is_reference items want ≡ false) →
      Has items body (cells items true (node id at ty by form)) →
      ((key : ℕ) → Numbered (nodes_in form) key → Own (L key)) → (place : Place) → PlaceOk items body want place →
      (m.may_move ≡ true → Movable items body place) → Lies place → (facts : Facts) →
      Stands items body facts (node id at ty by form) place → Known items body facts place →
      rules.AllFit items body also facts ((shape_of items form (head id ty by)).bindings place)
  inner_fit form id at ty by m want h b r cells_in own place ok moved lies facts s k =
      all_fit facts (nodes_in form) own ((shape_of items form (head id ty by)).bindings place)
      (names_taken items body told (node id at ty by form) m want h r cells_in place ok)
      (names_known items body facts told (node id at ty by form) m want h place k s ok)
      (names_movable items body told (node id at ty by form) m want h place ok moved)
      (names_spread items (node id at ty by form) m want h place)
      (inner_each items Lies lies_further form id ty by b place lies)
