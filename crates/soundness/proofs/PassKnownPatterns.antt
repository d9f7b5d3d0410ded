-- The tests of a pattern, one line a form: where enough is known of the place that is matched, none fails for want of that;
-- where they hold, the variants stand there that the pattern names; and what is known of the place is so still.
use Rattle.std.proofs.Common.{◌≡◌, ◌⊎◌, inl, inr, ℕ, suc, ◌==◌, ◌&&◌, not, nat_lt, Bool, true, false, List, [], ◌∷◌, ◌++◌, Option, Some, refl, ap, sym, ◌∙◌, subst}
use Rattle.std.specs.Prelude.{slice_get, replicate}
use Rattle.std.proofs.lemmas.Bool.{false≢true}
use Rattle.std.proofs.lemmas.Option.{same_Some}
use Rattle.mir_base.specs.declared.place_in_text.Pos.{Pos}
use Rattle.mir_ty.specs.declared.ty.TyId.{TyId}
use Rattle.mir_ty.specs.ItemTable.{ItemTable, type_at}
use Rattle.mir_ty.specs.Parts.{field_ty}
use Rattle.store_model.specs.Effects as effects
use Rattle.store_model.specs.Effects.{Effects}
use Rattle.store_model.specs.Places.Place.{Step, ToPart, ToField, Place}
use Rattle.typed_tree.specs.declared.node.Use.{Use}
use Rattle.typed_tree.specs.Nodes.{nodes_of, nodes_in, nodes_among, nodes_of_fields}
use Rattle.typed_tree.specs.Tree as tree
use Rattle.typed_tree.specs.Tree.{Node, node, Form, Nodes, no_node, a_node, Fields, no_field, a_field, BodyTree}
use Rattle.src_meaning.specs.Forms as forms
use Rattle.src_meaning.specs.Locals.Effects.{place_at}
use Rattle.src_meaning.specs.Locals.OfBody.{local_of}
use Rattle.src_meaning.specs.Shape as shapes
use Rattle.src_meaning.specs.Shape.{no_test, head, extended, kind_of, shape, shape_of, site_at}
use Rattle.well_typed.specs.Claim.{Holds, fact, both}
use Rattle.well_typed.specs.Patterns as patterns
use Rattle.well_typed.specs.Patterns.{Matched}
use Rattle.well_typed.specs.Types as types
use Rattle.soundness_values.proofs.AlsoTests.{Also}
use Rattle.soundness_values.proofs.Checked.{Checking}
use Rattle.soundness_values.proofs.Checks.{with_variant}
use Rattle.soundness_values.proofs.Facts.{Facts}
use Rattle.soundness_cells.proofs.PassCellNames.{PlaceOk, further_ok}
use Rattle.soundness_cells.proofs.PassCellPatterns.{Told}
use Rattle.soundness_cells.proofs.PassCellTaken as taken
use Rattle.soundness_cells.proofs.PassCellTypes as facts_of
use Rattle.soundness_frame.proofs.PassFrameFacts.{variant_known}
use Rattle.soundness.proofs.PassKnownKept.{Keeps, keeps_same, keeps_then, keeps_variant}
use Rattle.soundness.proofs.PassKnownNames.{Stands, StandsIn, StandFields, StandParts, one_variant}
use Rattle.soundness.proofs.PassKnownPlaces.{Known, StepKnown, further_known}
use Rattle.soundness.proofs.PassKnownTests as tests
use Rattle.soundness.proofs.PassKnownTests.{Answers, variant_found}
use Rattle.soundness.proofs.PassMovable.{is_index}
use Rattle.soundness_cells.proofs.PassNumbers.{Numbered, numbered_left, numbered_right}
use Rattle.soundness.proofs.PassCallsAlone.{alone_run}
use Rattle.soundness_values.proofs.PlaceTypes.{some_holds, same_type}

module _ (items : ItemTable) (body : BodyTree) (also : Also) (told : Told items) (Own : ℕ → Type 0) where
  abbrev V : Type 0
  V = Checking Facts

  abbrev q : Effects V
  q = alone_run items body also

  abbrev L : ℕ → ℕ
  L = local_of items body

  abbrev Kept : Facts → V → Type 0
  Kept before w = Keeps Own before w.facts

  abbrev Clear : Place → Type 0
  Clear = tests.Clear items body also Own

  -- the cells of some nodes are among those that may change
  abbrev pub Cells : List Node → Type 0
  Cells ns = (key : ℕ) → Numbered ns key → Own (L key)

  abbrev more : (o : effects.Choice V) (a b c d : V → Type 0) → ((w : V) → a w → b w) → ((w : V) → c w → d w) →
      Answers a c o → Answers b d o
  more = tests.answers_more items body also Own

  on : (a b : Facts) (w : V) → Keeps Own a b → Kept b w → Kept a w
  on a b w k l = keeps_then Own a b w.facts k l

  mutual
    pub tests_answer : (p : Node) (m : Matched) (want : TyId) → Holds (patterns.pattern items m want p) →
        Cells (nodes_of p) → (place : Place) → PlaceOk items body want place → Clear place → (v : V) →
        Known items body v.facts place →
        Answers (λ w. Kept v.facts w × Stands items body w.facts p place) (Kept v.facts)
        (forms.all_hold items q ((shape items p).tests place) v)
    tests_answer (node id at ty by form) m want h own place ok a v k = form_answer form m id at ty by h.1 own place
        (subst (λ i. PlaceOk items body i place) (sym (same_type ty want h.0)) ok) a v k

    form_answer : (form : Form) (m : Matched) (id : ℕ) (at : Pos) (ty : TyId) (by : Option Use) →
        Holds (patterns.pattern_row items m ty by form) → Cells (nodes_of (node id at ty by form)) → (place : Place) →
        PlaceOk items body ty place → Clear place → (v : V) → Known items body v.facts place →
        Answers (λ w. Kept v.facts w × StandsIn items body w.facts form place) (Kept v.facts)
        (forms.all_hold items q ((shape_of items form (head id ty by)).tests place) v)
    form_answer tree.Wildcard m id at ty by h own place ok a v k = (keeps_same Own v.facts, tt)
    form_answer (tree.Binding name) m id at ty by h own place ok a v k = (keeps_same Own v.facts, tt)
    form_answer (tree.NumberPattern value) m id at ty by h own place ok a v k =
        tests.then_answers items body also Own
        (forms.equals items q (site_at (head id ty by) place) (effects.Number value (kind_of items ty)) v)
        (forms.all_hold items q no_test) (Kept v.facts) (λ w. Kept v.facts w × Unit {0}) (Kept v.facts)
        (tests.equals_answers items body also Own (site_at (head id ty by) place)
        (effects.Number value (kind_of items ty)) v tt k (own id (inl refl))) (λ w l. (l, tt))
    form_answer (tree.TruthPattern value) m id at ty by h own place ok a v k =
        tests.then_answers items body also Own
        (forms.equals items q (site_at (head id ty by) place) (effects.Truth value) v)
        (forms.all_hold items q no_test) (Kept v.facts) (λ w. Kept v.facts w × Unit {0}) (Kept v.facts)
        (tests.equals_answers items body also Own (site_at (head id ty by) place) (effects.Truth value) v tt k
        (own id (inl refl))) (λ w l. (l, tt))
    form_answer (tree.StructPattern fields) m id at ty by h own place ok a v k =
        let n = some_holds (types.adt_of items ty) (λ n. fact (not (types.is_enum items n))) h.1.0 in
        fields_answer fields _ ty 0 ToPart (λ j. refl) h.1.1.1 (λ key i. own key (inr i)) place ok a v k
        (λ f l j. tt) (λ j t e. (taken.struct_goes items ty n.0 n.1.0 n.1.1 j t e, refl))
    form_answer (tree.VariantPattern variant true fields) m id at ty by h own place ok a v k =
        let wanted = with_variant (place_at L place) variant v.facts in
        let rest = (shapes.in_fields items fields (ToField variant)).tests place in
        tests.then_answers items body also Own
        (q.choose (effects.HasVariant (site_at (head id ty by) place) variant) v) (forms.all_hold items q rest)
        (λ w. w.facts ≡ wanted) (λ w. Kept v.facts w
        × StandsIn items body w.facts (tree.VariantPattern variant true fields) place) (Kept v.facts)
        (more (q.choose (effects.HasVariant (site_at (head id ty by) place) variant) v) (λ w. w.facts ≡ wanted)
        (λ w. w.facts ≡ wanted) (λ w. w.facts ≡ v.facts) (Kept v.facts) (λ w e. e)
        (λ w e. tests.kept_by items body also Own v.facts v.facts w (keeps_same Own v.facts) e)
        (tests.variant_answers items body also (site_at (head id ty by) place) variant v k))
        (λ w e. let kept = tests.kept_by items body also Own v.facts wanted w
        (keeps_variant Own v.facts (place_at L place) variant) e in
        let found = subst (λ f. variant_known f (place_at L place) variant ≡ true) (sym e)
        (variant_found v.facts (place_at L place) variant) in
        more (forms.all_hold items q rest w)
        (λ u. Kept w.facts u × StandFields items body u.facts fields (ToField variant) place)
        (λ u. Kept v.facts u × StandsIn items body u.facts (tree.VariantPattern variant true fields) place)
        (Kept w.facts) (Kept v.facts)
        (λ u x. (on v.facts w.facts u kept x.0, ((λ t. x.0.variants (place_at L place) variant a found), x.1)))
        (λ u x. on v.facts w.facts u kept x)
        (fields_answer fields _ ty variant (ToField variant) (λ j. refl) h.1.1.1 (λ key i. own key (inr i)) place ok a w
        (tests.known_still items body also Own v.facts w.facts place kept a k)
        (λ f l j. inr (l.variants (place_at L place) variant a found))
        (λ j t e. (taken.variant_goes items ty variant (taken.enum_of items body told ty variant _ h.1.0) j t e, refl))))
    form_answer (tree.VariantPattern variant false fields) m id at ty by h own place ok a v k =
        let n = some_holds (types.adt_of items ty)
        (λ n. both (fact (types.is_enum items n && nat_lt variant (patterns.variant_count items n)))
        (fact (not (nat_lt 1 (patterns.variant_count items n))))) h.1.0 in
        more (forms.all_hold items q ((shapes.in_fields items fields (ToField variant)).tests place) v)
        (λ u. Kept v.facts u × StandFields items body u.facts fields (ToField variant) place)
        (λ u. Kept v.facts u × StandsIn items body u.facts (tree.VariantPattern variant false fields) place)
        (Kept v.facts) (Kept v.facts) (λ u x. (x.0, ((λ t. absurd (false≢true t)), x.1))) (λ u x. x)
        (fields_answer fields _ ty variant (ToField variant) (λ j. refl) h.1.1.1 (λ key i. own key (inr i)) place ok a v k
        (λ f l j. inl (λ root r t is. one_variant items body f (type_at items ty) n.0 variant r n.1.0
        (facts_of.right_of (types.is_enum items n.0) _ n.1.1.0) (facts_of.is_false _ n.1.1.1)
        (ap (type_at items) (same_Some ty root (sym ok.typed ∙ t)) ∙ is)))
        (λ j t e. (taken.variant_goes items ty variant (taken.enum_of items body told ty variant _ h.1.0) j t e, refl)))
    form_answer (tree.TuplePattern parts) m id at ty by h own place ok a v k =
        let t = some_holds (patterns.tuple_types items ty) (λ tys. patterns.part_patterns items m tys parts) h.1 in
        parts_answer parts m t.0 0 ty t.1.1 (λ key i. own key (inr i)) place ok a v k
        (λ j u e. (taken.tuple_goes items ty t.0 (types.is_unit items ty) t.1.0 j u e, refl))
    form_answer (tree.ArrayPattern elements) m id at ty by h own place ok a v k =
        let t = some_holds (types.array_of items ty)
        (λ a. patterns.part_patterns items m (replicate a.1 a.0) elements) h.1 in
        parts_answer elements m (replicate t.0.1 t.0.0) 0 ty t.1.1 (λ key i. own key (inr i)) place ok a v k
        (λ j u e. (taken.array_goes items ty t.0 t.1.0 j u e, refl))
    form_answer (tree.OrPattern alternatives) m id at ty by h own place ok a v k =
        tests.then_answers items body also Own
        (forms.any_holds items q (shapes.alternatives_at items alternatives place) v)
        (forms.all_hold items q no_test) (Kept v.facts) (λ w. Kept v.facts w × Unit {0}) (Kept v.facts)
        (any_answer alternatives m ty h.1.1 (λ key i. own key (inr i)) place ok a v k) (λ w l. (l, tt))
    form_answer form m id at ty by h own place ok a v k = absurd (false≢true h)

    fields_answer : (fs : Fields) (m : Matched) (ty : TyId) (variant : ℕ) (step : ℕ → Step) →
        ((j : ℕ) → is_index (step j) ≡ false) → Holds (patterns.field_patterns items m ty variant fs) →
        Cells (nodes_of_fields fs) → (place : Place) → PlaceOk items body ty place → Clear place → (v : V) →
        Known items body v.facts place →
        ((f : Facts) → Keeps Own v.facts f → (j : ℕ) → StepKnown items body f place (step j)) →
        taken.Goes items body told (field_ty items ty variant) step ty →
        Answers (λ w. Kept v.facts w × StandFields items body w.facts fs step place) (Kept v.facts)
        (forms.all_hold items q ((shapes.in_fields items fs step).tests place) v)
    fields_answer no_field m ty variant step i h own place ok a v k s g = (keeps_same Own v.facts, tt)
    fields_answer (a_field number value rest) m ty variant step i h own place ok a v k s g =
        let t = some_holds (field_ty items ty variant number) (λ want. patterns.pattern items m want value) h.0 in
        let w = g number t.0 t.1.0 in
        let inner = extended (step number) place in
        let clear = tests.clear_further items body also Own place (step number) a (i number) in
        tests.both_answer items body also Own ((shape items value).tests inner)
        ((shapes.in_fields items rest step).tests place) v
        (λ u. Kept v.facts u × Stands items body u.facts value inner)
        (λ u. Kept v.facts u × StandFields items body u.facts (a_field number value rest) step place) (Kept v.facts)
        (tests_answer value m t.0 t.1.1 (λ key n. own key (numbered_left (nodes_of value) (nodes_of_fields rest) key n))
        inner (further_ok items body ty t.0 place (step number) ok w.0 w.1) clear v
        (further_known items body v.facts place (step number) k (s v.facts (keeps_same Own v.facts) number)))
        (λ u x. more (forms.all_hold items q ((shapes.in_fields items rest step).tests place) u)
        (λ y. Kept u.facts y × StandFields items body y.facts rest step place)
        (λ y. Kept v.facts y × StandFields items body y.facts (a_field number value rest) step place)
        (Kept u.facts) (Kept v.facts)
        (λ y z. (
          on v.facts u.facts y x.0 z.0,
          (tests.stands_still items body also Own u.facts y.facts z.0 value inner clear x.1, z.1),
        ))
        (λ y z. on v.facts u.facts y x.0 z)
        (fields_answer rest m ty variant step i h.1
        (λ key n. own key (numbered_right (nodes_of value) (nodes_of_fields rest) key n)) place ok a u
        (tests.known_still items body also Own v.facts u.facts place x.0 a k)
        (λ f l. s f (keeps_then Own v.facts u.facts f x.0 l)) g))

    parts_answer : (ns : Nodes) (m : Matched) (tys : List TyId) (n : ℕ) (ty : TyId) →
        Holds (patterns.part_patterns items m tys ns) → Cells (nodes_among ns) → (place : Place) →
        PlaceOk items body ty place → Clear place → (v : V) → Known items body v.facts place →
        taken.Goes items body told (slice_get tys) (λ j. ToPart (taken.from_number j n)) ty →
        Answers (λ w. Kept v.facts w × StandParts items body w.facts ns n place) (Kept v.facts)
        (forms.all_hold items q ((shapes.in_parts items ns n).tests place) v)
    parts_answer no_node m tys n ty h own place ok a v k g = (keeps_same Own v.facts, tt)
    parts_answer (a_node one rest) m [] n ty h own place ok a v k g = absurd (false≢true h)
    parts_answer (a_node one rest) m (t ∷ tys) n ty h own place ok a v k g =
        let w = g 0 t refl in
        let inner = extended (ToPart n) place in
        let clear = tests.clear_further items body also Own place (ToPart n) a refl in
        tests.both_answer items body also Own ((shape items one).tests inner)
        ((shapes.in_parts items rest (suc n)).tests place) v
        (λ u. Kept v.facts u × Stands items body u.facts one inner)
        (λ u. Kept v.facts u × StandParts items body u.facts (a_node one rest) n place) (Kept v.facts)
        (tests_answer one m t h.0 (λ key i. own key (numbered_left (nodes_of one) (nodes_among rest) key i))
        inner (further_ok items body ty t place (ToPart n) ok w.0 w.1) clear v
        (further_known items body v.facts place (ToPart n) k tt))
        (λ u x. more (forms.all_hold items q ((shapes.in_parts items rest (suc n)).tests place) u)
        (λ y. Kept u.facts y × StandParts items body y.facts rest (suc n) place)
        (λ y. Kept v.facts y × StandParts items body y.facts (a_node one rest) n place)
        (Kept u.facts) (Kept v.facts)
        (λ y z. (
          on v.facts u.facts y x.0 z.0,
          (tests.stands_still items body also Own u.facts y.facts z.0 one inner clear x.1, z.1),
        ))
        (λ y z. on v.facts u.facts y x.0 z)
        (parts_answer rest m tys (suc n) ty h.1
        (λ key i. own key (numbered_right (nodes_of one) (nodes_among rest) key i)) place ok a u
        (tests.known_still items body also Own v.facts u.facts place x.0 a k) (λ j z e. g (suc j) z e)))

    any_answer : (ns : Nodes) (m : Matched) (ty : TyId) → Holds (patterns.each_pattern items m ty ns) →
        Cells (nodes_among ns) → (place : Place) → PlaceOk items body ty place → Clear place → (v : V) →
        Known items body v.facts place →
        Answers (Kept v.facts) (Kept v.facts)
        (forms.any_holds items q (shapes.alternatives_at items ns place) v)
    any_answer no_node m ty h own place ok a v k = keeps_same Own v.facts
    any_answer (a_node one rest) m ty h own place ok a v k =
        tests.or_answers items body also Own (forms.all_hold items q ((shape items one).tests place) v)
        (forms.any_holds items q (shapes.alternatives_at items rest place)) (Kept v.facts) (Kept v.facts) (Kept v.facts)
        (more (forms.all_hold items q ((shape items one).tests place) v)
        (λ w. Kept v.facts w × Stands items body w.facts one place) (Kept v.facts) (Kept v.facts) (Kept v.facts)
        (λ w x. x.0) (λ w x. x)
        (tests_answer one m ty h.0 (λ key i. own key (numbered_left (nodes_of one) (nodes_among rest) key i))
        place ok a v k))
        (λ w x. more (forms.any_holds items q (shapes.alternatives_at items rest place) w) (Kept w.facts) (Kept v.facts)
        (Kept w.facts) (Kept v.facts) (λ u y. on v.facts w.facts u x y) (λ u y. on v.facts w.facts u x y)
        (any_answer rest m ty h.1 (λ key i. own key (numbered_right (nodes_of one) (nodes_among rest) key i))
        place ok a w (tests.known_still items body also Own v.facts w.facts place x a k)))
