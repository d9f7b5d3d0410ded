-- The tests of a pattern are answered as the pattern takes what stands at its place, and an arm is taken exactly then: by
-- induction on the pattern, with the value and its type.
use Rattle.std.proofs.Common.{◌≡◌, ℕ, suc, ℤ, ◌+◌, ◌==◌, ◌&&◌, not, Bool, true, false, List, [], ◌∷◌, replicate, IsTrue, Option, Some, None, if◌then◌else◌, refl, ap, sym, ◌∙◌, subst, arith}
use Rattle.std.specs.Prelude.{slice_get}
use Rattle.std.proofs.lemmas.Bool.{false≢true}
use Rattle.std.proofs.lemmas.Bool.Decides.{Decides-eqb}
use Rattle.std.proofs.lemmas.Option.{none-some}
use Rattle.mir_base.specs.declared.operator.Cmp.{Cmp}
use Rattle.mir_base.specs.declared.place_in_text.Pos.{Pos}
use Rattle.mir_ty.specs.declared.ty.Ty.{Ty}
use Rattle.mir_ty.specs.declared.ty.TyId.{TyId}
use Rattle.mir_ty.specs.ItemTable.{ItemTable, type_at}
use Rattle.mir_ty.specs.Facts.{has_drop_impl}
use Rattle.mir_ty.specs.Parts.{field_ty, parts_of}
use Rattle.store_model.specs.Values.Datum.{Datum, Number, Truth}
use Rattle.store_model.specs.Values.Wholeness.{is_whole}
use Rattle.store_model.specs.Abstract.Presence.{is_present}
use Rattle.store_model.specs.Effects as effects
use Rattle.store_model.specs.Effects.{Operand, Choice, Yes, No, Neither, Effects}
use Rattle.store_model.specs.Places.Place.{Step, ToPart, ToField, Place}
use Rattle.store_model.specs.Places.TypeForms.{is_dyn, is_never, is_bool}
use Rattle.store_model.specs.Concrete.Effects.{act, compared, compared_numbers, number_of_truth, chosen_if, whole, evaluate_operand, if_so, variant_tested}
use Rattle.store_model.specs.Concrete.Location.{Setting, Located, Reaches, on_reached, concrete_ty, reach}
use Rattle.store_model.specs.Concrete.State.{State, Activation, Bodies, Cells}
use Rattle.typed_tree.specs.declared.node.Use.{Use}
use Rattle.typed_tree.specs.Tree as tree
use Rattle.typed_tree.specs.Tree.{Node, node, Form, Nodes, no_node, a_node, Fields, no_field, a_field}
use Rattle.src_meaning.specs.Evaluation.{meaning, meaning_if_any}
use Rattle.src_meaning.specs.Forms as forms
use Rattle.src_meaning.specs.Forms.{holds, all_hold, any_holds, tested, moved, guarded, taken_arm}
use Rattle.src_meaning.specs.Locals.Effects.{place_at, site_at, operand_at}
use Rattle.src_meaning.specs.Locals.OfBody.{cells, cells_of_fields, all_cells, bool_ty}
use Rattle.src_meaning.specs.Scopes.{Entry, Run, chosen, choosing}
use Rattle.src_meaning.specs.Shape.{Shape, head, kind_of, extended, IsVariant, shape, shape_of, in_fields, in_parts, alternatives_at}
use Rattle.src_meaning.specs.Takes.{takes, takes_by, takes_fields, takes_parts, any_takes, is_of_variant, is_equal}
use Rattle.src_meaning.specs.Takes as taking
use Rattle.well_typed.specs.Claim.{Claim, Holds, some}
use Rattle.well_typed.specs.Patterns as patterns
use Rattle.well_typed.specs.Patterns.{Matched, within}
use Rattle.well_typed.specs.Types as types
use Rattle.soundness_values.specs.Frames.{one_runs}
use Rattle.soundness_values.proofs.Standings.{alike_itself}
use Rattle.soundness_values.proofs.Fits.{whole_if_present}
use Rattle.soundness_values.proofs.PassHeads.{shape_is}
use Rattle.soundness_values.proofs.WholeValues.{fits_of}
use Rattle.soundness_values.specs.Typed.{IsOf, has_variant}
use Rattle.match_laws.proofs.Compared as comparing
use Rattle.match_laws.proofs.PartsStand.{PartStands, part_stands, field_stands}
use Rattle.match_laws.proofs.States.{same_itself, still_ready, still_stands, ready_left, ready_right, after_tests, after_alternatives, last_test, followed}
use Rattle.match_laws.proofs.TypesFound.{adt_by, tuple_by, array_by, int_by, bool_by, some_by, no_enum_active, lone_variant, part_typed, truth, both_right, same_ty, type_found, a_number, a_truth, AnAggregate, IsAggregateType, an_aggregate, adt_type, tuple_type, array_type, bool_is_made}
use Rattle.match_laws.specs.Matches.{Same, Answers, AreClear, IsReady, Stands, values, TestsAnswerAsPatternsTake, ArmsAreTakenAsPatternsTake}

-- ---- choices by a truth value

chosen_by : Bool → State → Choice State
chosen_by true v = Yes v
chosen_by false v = No v

by_answer : (w v : State) (b : Bool) (choice : Choice State) → choice ≡ (if b then Yes v else No v) → Same w v →
    Answers w b choice
by_answer w v true choice e k = subst (Answers w true) (sym e) k
by_answer w v false choice e k = subst (Answers w false) (sym e) k

and_true : (b : Bool) → (b && true) ≡ b
and_true true = refl
and_true false = refl

module _ (setting : Setting) (local_of : ℕ → ℕ) (run : Bodies) (fuel : ℕ) where
  abbrev items : ItemTable
  items = setting.items

  abbrev p : Effects State
  p = values setting local_of run fuel

  abbrev Ready : State → List Entry → Type 0
  Ready = IsReady setting local_of

  abbrev At : State → Place → TyId → Located → Type 0
  At = Stands setting local_of

  -- ---- a literal

  -- a comparison of what stands at a place with a literal
  module _ (id : ℕ) (place : Place) (literal : Operand) (d : Datum)
      (is : (v : State) → evaluate_operand setting literal v ≡ Some (d, v)) (plain : operand_at local_of literal ≡ literal)
      (s : Located) (b : Bool) (answer : compared Cmp.Eq s.value d ≡ Some b) (whole_s : is_whole s.value ≡ true) where
    abbrev equal : State → Choice State
    equal = forms.equals items p (record { node = id; place = place }) literal

    literal_from : (w : State) (a : Activation) (older : List Activation) →
        AreClear setting local_of a.body a.cells ((record { key = id; ty = bool_ty items }) ∷ []) →
        reach setting (record w { activations = a ∷ older }) (place_at local_of place) ≡ Reaches s →
        Answers (record w { activations = a ∷ older }) b (equal (record w { activations = a ∷ older }))
    literal_from w a older clear there = by_answer before (then_ (comparing.with_none (local_of id) (Truth b) a.cells)) b
        (equal before)
        (ap (λ l. forms.tested items p (act setting run (effects.Compare (comparing.own setting run w.asked w.ticks
        w.serial a.body older w.trace (local_of id) (bool_ty items) clear.0 (bool_is_made items) (forms.site_of_key id))
        Cmp.Eq (effects.Copied (site_at local_of (record { node = id; place = place }))) l) before) (moved id id)) plain
        ∙ ap (λ o. forms.tested items p o (moved id id)) (comparing.acts setting run w.asked w.ticks w.serial a.body
        older w.trace (local_of id) (bool_ty items) clear.0 (bool_is_made items) (forms.site_of_key id)
        (site_at local_of (record { node = id; place = place })) literal d is s b answer a.cells
        (ap (λ r. on_reached r (whole setting) None None) there
        ∙ ap (λ t. if_so t s) whole_s))
        ∙ comparing.truth_taken setting run w.asked w.ticks w.serial a.body older w.trace (local_of id) (bool_ty items)
        clear.0 (bool_is_made items) (forms.site_of_key id) b a.cells)
        (record {
          activations = (record a { cells = comparing.with_none (local_of id) (Truth b) a.cells }) ∷ older;
          is = refl;
          alike = one_runs a.body a.cells _ older older (comparing.emptied (local_of id) (Truth b) a.cells clear.1)
              (alike_itself older);
        })
      where
        before : State
        before = record w { activations = a ∷ older }

        then_ : Cells → State
        then_ held = record w { activations = (record a { cells = held }) ∷ older }

    literal_answers : (w : State) → Ready w ((record { key = id; ty = bool_ty items }) ∷ []) →
        reach setting w (place_at local_of place) ≡ Reaches s → Answers w b (equal w)
    literal_answers w ready there =
        subst (λ acts. reach setting (record w { activations = acts }) (place_at local_of place) ≡ Reaches s →
        Answers (record w { activations = acts }) b (equal (record w { activations = acts }))) (sym ready.youngest)
        (literal_from w ready.runs ready.older ready.clear) there

  -- the local of a literal pattern
  number_cells : (id : ℕ) (at : Pos) (ty : TyId) (by : Option Use) (value : ℤ) → is_never (type_at items ty) ≡ false →
      cells items true (node id at ty by (tree.NumberPattern value)) ≡ (record { key = id; ty = bool_ty items }) ∷ []
  number_cells id at ty by value e = rw e

  truth_cells : (id : ℕ) (at : Pos) (ty : TyId) (by : Option Use) (value : Bool) → is_never (type_at items ty) ≡ false →
      cells items true (node id at ty by (tree.TruthPattern value)) ≡ (record { key = id; ty = bool_ty items }) ∷ []
  truth_cells id at ty by value e = rw e

  whole_value : (s : Located) → IsOf items s.dynamic s.value → is_whole s.value ≡ true
  whole_value s h = whole_if_present items s.value s.dynamic is_present refl (fits_of items s.value s.dynamic h)

  concrete : (w : State) (q : Place) (ty : TyId) (s : Located) (o : Ty) → At w q ty s → type_at items ty ≡ Some o →
      is_dyn (Some o) ≡ false → concrete_ty items s.dynamic ≡ Some o
  concrete w q ty s o t e d =
      type_found items ty s.dynamic t.of_type t.found (ap is_dyn e ∙ d) ∙ e

  number_answers : (id : ℕ) (at : Pos) (ty : TyId) (by : Option Use) (value : ℤ) (q : Place) (w : State) (s : Located) →
      IsTrue (types.is_number_of items ty value) → Ready w (cells items true (node id at ty by (tree.NumberPattern value)))
      → At w q ty s →
      Answers w (is_equal (Some s.value) (Number value))
      (forms.equals items p (record { node = id; place = q }) (effects.Number value (kind_of items ty)) w)
  number_answers id at ty by value q w s h r t =
      let kind = int_by (type_at items ty) value h in
      let number = a_number items s.dynamic kind.0 s.value (concrete w q ty s (Ty.Int kind.0) t kind.1 refl) t.whole in
      let answer : compared Cmp.Eq s.value (Number value) ≡ Some (compared_numbers Cmp.Eq number.0 value) =
      ap (λ d. compared Cmp.Eq d (Number value)) number.1 in
      subst (λ b. Answers w b (forms.equals items p (record { node = id; place = q })
      (effects.Number value (kind_of items ty)) w)) (sym (ap (λ d. is_equal (Some d) (Number value)) number.1))
      (literal_answers id q (effects.Number value (kind_of items ty)) (Number value) (λ v. refl) refl s
      (compared_numbers Cmp.Eq number.0 value) answer (whole_value s t.whole) w
      (subst (Ready w) (number_cells id at ty by value (ap is_never kind.1)) r) t.reached)

  truth_answers : (id : ℕ) (at : Pos) (ty : TyId) (by : Option Use) (value : Bool) (q : Place) (w : State) (s : Located) →
      IsTrue (types.is_bool items ty) → Ready w (cells items true (node id at ty by (tree.TruthPattern value)))
      → At w q ty s →
      Answers w (is_equal (Some s.value) (Truth value))
      (forms.equals items p (record { node = id; place = q }) (effects.Truth value) w)
  truth_answers id at ty by value q w s h r t =
      let bool : type_at items ty ≡ Some Ty.Bool = bool_by (type_at items ty) h in
      let truth_is = a_truth items s.dynamic s.value (concrete w q ty s Ty.Bool t bool refl) t.whole in
      let answer : compared Cmp.Eq s.value (Truth value)
      ≡ Some (compared_numbers Cmp.Eq (number_of_truth truth_is.0) (number_of_truth value)) =
      ap (λ d. compared Cmp.Eq d (Truth value)) truth_is.1 in
      subst (λ b. Answers w b (forms.equals items p (record { node = id; place = q })
      (effects.Truth value) w)) (sym (ap (λ d. is_equal (Some d) (Truth value)) truth_is.1))
      (literal_answers id q (effects.Truth value) (Truth value) (λ v. refl) refl s
      (compared_numbers Cmp.Eq (number_of_truth truth_is.0) (number_of_truth value)) answer (whole_value s t.whole) w
      (subst (Ready w) (truth_cells id at ty by value (ap is_never bool)) r) t.reached)

  -- ---- parts

  abbrev Gives : (ℕ → Step) → TyId → Place → Located → (ℕ → TyId → Type 0) → Type 0
  Gives step ty q s Typed = (v : State) → At v q ty s → (number : ℕ) (want : TyId) → Typed number want →
      PartStands setting local_of v q (step number) want s

  an_adt : (w : State) (q : Place) (ty : TyId) (s : Located) (n : ℕ) → type_at items ty ≡ Some (Ty.Adt n) →
      At w q ty s → AnAggregate items (Some (Ty.Adt n)) s.value
  an_adt w q ty s n e t = an_aggregate items s.dynamic (Some (Ty.Adt n)) s.value
      (concrete w q ty s (Ty.Adt n) t e refl) (adt_type n) t.whole

  variant_answers : (w : State) (q : Place) (ty : TyId) (s : Located) (id n variant : ℕ) →
      type_at items ty ≡ Some (Ty.Adt n) → At w q ty s →
      Answers w (is_of_variant variant (Some s.value))
      (holds items p (IsVariant (record { node = id; place = q }) variant) w)
  variant_answers w q ty s id n variant e t =
      let a = an_adt w q ty s n e t in
      subst (λ b. Answers w b (holds items p (IsVariant (record { node = id; place = q }) variant) w))
      (sym (ap (λ d. is_of_variant variant (Some d)) a.is))
      (by_answer w w (variant == a.active) _
      (ap (λ r. on_reached r (λ x. variant_tested setting variant x.value w) (Neither effects.Stuck w)
      (Neither effects.Stuck w)) t.reached
      ∙ ap (λ d. variant_tested setting variant d w) a.is ∙ by_bool (variant == a.active)) (same_itself w))
    where
      by_bool : (b : Bool) → chosen_if setting b w ≡ (if b then Yes w else No w)
      by_bool true = refl
      by_bool false = refl

  not_so : (b : Bool) → not b ≡ true → b ≡ false
  not_so false h = refl
  not_so true h = absurd (false≢true h)

  -- the fields of the variant that stands
  in_variant : (v : State) (q : Place) (ty : TyId) (s : Located) (t : At v q ty s) (n : ℕ)
      (e : type_at items ty ≡ Some (Ty.Adt n)) (a : AnAggregate items (Some (Ty.Adt n)) s.value) (variant : ℕ) →
      (variant == a.active) ≡ true → (number : ℕ) (want : TyId) →
      field_ty items ty variant number ≡ Some want →
      PartStands setting local_of v q (ToField variant number) want s
  in_variant v q ty s t n e a variant same number want f =
      field_stands setting local_of v q ty s t a.active a.serial a.parts a.is number want
      (part_typed items s.dynamic (type_at items ty) a.active number a.serial want
      (concrete v q ty s (Ty.Adt n) t e refl ∙ sym e)
      (ap (λ k. field_ty items ty k number) (sym ((Decides-eqb variant a.active).0 same)) ∙ f)) variant same

  -- a part of what has one variant alone
  one_part : (v : State) (q : Place) (ty : TyId) (s : Located) (o : Ty) → type_at items ty ≡ Some o →
      is_dyn (Some o) ≡ false → IsAggregateType (Some o) → At v q ty s → (tys : List TyId) →
      ((active : ℕ) → has_variant items (Some o) active ≡ true → (active == 0) ≡ true) →
      ((active : ℕ) → (active == 0) ≡ true → parts_of items o active ≡ tys) → (j : ℕ) (want : TyId) →
      slice_get tys j ≡ Some want → PartStands setting local_of v q (ToPart j) want s
  one_part v q ty s o e d is t tys first parts j want f =
      let a = an_aggregate items s.dynamic (Some o) s.value (concrete v q ty s o t e d) is t.whole in
      part_stands setting local_of v q ty s t a.active a.serial a.parts a.is j want
      (part_typed items s.dynamic (Some o) a.active j a.serial want (concrete v q ty s o t e d)
      (ap (λ l. slice_get l j) (parts a.active (first a.active a.variant)) ∙ f))

  -- the parts of a tuple; `()` is one without parts
  record TupleParts (ty : TyId) (q : Place) (s : Located) (f : List TyId → Claim) : Type 0 where
    tys : List TyId
    gives : (v : State) → At v q ty s → (j : ℕ) (want : TyId) → slice_get tys j ≡ Some want →
        PartStands setting local_of v q (ToPart j) want s
    claimed : Holds (f tys)

  tuple_parts : (unit : Bool) (ty : TyId) (q : Place) (s : Located) (f : List TyId → Claim) →
      Holds (some (if unit then Some [] else types.tuple_of items ty) f) → TupleParts ty q s f
  tuple_parts true ty q s f h = record {
    tys = [];
    gives = λ v u j want e. absurd (none-some want e);
    claimed = h;
  }
  tuple_parts false ty q s f h =
      let tuple = tuple_by (type_at items ty) f h in
      record {
        tys = tuple.0;
        gives = λ v u j want e. one_part v q ty s (Ty.Tuple tuple.0) tuple.1 refl (tuple_type tuple.0) u tuple.0
            (λ active x. x) (λ active x. ap (λ b. if b then tuple.0 else []) x) j want e;
        claimed = tuple.2;
      }

  -- parts are counted from the first
  from_first : (q : Place) (ty : TyId) (s : Located) (tys : List TyId) → ((v : State) → At v q ty s → (j : ℕ)
      (want : TyId) → slice_get tys j ≡ Some want → PartStands setting local_of v q (ToPart j) want s) →
      (v : State) → At v q ty s → (j : ℕ) (want : TyId) → slice_get tys j ≡ Some want →
      PartStands setting local_of v q (ToPart (0 + j)) want s
  from_first q ty s tys gives v u j want e =
      let same : j ≡ 0 + j = omega arith in
      subst (λ i. PartStands setting local_of v q (ToPart i) want s) same (gives v u j want e)

  mutual
    pattern_answers : (n : Node) (m : Matched) (want : TyId) (q : Place) (w : State) (s : Located) →
        Holds (patterns.pattern items m want n) → Ready w (cells items true n) → At w q want s →
        Answers w (takes n (Some s.value)) (all_hold items p ((shape items n).tests q) w)
    pattern_answers (node id at ty by form) m want q w s h r t =
        form_answers form id at ty by m q w s h.1 r
        (subst (λ i. At w q i s) (sym (same_ty ty want (truth (types.is_same ty want) h.0))) t)

    form_answers : (form : Form) (id : ℕ) (at : Pos) (ty : TyId) (by : Option Use) (m : Matched) (q : Place) (w : State)
        (s : Located) → Holds (patterns.pattern_row items m ty by form) →
        Ready w (cells items true (node id at ty by form)) → At w q ty s →
        Answers w (takes_by form (Some s.value)) (all_hold items p ((shape_of items form (head id ty by)).tests q) w)
    form_answers tree.Wildcard id at ty by m q w s h r t = same_itself w
    form_answers (tree.Binding name) id at ty by m q w s h r t = same_itself w
    form_answers (tree.NumberPattern value) id at ty by m q w s h r t =
        last_test items p w (is_equal (Some s.value) (Number value)) _ (number_answers id at ty by value q w s h.1 r t)
    form_answers (tree.TruthPattern value) id at ty by m q w s h r t =
        last_test items p w (is_equal (Some s.value) (Truth value)) _ (truth_answers id at ty by value q w s h.1 r t)
    form_answers (tree.StructPattern fields) id at ty by m q w s h r t =
        let adt = adt_by (type_at items ty) _ h.1.0 in
        let a = an_adt w q ty s adt.0 adt.1 t in
        let first : (a.active == 0) ≡ true = no_enum_active items adt.0 a.active adt.2 a.variant in
        fields_answer fields ToPart 0 (within (has_drop_impl items ty) m) ty q w s
        (λ v u number part_ty e. part_stands setting local_of v q ty s u a.active a.serial a.parts a.is number part_ty
        (part_typed items s.dynamic (type_at items ty) a.active number a.serial part_ty
        (concrete v q ty s (Ty.Adt adt.0) u adt.1 refl ∙ sym adt.1)
        (ap (λ k. field_ty items ty k number) ((Decides-eqb a.active 0).0 first) ∙ e))) h.1.1.1
        (ready_right setting local_of w _ (cells_of_fields items fields) r) t
    form_answers (tree.VariantPattern variant true fields) id at ty by m q w s h r t =
        let adt = adt_by (type_at items ty) _ h.1.0 in
        let a = an_adt w q ty s adt.0 adt.1 t in
        after_tests items p w (is_of_variant variant (Some s.value)) _ _ _
        (variant_answers w q ty s id adt.0 variant adt.1 t)
        (λ so v k. fields_answer fields (ToField variant) variant (within (has_drop_impl items ty) m) ty q v s
        (λ u there number part_ty e. in_variant u q ty s there adt.0 adt.1 a variant
        (sym (ap (λ d. is_of_variant variant (Some d)) a.is) ∙ so) number part_ty e) h.1.1.1
        (still_ready setting local_of w v _ k (ready_right setting local_of w _ (cells_of_fields items fields) r))
        (still_stands setting local_of w v q ty s k t))
    form_answers (tree.VariantPattern variant false fields) id at ty by m q w s h r t =
        let adt = adt_by (type_at items ty) _ h.1.0 in
        let a = an_adt w q ty s adt.0 adt.1 t in
        fields_answer fields (ToField variant) variant (within (has_drop_impl items ty) m) ty q w s
        (λ u there number part_ty e. in_variant u q ty s there adt.0 adt.1 a variant
        (lone_variant items adt.0 variant a.active
        (both_right (types.is_enum items adt.0) _ (truth _ adt.2.0)) (not_so _ (truth _ adt.2.1)) a.variant)
        number part_ty e) h.1.1.1
        (ready_right setting local_of w _ (cells_of_fields items fields) r) t
    form_answers (tree.TuplePattern nodes) id at ty by m q w s h r t =
        let tuple = tuple_parts (types.is_unit items ty) ty q s (λ tys. patterns.part_patterns items m tys nodes) h.1 in
        parts_answer nodes 0 tuple.tys m ty q w s (from_first q ty s tuple.tys tuple.gives) tuple.claimed
        (ready_right setting local_of w _ (all_cells items nodes) r) t
    form_answers (tree.ArrayPattern nodes) id at ty by m q w s h r t =
        let array = array_by (type_at items ty) _ h.1 in
        parts_answer nodes 0 (replicate array.1 array.0) m ty q w s
        (from_first q ty s (replicate array.1 array.0) (λ v u j want e. one_part v q ty s (Ty.Array array.0 array.1) array.2 refl (array_type array.0 array.1) u
        (replicate array.1 array.0) (λ active x. x) (λ active x. ap (λ b. if b then replicate array.1 array.0 else []) x)
        j want e)) array.3
        (ready_right setting local_of w _ (all_cells items nodes) r) t
    form_answers (tree.OrPattern alternatives) id at ty by m q w s h r t =
        last_test items p w (any_takes alternatives (Some s.value)) _
        (any_answer alternatives m ty q w s h.1.1 (ready_right setting local_of w _ (all_cells items alternatives) r) t)
    form_answers other id at ty by m q w s h r t = absurd (false≢true h)

    parts_answer : (nodes : Nodes) (k : ℕ) (tys : List TyId) (m : Matched) (ty : TyId) (q : Place) (w : State)
        (s : Located) → ((v : State) → At v q ty s → (j : ℕ) (want : TyId) → slice_get tys j ≡ Some want →
        PartStands setting local_of v q (ToPart (k + j)) want s) →
        Holds (patterns.part_patterns items m tys nodes) → Ready w (all_cells items nodes) → At w q ty s →
        Answers w (takes_parts nodes k (Some s.value)) (all_hold items p ((in_parts items nodes k).tests q) w)
    parts_answer no_node k tys m ty q w s gives h r t = same_itself w
    parts_answer (a_node n rest) k [] m ty q w s gives h r t = absurd (false≢true h)
    parts_answer (a_node n rest) k (want ∷ tys) m ty q w s gives h r t =
        let first : k + 0 ≡ k = omega arith in
        let part = subst (λ i. PartStands setting local_of w q (ToPart i) want s) first (gives w t 0 want refl) in
        subst (Answers w (takes_parts (a_node n rest) k (Some s.value)))
        (sym (followed items p ((shape items n).tests (extended (ToPart k) q)) ((in_parts items rest (suc k)).tests q) w))
        (after_tests items p w (takes n (taking.part_at (ToPart k) (Some s.value))) _ _ _
        (subst (λ d. Answers w (takes n d) (all_hold items p ((shape items n).tests (extended (ToPart k) q)) w))
        (sym part.is)
        (pattern_answers n m want (extended (ToPart k) q) w part.standing h.0
        (ready_left setting local_of w (cells items true n) _ r) part.stands))
        (λ so v l. parts_answer rest (suc k) tys m ty q v s
        (λ u there j other e. let next : k + suc j ≡ suc k + j = omega arith in
        subst (λ i. PartStands setting local_of u q (ToPart i) other s) next (gives u there (suc j) other e)) h.1
        (still_ready setting local_of w v _ l (ready_right setting local_of w (cells items true n) _ r))
        (still_stands setting local_of w v q ty s l t)))

    fields_answer : (fields : Fields) (step : ℕ → Step) (variant : ℕ) (m : Matched) (ty : TyId) (q : Place) (w : State)
        (s : Located) → Gives step ty q s (λ number want. field_ty items ty variant number ≡ Some want) →
        Holds (patterns.field_patterns items m ty variant fields) → Ready w (cells_of_fields items fields) →
        At w q ty s →
        Answers w (takes_fields fields step (Some s.value)) (all_hold items p ((in_fields items fields step).tests q) w)
    fields_answer no_field step variant m ty q w s gives h r t = same_itself w
    fields_answer (a_field number n rest) step variant m ty q w s gives h r t =
        let typed = some_by (field_ty items ty variant number) _ h.0 in
        let part = gives w t number typed.0 typed.1 in
        subst (Answers w (takes_fields (a_field number n rest) step (Some s.value)))
        (sym (followed items p ((shape items n).tests (extended (step number) q)) ((in_fields items rest step).tests q)
        w))
        (after_tests items p w (takes n (taking.part_at (step number) (Some s.value))) _ _ _
        (subst (λ d. Answers w (takes n d) (all_hold items p ((shape items n).tests (extended (step number) q)) w))
        (sym part.is)
        (pattern_answers n m typed.0 (extended (step number) q) w part.standing typed.2
        (ready_left setting local_of w (cells items true n) _ r) part.stands))
        (λ so v k. fields_answer rest step variant m ty q v s gives h.1
        (still_ready setting local_of w v _ k (ready_right setting local_of w (cells items true n) _ r))
        (still_stands setting local_of w v q ty s k t)))

    any_answer : (nodes : Nodes) (m : Matched) (ty : TyId) (q : Place) (w : State) (s : Located) →
        Holds (patterns.each_pattern items m ty nodes) → Ready w (all_cells items nodes) → At w q ty s →
        Answers w (any_takes nodes (Some s.value)) (any_holds items p (alternatives_at items nodes q) w)
    any_answer no_node m ty q w s h r t = same_itself w
    any_answer (a_node first rest) m ty q w s h r t =
        after_alternatives items p w (takes first (Some s.value)) _ _ _
        (pattern_answers first m ty q w s h.0 (ready_left setting local_of w (cells items true first) _ r) t)
        (λ v k. any_answer rest m ty q v s h.1
        (still_ready setting local_of w v _ k (ready_right setting local_of w (cells items true first) _ r))
        (still_stands setting local_of w v q ty s k t))

-- the first clause
pub tests_answer : TestsAnswerAsPatternsTake
tests_answer setting local_of run fuel m ty n place w s h r t = pattern_answers setting local_of run fuel n m ty place w s h r t

-- what is chosen by an answer is done in the same state
record Done (w : State) (does : State → Run State) (run : Run State) : Type 0 where
  state : State
  same : Same w state
  is : run ≡ does state

chosen_so : (w : State) (b : Bool) (choice : Choice State) (yes_does no_does : State → Run State) →
    Answers w b choice → Done w (if b then yes_does else no_does) (chosen choice yes_does no_does)
chosen_so w true (Yes v) yes_does no_does a = record { state = v; same = a; is = refl }
chosen_so w true (No v) yes_does no_does a = absurd a
chosen_so w true (Neither halt v) yes_does no_does a = absurd a
chosen_so w false (No v) yes_does no_does a = record { state = v; same = a; is = refl }
chosen_so w false (Yes v) yes_does no_does a = absurd a
chosen_so w false (Neither halt v) yes_does no_does a = absurd a

-- the second
pub arms_taken : ArmsAreTakenAsPatternsTake
arms_taken setting local_of run fuel turns m ty place w s id at arm_ty by n guard body otherwise around to S h r t =
    let done = chosen_so w (takes n (Some s.value)) _
    (guarded items q around ((shape items n).bindings place) (meaning_if_any items q turns guard)
    (taken_arm items q (head id arm_ty by) around ((shape items n).bindings place) (meaning items q turns body) to)
    otherwise S) (otherwise S) (tests_answer setting local_of run fuel m ty n place w s h r t) in (
      done.state,
      done.same,
      ap (λ (k : Shape). choosing (all_hold items q (k.tests place))
          (guarded items q around (k.bindings place) (meaning_if_any items q turns guard)
          (taken_arm items q (head id arm_ty by) around (k.bindings place) (meaning items q turns body) to) otherwise)
          otherwise S w) (shape_is items q turns n)
          ∙ done.is ∙ applied (takes n (Some s.value)) done.state,
    )
  where
    items : ItemTable
    items = setting.items

    q : Effects State
    q = values setting local_of run fuel

    applied : (b : Bool) (v : State) →
        (if b then guarded items q around ((shape items n).bindings place) (meaning_if_any items q turns guard)
        (taken_arm items q (head id arm_ty by) around ((shape items n).bindings place) (meaning items q turns body) to)
        otherwise S else otherwise S) v
        ≡ (if b then guarded items q around ((shape items n).bindings place) (meaning_if_any items q turns guard)
        (taken_arm items q (head id arm_ty by) around ((shape items n).bindings place) (meaning items q turns body) to)
        otherwise else otherwise) S v
    applied true v = refl
    applied false v = refl
