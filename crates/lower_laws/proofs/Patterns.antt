-- Patterns that are well typed: their tests and what their names take, at places of their types; and the names that they
-- bring into scope.
use Rattle.std.proofs.Common.{◌≡◌, inl, inr, ℕ, suc, ◌+◌, ◌≤◌, ◌==◌, ◌&&◌, ◌||◌, not, nat_lt, Bool, true, false, List, [], ◌∷◌, ◌++◌, length, Option, Some, None, ℤ, slice_get, slice_index_or, if◌then◌else◌, cond, position, refl, sym, ap, subst, ◌∙◌, arith}
use Rattle.std.proofs.lemmas.Bool.{ltb-true}
use Rattle.std.proofs.lemmas.Bool.Decides.{eqb_tells}
use Rattle.std.proofs.lemmas.Option.{none-some, same_Some, slice_get-get_or, slice_get_past}
use Rattle.std.specs.Prelude.{replicate, is_some}
use Rattle.std.specs.List.{find, position_or_len}
use Rattle.std.proofs.lemmas.List.Folds.{find_at}
use Rattle.std.specs.Option.{option_map_or}
use Rattle.cfg_graph.specs.declared.terminator.Term.{Term}
use Rattle.cfg_graph.specs.Moves.Gone.{has_index}
use Rattle.cfg_graph.specs.Places.{named_step}
use Rattle.mir_base.specs.declared.int_kind.IntKind.{IntKind}
use Rattle.mir_ty.specs.declared.adt.Adt.{Adt}
use Rattle.mir_ty.specs.declared.adt.Variant.{Variant}
use Rattle.mir_ty.specs.declared.ty.Ty.{Ty}
use Rattle.mir_ty.specs.declared.ty.TyId.{TyId}
use Rattle.mir_ty.specs.Facts.{is_copy, has_drop_impl, ty_has_drop_impl, adt_has_drop_impl}
use Rattle.mir_ty.specs.ItemTable.{type_at}
use Rattle.mir_ty.specs.Parts.{field_ty, parts_of}
use Rattle.store_model.specs.Concrete.Drops.{with_drop_body}
use Rattle.store_model.specs.Places.Place.{Step, ToPart, ToField, Place, step_ty}
use Rattle.store_model.specs.Places.Place as places
use Rattle.store_model.specs.Places.TypeForms as forms
use Rattle.typed_tree.specs.declared.node.Use.{Use}
use Rattle.typed_tree.specs.Tree as tree
use Rattle.typed_tree.specs.Tree.{Node, Form, Nodes, no_node, a_node, Fields, no_field, a_field}
use Rattle.src_meaning.specs.Locals.OfBody.{cells, all_cells, cells_of_fields, bool_ty}
use Rattle.src_meaning.specs.Scopes.{Entry}
use Rattle.src_meaning.specs.Shape.{head, moves, BoundName, IsNumber, IsTruth, PatternTests, no_test, a_test, followed_by, kind_of, shape, shape_of, in_fields, in_parts, alternatives_at, extended}
use Rattle.well_typed.specs.Claim.{Holds}
use Rattle.well_typed.specs.Patterns as patterns
use Rattle.well_typed.specs.Patterns.{Matched}
use Rattle.well_typed.specs.Places as scopes
use Rattle.well_typed.specs.Types as types
use Rattle.lower_rules.specs.Build as build
use Rattle.lower_rules.specs.Build.{LoweringFrame}
use Rattle.lower_rules.proofs.KnownTypes.{never_known, unit_known, int_known, bool_known, adt_known, tuple_known, array_known}
use Rattle.lower_rules.proofs.Lines as lines
use Rattle.lower_rules.proofs.TypedLines as typed_lines
use Rattle.lower_rules.proofs.TypedPlaces as typed_places
use Rattle.lower_laws.proofs.Base as base
use Rattle.lower_laws.proofs.Base.{Ground, untrue, and_first, and_second, same_id, found}
use Rattle.lower_laws.proofs.Rules as rules

-- what is found passes
pub found_so : {A : Type 0} (test : A → Bool) (xs : List A) (y : A) → find test xs ≡ Some y → test y ≡ true
found_so test [] y e = absurd (none-some y e)
found_so {A} test (x ∷ xs) y e = by (found_so test xs y) (test x) refl e
  where
    by : (find test xs ≡ Some y → test y ≡ true) → (b : Bool) → test x ≡ b → cond b (Some x) (find test xs) ≡ Some y → test y ≡ true
    by again true d h = subst (λ z. test z ≡ true) (same_Some x y h) d
    by again false d h = again h

-- the first of a list of which a test is true, if there is one
first_so : {A : Type 0} (test : A → Bool) (xs : List A) (y : A) → slice_get xs (option_map_or (λ n. n) (position test xs) (length xs)) ≡ Some y → test y ≡ true
first_so {A} test xs y e = by (nat_lt (position_or_len test xs) (length xs)) e
  where
    by : (b : Bool) → slice_get xs (option_map_or (λ n. n) (if b then Some (position_or_len test xs) else None) (length xs)) ≡ Some y → test y ≡ true
    by true h = found_so test xs y (find_at test xs ∙ h)
    by false h = absurd (none-some y (sym (slice_get_past xs (length xs) (let l : length xs ≤ length xs = omega arith in l)) ∙ h))

is_bool_is : (ty : Ty) → forms.is_bool (Some ty) ≡ true → ty ≡ Ty.Bool
is_bool_is Ty.Bool e = refl
is_bool_is other e = absurd (untrue e)

pub apart_over : (n m : ℕ) → nat_lt n m ≡ true → (m == n) ≡ false
apart_over n m e = elim (eqb_tells m n) [ inl same ↦ absurd (let l = ltb-true n m e in let s = same.1 in let never : ⊥ = omega (l, s, arith) in never) | inr other ↦ other.0 ]

module _ (g : Ground) where
  abbrev F : LoweringFrame
  F = base.F g

  abbrev Typed : Place → TyId → Type 0
  Typed = base.Typed g

  abbrev KeyIs : ℕ → TyId → Type 0
  KeyIs = base.KeyIs g

  abbrev TestsOk : PatternTests → Type 0
  TestsOk = lines.TestsOk F (base.wanted g)

  abbrev BoundsOk : List BoundName → Type 0
  BoundsOk = rules.BoundsOk g

  followed_ok : (xs ys : PatternTests) → TestsOk xs → TestsOk ys → TestsOk (followed_by xs ys)
  followed_ok no_test ys h k = k
  followed_ok (a_test x xs) ys h k = (h.0, followed_ok xs ys h.1 k)

  bounds_append : (xs ys : List BoundName) → BoundsOk xs → BoundsOk ys → BoundsOk (xs ++ ys)
  bounds_append [] ys h k = k
  bounds_append (b ∷ xs) ys h k = (h.0, bounds_append xs ys h.1 k)

  -- the cell of a literal's test is of type `bool`
  bool_there : (key : ℕ) → KeyIs key (bool_ty g.items) → type_at g.items (bool_ty g.items) ≡ Some Ty.Bool
  bool_there key k =
      let t = g.known (g.local_of key) (bool_ty g.items) k in
      t.1 ∙ ap (λ (z : Ty). Some z) (is_bool_is t.0 (first_so (λ ty. forms.is_bool (Some ty)) g.items.types t.0 t.1))

  -- a place whose part is looked at
  pub part_typed : (place : Place) (n : ℕ) (id : TyId) (ty : Ty) (j : TyId) → base.At g place id ty → step_ty g.items (ToPart n) ty ≡ Some j → Typed (extended (ToPart n) place) j
  part_typed place n id ty j t e = let part = g.parts id ty 0 n j t.known (of_step (places.is_enum g.items ty) e) in (part.0, typed_places.part_at F g.bodies place n id ty j part.0 t e part.1)
    where
      of_step : (b : Bool) → places.unless_enum b (slice_get (parts_of g.items ty 0) n) ≡ Some j → slice_get (parts_of g.items ty 0) n ≡ Some j
      of_step true e = absurd (none-some j e)
      of_step false e = e

  field_typed : (place : Place) (v n : ℕ) (id : TyId) (ty : Ty) (j : TyId) → base.At g place id ty → step_ty g.items (ToField v n) ty ≡ Some j → Typed (extended (ToField v n) place) j
  field_typed place v n id ty j t e = let part = g.parts id ty v n j t.known (of_step (places.is_enum g.items ty) e) in (part.0, typed_places.field_at F g.bodies place v n id ty j part.0 t e part.1)
    where
      of_step : (b : Bool) → places.part_if b (slice_get (parts_of g.items ty v) n) ≡ Some j → slice_get (parts_of g.items ty v) n ≡ Some j
      of_step true e = e
      of_step false e = absurd (none-some j e)

  -- where steps to parts lead
  abbrev LeadTo : (ℕ → Step) → ℕ → Place → TyId → Type 0
  LeadTo step v place id = (n : ℕ) (j : TyId) → field_ty g.items id v n ≡ Some j → Typed (extended (step n) place) j

  struct_leads : (place : Place) (id : TyId) (n : ℕ) → Typed place id → types.adt_of g.items id ≡ Some n → types.is_enum g.items n ≡ false → LeadTo ToPart 0 place id
  struct_leads place id n t e none k j f =
      let is = adt_known g.items id n e in
      part_typed place k id (Ty.Adt n) j (subst (λ (z : Ty). base.At g place id z) (same_Some t.0 (Ty.Adt n) (sym t.1.known ∙ is)) t.1) (simp (none) (rw is at f))

  variant_leads : (place : Place) (id : TyId) (n v : ℕ) → Typed place id → types.adt_of g.items id ≡ Some n → types.is_enum g.items n ≡ true → LeadTo (ToField v) v place id
  variant_leads place id n v t e so k j f =
      let is = adt_known g.items id n e in
      field_typed place v k id (Ty.Adt n) j (subst (λ (z : Ty). base.At g place id z) (same_Some t.0 (Ty.Adt n) (sym t.1.known ∙ is)) t.1) (simp (so) (rw is at f))

  -- parts in order, from one on
  abbrev Steps : Ty → ℕ → List TyId → Type 0
  Steps ty n [] = Unit {0}
  Steps ty n (id ∷ ids) = (step_ty g.items (ToPart n) ty ≡ Some id) × Steps ty (suc n) ids

  steps_from : (ty : Ty) (n : ℕ) (ids : List TyId) → ((i : ℕ) (id : TyId) → slice_get ids i ≡ Some id → step_ty g.items (ToPart (n + i)) ty ≡ Some id) → Steps ty n ids
  steps_from ty n [] all = tt
  steps_from ty n (id ∷ ids) all =
      let start : n + 0 ≡ n = omega arith in (
        subst (λ (k : ℕ). step_ty g.items (ToPart k) ty ≡ Some id) start (all 0 id refl),
        steps_from ty (suc n) ids (λ i other e. let on : n + suc i ≡ suc n + i = omega arith in subst (λ (k : ℕ). step_ty g.items (ToPart k) ty ≡ Some other) on (all (suc i) other e)),
      )

  -- ---- tests and what names take
  abbrev Shaped : (PatternTests) → List BoundName → Type 0
  Shaped tests bounds = TestsOk tests × BoundsOk bounds

  abbrev Cells : List Entry → Type 0
  Cells = base.CellsOk g

  number_test : (id : ℕ) (ty : TyId) (value : ℤ) (place : Place) → Typed place ty → KeyIs id (bool_ty g.items) → types.is_number_of g.items ty value ≡ true → lines.OneTestOk F (base.wanted g) (IsNumber (record { node = id; place = place }) value (kind_of g.items ty))
  number_test id ty value place t k is = by (types.kind_of g.items ty) refl is
    where
      by : (o : Option IntKind) → types.kind_of g.items ty ≡ o → option_map_or (types.is_within value) o false ≡ true → lines.OneTestOk F (base.wanted g) (IsNumber (record { node = id; place = place }) value (kind_of g.items ty))
      by None e h = absurd (untrue h)
      by (Some kind) e h =
          let known = int_known g.items ty kind e in
          let same : kind_of g.items ty ≡ kind = simp (known) in
          subst (λ (z : IntKind). lines.OneTestOk F (base.wanted g) (IsNumber (record { node = id; place = place }) value z)) (sym same) (
            (
              typed_lines.number_compared g.items g.bodies (base.B g) _ _ (bool_ty g.items) ty value kind (base.key_at g id (bool_ty g.items) Ty.Bool k (bool_there id k))
                  (subst (λ (z : Ty). base.At g place ty z) (same_Some t.0 (Ty.Int kind) (sym t.1.known ∙ known)) t.1) h,
              refl,
            ),
            λ y n. (typed_lines.if_ok g.items g.bodies (base.B g) _ (bool_ty g.items) (base.key_at g id (bool_ty g.items) Ty.Bool k (bool_there id k)) y n, refl),
          )

  truth_test : (id : ℕ) (ty : TyId) (value : Bool) (place : Place) → Typed place ty → KeyIs id (bool_ty g.items) → types.is_bool g.items ty ≡ true → lines.OneTestOk F (base.wanted g) (IsTruth (record { node = id; place = place }) value)
  truth_test id ty value place t k is =
      let known = bool_known g.items ty is in (
        (
          typed_lines.truth_compared g.items g.bodies (base.B g) _ _ (bool_ty g.items) ty value (base.key_at g id (bool_ty g.items) Ty.Bool k (bool_there id k))
              (subst (λ (z : Ty). base.At g place ty z) (same_Some t.0 Ty.Bool (sym t.1.known ∙ known)) t.1),
          refl,
        ),
        λ y n. (typed_lines.if_ok g.items g.bodies (base.B g) _ (bool_ty g.items) (base.key_at g id (bool_ty g.items) Ty.Bool k (bool_there id k)) y n, refl),
      )

  -- a variant that an enum has
  variant_test_ok : (id : ℕ) (ty : TyId) (n v : ℕ) (place : Place) → Typed place ty → types.adt_of g.items ty ≡ Some n → types.is_enum g.items n ≡ true → nat_lt v (patterns.variant_count g.items n) ≡ true → (y m : ℕ) →
      base.TermOk g (Term.Case (build.place_of F (record { node = id; place = place })) v y m)
  variant_test_ok id ty n v place t e so less y m = by (slice_get g.items.adts n) refl so less
    where
      within : (xs : List Variant) (k : ℕ) → nat_lt k (length xs) ≡ true → (x : Variant) × (slice_get xs k ≡ Some x)
      within [] k h = absurd (let l = ltb-true k 0 h in let never : ⊥ = omega (l, arith) in never)
      within (x ∷ xs) k h = (slice_index_or (x ∷ xs) k x, slice_get-get_or (x ∷ xs) k x (ltb-true k (length (x ∷ xs)) h))

      by : (o : Option Adt) → slice_get g.items.adts n ≡ o → option_map_or (λ def. def.is_enum) o false ≡ true → nat_lt v (option_map_or (λ def. length def.variants) o 0) ≡ true →
          base.TermOk g (Term.Case (build.place_of F (record { node = id; place = place })) v y m)
      by None q h l = absurd (untrue h)
      by (Some adt) q h l =
          let x = within adt.variants v l in
          (typed_lines.case_ok g.items g.bodies (base.B g) _ ty n v adt x.0 (subst (λ (z : Ty). base.At g place ty z) (same_Some t.0 (Ty.Adt n) (sym t.1.known ∙ adt_known g.items ty n e)) t.1) q h x.1 y m, refl)

  variant_shaped : (x : Bool) (fields : Fields) (variant id : ℕ) (ty : TyId) (by : Option Use) (place : Place) → ((y m : ℕ) → base.TermOk g (Term.Case (build.place_of F (record { node = id; place = place })) variant y m)) →
      Shaped ((in_fields g.items fields (ToField variant)).tests place) ((in_fields g.items fields (ToField variant)).bindings place) →
      Shaped ((shape_of g.items (tree.VariantPattern variant x fields) (head id ty by)).tests place) ((shape_of g.items (tree.VariantPattern variant x fields) (head id ty by)).bindings place)
  variant_shaped true fields variant id ty by place t parts = ((t, parts.0), parts.1)
  variant_shaped false fields variant id ty by place t parts = parts

  zero_on : (i : ℕ) → 0 + i ≡ i
  zero_on i = let e : 0 + i ≡ i = omega arith in e

  tuple_steps : (id : TyId) (ty : Ty) → type_at g.items id ≡ Some ty → (tys : List TyId) → patterns.tuple_types g.items id ≡ Some tys → Steps ty 0 tys
  tuple_steps id ty e tys so = by (types.is_unit g.items id) so
    where
      by : (b : Bool) → (if b then Some [] else types.tuple_of g.items id) ≡ Some tys → Steps ty 0 tys
      by true d = subst (λ (z : List TyId). Steps ty 0 z) (same_Some [] tys d) tt
      by false d =
          let is = same_Some (Ty.Tuple tys) ty (sym (tuple_known g.items id tys d) ∙ e) in
          subst (λ (z : Ty). Steps z 0 tys) is (steps_from (Ty.Tuple tys) 0 tys (λ i j f. ap (λ (k : ℕ). slice_get tys k) (zero_on i) ∙ f))

  array_steps : (id : TyId) (ty : Ty) → type_at g.items id ≡ Some ty → (a : TyId × ℕ) → types.array_of g.items id ≡ Some a → Steps ty 0 (replicate a.1 a.0)
  array_steps id ty e a d =
      let is = same_Some (Ty.Array a.0 a.1) ty (sym (array_known g.items id a d) ∙ e) in
      subst (λ (z : Ty). Steps z 0 (replicate a.1 a.0)) is (steps_from (Ty.Array a.0 a.1) 0 (replicate a.1 a.0) (λ i j f. ap (λ (k : ℕ). slice_get (replicate a.1 a.0) k) (zero_on i) ∙ f))

  -- ---- what names take may be left gone, where the place that is taken apart may
  abbrev Frees : Bool → Place → Type 0
  Frees may place = may ≡ true → base.Left g place

  -- a name that takes its part
  may_take : (ty : TyId) (by : Option Use) (may : Bool) → scopes.is_by (scopes.taking g.items ty) by ≡ true → (is_copy g.items ty || (may && not (types.is_dyn g.items ty))) ≡ true → moves by ≡ true → may ≡ true
  may_take ty None may used so m = absurd (untrue m)
  may_take ty (Some Use.Copy) may used so m = absurd (untrue m)
  may_take ty (Some Use.Borrow) may used so m = absurd (untrue m)
  may_take ty (Some Use.BorrowMut) may used so m = absurd (untrue m)
  may_take ty (Some Use.Test) may used so m = absurd (untrue m)
  may_take ty (Some Use.Store) may used so m = absurd (untrue m)
  may_take ty (Some Use.Move) may used so m = copies (is_copy g.items ty) used so
    where
      copies : (b : Bool) → scopes.is_use (if b then Use.Copy else Use.Move) Use.Move ≡ true → (b || (may && not (types.is_dyn g.items ty))) ≡ true → may ≡ true
      copies true u t = absurd (untrue u)
      copies false u t = and_first may _ t

  -- a struct or an enum without a `Drop` impl does not hold its parts back
  lets_fields_go : (place : Place) (step : Step) (id : TyId) (n : ℕ) (may : Bool) → Typed place id → types.adt_of g.items id ≡ Some n → has_index (named_step (build.step_of F step) ∷ []) ≡ false → Frees may place → Frees (not (has_drop_impl g.items id) && may) (extended step place)
  lets_fields_go place step id n may t e no_index free w =
      let is = adt_known g.items id n e in
      let at = subst (λ (z : Ty). base.At g place id z) (same_Some t.0 (Ty.Adt n) (sym t.1.known ∙ is)) t.1 in
      base.left_on g place step id (Ty.Adt n) at no_index
      (drop_same (slice_get g.items.adts n) ∙ sym (ap (λ (o : Option Ty). option_map_or (ty_has_drop_impl g.items) o false) is) ∙ base.not_true (has_drop_impl g.items id) (and_first _ _ w))
      (free (and_second (not (has_drop_impl g.items id)) may w))
    where
      body_same : (o : Option ℕ) → is_some (with_drop_body n o) ≡ is_some o
      body_same None = refl
      body_same (Some body) = refl

      drop_same : (o : Option Adt) → is_some (with_drop_body n (option_map_or (λ (adt : Adt). adt.drop_body) o None)) ≡ adt_has_drop_impl o
      drop_same None = refl
      drop_same (Some adt) = body_same adt.drop_body

  tuple_lets_go : (id : TyId) (ty : Ty) → type_at g.items id ≡ Some ty → (tys : List TyId) → patterns.tuple_types g.items id ≡ Some tys → base.holds_back g (Some ty) ≡ false
  tuple_lets_go id ty e tys so = on (types.is_unit g.items id) refl so
    where
      on : (b : Bool) → types.is_unit g.items id ≡ b → (if b then Some [] else types.tuple_of g.items id) ≡ Some tys → base.holds_back g (Some ty) ≡ false
      on true u d = subst (λ (z : Ty). base.holds_back g (Some z) ≡ false) (same_Some Ty.Unit ty (sym (unit_known g.items id u) ∙ e)) refl
      on false u d = subst (λ (z : Ty). base.holds_back g (Some z) ≡ false) (same_Some (Ty.Tuple tys) ty (sym (tuple_known g.items id tys d) ∙ e)) refl

  array_lets_go : (id : TyId) (ty : Ty) → type_at g.items id ≡ Some ty → (a : TyId × ℕ) → types.array_of g.items id ≡ Some a → base.holds_back g (Some ty) ≡ false
  array_lets_go id ty e a d = subst (λ (z : Ty). base.holds_back g (Some z) ≡ false) (same_Some (Ty.Array a.0 a.1) ty (sym (array_known g.items id a d) ∙ e)) refl

  mutual
    pub pattern_ok : (p : Node) (m : Matched) (want : TyId) → Holds (patterns.pattern g.items m want p) → Cells (cells g.items true p) → (place : Place) → Typed place want → Frees m.may_move place → Shaped ((shape g.items p).tests place) ((shape g.items p).bindings place)
    pattern_ok (tree.node id at ty by form) m want h c place t free = row_ok form id ty by m h.1 c place (subst (λ (z : TyId). Typed place z) (sym (same_id ty want h.0)) t) free

    row_ok : (form : Form) (id : ℕ) (ty : TyId) (by : Option Use) (m : Matched) → Holds (patterns.pattern_row g.items m ty by form) → Cells (cells g.items true (tree.node id record { line = 0; col = 0 } ty by form)) → (place : Place) → Typed place ty → Frees m.may_move place →
        Shaped ((shape_of g.items form (head id ty by)).tests place) ((shape_of g.items form (head id ty by)).bindings place)
    row_ok tree.Wildcard id ty by m h c place t free = (tt, tt)
    row_ok (tree.Binding name) id ty by m h c place t free = (tt, ((base.by_never g ty (λ v. (rw v at c).0) (λ v. (rw v at c).0), t, λ w. free (may_take ty by m.may_move h.0 h.1 w)), tt))
    row_ok (tree.NumberPattern value) id ty by m h c place t free = ((number_test id ty value place t (base.by_never g ty (λ v. absurd (number_made v h.1)) (λ v. (rw v at c).0)) h.1, tt), tt)
      where
        number_made : base.Never g ty → types.is_number_of g.items ty value ≡ true → ⊥
        number_made v is = let e = never_known g.items ty v in untrue (rw e at is)
    row_ok (tree.TruthPattern value) id ty by m h c place t free = ((truth_test id ty value place t (base.by_never g ty (λ v. absurd (truth_made v h.1)) (λ v. (rw v at c).0)) h.1, tt), tt)
      where
        truth_made : base.Never g ty → types.is_bool g.items ty ≡ true → ⊥
        truth_made v is = let e = never_known g.items ty v in untrue (rw e at is)
    row_ok (tree.StructPattern fields) id ty by m h c place t free =
        let n = found (types.adt_of g.items ty) _ h.1.0 in
        fields_ok fields _ ty 0 ToPart h.1.1.1 (base.cells_second g _ (cells_of_fields g.items fields) c) place (struct_leads place ty n.0 t n.1 (base.not_true (types.is_enum g.items n.0) n.2)) (λ k. lets_fields_go place (ToPart k) ty n.0 m.may_move t n.1 refl free)
    row_ok (tree.VariantPattern variant is_test fields) id ty by m h c place t free =
        let n = found (types.adt_of g.items ty) _ h.1.0 in
        let so = and_first (types.is_enum g.items n.0) _ n.2.0 in
        variant_shaped is_test fields variant id ty by place (variant_test_ok id ty n.0 variant place t n.1 so (and_second (types.is_enum g.items n.0) _ n.2.0))
        (fields_ok fields _ ty variant (ToField variant) h.1.1.1 (base.cells_second g _ (cells_of_fields g.items fields) c) place (variant_leads place ty n.0 variant t n.1 so) (λ k. lets_fields_go place (ToField variant k) ty n.0 m.may_move t n.1 refl free))
    row_ok (tree.TuplePattern parts) id ty by m h c place t free =
        let tys = found (patterns.tuple_types g.items ty) _ h.1 in
        parts_ok parts m tys.0 0 t.0 ty tys.2 (base.cells_second g _ (all_cells g.items parts) c) place t.1 (tuple_steps ty t.0 t.1.known tys.0 tys.1) (tuple_lets_go ty t.0 t.1.known tys.0 tys.1) free
    row_ok (tree.ArrayPattern elements) id ty by m h c place t free =
        let a = found (types.array_of g.items ty) _ h.1 in
        parts_ok elements m (replicate a.0.1 a.0.0) 0 t.0 ty a.2 (base.cells_second g _ (all_cells g.items elements) c) place t.1 (array_steps ty t.0 t.1.known a.0 a.1) (array_lets_go ty t.0 t.1.known a.0 a.1) free
    row_ok (tree.OrPattern alternatives) id ty by m h c place t free = ((any_ok alternatives m ty h.1.1 (base.cells_second g _ (all_cells g.items alternatives) c) place t free, tt), tt)
    row_ok other id ty by m h c place t free = absurd (untrue h)

    fields_ok : (fs : Fields) (m : Matched) (ty : TyId) (v : ℕ) (step : ℕ → Step) → Holds (patterns.field_patterns g.items m ty v fs) → Cells (cells_of_fields g.items fs) → (place : Place) → LeadTo step v place ty → ((n : ℕ) → Frees m.may_move (extended (step n) place)) →
        Shaped ((in_fields g.items fs step).tests place) ((in_fields g.items fs step).bindings place)
    fields_ok no_field m ty v step h c place leads free = (tt, tt)
    fields_ok (a_field number value rest) m ty v step h c place leads free =
        let want = found (field_ty g.items ty v number) _ h.0 in
        let p = pattern_ok value m want.0 want.2 (base.cells_first g (cells g.items true value) (cells_of_fields g.items rest) c) (extended (step number) place) (leads number want.0 want.1) (free number) in
        let q = fields_ok rest m ty v step h.1 (base.cells_second g (cells g.items true value) (cells_of_fields g.items rest) c) place leads free in
        (followed_ok _ _ p.0 q.0, bounds_append _ _ p.1 q.1)

    parts_ok : (ns : Nodes) (m : Matched) (tys : List TyId) (n : ℕ) (ty : Ty) (id : TyId) → Holds (patterns.part_patterns g.items m tys ns) → Cells (all_cells g.items ns) → (place : Place) → base.At g place id ty → Steps ty n tys → base.holds_back g (Some ty) ≡ false → Frees m.may_move place →
        Shaped ((in_parts g.items ns n).tests place) ((in_parts g.items ns n).bindings place)
    parts_ok no_node m tys n ty id h c place t steps out free = (tt, tt)
    parts_ok (a_node first rest) m [] n ty id h c place t steps out free = absurd (untrue h)
    parts_ok (a_node first rest) m (want ∷ tys) n ty id h c place t steps out free =
        let p = pattern_ok first m want h.0 (base.cells_first g (cells g.items true first) (all_cells g.items rest) c) (extended (ToPart n) place) (part_typed place n id ty want t steps.0) (λ w. base.left_on g place (ToPart n) id ty t refl out (free w)) in
        let q = parts_ok rest m tys (suc n) ty id h.1 (base.cells_second g (cells g.items true first) (all_cells g.items rest) c) place t steps.1 out free in
        (followed_ok _ _ p.0 q.0, bounds_append _ _ p.1 q.1)

    any_ok : (ns : Nodes) (m : Matched) (ty : TyId) → Holds (patterns.each_pattern g.items m ty ns) → Cells (all_cells g.items ns) → (place : Place) → Typed place ty → Frees m.may_move place → lines.AnyTestsOk F (base.wanted g) (alternatives_at g.items ns place)
    any_ok no_node m ty h c place t free = tt
    any_ok (a_node first rest) m ty h c place t free = (
      (pattern_ok first m ty h.0 (base.cells_first g (cells g.items true first) (all_cells g.items rest) c) place t free).0,
      any_ok rest m ty h.1 (base.cells_second g (cells g.items true first) (all_cells g.items rest) c) place t free,
    )
