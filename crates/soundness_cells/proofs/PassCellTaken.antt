-- The names and the tests of a pattern that is matched with a place: what they do is of the right types, since each part
-- of the place is of the type of its pattern.
use Rattle.std.proofs.Common.{◌≡◌, ℕ, zero, suc, ◌&&◌, ◌||◌, not, Bool, true, false, List, [], ◌∷◌, ◌++◌, Option, Some, None, if◌then◌else◌, refl, ap, sym, ◌∙◌, subst}
use Rattle.std.specs.Prelude.{slice_get, option_and_then, replicate}
use Rattle.std.specs.List.{list_all}
use Rattle.std.specs.Option.{option_map_or}
use Rattle.std.proofs.lemmas.Bool.{false≢true}
use Rattle.std.proofs.lemmas.Bool.Decides.{Decides-eqb}
use Rattle.std.proofs.lemmas.Option.{none-some, same_Some}
use Rattle.mir_base.specs.declared.int_kind.IntKind.{IntKind}
use Rattle.mir_base.specs.declared.operator.Cmp.{Cmp}
use Rattle.mir_base.specs.declared.place_in_text.Pos.{Pos}
use Rattle.mir_ty.specs.declared.ty.Ty.{Ty}
use Rattle.mir_ty.specs.declared.ty.TyId.{TyId}
use Rattle.mir_ty.specs.Facts.{has_drop_impl, needs_drop}
use Rattle.mir_ty.specs.ItemTable.{ItemTable, type_at}
use Rattle.mir_ty.specs.Parts.{field_ty, parts_of}
use Rattle.store_model.specs.Effects as effects
use Rattle.store_model.specs.Effects.{EffectSite, Operand}
use Rattle.store_model.specs.Places.Place as places
use Rattle.store_model.specs.Places.Place.{Step, ToPart, ToField, Place, step_ty, is_reference}
use Rattle.store_model.specs.Places.TypeForms as type_forms
use Rattle.typed_tree.specs.declared.node.Use.{Use}
use Rattle.typed_tree.specs.Tree as tree
use Rattle.typed_tree.specs.Tree.{Node, node, Form, Nodes, no_node, a_node, Fields, no_field, a_field, BodyTree}
use Rattle.src_meaning.specs.Forms.{moved, site_of_key}
use Rattle.src_meaning.specs.Locals.OfBody.{cells, all_cells, cells_of_fields, bool_ty}
use Rattle.src_meaning.specs.Shape as shapes
use Rattle.src_meaning.specs.Shape.{BoundName, PatternTests, no_test, a_test, Alternatives, followed_by, copied_or_moved, moves, head, site_at, extended, kind_of, shape, shape_of}
use Rattle.well_typed.specs.Claim.{Holds, fact, both}
use Rattle.well_typed.specs.Items.{stands_alone}
use Rattle.well_typed.specs.Nodes as typing
use Rattle.well_typed.specs.Patterns as patterns
use Rattle.well_typed.specs.Patterns.{Matched}
use Rattle.well_typed.specs.Types as types
use Rattle.soundness_cells.proofs.PassCellActs as acts
use Rattle.soundness_cells.proofs.PassCellActs.{Cell}
use Rattle.soundness_cells.proofs.PassCellCopies.{copied_use}
use Rattle.soundness_cells.proofs.PassCellEffects.{marked_run, may_end, Acts, Tests, Drops, Made, does_well}
use Rattle.soundness_cells.proofs.PassCellNames.{Names, PlaceOk, BoundsPlaced, further_ok, goes}
use Rattle.soundness_cells.proofs.PassCellNodes as nodes
use Rattle.soundness_cells.proofs.PassCellNodes.{May}
use Rattle.soundness_cells.proofs.PassCellPatterns.{Told, Has, inside, has_left, has_right, own_cell, name_cell}
use Rattle.soundness_cells.proofs.PassCellSites as sites
use Rattle.soundness_cells.proofs.PassCellTypes as facts
use Rattle.soundness_cells.proofs.PassCellTypes.{Alone}
use Rattle.soundness_cells.proofs.PassWellBranches as branches
use Rattle.soundness_values.proofs.PlaceTypes.{some_holds, same_type, field_step}

-- ---- steps of patterns

-- one number on from another, so many times
abbrev pub from_number : ℕ → ℕ → ℕ
from_number zero n = n
from_number (suc j) n = from_number j (suc n)

from_zero : (j n : ℕ) → from_number j (suc n) ≡ suc (from_number j n)
from_zero zero n = refl
from_zero (suc j) n = from_zero j (suc n)

from_first : (j : ℕ) → from_number j 0 ≡ j
from_first zero = refl
from_first (suc j) = from_zero j 0 ∙ ap suc (from_first j)

same_kinds : (a b : IntKind) → type_forms.same_kind a b ≡ true → type_forms.same_kind b a ≡ true
same_kinds IntKind.I32 IntKind.I32 e = refl
same_kinds IntKind.I64 IntKind.I64 e = refl
same_kinds IntKind.U32 IntKind.U32 e = refl
same_kinds IntKind.U64 IntKind.U64 e = refl
same_kinds IntKind.Usize IntKind.Usize e = refl
same_kinds a b e = absurd (false≢true e)

-- a number is compared with a literal of its kind, a truth with a truth
number_compared : (kind : IntKind) (o : Option Ty) → type_forms.is_int kind o ≡ true →
    type_forms.are_compared o (Some (Ty.Int kind)) ≡ true
number_compared kind (Some (Ty.Int other)) e = first (type_forms.same_kind other kind) _ (same_kinds kind other e)
  where
    first : (a b : Bool) → a ≡ true → (a || b) ≡ true
    first true b e = refl
    first false b e = absurd (false≢true e)
number_compared kind None e = absurd (false≢true e)
number_compared kind (Some ty) e = absurd (false≢true e)

truth_compared : (o : Option Ty) → type_forms.is_bool o ≡ true → type_forms.are_compared o (Some Ty.Bool) ≡ true
truth_compared (Some Ty.Bool) e = refl
truth_compared None e = absurd (false≢true e)
truth_compared (Some ty) e = absurd (false≢true e)

module _ (items : ItemTable) where
  number_scalar : (kind : IntKind) (o : Option Ty) → type_forms.is_int kind o ≡ true →
      facts.is_plain_scalar items o ≡ true
  number_scalar kind None e = refl
  number_scalar kind (Some (Ty.Int other)) e = refl
  number_scalar kind (Some ty) e = absurd (false≢true e)

  truth_scalar : (o : Option Ty) → type_forms.is_bool o ≡ true → facts.is_plain_scalar items o ≡ true
  truth_scalar None e = refl
  truth_scalar (Some Ty.Bool) e = refl
  truth_scalar (Some ty) e = absurd (false≢true e)

  -- the fields of a struct
  pub struct_goes : (ty : TyId) (n : ℕ) → types.adt_of items ty ≡ Some n → not (types.is_enum items n) ≡ true → (k : ℕ)
      (t : TyId) → field_ty items ty 0 k ≡ Some t → option_and_then (step_ty items (ToPart k)) (type_at items ty) ≡ Some t
  struct_goes ty n a e k t f = field_step items ty t k (by (type_at items ty) a) f
    where
      same : (m : ℕ) → Some m ≡ Some n → not (types.is_enum items m) ≡ true
      same m x = subst (λ i. not (types.is_enum items i) ≡ true) (sym (same_Some m n x)) e

      by : (o : Option Ty) → option_and_then types.adt_in o ≡ Some n →
          option_map_or (types.fields_in items) o false ≡ true
      by None x = absurd (none-some n x)
      by (Some (Ty.Adt m)) x = same m x
      by (Some ty) x = absurd (none-some n x)

  -- the fields of a variant
  is_enum_by : (o : Option Ty) (n : ℕ) → option_and_then types.adt_in o ≡ Some n → types.is_enum items n ≡ true →
      option_map_or (λ ty. places.is_enum items ty) o false ≡ true
  is_enum_by None n x e = absurd (none-some n x)
  is_enum_by (Some (Ty.Adt m)) n x e = subst (λ i. types.is_enum items i ≡ true) (sym (same_Some m n x)) e
  is_enum_by (Some ty) n x e = absurd (none-some n x)

  pub variant_goes : (ty : TyId) (variant : ℕ) → option_map_or (λ ty. places.is_enum items ty) (type_at items ty) false ≡ true →
      (k : ℕ) (t : TyId) → field_ty items ty variant k ≡ Some t →
      option_and_then (step_ty items (ToField variant k)) (type_at items ty) ≡ Some t
  variant_goes ty variant e k t f = by (type_at items ty) e f
    where
      by : (o : Option Ty) → option_map_or (λ ty. places.is_enum items ty) o false ≡ true →
          option_and_then (λ ty. slice_get (parts_of items ty variant) k) o ≡ Some t →
          option_and_then (step_ty items (ToField variant k)) o ≡ Some t
      by None e f = absurd (none-some t f)
      by (Some ty) e f = ap (λ b. places.part_if b (slice_get (parts_of items ty variant) k)) e ∙ f

  -- the parts of a tuple, of which `()` has none, and of an array
  pub tuple_goes : (ty : TyId) (tys : List TyId) → (b : Bool) →
      (if b then Some [] else types.tuple_of items ty) ≡ Some tys → (j : ℕ) (t : TyId) → slice_get tys j ≡ Some t →
      option_and_then (step_ty items (ToPart (from_number j 0))) (type_at items ty) ≡ Some t
  tuple_goes ty tys true e j t f =
      let none : [] ≡ tys = cc in absurd (none-some t (ap (λ l. slice_get l j) none ∙ f))
  tuple_goes ty tys false e j t f = subst (λ k. option_and_then (step_ty items (ToPart k)) (type_at items ty) ≡ Some t)
      (sym (from_first j)) (by (type_at items ty) e)
    where
      by : (o : Option Ty) → option_and_then types.tuple_in o ≡ Some tys →
          option_and_then (step_ty items (ToPart j)) o ≡ Some t
      by None x = absurd (none-some tys x)
      by (Some (Ty.Tuple parts)) x = let same : parts ≡ tys = cc in ap (λ l. slice_get l j) same ∙ f
      by (Some ty) x = absurd (none-some tys x)

  pub array_goes : (ty : TyId) (a : TyId × ℕ) → types.array_of items ty ≡ Some a → (j : ℕ) (t : TyId) →
      slice_get (replicate a.1 a.0) j ≡ Some t →
      option_and_then (step_ty items (ToPart (from_number j 0))) (type_at items ty) ≡ Some t
  array_goes ty a e j t f = subst (λ k. option_and_then (step_ty items (ToPart k)) (type_at items ty) ≡ Some t)
      (sym (from_first j)) (subst (λ o. option_and_then (step_ty items (ToPart j)) o ≡ Some t)
      (sym (facts.array_by (type_at items ty) a e).0) f)

module _ (items : ItemTable) (body : BodyTree) where
  abbrev pub BoundsOk : List BoundName → Type 0
  BoundsOk = branches.BoundsOk items (marked_run items body) may_end (Acts items body) (Tests items body)
      (Drops items body) (Made items body) (does_well items body) (Cell items body) (May items body) (Names items body)

  abbrev pub TestsOk : PatternTests → Type 0
  TestsOk = branches.TestsOk items (marked_run items body) may_end (Acts items body) (Tests items body)
      (Drops items body) (Made items body) (does_well items body) (Cell items body) (May items body) (Names items body)

  abbrev pub AnyOk : Alternatives → Type 0
  AnyOk = branches.AnyOk items (marked_run items body) may_end (Acts items body) (Tests items body) (Drops items body)
      (Made items body) (does_well items body) (Cell items body) (May items body) (Names items body)

  pub both_bounds : (a b : List BoundName) → BoundsOk a → BoundsOk b → BoundsOk (a ++ b)
  both_bounds [] b h k = k
  both_bounds (x ∷ a) b h k = (h.0, both_bounds a b h.1 k)

  pub both_tests : (a b : PatternTests) → TestsOk a → TestsOk b → TestsOk (followed_by a b)
  both_tests no_test b h k = k
  both_tests (a_test test rest) b h k = (h.0, both_tests rest b h.1 k)

  -- each name takes a part of its type
  abbrev pub AllTaken : List BoundName → Type 0
  AllTaken [] = Unit {0}
  AllTaken (b ∷ bounds) =
      (Cell items body b.key b.ty × (Alone items b.ty × ((b.takes ≡ false → needs_drop items b.ty ≡ false)
      × PlaceOk items body b.ty b.site.place))) × AllTaken bounds

  both_taken : (a b : List BoundName) → AllTaken a → AllTaken b → AllTaken (a ++ b)
  both_taken [] b f g = g
  both_taken (x ∷ a) b f g = (f.0, both_taken a b f.1 g)

  put_bound : (b : Bool) (key : ℕ) (site : EffectSite) (id : TyId) → Cell items body key id → Alone items id →
      (b ≡ false → needs_drop items id ≡ false) → PlaceOk items body id site.place →
      Acts items body (effects.Put (site_of_key key) (copied_or_moved b site))
  put_bound true key site id c a u p = sites.put_moved items body key key site id c a p
  put_bound false key site id c a u p = sites.put_copied items body key key site id c a (u refl) p

  pub taken_ok : (bounds : List BoundName) → AllTaken bounds → BoundsOk bounds
  taken_ok [] t = tt
  taken_ok (b ∷ bounds) t = (
    (
      put_bound b.takes b.key b.site b.ty t.0.0 t.0.1.0 t.0.1.1.0 t.0.1.1.1,
      nodes.droppable items body (record { key = b.key; ty = b.ty }) t.0.0,
    ),
    taken_ok bounds t.1,
  )

  pub taken_placed : (bounds : List BoundName) → AllTaken bounds → BoundsPlaced items body bounds
  taken_placed [] t = tt
  taken_placed (b ∷ bounds) t = (
    (
      t.0.0,
      (
        facts.is_false (is_reference (type_at items b.ty))
            (facts.left_of (not (is_reference (type_at items b.ty))) _ t.0.1.0),
        t.0.1.1.1,
      ),
    ),
    taken_placed bounds t.1,
  )

  module _ (told : Told items) where
    pub plain_part : (ty : TyId) (tys : List TyId) → list_all (stands_alone items) (ty ∷ tys) ≡ true →
        (types.is_reference items ty ≡ false) × (list_all (stands_alone items) tys ≡ true)
    plain_part ty tys h = (
      facts.is_false (types.is_reference items ty) (facts.right_of _ _ (facts.right_of _ _
          (facts.left_of (stands_alone items ty) (list_all (stands_alone items) tys) h))),
      facts.right_of (stands_alone items ty) (list_all (stands_alone items) tys) h,
    )

    pub all_alike : (ty : TyId) (n : ℕ) → stands_alone items ty ≡ true → list_all (stands_alone items) (replicate n ty) ≡ true
    all_alike ty zero h = refl
    all_alike ty (suc n) h = ap (λ b. b && list_all (stands_alone items) (replicate n ty)) h ∙ all_alike ty n h

    pub tuple_plain : (b : Bool) (ty : TyId) (tys : List TyId) →
        (if b then Some [] else types.tuple_of items ty) ≡ Some tys → list_all (stands_alone items) tys ≡ true
    tuple_plain true ty tys e =
        let same : [] ≡ tys = cc in subst (λ l. list_all (stands_alone items) l ≡ true) same refl
    tuple_plain false ty tys e = told.tuples ty tys e

    -- the steps from a place of a type to parts of these types
    abbrev pub Goes : (ℕ → Option TyId) → (ℕ → Step) → TyId → Type 0
    Goes part step ty = (k : ℕ) (t : TyId) → part k ≡ Some t →
        (option_and_then (step_ty items (step k)) (type_at items ty) ≡ Some t)
        × (goes (step k) (type_at items ty) ≡ true)

    -- what a pattern of an enum says of its type
    pub enum_of : (ty : TyId) (variant : ℕ) (q : ℕ → Bool) →
        Holds (Rattle.well_typed.specs.Claim.some (types.adt_of items ty)
        (λ n. both (fact (types.is_enum items n && Rattle.std.specs.Prelude.nat_lt variant (patterns.variant_count items n))) (fact (q n)))) →
        option_map_or (λ ty. places.is_enum items ty) (type_at items ty) false ≡ true
    enum_of ty variant q h =
        let n = some_holds (types.adt_of items ty)
        (λ n. both (fact (types.is_enum items n && Rattle.std.specs.Prelude.nat_lt variant (patterns.variant_count items n))) (fact (q n))) h in
        is_enum_by items (type_at items ty) n.0 n.1.0
        (facts.left_of (types.is_enum items n.0) _ n.1.1.0)

    mutual
      -- the names of a pattern for a place that holds no reference
      pub names_taken : (p : Node) (m : Matched) (want : TyId) → Holds (patterns.pattern items m want p) →
          (typing.is_one_name p ≡ true → types.is_reference items want ≡ false) → Has items body (cells items true p) →
          (place : Place) → PlaceOk items body want place → AllTaken ((shape items p).bindings place)
      names_taken (node id at ty by form) m want h r k place pl =
          form_names form m id at ty by h.1 (λ e. ap (types.is_reference items) (same_type ty want h.0) ∙ r e) k place
          (subst (λ t. PlaceOk items body t place) (sym (same_type ty want h.0)) pl)

      form_names : (form : Form) (m : Matched) (id : ℕ) (at : Pos) (ty : TyId) (by : Option Use) →
          Holds (patterns.pattern_row items m ty by form) →
          (typing.is_one_name (node id at ty by form) ≡ true → types.is_reference items ty ≡ false) →
          Has items body (cells items true (node id at ty by form)) → (place : Place) → PlaceOk items body ty place →
          AllTaken ((shape_of items form (head id ty by)).bindings place)
      form_names (tree.Binding name) m id at ty by h r k place pl = (
        (
          name_cell items body told id at ty by name k,
          (
            facts.used_alone items ty m.may_move h.1 (ap not (r refl)),
            ((λ e. told.copies ty (copied_use items ty by h.0 e)), pl),
          ),
        ),
        tt,
      )
      form_names (tree.StructPattern fields) m id at ty by h r k place pl =
          let n = some_holds (types.adt_of items ty) (λ n. fact (not (types.is_enum items n))) h.1.0 in
          fields_names fields _ ty 0 ToPart h.1.1.1
          (inside items body true (node id at ty by (tree.StructPattern fields)) k) place pl
          (λ j t e. (struct_goes items ty n.0 n.1.0 n.1.1 j t e, refl))
      form_names (tree.VariantPattern variant is_test fields) m id at ty by h r k place pl =
          fields_names fields _ ty variant (ToField variant) h.1.1.1
          (inside items body true (node id at ty by (tree.VariantPattern variant is_test fields)) k) place pl
          (λ j t e. (variant_goes items ty variant (enum_of ty variant _ h.1.0) j t e, refl))
      form_names (tree.TuplePattern parts) m id at ty by h r k place pl =
          let t = some_holds (patterns.tuple_types items ty) (λ tys. patterns.part_patterns items m tys parts) h.1 in
          parts_names parts m t.0 0 ty t.1.1 (tuple_plain (types.is_unit items ty) ty t.0 t.1.0)
          (inside items body true (node id at ty by (tree.TuplePattern parts)) k) place pl
          (λ j u e. (tuple_goes items ty t.0 (types.is_unit items ty) t.1.0 j u e, refl))
      form_names (tree.ArrayPattern elements) m id at ty by h r k place pl =
          let t = some_holds (types.array_of items ty)
          (λ a. patterns.part_patterns items m (replicate a.1 a.0) elements) h.1 in
          parts_names elements m (replicate t.0.1 t.0.0) 0 ty t.1.1
          (all_alike t.0.0 t.0.1 (told.arrays ty t.0 t.1.0))
          (inside items body true (node id at ty by (tree.ArrayPattern elements)) k) place pl
          (λ j u e. (array_goes items ty t.0 t.1.0 j u e, refl))
      form_names form m id at ty by h r k place pl = tt

      fields_names : (fs : Fields) (m : Matched) (ty : TyId) (variant : ℕ) (step : ℕ → Step) →
          Holds (patterns.field_patterns items m ty variant fs) → Has items body (cells_of_fields items fs) →
          (place : Place) → PlaceOk items body ty place → Goes (field_ty items ty variant) step ty →
          AllTaken ((shapes.in_fields items fs step).bindings place)
      fields_names no_field m ty variant step h k place pl g = tt
      fields_names (a_field number value rest) m ty variant step h k place pl g =
          let t = some_holds (field_ty items ty variant number) (λ want. patterns.pattern items m want value) h.0 in
          let s = g number t.0 t.1.0 in
          both_taken ((shape items value).bindings (extended (step number) place))
          ((shapes.in_fields items rest step).bindings place)
          (names_taken value m t.0 t.1.1 (λ e. told.fields ty variant number t.0 t.1.0)
          (has_left items body (cells items true value) (cells_of_fields items rest) k) (extended (step number) place)
          (further_ok items body ty t.0 place (step number) pl s.0 s.1))
          (fields_names rest m ty variant step h.1
          (has_right items body (cells items true value) (cells_of_fields items rest) k) place pl g)

      parts_names : (ns : Nodes) (m : Matched) (tys : List TyId) (n : ℕ) (ty : TyId) →
          Holds (patterns.part_patterns items m tys ns) → list_all (stands_alone items) tys ≡ true →
          Has items body (all_cells items ns) → (place : Place) → PlaceOk items body ty place →
          Goes (slice_get tys) (λ j. ToPart (from_number j n)) ty →
          AllTaken ((shapes.in_parts items ns n).bindings place)
      parts_names no_node m tys n ty h p k place pl g = tt
      parts_names (a_node one rest) m [] n ty h p k place pl g = absurd (false≢true h)
      parts_names (a_node one rest) m (t ∷ tys) n ty h p k place pl g =
          let s = g 0 t refl in
          both_taken ((shape items one).bindings (extended (ToPart n) place))
          ((shapes.in_parts items rest (suc n)).bindings place)
          (names_taken one m t h.0 (λ e. (plain_part t tys p).0)
          (has_left items body (cells items true one) (all_cells items rest) k)
          (extended (ToPart n) place) (further_ok items body ty t place (ToPart n) pl s.0 s.1))
          (parts_names rest m tys (suc n) ty h.1 (plain_part t tys p).1
          (has_right items body (cells items true one) (all_cells items rest) k) place pl
          (λ j u e. g (suc j) u e))

    -- ---- the tests of patterns

    bool_alone : Alone items (bool_ty items)
    bool_alone = by (type_at items (bool_ty items)) told.truth
      where
        by : (o : Option Ty) → type_forms.is_bool o ≡ true → facts.Plain o
        by (Some Ty.Bool) e = refl
        by None e = absurd (false≢true e)
        by (Some ty) e = absurd (false≢true e)

    true_test : (id : ℕ) → Cell items body id (bool_ty items) → Tests items body (effects.IsTrue (moved id id))
    true_test id c = acts.is_true items body id id (bool_ty items) c bool_alone told.truth

    mutual
      pub tests_ok : (p : Node) (m : Matched) (want : TyId) → Holds (patterns.pattern items m want p) →
          Has items body (cells items true p) → (place : Place) → PlaceOk items body want place →
          TestsOk ((shape items p).tests place)
      tests_ok (node id at ty by form) m want h k place pl = form_tests form m id at ty by h.1 k place
          (subst (λ t. PlaceOk items body t place) (sym (same_type ty want h.0)) pl)

      form_tests : (form : Form) (m : Matched) (id : ℕ) (at : Pos) (ty : TyId) (by : Option Use) →
          Holds (patterns.pattern_row items m ty by form) → Has items body (cells items true (node id at ty by form)) →
          (place : Place) → PlaceOk items body ty place → TestsOk ((shape_of items form (head id ty by)).tests place)
      form_tests (tree.NumberPattern value) m id at ty by h k place pl =
          let n = facts.number_is items ty value h.1 in
          let c = own_cell items body id at ty by (tree.NumberPattern value) refl k n.1.1.1 in (
            (
              sites.tests_into items body id (site_at (head id ty by) place) (effects.Number value (kind_of items ty))
                  (bool_ty items) ty c bool_alone told.truth pl n.1.1.0
                  (facts.scalar_undropped items ty (number_scalar items (kind_of items ty) (type_at items ty) n.0)) n.1.0
                  (number_compared (kind_of items ty) (type_at items ty) n.0),
              true_test id c,
            ),
            tt,
          )
      form_tests (tree.TruthPattern value) m id at ty by h k place pl =
          let n = facts.bool_is items ty h.1 in
          let c = own_cell items body id at ty by (tree.TruthPattern value) refl k n.1.1 in (
            (
              sites.tests_into items body id (site_at (head id ty by) place) (effects.Truth value) (bool_ty items) ty c
                  bool_alone told.truth pl n.1.0 (facts.scalar_undropped items ty (truth_scalar items (type_at items ty) n.0)) refl
                  (truth_compared (type_at items ty) n.0),
              true_test id c,
            ),
            tt,
          )
      form_tests (tree.StructPattern fields) m id at ty by h k place pl =
          let n = some_holds (types.adt_of items ty) (λ n. fact (not (types.is_enum items n))) h.1.0 in
          fields_tests fields _ ty 0 ToPart h.1.1.1
          (inside items body true (node id at ty by (tree.StructPattern fields)) k) place pl
          (λ j t e. (struct_goes items ty n.0 n.1.0 n.1.1 j t e, refl))
      form_tests (tree.VariantPattern variant true fields) m id at ty by h k place pl =
          let e = enum_of ty variant _ h.1.0 in (
            sites.has_variant_tests items body (site_at (head id ty by) place) variant ty pl e,
            fields_tests fields _ ty variant (ToField variant) h.1.1.1
                (inside items body true (node id at ty by (tree.VariantPattern variant true fields)) k) place pl
                (λ j t f. (variant_goes items ty variant e j t f, refl)),
          )
      form_tests (tree.VariantPattern variant false fields) m id at ty by h k place pl =
          fields_tests fields _ ty variant (ToField variant) h.1.1.1
          (inside items body true (node id at ty by (tree.VariantPattern variant false fields)) k) place pl
          (λ j t f. (variant_goes items ty variant (enum_of ty variant _ h.1.0) j t f, refl))
      form_tests (tree.TuplePattern parts) m id at ty by h k place pl =
          let t = some_holds (patterns.tuple_types items ty) (λ tys. patterns.part_patterns items m tys parts) h.1 in
          parts_tests parts m t.0 0 ty t.1.1 (inside items body true (node id at ty by (tree.TuplePattern parts)) k) place
          pl (λ j u e. (tuple_goes items ty t.0 (types.is_unit items ty) t.1.0 j u e, refl))
      form_tests (tree.ArrayPattern elements) m id at ty by h k place pl =
          let t = some_holds (types.array_of items ty)
          (λ a. patterns.part_patterns items m (replicate a.1 a.0) elements) h.1 in
          parts_tests elements m (replicate t.0.1 t.0.0) 0 ty t.1.1
          (inside items body true (node id at ty by (tree.ArrayPattern elements)) k) place pl
          (λ j u e. (array_goes items ty t.0 t.1.0 j u e, refl))
      form_tests (tree.OrPattern alternatives) m id at ty by h k place pl = (
        any_ok alternatives m ty h.1.1 (inside items body true (node id at ty by (tree.OrPattern alternatives)) k)
            place pl,
        tt,
      )
      form_tests form m id at ty by h k place pl = tt

      fields_tests : (fs : Fields) (m : Matched) (ty : TyId) (variant : ℕ) (step : ℕ → Step) →
          Holds (patterns.field_patterns items m ty variant fs) → Has items body (cells_of_fields items fs) →
          (place : Place) → PlaceOk items body ty place → Goes (field_ty items ty variant) step ty →
          TestsOk ((shapes.in_fields items fs step).tests place)
      fields_tests no_field m ty variant step h k place pl g = tt
      fields_tests (a_field number value rest) m ty variant step h k place pl g =
          let t = some_holds (field_ty items ty variant number) (λ want. patterns.pattern items m want value) h.0 in
          let s = g number t.0 t.1.0 in
          both_tests ((shape items value).tests (extended (step number) place))
          ((shapes.in_fields items rest step).tests place)
          (tests_ok value m t.0 t.1.1 (has_left items body (cells items true value) (cells_of_fields items rest) k)
          (extended (step number) place) (further_ok items body ty t.0 place (step number) pl s.0 s.1))
          (fields_tests rest m ty variant step h.1
          (has_right items body (cells items true value) (cells_of_fields items rest) k) place pl g)

      parts_tests : (ns : Nodes) (m : Matched) (tys : List TyId) (n : ℕ) (ty : TyId) →
          Holds (patterns.part_patterns items m tys ns) → Has items body (all_cells items ns) → (place : Place) →
          PlaceOk items body ty place → Goes (slice_get tys) (λ j. ToPart (from_number j n)) ty →
          TestsOk ((shapes.in_parts items ns n).tests place)
      parts_tests no_node m tys n ty h k place pl g = tt
      parts_tests (a_node one rest) m [] n ty h k place pl g = absurd (false≢true h)
      parts_tests (a_node one rest) m (t ∷ tys) n ty h k place pl g =
          let s = g 0 t refl in
          both_tests ((shape items one).tests (extended (ToPart n) place))
          ((shapes.in_parts items rest (suc n)).tests place)
          (tests_ok one m t h.0 (has_left items body (cells items true one) (all_cells items rest) k)
          (extended (ToPart n) place) (further_ok items body ty t place (ToPart n) pl s.0 s.1))
          (parts_tests rest m tys (suc n) ty h.1
          (has_right items body (cells items true one) (all_cells items rest) k) place pl (λ j u e. g (suc j) u e))

      any_ok : (ns : Nodes) (m : Matched) (ty : TyId) → Holds (patterns.each_pattern items m ty ns) →
          Has items body (all_cells items ns) → (place : Place) → PlaceOk items body ty place →
          AnyOk (shapes.alternatives_at items ns place)
      any_ok no_node m ty h k place pl = tt
      any_ok (a_node one rest) m ty h k place pl = (
        tests_ok one m ty h.0 (has_left items body (cells items true one) (all_cells items rest) k) place pl,
        any_ok rest m ty h.1 (has_right items body (cells items true one) (all_cells items rest) k) place pl,
      )
