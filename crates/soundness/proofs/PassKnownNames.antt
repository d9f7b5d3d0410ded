-- What has to be known of the parts that a pattern takes: that the variants stand there which it names; of an enum with one
-- variant and of all other patterns nothing. So where its tests have held, what its names take is known.
use Rattle.std.proofs.Common.{◌≡◌, ◌⊎◌, inl, inr, ℕ, zero, suc, ◌+◌, ◌<◌, ◌≤◌, ◌==◌, ◌&&◌, not, nat_lt, Bool, true, false, List, [], ◌∷◌, ◌++◌, length, Option, Some, None, if◌then◌else◌, refl, ap, sym, ◌∙◌, subst, arith}
use Rattle.std.specs.Prelude.{slice_get, option_and_then, replicate}
use Rattle.std.specs.Option.{option_map_or}
use Rattle.std.specs.Cmp.Derive.{both_true}
use Rattle.std.proofs.lemmas.Bool.{false≢true, ltb-true, ltb-false}
use Rattle.std.proofs.lemmas.Bool.Decides.{Decides-eqb}
use Rattle.std.proofs.lemmas.Option.{none-some, same_Some}
use Rattle.mir_base.specs.declared.place_in_text.Pos.{Pos}
use Rattle.mir_ty.specs.declared.adt.Adt.{Adt}
use Rattle.mir_ty.specs.declared.ty.Ty.{Ty}
use Rattle.mir_ty.specs.declared.ty.TyId.{TyId}
use Rattle.mir_ty.specs.ItemTable.{ItemTable, type_at}
use Rattle.mir_ty.specs.Parts.{field_ty, variants_of}
use Rattle.store_model.specs.Places.Place.{Step, ToPart, ToField, Place}
use Rattle.typed_tree.specs.declared.node.Use.{Use}
use Rattle.typed_tree.specs.Tree as tree
use Rattle.typed_tree.specs.Tree.{Node, node, Form, Nodes, no_node, a_node, Fields, no_field, a_field, BodyTree}
use Rattle.src_meaning.specs.Locals.Effects.{place_at}
use Rattle.src_meaning.specs.Locals.OfBody.{local_of, local_ty}
use Rattle.src_meaning.specs.Shape as shapes
use Rattle.src_meaning.specs.Shape.{BoundName, head, extended, shape, shape_of}
use Rattle.well_typed.specs.Claim.{Claim, Holds, fact, both, some}
use Rattle.well_typed.specs.Patterns as patterns
use Rattle.well_typed.specs.Patterns.{Matched}
use Rattle.well_typed.specs.Types as types
use Rattle.soundness_values.proofs.Along.{has_one_variant}
use Rattle.soundness_values.proofs.Facts.{Facts}
use Rattle.soundness_cells.proofs.PassCellNames.{PlaceOk, further_ok, goes}
use Rattle.soundness_cells.proofs.PassCellPatterns.{Told}
use Rattle.soundness_cells.proofs.PassCellTaken as taken
use Rattle.soundness_cells.proofs.PassCellTypes as facts_of
use Rattle.soundness_frame.proofs.PassFrameFacts.{variant_known}
use Rattle.soundness.proofs.PassKnownPlaces.{Known, StepKnown, further_known}
use Rattle.soundness_values.proofs.PlaceTypes.{some_holds, same_type}

module _ (items : ItemTable) (body : BodyTree) (facts : Facts) where
  -- the variants that a pattern names stand where it looks, of enums with more than one
  abbrev mutual
    pub Stands : Node → Place → Type 0
    Stands (node id at ty by form) place = StandsIn form place

    pub StandsIn : Form → Place → Type 0
    StandsIn (tree.StructPattern fields) place = StandFields fields ToPart place
    StandsIn (tree.VariantPattern variant is_test fields) place =
        (is_test ≡ true → variant_known facts (place_at (local_of items body) place) variant ≡ true)
        × StandFields fields (ToField variant) place
    StandsIn (tree.TuplePattern parts) place = StandParts parts 0 place
    StandsIn (tree.ArrayPattern elements) place = StandParts elements 0 place
    StandsIn form place = Unit {0}

    pub StandFields : Fields → (ℕ → Step) → Place → Type 0
    StandFields no_field step place = Unit {0}
    StandFields (a_field number value rest) step place =
        Stands value (extended (step number) place) × StandFields rest step place

    pub StandParts : Nodes → ℕ → Place → Type 0
    StandParts no_node n place = Unit {0}
    StandParts (a_node one rest) n place = Stands one (extended (ToPart n) place) × StandParts rest (suc n) place

  -- enough is known of what each name takes
  abbrev pub AllKnown : List BoundName → Type 0
  AllKnown [] = Unit {0}
  AllKnown (b ∷ bounds) = Known items body facts b.site.place × AllKnown bounds

  both_known : (a b : List BoundName) → AllKnown a → AllKnown b → AllKnown (a ++ b)
  both_known [] b f g = g
  both_known (x ∷ a) b f g = (f.0, both_known a b f.1 g)

  -- ---- an enum with one variant

  single : (variant count : ℕ) → nat_lt variant count ≡ true → nat_lt 1 count ≡ false →
      (variant ≡ 0) × ((count == 1) ≡ true)
  single variant count h e =
      let less : variant < count = ltb-true variant count h in
      let few : count ≤ 1 = ltb-false 1 count e in
      let first : variant ≡ 0 = omega (less, few, arith) in
      let one : count ≡ 1 = omega (less, few, arith) in
      (first, (Decides-eqb count 1).1 one)

  of_variants : (o : Option Adt) → option_map_or (λ (def : Adt). length def.variants) o 0 ≡ length (variants_of o)
  of_variants None = refl
  of_variants (Some def) = refl

  pub one_variant : (o : Option Ty) (n variant : ℕ) (ty : Ty) → option_and_then types.adt_in o ≡ Some n →
      nat_lt variant (patterns.variant_count items n) ≡ true → nat_lt 1 (patterns.variant_count items n) ≡ false →
      o ≡ Some ty → (variant == 0 && has_one_variant items ty) ≡ true
  one_variant None n variant ty a h e is = absurd (none-some n a)
  one_variant (Some (Ty.Adt m)) n variant ty a h e is =
      let same : m ≡ n = same_Some m n a in
      let it : Ty.Adt m ≡ ty = same_Some (Ty.Adt m) ty is in
      let s = single variant (patterns.variant_count items n) h e in
      both_true ((Decides-eqb variant 0).1 s.0)
      (subst (λ t. has_one_variant items t ≡ true) it
      (subst (λ k. (length (variants_of (slice_get items.adts k)) == 1) ≡ true) (sym same)
      (subst (λ c. (c == 1) ≡ true) (of_variants (slice_get items.adts n)) s.1)))
  one_variant (Some t) n variant ty a h e is = absurd (none-some n a)

  module _ (told : Told items) where
    mutual
      pub names_known : (p : Node) (m : Matched) (want : TyId) → Holds (patterns.pattern items m want p) →
          (place : Place) → Known items body facts place → Stands p place → PlaceOk items body want place →
          AllKnown ((shape items p).bindings place)
      names_known (node id at ty by form) m want h place k s ok =
          let same = same_type ty want h.0 in
          form_known form m id at ty by h.1 place k s (subst (λ i. PlaceOk items body i place) (sym same) ok)

      form_known : (form : Form) (m : Matched) (id : ℕ) (at : Pos) (ty : TyId) (by : Option Use) →
          Holds (patterns.pattern_row items m ty by form) → (place : Place) → Known items body facts place →
          StandsIn form place → PlaceOk items body ty place →
          AllKnown ((shape_of items form (head id ty by)).bindings place)
      form_known (tree.Binding name) m id at ty by h place k s ok = (k, tt)
      form_known (tree.StructPattern fields) m id at ty by h place k s ok =
          let n = some_holds (types.adt_of items ty) (λ n. fact (not (types.is_enum items n))) h.1.0 in
          fields_known fields _ ty 0 ToPart h.1.1.1 place k s ok (λ j. tt)
          (λ j t e. (taken.struct_goes items ty n.0 n.1.0 n.1.1 j t e, refl))
      form_known (tree.VariantPattern variant true fields) m id at ty by h place k s ok =
          fields_known fields _ ty variant (ToField variant) h.1.1.1 place k s.1 ok (λ j. inr (s.0 refl))
          (λ j t e. (taken.variant_goes items ty variant (taken.enum_of items body told ty variant _ h.1.0) j t e, refl))
      form_known (tree.VariantPattern variant false fields) m id at ty by h place k s ok =
          let n = some_holds (types.adt_of items ty)
          (λ n. both (fact (types.is_enum items n && nat_lt variant (patterns.variant_count items n)))
          (fact (not (nat_lt 1 (patterns.variant_count items n))))) h.1.0 in
          fields_known fields _ ty variant (ToField variant) h.1.1.1 place k s.1 ok
          (λ j. inl (λ root r t is. one_variant (type_at items ty) n.0 variant r n.1.0
          (facts_of.right_of (types.is_enum items n.0) _ n.1.1.0) (facts_of.is_false _ n.1.1.1)
          (ap (type_at items) (same_Some ty root (sym ok.typed ∙ t)) ∙ is)))
          (λ j t e. (taken.variant_goes items ty variant (taken.enum_of items body told ty variant _ h.1.0) j t e, refl))
      form_known (tree.TuplePattern parts) m id at ty by h place k s ok =
          let t = some_holds (patterns.tuple_types items ty) (λ tys. patterns.part_patterns items m tys parts) h.1 in
          parts_known parts m t.0 0 ty t.1.1 place k s ok
          (λ j u e. (taken.tuple_goes items ty t.0 (types.is_unit items ty) t.1.0 j u e, refl))
      form_known (tree.ArrayPattern elements) m id at ty by h place k s ok =
          let t = some_holds (types.array_of items ty)
          (λ a. patterns.part_patterns items m (replicate a.1 a.0) elements) h.1 in
          parts_known elements m (replicate t.0.1 t.0.0) 0 ty t.1.1 place k s ok
          (λ j u e. (taken.array_goes items ty t.0 t.1.0 j u e, refl))
      form_known form m id at ty by h place k s ok = tt

      fields_known : (fs : Fields) (m : Matched) (ty : TyId) (variant : ℕ) (step : ℕ → Step) →
          Holds (patterns.field_patterns items m ty variant fs) → (place : Place) → Known items body facts place →
          StandFields fs step place → PlaceOk items body ty place →
          ((j : ℕ) → StepKnown items body facts place (step j)) → taken.Goes items body told (field_ty items ty variant) step ty →
          AllKnown ((shapes.in_fields items fs step).bindings place)
      fields_known no_field m ty variant step h place k s ok f g = tt
      fields_known (a_field number value rest) m ty variant step h place k s ok f g =
          let t = some_holds (field_ty items ty variant number) (λ want. patterns.pattern items m want value) h.0 in
          let w = g number t.0 t.1.0 in
          let inner = further_ok items body ty t.0 place (step number) ok w.0 w.1 in
          both_known ((shape items value).bindings (extended (step number) place))
          ((shapes.in_fields items rest step).bindings place)
          (names_known value m t.0 t.1.1 (extended (step number) place)
          (further_known items body facts place (step number) k (f number)) s.0 inner)
          (fields_known rest m ty variant step h.1 place k s.1 ok f g)

      parts_known : (ns : Nodes) (m : Matched) (tys : List TyId) (n : ℕ) (ty : TyId) →
          Holds (patterns.part_patterns items m tys ns) → (place : Place) → Known items body facts place →
          StandParts ns n place → PlaceOk items body ty place →
          taken.Goes items body told (slice_get tys) (λ j. ToPart (taken.from_number j n)) ty →
          AllKnown ((shapes.in_parts items ns n).bindings place)
      parts_known no_node m tys n ty h place k s ok g = tt
      parts_known (a_node one rest) m [] n ty h place k s ok g = absurd (false≢true h)
      parts_known (a_node one rest) m (t ∷ tys) n ty h place k s ok g =
          let w = g 0 t refl in
          let inner = further_ok items body ty t place (ToPart n) ok w.0 w.1 in
          both_known ((shape items one).bindings (extended (ToPart n) place))
          ((shapes.in_parts items rest (suc n)).bindings place)
          (names_known one m t h.0 (extended (ToPart n) place)
          (further_known items body facts place (ToPart n) k tt) s.0 inner)
          (parts_known rest m tys (suc n) ty h.1 place k s.1 ok (λ j u e. g (suc j) u e))
