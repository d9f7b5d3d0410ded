-- The plan of a value that is taken apart, an aggregate or a box, fits where the plans of its parts fit them.
use Rattle.std.proofs.Common.{◌≡◌, inl, inr, ℕ, zero, suc, Bool, true, false, List, [], ◌∷◌, Option, Some, None, is_some, refl, ap, sym, ◌∙◌, subst, slice_get, arith}
use Rattle.std.specs.Prelude.{option_and_then, unwrap_or}
use Rattle.std.specs.Option.{option_map_or}
use Rattle.std.proofs.lemmas.Bool.{false≢true}
use Rattle.std.proofs.lemmas.Bool.Decides.{Decides-eqb}
use Rattle.std.proofs.lemmas.Option.{none-some}
use Rattle.mir_ty.specs.declared.adt.Variant.{Variant}
use Rattle.mir_ty.specs.declared.def.ImplDef.{ImplDef}
use Rattle.mir_ty.specs.declared.ty.Ty.{Ty}
use Rattle.mir_ty.specs.declared.ty.TyId.{TyId}
use Rattle.mir_ty.specs.Facts.{needs_drop, a_part}
use Rattle.mir_ty.specs.ItemTable.{ItemTable, type_at}
use Rattle.mir_ty.specs.Parts.{parts_of, variants_of, fields_of}
use Rattle.store_model.specs.Abstract.Presence.{Presence, itself_gone, presence_at, all_present}
use Rattle.store_model.specs.Concrete.Drops.{drop_impl, still_of}
use Rattle.store_model.specs.Concrete.Location.{DynamicType, OfType, adt_of_impl, adt_ty, content_type, type_in_box, type_of_field}
use Rattle.store_model.specs.Places.Place.{Step, ToPart, ToField, ToContent, is_enum, step_ty, unless_enum, part_if}
use Rattle.store_model.specs.Places.TypeForms.{is_adt, is_dyn, is_dyn_of, box_content}
use Rattle.store_model.specs.Values.Datum.{Datum, Data, Aggregate, Box, no_part, a_part}
use Rattle.store_model.specs.Values.Wholeness.{is_whole}
use Rattle.drop_values.specs.Facts.{Tree, Branches, Facts}
use Rattle.drop_values.specs.Plan as plan
use Rattle.drop_values.specs.Plan.{Plan, Entire, InParts, OfBox, ByVariant, IfFound, TakenApart, FitsAll, FitsCase, Open}
use Rattle.drop_values.specs.Planning.{branch_by, plan_by, guarded, whole_plan, part_plan, part_plans, variant_plans, stepped, IsTyped, AreTyped, plan_of, plans_below}
use Rattle.drop_values.proofs.Counting.{after, after-sum, after-zero}
use Rattle.drop_values.specs.Typed.{is_enum_found, has_impl, step_if, Fits, PartsFit, Proper, a_type, an_object, IsFull}
use Rattle.drop_values.proofs.Fits.{whole_if_present, present_if_whole}
use Rattle.drop_values.proofs.Sound.{Sound, SoundParts}
use Rattle.drop_values.proofs.FoundAs.{no_and_yes, IsOf, itself, object, content-of, quiet, unneeded, dyn_needs, impl_or_none}
use Rattle.drop_values.proofs.Told.{Else, Told, ToldBelow, Flagged, BelowFlagged, branched, flagged-branch, plan_found, typed-stepped}

module _ (items : ItemTable) (facts : Facts) (flag_of : ℕ → Option ℕ) (IsFlag : ℕ → Type 0) (holds : ℕ → Datum) where
  abbrev PFits : Plan → Datum → DynamicType → Type 0
  PFits = plan.Fits items IsFlag holds

  abbrev plan_at : Tree → TyId → Plan
  plan_at = plan_of items facts flag_of

  -- whatever is told, the plan of a path fits this value
  pub record PlanFits (d : Datum) : Type 0 where
    pub at : (tree : Tree) (id : TyId) (found : DynamicType) (p : Presence) → IsOf items found id →
        Told items facts flag_of IsFlag holds p tree → Flagged items facts flag_of IsFlag holds tree id → IsTyped
        items tree id → Fits items found p d → Sound items d found →
        PFits (plan_at tree id) d found

  pub data AllFit : Data → Type 0 where
    none_fit : AllFit no_part
    one_fits : (first : Datum) (rest : Data) → PlanFits first → AllFit rest → AllFit (a_part first rest)

  of-proper : (found : DynamicType) (id : TyId) → IsOf items found id → Proper items found
  of-proper _ _ (itself id) = a_type id
  of-proper _ _ (object id impl_no n dyn has) = an_object id impl_no n dyn has

  pub fully : (d : Datum) (found : DynamicType) (id : TyId) (p : Presence) → IsOf items found id →
      Fits items found p d →
      is_whole d ≡ true → IsFull items found d
  fully d found id p o k e = (of-proper found id o, present_if_whole items d found p e k)

  pub guarded-fits : (guard : Option ℕ) (plan : Plan) (d : Datum) (found : DynamicType) →
      Open items IsFlag holds guard →
      PFits plan d found → PFits (guarded guard plan) d found
  guarded-fits None plan d found o h = h
  guarded-fits (Some flag) plan d found o h = (o.0, inl (o.1, h))

  -- of what is no path all is there
  whole_plan-fits : (guard : Option ℕ) → Open items IsFlag holds guard → (b : Bool) (id : TyId)
      (found : DynamicType) (p : Presence) (d : Datum) → needs_drop items id ≡ b → IsOf items found id →
      all_present p ≡ true → Fits items found p d → PFits (whole_plan guard b) d found
  whole_plan-fits guard opens true id found p d e o a k = guarded-fits guard Entire d found opens
      (fully d found id p o k (whole_if_present items d found p a k))
  whole_plan-fits guard opens false id found p d e (itself id') a k = quiet items d found p (unneeded id e) k
  whole_plan-fits guard opens false id found p d e (object id' impl_no n is has) a k =
      no_and_yes (needs_drop items id) (dyn_needs items id n is) e

  abbrev type_under : TyId → Step → Option TyId
  type_under id step = option_and_then (step_ty items step) (type_at items id)

  -- the plan of a part, a path or not
  part-fits : (guard : Option ℕ) → Open items IsFlag holds guard → (first : Datum) (step : Step)
      (part id : TyId) (below : Branches) (found : DynamicType) (p : Presence) → PlanFits first →
      itself_gone p ≡ false → type_under id step ≡ Some part → IsOf items found part →
      ToldBelow items facts flag_of IsFlag holds p below → Else items facts flag_of IsFlag holds p below →
      BelowFlagged items facts flag_of IsFlag holds below id → AreTyped items below id →
      Fits items found (presence_at step p) first → Sound items first found →
      PFits (part_plan items guard part (plan_by step (plans_below items facts flag_of below id))) first found
  part-fits guard opens first step part id below found p ih g is o t e f y k s =
      subst (λ x. PFits (part_plan items guard part x) first found) (sym (plan_found items facts flag_of IsFlag holds
      step below id))
      (by (branch_by step below) refl)
    where
      stepped_is : stepped items step id ≡ part
      stepped_is = ap (λ o. unwrap_or o id) is

      by : (b : Option Tree) → branch_by step below ≡ b →
          PFits (part_plan items guard part (option_map_or (λ tree. Some (plan_at tree (stepped items step id)))
          b None)) first found
      by None h = whole_plan-fits guard opens (needs_drop items part) part found (presence_at step p) first refl o
          (e step h g) k
      by (Some tree) h =
          let b = branched items facts flag_of IsFlag holds p id step tree below t y h in
          ih.at tree (stepped items step id) found (presence_at step p) (subst (IsOf items found) (sym stepped_is) o)
          b.told (flagged-branch items facts flag_of IsFlag holds id step tree below f h) (typed-stepped items facts
          flag_of IsFlag holds step tree id b.typed) k s

  -- the parts from a number on, of types from there on
  abbrev typed_field : Option TyId → Option DynamicType
  typed_field o = option_map_or (λ (id : TyId). Some (OfType id)) o None

  parts-fit : (guard : Option ℕ) → Open items IsFlag holds guard → (ids : List TyId) (parts : Data)
      (every : List TyId) (found_at from : ℕ → Option DynamicType) (presence_of : ℕ → Presence)
      (step_of : ℕ → Step) (n : ℕ) (id : TyId) (below : Branches) (p : Presence) → AllFit parts →
      ((m : ℕ) → slice_get ids m ≡ slice_get every (after n m)) →
      ((m : ℕ) → found_at m ≡ typed_field (slice_get every m)) → ((m : ℕ) → from m ≡ found_at (after n m)) →
      ((m : ℕ) → presence_of m ≡ presence_at (step_of (after n m)) p) →
      ((m : ℕ) (part : TyId) → slice_get every m ≡ Some part → type_under id (step_of m) ≡ Some part) →
      itself_gone p ≡ false → ToldBelow items facts flag_of IsFlag holds p below → Else items facts flag_of IsFlag
      holds p below → BelowFlagged items facts flag_of IsFlag holds below id → AreTyped items below id →
      PartsFit items from presence_of parts → SoundParts items parts found_at n →
      FitsAll items IsFlag holds (part_plans items guard ids step_of (plans_below items facts flag_of below id) n)
      parts found_at n
  parts-fit guard opens [] no_part every found_at from presence_of step_of n id below p ih ids_are
      found_is from_is present_is types g t e f y k s = tt
  parts-fit guard opens [] (a_part first rest) every found_at from presence_of step_of n id below
      p ih ids_are found_is from_is present_is types g t e f y k s =
      absurd (none-some k.0.0 (sym (sym k.0.1 ∙ from_is 0 ∙ found_is n ∙ ap typed_field (sym (ids_are 0)))))
  parts-fit guard opens (part ∷ ids) no_part every found_at from presence_of step_of n id below
      p ih ids_are found_is from_is present_is types g t e f y k s =
      absurd (none-some (OfType part) (sym (k 0) ∙ from_is 0 ∙ found_is n ∙ ap typed_field (sym (ids_are 0))))
  parts-fit guard opens (part ∷ ids) (a_part first rest) every found_at from presence_of step_of n id below p
      (one_fits _ _ ih ihs) ids_are found_is from_is present_is types g t e f y k s = (
        subst (λ o. IfFound o (PFits (part_plan items guard part
            (plan_by (step_of n) (plans_below items facts flag_of below id))) first)) (sym there)
            (part-fits guard opens first (step_of n) part id below (OfType part) p ih g (types n part (sym (ids_are 0)))
            (itself part) t e f y
            (subst (λ q. Fits items (OfType part) q first) (present_is 0)
            (subst (λ x. Fits items x (presence_of 0) first) same k.0.2))
            (subst (λ o. IfFound o (Sound items first)) there s.0)),
        parts-fit guard opens ids rest every found_at (λ m. from (suc m)) (λ m. presence_of (suc m)) step_of
            (suc n) id below p ihs (λ m. ids_are (suc m)) found_is (λ m. from_is (suc m)) (λ m. present_is (suc m))
            types g t e f y k.1 s.1,
      )
    where
      there : found_at n ≡ Some (OfType part)
      there = found_is n ∙ ap typed_field (sym (ids_are 0))

      same : k.0.0 ≡ OfType part
      same = let x : Some k.0.0 ≡ Some (OfType part) = sym k.0.1 ∙ from_is 0 ∙ there in cc

  -- all parts of a value that is taken apart
  all-parts-fit : (guard : Option ℕ) → Open items IsFlag holds guard → (ty : Ty) (b : Bool) (variant : ℕ)
      (serial : Option ℕ) (parts : Data) (id : TyId) (below : Branches) (p : Presence) → AllFit parts →
      type_at items id ≡ Some ty → is_enum_found items (OfType id) ≡ b →
      ((m : ℕ) (part : TyId) → slice_get (parts_of items ty variant) m ≡ Some part →
      type_under id (step_if items b variant m) ≡ Some part) →
      ToldBelow items facts flag_of IsFlag holds p below → Else items facts flag_of IsFlag holds p below →
      BelowFlagged items facts flag_of IsFlag holds below id → AreTyped items below id →
      Fits items (OfType id) p (Aggregate variant serial parts) → Sound items (Aggregate variant serial parts)
      (OfType id) →
      FitsAll items IsFlag holds (part_plans items guard (parts_of items ty variant) (λ m. step_if items b variant m)
      (plans_below items facts flag_of below id) 0) parts (λ n. type_of_field items variant n (type_at items id)) 0
  all-parts-fit guard opens ty b variant serial parts id below p ih is enum types t e f y k s =
      parts-fit guard opens (parts_of items ty variant) parts (parts_of items ty variant)
      (λ n. type_of_field items variant n (type_at items id))
      (λ n. type_of_field items variant n (type_at items id))
      (λ n. presence_at (step_if items (is_enum_found items (OfType id)) variant n) p) (λ m. step_if items b variant m)
      0 id below p ih
      (λ m. ap (slice_get (parts_of items ty variant)) (sym (after-zero m)))
      (λ m. ap (type_of_field items variant m) is) (λ m. ap (λ n. type_of_field items variant n (type_at items id))
      (sym (after-zero m)))
      (λ m. ap (λ b. presence_at (step_if items b variant m) p) enum
      ∙ ap (λ n. presence_at (step_if items b variant n) p) (sym (after-zero m))) types k.0 t e f y k.3 s.1

  part-type : (ty : Ty) (id : TyId) (variant : ℕ) → type_at items id ≡ Some ty → is_enum items ty ≡ false →
      variant ≡ 0 → (m : ℕ) (part : TyId) → slice_get (parts_of items ty variant) m ≡ Some part →
      type_under id (ToPart m) ≡ Some part
  part-type ty id variant is flat zero_is m part e =
      ap (option_and_then (step_ty items (ToPart m))) is ∙ ap (λ b. unless_enum b (slice_get (parts_of items ty 0) m))
      flat ∙ ap (λ v. slice_get (parts_of items ty v) m) (sym zero_is) ∙ e

  field-type : (ty : Ty) (id : TyId) (variant : ℕ) → type_at items id ≡ Some ty → is_enum items ty ≡ true →
      (m : ℕ) (part : TyId) → slice_get (parts_of items ty variant) m ≡ Some part →
      type_under id (ToField variant m) ≡ Some part
  field-type ty id variant is enum m part e =
      ap (option_and_then (step_ty items (ToField variant m))) is
      ∙ ap (λ b. part_if b (slice_get (parts_of items ty variant) m)) enum ∙ e

  -- what is known of a path that is present and needs dropping, and has paths below
  pub record Opened (guard : Option ℕ) (id : TyId) (ty : Ty) (p : Presence) (below : Branches) : Type 0 where
    pub is : type_at items id ≡ Some ty
    pub there : itself_gone p ≡ false
    pub need : needs_drop items id ≡ true
    pub no_body : drop_impl items (type_at items id) ≡ None
    pub told : ToldBelow items facts flag_of IsFlag holds p below
    pub otherwise : Else items facts flag_of IsFlag holds p below
    pub flagged : BelowFlagged items facts flag_of IsFlag holds below id
    pub typed : AreTyped items below id
    pub opens : Open items IsFlag holds guard

  abbrev under : Branches → TyId → List (Step × Plan)
  under below id = plans_below items facts flag_of below id

  apart-is : (id : TyId) (variant : ℕ) (serial : Option ℕ) (parts : Data) (p : Presence) →
      drop_impl items (type_at items id) ≡ None → Fits items (OfType id) p (Aggregate variant serial parts) →
      TakenApart items (Aggregate variant serial parts) (OfType id) variant parts
  apart-is id variant serial parts p none k =
      record {
        id = id;
        found_is = refl;
        no_body = none;
        value_is = ap (λ s. Aggregate variant s parts)
            (impl_or_none items serial (k.1 ∙ ap is_some none));
      }

  pub in-parts-fit : (guard : Option ℕ) (ty : Ty) (id : TyId) (variant : ℕ) (serial : Option ℕ) (parts : Data)
      (p : Presence) (below : Branches) → Opened guard id ty p below → AllFit parts → is_enum items ty ≡ false →
      variant ≡ 0 →
      Fits items (OfType id) p (Aggregate variant serial parts) → Sound items (Aggregate variant serial parts)
      (OfType id) →
      PFits (InParts (part_plans items guard (parts_of items ty 0) ToPart (under below id) 0))
      (Aggregate variant serial parts) (OfType id)
  in-parts-fit guard ty id variant serial parts p below o ih flat zero_is k s = inl (
    variant,
    parts,
    apart-is id variant serial parts p o.no_body k,
    subst (λ v. FitsAll items IsFlag holds (part_plans items guard (parts_of items ty v) ToPart (under below id) 0)
        parts (λ n. type_of_field items variant n (type_at items id)) 0) zero_is
        (all-parts-fit guard o.opens ty false variant serial parts id below p ih o.is
        (ap (λ x. option_map_or (is_enum items) x false) o.is ∙ flat) (part-type ty id variant o.is flat zero_is)
        o.told o.otherwise o.flagged o.typed k s),
  )

  -- the case of the variant that stands there
  case-fits : (variants : List Variant) (n j variant : ℕ) (v : Variant) (plans : List (Step × Plan))
      (parts : Data) (found_at : ℕ → Option DynamicType) → slice_get variants j ≡ Some v → variant ≡ after n j →
      FitsAll items IsFlag holds (part_plans items None v.fields (ToField variant) plans 0) parts found_at 0 →
      FitsCase items IsFlag holds (variant_plans items variants plans n) variant parts found_at
  case-fits [] n j variant v plans parts found_at e a h = absurd (none-some v e)
  case-fits (w ∷ ws) n zero variant v plans parts found_at e a h =
      inl (
        sym a,
        subst (λ (x : ℕ). FitsAll items IsFlag holds (part_plans items None w.fields (ToField x) plans 0)
            parts found_at 0) a
            (subst (λ (x : Variant). FitsAll items IsFlag holds
            (part_plans items None x.fields (ToField variant) plans 0) parts found_at 0)
            (let x : w ≡ v = cc in sym x) h),
      )
  case-fits (w ∷ ws) n (suc j) variant v plans parts found_at e a h =
      inr (
        (λ same. absurd (let x = after-sum (suc n) j in let never : ⊥ = omega (arith, same, a, x) in never)),
        case-fits ws (suc n) j variant v plans parts found_at e a h,
      )

  pub by-variant-fits : (guard : Option ℕ) (n : ℕ) (id : TyId) (variant : ℕ) (serial : Option ℕ) (parts : Data)
      (p : Presence) (below : Branches) → Opened guard id (Ty.Adt n) p below → AllFit parts →
      is_enum items (Ty.Adt n) ≡ true →
      (v : Variant) → slice_get (variants_of (slice_get items.adts n)) variant ≡ Some v →
      Fits items (OfType id) p (Aggregate variant serial parts) → Sound items (Aggregate variant serial parts)
      (OfType id) →
      PFits (guarded guard (ByVariant (variant_plans items (variants_of (slice_get items.adts n)) (under below id) 0)))
      (Aggregate variant serial parts) (OfType id)
  by-variant-fits guard n id variant serial parts p below o ih enum v there k s =
      guarded-fits guard (ByVariant (variant_plans items (variants_of (slice_get items.adts n)) (under below id) 0))
      (Aggregate variant serial parts) (OfType id) o.opens (
        variant,
        parts,
        apart-is id variant serial parts p o.no_body k,
        case-fits (variants_of (slice_get items.adts n)) 0 variant variant v (under below id) parts
            (λ m. type_of_field items variant m (type_at items id)) there (sym (after-zero variant))
            (subst (λ x. FitsAll items IsFlag holds (part_plans items None (fields_of x) (ToField variant)
            (under below id) 0) parts (λ m. type_of_field items variant m (type_at items id)) 0) there
            (all-parts-fit None tt (Ty.Adt n) true variant serial parts id below p ih o.is
            (ap (λ x. option_map_or (is_enum items) x false) o.is ∙ enum) (field-type (Ty.Adt n) id variant o.is enum)
            o.told o.otherwise o.flagged o.typed k s)),
      )

  content-sure : (content : TyId) (impl_no : Option ℕ) → has_impl items (type_at items content) impl_no ≡ true →
      still_of items (content_type content impl_no) (content_type content impl_no) ≡ true
  content-sure content None e = (Decides-eqb content.0 content.0).1 refl
  content-sure content (Some impl_no) e =
      by (adt_of_impl items impl_no) (some-impl (slice_get items.impls impl_no) e)
    where
      some-impl : (o : Option ImplDef) →
          option_map_or (λ (impl : ImplDef). is_dyn_of impl.trait_no (type_at items content)) o false ≡ true →
          is_some (option_map_or (λ (impl : ImplDef). Some impl.adt) o None) ≡ true
      some-impl None e = absurd (false≢true e)
      some-impl (Some impl) e = refl

      by : (o : Option ℕ) → is_some o ≡ true → option_map_or (λ n. is_adt n (adt_ty o)) o false ≡ true
      by None e = absurd (false≢true e)
      by (Some n) e = (Decides-eqb n n).1 refl

  pub of-box-fits : (guard : Option ℕ) (content id : TyId) (serial : ℕ) (impl_no : Option ℕ) (inside : Datum)
      (p : Presence) (below : Branches) → Opened guard id (Ty.Boxed content) p below → PlanFits inside →
      Fits items (OfType id) p (Box serial impl_no inside) → Sound items (Box serial impl_no inside) (OfType id) →
      PFits (OfBox guard (part_plan items guard content (plan_by ToContent (under below id))))
      (Box serial impl_no inside) (OfType id)
  of-box-fits guard content id serial impl_no inside p below o ih k s = inl (
    inside,
    content_type content impl_no,
    (record {
      id = id;
      serial = serial;
      impl_no = impl_no;
      found_is = refl;
      value_is = refl;
      content_is = content_there;
      sure = content-sure content impl_no (subst (λ c. has_impl items (type_at items c) impl_no ≡ true) same k.1.3);
    }),
    part-fits guard o.opens inside ToContent content id below (content_type content impl_no) p ih o.there
        (ap (option_and_then (step_ty items ToContent)) o.is)
        (content-of items content impl_no (subst (λ c. is_some impl_no ≡ is_dyn (type_at items c)) same k.1.2)
        (subst (λ c. has_impl items (type_at items c) impl_no ≡ true) same k.1.3))
        o.told o.otherwise o.flagged o.typed
        (subst (λ x. Fits items x (presence_at ToContent p) inside)
        (let x : Some k.2.0 ≡ Some (content_type content impl_no) = sym k.2.1
        ∙ content_there in let y : k.2.0 ≡ content_type content impl_no = cc in y) k.2.2)
        (subst (λ x. IfFound x (Sound items inside)) content_there s),
    o.opens,
  )
    where
      content_there : type_in_box impl_no (type_at items id) ≡ Some (content_type content impl_no)
      content_there = ap (type_in_box impl_no) o.is

      same : k.1.0 ≡ content
      same = let x : Some k.1.0 ≡ Some content = sym k.1.1 ∙ ap box_content o.is in cc
