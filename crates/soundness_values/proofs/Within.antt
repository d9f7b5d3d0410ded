-- Paths within a whole value, whatever the steps are that lead there: what stands at the end is whole and of its
-- type, and the value with another whole one there is whole. An element of an array stands under each number below
-- its length.
use Rattle.std.proofs.Common.{◌≡◌, ℕ, zero, suc, ◌<◌, ◌==◌, ◌&&◌, ◌||◌, Bool, true, false, List, [], ◌∷◌, Option, Some, None, refl, ap, sym, ◌∙◌, subst, arith}
use Rattle.std.specs.Prelude.{slice_get, replicate}
use Rattle.std.specs.Option.{option_map_or}
use Rattle.std.specs.Cmp.{first_so, second_so}
use Rattle.std.proofs.lemmas.Bool.{false≢true}
use Rattle.std.proofs.lemmas.Bool.Decides.{Decides-eqb}
use Rattle.std.proofs.lemmas.Option.{none-some}
use Rattle.mir_ty.specs.declared.ty.Ty.{Ty}
use Rattle.mir_ty.specs.declared.ty.TyId.{TyId}
use Rattle.mir_ty.specs.ItemTable.{ItemTable}
use Rattle.store_model.proofs.Values.Access.{replaced-step}
use Rattle.store_model.specs.declared.address.At.{At}
use Rattle.store_model.specs.declared.address.At.TheVariants.{Part, Inside}
use Rattle.store_model.specs.Values.Datum.{Datum, Data, Gone, Number, Truth, UnitValue, Aggregate, Box, Address, no_part}
use Rattle.store_model.specs.Values.Access.{part, part_at, replaced}
use Rattle.store_model.specs.Abstract.Presence.{is_present}
use Rattle.store_model.specs.Places.Place.{is_reference, is_enum}
use Rattle.store_model.specs.Places.TypeForms.{int_kind, is_bool, is_unit, box_content}
use Rattle.store_model.specs.Concrete.Location.{DynamicType, OfType, concrete_ty, type_of_part, type_of_field, Located, below, into, located_part}
use Rattle.soundness_values.specs.Typed.{is_aggregate}
use Rattle.soundness_values.proofs.Fits.{is_enum_found, variant_exists, Fits, part_fits, part_there, with_part_fits}

some_same : {a b : DynamicType} → Some a ≡ Some b → a ≡ b
some_same e = cc

module _ (items : ItemTable) where
  -- a path within a value, to what stands at its end, each found as what it is
  pub data Inner : List At → DynamicType → Datum → DynamicType → Datum → Type 0 where
    here : (f : DynamicType) (d : Datum) → Inner [] f d f d
    at_part : (n : ℕ) (path : List At) (f : DynamicType) (variant : ℕ) (serial : Option ℕ) (parts : Data)
        (inner : Datum) (g f' : DynamicType) (d' : Datum) → part_at n parts ≡ Some inner →
        type_of_part items (Part n) (Aggregate variant serial no_part) f ≡ Some g → Inner path g inner f' d' →
        Inner (Part n ∷ path) f (Aggregate variant serial parts) f' d'
    at_content : (path : List At) (f : DynamicType) (serial : ℕ) (impl_no : Option ℕ) (inside : Datum)
        (g f' : DynamicType) (d' : Datum) →
        type_of_part items Inside (Box serial impl_no Gone) f ≡ Some g → Inner path g inside f' d' →
        Inner (Inside ∷ path) f (Box serial impl_no inside) f' d'

  pub inner_fits : {path : List At} {f f' : DynamicType} {d d' : Datum} → Inner path f d f' d' →
      Fits items f is_present d → Fits items f' is_present d'
  inner_fits (here f d) k = k
  inner_fits (at_part n path f variant serial parts inner g f' d' is_part is_found way) k =
      let fit = part_fits items parts _ _ n inner k.3 is_part in
      inner_fits way (subst (λ h. Fits items h is_present inner) (let same : fit.0 ≡ g = cc in same) fit.2)
  inner_fits (at_content path f serial impl_no inside g f' d' is_found way) k =
      inner_fits way (subst (λ h. Fits items h is_present inside) (let same : k.2.0 ≡ g = cc in same) k.2.2)

  -- the whole with another whole value there
  pub inner_replaced : {path : List At} {f f' : DynamicType} {d d' : Datum} (new : Datum) → Inner path f d f' d' →
      Fits items f is_present d → Fits items f' is_present new → Fits items f is_present (replaced path new d)
  inner_replaced new (here f d) k fit = fit
  inner_replaced new (at_part n path f variant serial parts inner g f' d' is_part is_found way) k fit =
      let was = part_fits items parts _ _ n inner k.3 is_part in
      let inside : Fits items g is_present (replaced path new inner) =
      inner_replaced new way (subst (λ h. Fits items h is_present inner) (let same : was.0 ≡ g = cc in same) was.2)
      fit in
      subst (Fits items f is_present)
      (sym (replaced-step (Part n) path new (Aggregate variant serial parts) inner is_part)) (
        k.0,
        k.1,
        k.2,
        with_part_fits items parts _ (λ m. is_present) (λ m. is_present) n (replaced path new inner) g k.3
            is_found inside (λ m h. refl),
      )
  inner_replaced new (at_content path f serial impl_no inside g f' d' is_found way) k fit = (
    k.0,
    k.1,
    (
      g,
      is_found,
      inner_replaced new way
          (subst (λ h. Fits items h is_present inside) (let same : k.2.0 ≡ g = cc in same) k.2.2) fit,
    ),
  )

  -- ---- the elements of an array

  pub element_of_many : (e : TyId) (count k : ℕ) → k < count → slice_get (replicate count e) k ≡ Some e
  element_of_many e zero k l = absurd (let never : ⊥ = omega arith in never)
  element_of_many e (suc count) zero l = refl
  element_of_many e (suc count) (suc k) l = element_of_many e count k (let z : k < count = omega arith in z)

  -- what stands under a number below the length
  pub record Element (s : Located) (k : ℕ) (e : TyId) : Type 0 where
    pub value : Datum
    pub reached : into items (Part k) s ≡ Some
        (record { address = below s.address (Part k); dynamic = OfType e; value = value })
    pub whole : Fits items (OfType e) is_present value
    pub way : Inner (Part k ∷ []) s.dynamic s.value (OfType e) value

  pub element_there : (s : Located) (k count : ℕ) (e : TyId) → concrete_ty items s.dynamic ≡ Some
      (Ty.Array e count) →
      k < count → Fits items s.dynamic is_present s.value → Element s k e
  element_there s k count e is_array l fit = by s.value refl fit
    where
      by : (d : Datum) → s.value ≡ d → Fits items s.dynamic is_present d → Element s k e
      by Gone v h = absurd (false≢true h)
      by (Number number) v h = absurd (none-some h.1.0 (sym (ap int_kind is_array) ∙ h.1.1))
      by (Truth truth) v h = absurd (false≢true (sym (ap is_bool is_array) ∙ h.1))
      by UnitValue v h = absurd (false≢true (sym (ap is_unit is_array) ∙ h.1))
      by (Box serial impl_no inside) v h = absurd (none-some h.1.0 (sym (ap box_content is_array) ∙ h.1.1))
      by (Address address) v h = absurd (false≢true (sym (ap is_reference is_array) ∙ h.1))
      by (Aggregate variant serial parts) v h = record {
        value = inner.0;
        reached =
            ap (λ d. located_part s (Part k) (part (Part k) d) (type_of_part items (Part k) d s.dynamic)) v
            ∙ ap (λ o. located_part s (Part k) o
            (type_of_part items (Part k) (Aggregate variant serial parts) s.dynamic)) inner.1
            ∙ ap (λ o. located_part s (Part k) (Some inner.0) o) is_found;
        whole = fits_inner;
        way = subst (λ d. Inner (Part k ∷ []) s.dynamic d (OfType e) inner.0) (sym v)
            (at_part k [] s.dynamic variant serial parts inner.0 (OfType e) (OfType e) inner.0 inner.1 is_found
            (here (OfType e) inner.0));
      }
        where
          or_second : (a b : Bool) → (a || b) ≡ true → a ≡ false → b ≡ true
          or_second true b h k = absurd (false≢true (sym k))
          or_second false b h k = h

          not_enum : is_enum_found items s.dynamic ≡ false
          not_enum = ap (λ t. option_map_or (is_enum items) t false) is_array

          zero_is : (variant == 0) ≡ true
          zero_is =
              or_second (is_enum_found items s.dynamic) (variant == 0)
              (first_so (is_enum_found items s.dynamic || variant == 0)
              (variant_exists items (concrete_ty items s.dynamic) variant)
              (second_so (is_aggregate (concrete_ty items s.dynamic))
              ((is_enum_found items s.dynamic || variant == 0) && variant_exists items (concrete_ty items s.dynamic)
              variant) h.2)) not_enum

          is_found : type_of_part items (Part k) (Aggregate variant serial no_part) s.dynamic ≡ Some (OfType e)
          is_found =
              ap (type_of_field items variant k) is_array
              ∙ ap (λ v. type_of_field items v k (Some (Ty.Array e count))) ((Decides-eqb variant 0).0 zero_is)
              ∙ ap (λ o. option_map_or (λ id. Some (OfType id)) o None) (element_of_many e count k l)

          inner : (d : Datum) × (part_at k parts ≡ Some d)
          inner = part_there items parts _ _ k (OfType e) h.3 is_found

          fits_inner : Fits items (OfType e) is_present inner.0
          fits_inner =
              let fit = part_fits items parts _ _ k inner.0 h.3 inner.1 in
              subst (λ f. Fits items f is_present inner.0) (some_same (sym fit.1 ∙ is_found)) fit.2
