-- What a value is found as counts by the type alone by which it goes. So what a reference names is found as the type
-- that the reference has, or, where that is `dyn`, by an impl of the trait.
use Rattle.std.proofs.Common.{◌≡◌, ℕ, ◌==◌, ◌&&◌, ◌||◌, Bool, true, false, Option, Some, None, is_some, refl, ap, sym, subst}
use Rattle.std.specs.Cmp.{first_so, second_so}
use Rattle.std.specs.Option.{option_map_or}
use Rattle.std.proofs.lemmas.Bool.{false≢true}
use Rattle.std.proofs.lemmas.Bool.Decides.{Decides-eqb}
use Rattle.mir_ty.specs.declared.ty.Ty.{Ty}
use Rattle.mir_ty.specs.declared.ty.TyId.{TyId}
use Rattle.mir_ty.specs.ItemTable.{ItemTable, type_at}
use Rattle.store_model.specs.Values.Datum.{Datum, Gone, Number, Truth, UnitValue, Aggregate, Box, Address}
use Rattle.store_model.specs.Concrete.Drops.{drop_impl}
use Rattle.store_model.specs.Abstract.Presence.{Presence, presence_at}
use Rattle.store_model.specs.Places.Place.{ToContent, is_enum, is_reference}
use Rattle.store_model.specs.Places.TypeForms.{int_kind, is_bool, is_unit, is_dyn, is_adt, box_content}
use Rattle.store_model.specs.Concrete.Location.{DynamicType, OfType, OfObject, adt_of_impl, adt_ty, concrete_ty, is_of_type, type_in_box, type_of_field}
use Rattle.soundness_values.specs.Typed.{is_aggregate, is_impl_for, is_found}
use Rattle.soundness_values.proofs.Fits.{variant_exists, Fits, PartsFit, step_if}
use Rattle.soundness_values.proofs.Along.{IsFound, as_type, as_object}

module _ (items : ItemTable) where
  pub fits_alike : (d : Datum) (f g : DynamicType) (p : Presence) → concrete_ty items f ≡ concrete_ty items g →
      Fits items f p d → Fits items g p d
  fits_alike Gone f g p e k = k
  fits_alike (Number number) f g p e k = (k.0, (k.1.0, subst (λ o. int_kind o ≡ Some k.1.0) e k.1.1, k.1.2))
  fits_alike (Truth truth) f g p e k = (k.0, subst (λ o. is_bool o ≡ true) e k.1)
  fits_alike UnitValue f g p e k = (k.0, subst (λ o. is_unit o ≡ true) e k.1)
  fits_alike (Aggregate variant serial parts) f g p e k = let r = subst Rest e (k.1, k.2, k.3) in
      (k.0, r.0, r.1, r.2)
    where
      Rest : Option Ty → Type 0
      Rest o = (is_some serial ≡ is_some (drop_impl items o))
          × ((is_aggregate o && ((option_map_or (is_enum items) o false || variant == 0) && variant_exists items o
          variant)) ≡ true)
          × PartsFit items (λ n. type_of_field items variant n o)
          (λ n. presence_at (step_if items (option_map_or (is_enum items) o false) variant n) p) parts
  fits_alike (Box serial impl_no inside) f g p e k = let r = subst Rest e (k.1, k.2) in (k.0, r.0, r.1)
    where
      Rest : Option Ty → Type 0
      Rest o = ((content : TyId) × (box_content o ≡ Some content)
          × (is_some impl_no ≡ is_dyn (type_at items content))
          × (is_impl_for items (type_at items content) impl_no ≡ true))
          × ((h : DynamicType) × (type_in_box impl_no o ≡ Some h) × Fits items h (presence_at ToContent p) inside)
  fits_alike (Address address) f g p e k = (k.0, subst (λ o. is_reference o ≡ true) e k.1)

  -- what a reference of a type names
  pub found_as : (to : TyId) (f : DynamicType) → is_of_type items to f ≡ true → is_found items f ≡ true →
      IsFound items to f
  found_as to (OfType id) h k = as_type (OfType id) (ap (type_at items) (sym (same_id to id h))) (h, k)
    where
      same_id : (a b : TyId) → (a.0 == b.0) ≡ true → a ≡ b
      same_id a b h = let same : a.0 ≡ b.0 = (Decides-eqb a.0 b.0).0 h in ap (λ n. record { 0 = n }) same
  found_as to (OfObject id impl_no) h k = by (to.0 == id.0) refl h
    where
      same_ids : (a b : TyId) → (a.0 == b.0) ≡ true → a ≡ b
      same_ids a b h = let same : a.0 ≡ b.0 = (Decides-eqb a.0 b.0).0 h in ap (λ n. record { 0 = n }) same

      of_adt : (o : Option ℕ) → adt_of_impl items impl_no ≡ o → (t : Option Ty) → type_at items to ≡ t →
          option_map_or (λ n. is_adt n t) o false ≡ true → adt_ty o ≡ t
      of_adt None e t i h = absurd (false≢true h)
      of_adt (Some n) e None i h = absurd (false≢true h)
      of_adt (Some n) e (Some (Ty.Adt m)) i h = ap (λ x. Some (Ty.Adt x)) ((Decides-eqb n m).0 h)
      of_adt (Some n) e (Some other) i h = absurd (false≢true h)

      by : (b : Bool) → (to.0 == id.0) ≡ b →
          (b || option_map_or (λ n. is_adt n (type_at items to)) (adt_of_impl items impl_no) false) ≡ true →
          IsFound items to (OfObject id impl_no)
      by true e h =
          subst (λ i. IsFound items i (OfObject id impl_no)) (sym (same_ids to id e))
          (as_object impl_no (first_so (is_dyn (type_at items id))
          (is_impl_for items (type_at items id) (Some impl_no))
          k) (second_so (is_dyn (type_at items id)) (is_impl_for items (type_at items id) (Some impl_no)) k))
      by false e x = as_type (OfObject id impl_no)
          (of_adt (adt_of_impl items impl_no) refl (type_at items to) refl x) (h, k)

  -- and back
  pub of_found : (to : TyId) (f : DynamicType) → IsFound items to f →
      (is_of_type items to f ≡ true) × (is_found items f ≡ true)
  of_found to f (as_type _ e known) = known
  of_found to _ (as_object impl_no h i) = (
    ap (λ b. b || option_map_or (λ n. is_adt n (type_at items to)) (adt_of_impl items impl_no) false)
        ((Decides-eqb to.0 to.0).1 refl),
    both (is_dyn (type_at items to)) (is_impl_for items (type_at items to) (Some impl_no)) h i,
  )
    where
      both : (a b : Bool) → a ≡ true → b ≡ true → (a && b) ≡ true
      both true b h k = k
      both false b h k = absurd (false≢true h)
