-- A whole value of a type is one that fits what is wholly present, and back.
use Rattle.std.proofs.Common.{◌≡◌, ℕ, suc, ◌==◌, ◌&&◌, ◌||◌, Bool, true, false, Option, Some, None, refl}
use Rattle.std.specs.Prelude.{slice_get, nat_lt, length}
use Rattle.std.specs.Option.{option_map_or}
use Rattle.std.proofs.lemmas.Bool.{false≢true}
use Rattle.mir_ty.specs.declared.ty.Ty.{Ty}
use Rattle.mir_ty.specs.ItemTable.{ItemTable}
use Rattle.mir_ty.specs.Parts.{variants_of}
use Rattle.store_model.specs.Values.Datum.{Datum, Data, Gone, Number, Truth, UnitValue, Aggregate, Box, Address, no_part, a_part}
use Rattle.store_model.specs.Abstract.Presence.{is_present}
use Rattle.store_model.specs.Places.Place.{is_enum}
use Rattle.store_model.specs.Concrete.Location.{DynamicType, concrete_ty}
use Rattle.soundness_values.specs.Typed.{is_aggregate, has_variant, IsOf, ArePartsOf}
use Rattle.soundness_values.proofs.Fits.{variant_exists, Fits, PartsFit}

first : (a b : Bool) → (a && b) ≡ true → a ≡ true
first true b h = refl
first false b h = absurd (false≢true h)

second : (a b : Bool) → (a && b) ≡ true → b ≡ true
second true b h = h
second false b h = absurd (false≢true h)

both : (a b : Bool) → a ≡ true → b ≡ true → (a && b) ≡ true
both true b h k = k
both false b h k = absurd (false≢true h)

module _ (items : ItemTable) where
  -- the variant of a value is one of its type, by either question
  variant_fits : (o : Option Ty) (variant : ℕ) → (is_aggregate o && has_variant items o variant) ≡ true →
      (is_aggregate o && ((option_map_or (is_enum items) o false || variant == 0) && variant_exists items o variant))
      ≡ true
  variant_fits None variant h = absurd (false≢true h)
  variant_fits (Some (Ty.Adt n)) variant h =
      both (is_enum items (Ty.Adt n) || variant == 0) _
      (second (nat_lt variant (length (variants_of (slice_get items.adts n)))) _ h)
      (first (nat_lt variant (length (variants_of (slice_get items.adts n)))) _ h)
  variant_fits (Some (Ty.Tuple ts)) variant h = both (variant == 0) true h refl
  variant_fits (Some (Ty.Array t c)) variant h = both (variant == 0) true h refl
  variant_fits (Some (Ty.Closure n)) variant h = both (variant == 0) true h refl
  variant_fits (Some other) variant h = absurd (false≢true h)

  variant_is : (o : Option Ty) (variant : ℕ) →
      (is_aggregate o && ((option_map_or (is_enum items) o false || variant == 0) && variant_exists items o variant))
      ≡ true → (is_aggregate o && has_variant items o variant) ≡ true
  variant_is None variant h = absurd (false≢true h)
  variant_is (Some (Ty.Adt n)) variant h =
      both (nat_lt variant (length (variants_of (slice_get items.adts n)))) _
      (second (is_enum items (Ty.Adt n) || variant == 0) _ h) (first (is_enum items (Ty.Adt n) || variant == 0) _ h)
  variant_is (Some (Ty.Tuple ts)) variant h = first (variant == 0) true h
  variant_is (Some (Ty.Array t c)) variant h = first (variant == 0) true h
  variant_is (Some (Ty.Closure n)) variant h = first (variant == 0) true h
  variant_is (Some other) variant h = absurd (false≢true h)

  mutual
    pub fits_of : (d : Datum) (found : DynamicType) → IsOf items found d → Fits items found is_present d
    fits_of Gone found h = absurd h
    fits_of (Number number) found h = (refl, h)
    fits_of (Truth truth) found h = (refl, h)
    fits_of UnitValue found h = (refl, h)
    fits_of (Address address) found h = (refl, h)
    fits_of (Aggregate variant serial parts) found h =
        (refl, h.0, variant_fits (concrete_ty items found) variant h.1, parts_fit_of parts _ h.2)
    fits_of (Box serial impl_no inside) found h = (refl, h.0, (h.1.0, h.1.1, fits_of inside h.1.0 h.1.2))

    parts_fit_of : (parts : Data) (found_at : ℕ → Option DynamicType) → ArePartsOf items found_at parts →
        PartsFit items found_at (λ n. is_present) parts
    parts_fit_of no_part found_at h = h
    parts_fit_of (a_part first rest) found_at h =
        ((h.0.0, h.0.1, fits_of first h.0.0 h.0.2), parts_fit_of rest (λ n. found_at (suc n)) h.1)

  mutual
    pub is_of : (d : Datum) (found : DynamicType) → Fits items found is_present d → IsOf items found d
    is_of Gone found h = absurd (false≢true h)
    is_of (Number number) found h = h.1
    is_of (Truth truth) found h = h.1
    is_of UnitValue found h = h.1
    is_of (Address address) found h = h.1
    is_of (Aggregate variant serial parts) found h =
        (h.1, variant_is (concrete_ty items found) variant h.2, parts_are_of parts _ h.3)
    is_of (Box serial impl_no inside) found h = (h.1, (h.2.0, h.2.1, is_of inside h.2.0 h.2.2))

    parts_are_of : (parts : Data) (found_at : ℕ → Option DynamicType) → PartsFit items found_at (λ n. is_present) parts
        →
        ArePartsOf items found_at parts
    parts_are_of no_part found_at h = h
    parts_are_of (a_part first rest) found_at h =
        ((h.0.0, h.0.1, is_of first h.0.0 h.0.2), parts_are_of rest (λ n. found_at (suc n)) h.1)
