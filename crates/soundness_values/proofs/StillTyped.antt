-- A type as which something is found that is not gone is still the same, as a drop asks before it goes on.
use Rattle.std.proofs.Common.{◌≡◌, ℕ, ◌==◌, true, false, Option, Some, None, is_some, refl, ap, sym, ◌∙◌, subst}
use Rattle.std.specs.Prelude.{slice_get}
use Rattle.std.specs.Option.{option_map_or}
use Rattle.std.proofs.lemmas.Bool.{false≢true}
use Rattle.std.proofs.lemmas.Bool.Decides.{Decides-eqb}
use Rattle.std.proofs.lemmas.Option.{none-some}
use Rattle.mir_ty.specs.declared.ty.Ty.{Ty}
use Rattle.mir_ty.specs.declared.ty.TyId.{TyId}
use Rattle.mir_ty.specs.ItemTable.{ItemTable}
use Rattle.mir_ty.specs.Parts.{parts_of}
use Rattle.store_model.specs.Values.Datum.{Datum, Gone, Number, Truth, UnitValue, Aggregate, Box, Address}
use Rattle.store_model.specs.Abstract.Presence.{Presence}
use Rattle.store_model.specs.Places.Place.{is_reference}
use Rattle.store_model.specs.Places.TypeForms.{int_kind, is_bool, is_unit, is_adt, box_content}
use Rattle.store_model.specs.Concrete.Location.{DynamicType, OfType, OfObject, adt_of_impl, adt_ty, type_of_field, concrete_ty}
use Rattle.store_model.specs.Concrete.Drops.{still_of}
use Rattle.soundness_values.specs.Typed.{is_aggregate}
use Rattle.soundness_values.proofs.Fits.{Fits}
use Rattle.soundness_values.proofs.Sealed.{and_first}

pub same_number : (n : ℕ) → (n == n) ≡ true
same_number n = (Decides-eqb n n).1 refl

module _ (items : ItemTable) where
  abbrev pub NotGone : Datum → Type 0
  NotGone Gone = ⊥
  NotGone d = Unit {0}

  pub typed_of : (d : Datum) (found : DynamicType) (p : Presence) → NotGone d → Fits items found p d →
      concrete_ty items found ≡ None → ⊥
  typed_of Gone found p h k e = h
  typed_of (Number number) found p h k e = none-some k.1.0 (sym (ap int_kind e) ∙ k.1.1)
  typed_of (Truth truth) found p h k e = false≢true (sym (ap is_bool e) ∙ k.1)
  typed_of UnitValue found p h k e = false≢true (sym (ap is_unit e) ∙ k.1)
  typed_of (Aggregate variant serial parts) found p h k e =
      false≢true (sym (ap is_aggregate e) ∙ and_first (is_aggregate (concrete_ty items found)) _ k.2)
  typed_of (Box serial impl_no inside) found p h k e = none-some k.1.0 (sym (ap box_content e) ∙ k.1.1)
  typed_of (Address address) found p h k e = false≢true (sym (ap is_reference e) ∙ k.1)

  pub still_itself : (found : DynamicType) → (concrete_ty items found ≡ None → ⊥) → still_of items found found ≡ true
  still_itself (OfType id) h = same_number id.0
  still_itself (OfObject id impl_no) h = by (adt_of_impl items impl_no) refl
    where
      by : (o : Option ℕ) → adt_of_impl items impl_no ≡ o → option_map_or (λ n. is_adt n (adt_ty o)) o false ≡ true
      by None e = absurd (h (ap adt_ty e))
      by (Some n) e = same_number n

  pub still_of_part : (n variant : ℕ) (o : Option Ty) (found : DynamicType) →
      type_of_field items variant n o ≡ Some found → still_of items found found ≡ true
  still_of_part n variant None found e = absurd (none-some found e)
  still_of_part n variant (Some ty) found e = by (slice_get (parts_of items ty variant) n) e
    where
      by : (o : Option TyId) → option_map_or (λ id. Some (OfType id)) o None ≡ Some found →
          still_of items found found ≡ true
      by None e = absurd (none-some found e)
      by (Some id) e = let same : OfType id ≡ found = cc in subst (λ f. still_of items f f ≡ true) same
          (same_number id.0)

  pub none_if_not : {A : Type 0} (o : Option A) → false ≡ is_some o → o ≡ None
  none_if_not None e = refl
  none_if_not (Some a) e = absurd (false≢true e)

  pub some_if_so : {A : Type 0} (o : Option A) → true ≡ is_some o → (a : A) × (o ≡ Some a)
  some_if_so None e = absurd (false≢true (sym e))
  some_if_so (Some a) e = (a, refl)
