-- What a value that is not gone is by the form of its type: an aggregate where the type has numbered parts, a box
-- where it is a box, a reference where it is one.
use Rattle.std.proofs.Common.{◌≡◌, ℕ, ℤ, ◌&&◌, ◌||◌, not, Bool, true, false, Option, Some, None, refl, ap, sym, ◌∙◌}
use Rattle.std.specs.Prelude.{slice_get}
use Rattle.std.specs.Cmp.{first_so}
use Rattle.std.proofs.lemmas.Bool.{false≢true}
use Rattle.std.proofs.lemmas.Option.{none-some}
use Rattle.mir_base.specs.declared.int_kind.IntKind.{IntKind}
use Rattle.mir_ty.specs.declared.ty.Ty.{Ty}
use Rattle.mir_ty.specs.declared.ty.TyId.{TyId}
use Rattle.mir_ty.specs.ItemTable.{ItemTable}
use Rattle.mir_ty.specs.Parts.{parts_of}
use Rattle.store_model.specs.declared.address.Addr.{Addr}
use Rattle.store_model.specs.Values.Datum.{Datum, Data, Gone, Number, Truth, UnitValue, Aggregate, Box, Address}
use Rattle.store_model.specs.Abstract.Presence.{Presence, itself_gone}
use Rattle.store_model.specs.Places.Place.{is_reference}
use Rattle.store_model.specs.Places.TypeForms.{int_kind, is_bool, is_unit, box_content}
use Rattle.store_model.specs.Concrete.Location.{DynamicType, concrete_ty}
use Rattle.soundness_values.specs.Typed.{is_aggregate}
use Rattle.soundness_values.proofs.Fits.{Fits}

pub no_and_yes : {A : Type 0} (b : Bool) → b ≡ true → b ≡ false → A
no_and_yes b h k = absurd (false≢true (sym k ∙ h))

pub no_some : {A B : Type 0} (o : Option A) (a : A) → o ≡ Some a → o ≡ None → B
no_some o a h k = absurd (none-some a (sym k ∙ h))

pub not_gone : {A : Type 0} (p : Presence) → not (itself_gone p) ≡ true → itself_gone p ≡ true → A
not_gone p h k = absurd (false≢true (ap not (sym k) ∙ h))

pub or_second : (a b : Bool) → (a || b) ≡ true → a ≡ false → b ≡ true
or_second true b h k = absurd (false≢true (sym k))
or_second false b h k = h

-- only aggregates have types with numbered parts
pub record HasParts (ty : Ty) : Type 0 where
  pub no_number : int_kind (Some ty) ≡ None
  pub no_truth : is_bool (Some ty) ≡ false
  pub no_unit : is_unit (Some ty) ≡ false
  pub no_reference : is_reference (Some ty) ≡ false
  pub no_box : box_content (Some ty) ≡ None

pub record IsAggregate (d : Datum) : Type 0 where
  pub variant : ℕ
  pub serial : Option ℕ
  pub parts : Data
  pub is_it : d ≡ Aggregate variant serial parts

pub record IsBox (d : Datum) : Type 0 where
  pub serial : ℕ
  pub impl_no : Option ℕ
  pub inside : Datum
  pub is_it : d ≡ Box serial impl_no inside

pub record IsAddress (d : Datum) : Type 0 where
  pub address : Addr
  pub is_it : d ≡ Address address

module _ (items : ItemTable) where
  pub has_parts : (ty : Ty) (variant n : ℕ) (next : TyId) → slice_get (parts_of items ty variant) n ≡ Some next →
      HasParts ty
  has_parts (Ty.Adt m) variant n next e =
      record { no_number = refl; no_truth = refl; no_unit = refl; no_reference = refl; no_box = refl }
  has_parts (Ty.Tuple ts) variant n next e =
      record { no_number = refl; no_truth = refl; no_unit = refl; no_reference = refl; no_box = refl }
  has_parts (Ty.Array t c) variant n next e =
      record { no_number = refl; no_truth = refl; no_unit = refl; no_reference = refl; no_box = refl }
  has_parts (Ty.Closure m) variant n next e =
      record { no_number = refl; no_truth = refl; no_unit = refl; no_reference = refl; no_box = refl }
  has_parts other variant n next e = absurd (none-some next e)

  pub array_parts : (e : TyId) (count : ℕ) → HasParts (Ty.Array e count)
  array_parts e count = record {
    no_number = refl;
    no_truth = refl;
    no_unit = refl;
    no_reference = refl;
    no_box =
        refl;
  }

  pub enum_parts : (n : ℕ) → HasParts (Ty.Adt n)
  enum_parts n = record { no_number = refl; no_truth = refl; no_unit = refl; no_reference = refl; no_box = refl }

  pub aggregate_of : (d : Datum) (found : DynamicType) (p : Presence) (ty : Ty) → concrete_ty items found ≡ Some ty →
      HasParts ty → not (itself_gone p) ≡ true → Fits items found p d → IsAggregate d
  aggregate_of Gone found p ty is_ty h there k = not_gone p there k
  aggregate_of (Number number) found p ty is_ty h there k = no_some (int_kind (Some ty)) k.1.0
      (sym (ap int_kind is_ty) ∙ k.1.1) h.no_number
  aggregate_of (Truth truth) found p ty is_ty h there k = no_and_yes (is_bool (Some ty))
      (sym (ap is_bool is_ty) ∙ k.1)
      h.no_truth
  aggregate_of UnitValue found p ty is_ty h there k = no_and_yes (is_unit (Some ty)) (sym (ap is_unit is_ty) ∙ k.1)
      h.no_unit
  aggregate_of (Aggregate variant serial parts) found p ty is_ty h there k =
      record { variant = variant; serial = serial; parts = parts; is_it = refl }
  aggregate_of (Box serial impl_no inside) found p ty is_ty h there k = no_some (box_content (Some ty)) k.1.0
      (sym (ap box_content is_ty) ∙ k.1.1) h.no_box
  aggregate_of (Address address) found p ty is_ty h there k = no_and_yes (is_reference (Some ty))
      (sym (ap is_reference is_ty) ∙ k.1) h.no_reference

  not_aggregate : {A : Type 0} (found : DynamicType) (ty : Ty) (rest : Bool) → concrete_ty items found ≡ Some ty →
      is_aggregate (Some ty) ≡ false → (is_aggregate (concrete_ty items found) && rest) ≡ true → A
  not_aggregate found ty rest is_ty h k = no_and_yes (is_aggregate (Some ty))
      (sym (ap is_aggregate is_ty) ∙ first_so (is_aggregate (concrete_ty items found)) rest k) h

  pub box_of : (d : Datum) (found : DynamicType) (p : Presence) (next : TyId) → concrete_ty items found ≡ Some
      (Ty.Boxed next) → not (itself_gone p) ≡ true → Fits items found p d → IsBox d
  box_of Gone found p next is_box there k = not_gone p there k
  box_of (Number number) found p next is_box there k = no_some (int_kind (Some (Ty.Boxed next))) k.1.0
      (sym (ap int_kind is_box) ∙ k.1.1) refl
  box_of (Truth truth) found p next is_box there k = no_and_yes (is_bool (Some (Ty.Boxed next)))
      (sym (ap is_bool is_box) ∙ k.1) refl
  box_of UnitValue found p next is_box there k = no_and_yes (is_unit (Some (Ty.Boxed next)))
      (sym (ap is_unit is_box) ∙ k.1) refl
  box_of (Aggregate variant serial parts) found p next is_box there k =
      not_aggregate found (Ty.Boxed next) _ is_box refl k.2
  box_of (Box serial impl_no inside) found p next is_box there k =
      record { serial = serial; impl_no = impl_no; inside = inside; is_it = refl }
  box_of (Address address) found p next is_box there k = no_and_yes (is_reference (Some (Ty.Boxed next)))
      (sym (ap is_reference is_box) ∙ k.1) refl

  pub number_of : (d : Datum) (found : DynamicType) (p : Presence) (kind : IntKind) → concrete_ty items found ≡ Some
      (Ty.Int kind) → not (itself_gone p) ≡ true → Fits items found p d → (number : ℤ) × (d ≡ Number number)
  number_of Gone found p kind is_int there k = not_gone p there k
  number_of (Number number) found p kind is_int there k = (number, refl)
  number_of (Truth truth) found p kind is_int there k = no_and_yes (is_bool (Some (Ty.Int kind)))
      (sym (ap is_bool is_int) ∙ k.1) refl
  number_of UnitValue found p kind is_int there k = no_and_yes (is_unit (Some (Ty.Int kind)))
      (sym (ap is_unit is_int) ∙ k.1) refl
  number_of (Aggregate variant serial parts) found p kind is_int there k =
      not_aggregate found (Ty.Int kind) _ is_int refl k.2
  number_of (Box serial impl_no inside) found p kind is_int there k =
      no_some (box_content (Some (Ty.Int kind))) k.1.0
      (sym (ap box_content is_int) ∙ k.1.1) refl
  number_of (Address address) found p kind is_int there k = no_and_yes (is_reference (Some (Ty.Int kind)))
      (sym (ap is_reference is_int) ∙ k.1) refl

  pub truth_of : (d : Datum) (found : DynamicType) (p : Presence) → concrete_ty items found ≡ Some Ty.Bool →
      not (itself_gone p) ≡ true → Fits items found p d → (truth : Bool) × (d ≡ Truth truth)
  truth_of Gone found p is_truth there k = not_gone p there k
  truth_of (Number number) found p is_truth there k = no_some (int_kind (Some Ty.Bool)) k.1.0
      (sym (ap int_kind is_truth) ∙ k.1.1) refl
  truth_of (Truth truth) found p is_truth there k = (truth, refl)
  truth_of UnitValue found p is_truth there k = no_and_yes (is_unit (Some Ty.Bool)) (sym (ap is_unit is_truth) ∙ k.1)
      refl
  truth_of (Aggregate variant serial parts) found p is_truth there k =
      not_aggregate found Ty.Bool _ is_truth refl k.2
  truth_of (Box serial impl_no inside) found p is_truth there k = no_some (box_content (Some Ty.Bool)) k.1.0
      (sym (ap box_content is_truth) ∙ k.1.1) refl
  truth_of (Address address) found p is_truth there k = no_and_yes (is_reference (Some Ty.Bool))
      (sym (ap is_reference is_truth) ∙ k.1) refl

  pub address_of : (d : Datum) (found : DynamicType) (p : Presence) (ty : Ty) → concrete_ty items found ≡ Some ty →
      is_reference (Some ty) ≡ true → not (itself_gone p) ≡ true → Fits items found p d → IsAddress d
  address_of Gone found p ty is_ty h there k = not_gone p there k
  address_of (Number number) found p ty is_ty h there k = no_number ty h (sym (ap int_kind is_ty) ∙ k.1.1)
    where
      no_number : {A : Type 0} (ty : Ty) → is_reference (Some ty) ≡ true → int_kind (Some ty) ≡ Some k.1.0 → A
      no_number (Ty.Shared t) h e = absurd (none-some k.1.0 e)
      no_number (Ty.Unique t) h e = absurd (none-some k.1.0 e)
      no_number other h e = absurd (false≢true h)
  address_of (Truth truth) found p ty is_ty h there k = either ty h (sym (ap is_bool is_ty) ∙ k.1)
    where
      either : {A : Type 0} (ty : Ty) → is_reference (Some ty) ≡ true → is_bool (Some ty) ≡ true → A
      either Ty.Bool h e = absurd (false≢true h)
      either other h e = absurd (false≢true e)
  address_of UnitValue found p ty is_ty h there k = either ty h (sym (ap is_unit is_ty) ∙ k.1)
    where
      either : {A : Type 0} (ty : Ty) → is_reference (Some ty) ≡ true → is_unit (Some ty) ≡ true → A
      either Ty.Unit h e = absurd (false≢true h)
      either other h e = absurd (false≢true e)
  address_of (Aggregate variant serial parts) found p ty is_ty h there k =
      either ty h (sym (ap is_aggregate is_ty) ∙ first_so (is_aggregate (concrete_ty items found)) _ k.2)
    where
      either : {A : Type 0} (ty : Ty) → is_reference (Some ty) ≡ true → is_aggregate (Some ty) ≡ true → A
      either (Ty.Adt x) h e = absurd (false≢true h)
      either (Ty.Tuple x) h e = absurd (false≢true h)
      either (Ty.Array x y) h e = absurd (false≢true h)
      either (Ty.Closure x) h e = absurd (false≢true h)
      either other h e = absurd (false≢true e)
  address_of (Box serial impl_no inside) found p ty is_ty h there k =
      either ty h (sym (ap box_content is_ty) ∙ k.1.1)
    where
      either : {A : Type 0} (ty : Ty) → is_reference (Some ty) ≡ true → box_content (Some ty) ≡ Some k.1.0 → A
      either (Ty.Shared t) h e = absurd (none-some k.1.0 e)
      either (Ty.Unique t) h e = absurd (none-some k.1.0 e)
      either other h e = absurd (false≢true h)
  address_of (Address address) found p ty is_ty h there k = record { address = address; is_it = refl }
