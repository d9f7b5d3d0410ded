-- As what the parts of a value are found: a field as its type, the content of a box as its type or as an object of its
-- trait.
use Rattle.std.proofs.Common.{◌≡◌, ℕ, true, Option, Some, None, is_some, refl, ap, sym, ◌∙◌, subst, slice_get}
use Rattle.std.specs.Prelude.{option_and_then}
use Rattle.std.specs.Option.{option_map_or}
use Rattle.std.proofs.lemmas.Bool.{false≢true}
use Rattle.std.proofs.lemmas.Option.{none-some}
use Rattle.mir_ty.specs.declared.ty.Ty.{Ty}
use Rattle.mir_ty.specs.declared.ty.TyId.{TyId}
use Rattle.mir_ty.specs.ItemTable.{ItemTable, type_at}
use Rattle.mir_ty.specs.Parts.{parts_of}
use Rattle.store_model.specs.Concrete.Location.{DynamicType, OfType, content_type, type_in_box, type_of_field}
use Rattle.store_model.specs.Places.TypeForms.{is_dyn, box_content}
use Rattle.drop_values.specs.Typed.{has_impl, Proper, a_type, an_object}

module _ (items : ItemTable) where
  pub field_at : (o : Option Ty) (variant n : ℕ) (f : DynamicType) → type_of_field items variant n o ≡ Some f →
      (part : TyId) × (f ≡ OfType part) × (option_and_then (λ ty. slice_get (parts_of items ty variant) n)
      o ≡ Some part)
  field_at None variant n f e = absurd (none-some f e)
  field_at (Some ty) variant n f e = by (slice_get (parts_of items ty variant) n) e
    where
      by : (o : Option TyId) → option_map_or (λ id. Some (OfType id)) o None ≡ Some f → (part : TyId)
          × (f ≡ OfType part) × (o ≡ Some part)
      by None e = absurd (none-some f e)
      by (Some part) e = (part, (let x : OfType part ≡ f = cc in sym x), refl)

  pub field-proper : (o : Option Ty) (variant n : ℕ) (f : DynamicType) → type_of_field items variant n o ≡ Some f →
      Proper items f
  field-proper o variant n f e = let a = field_at o variant n f e in subst (Proper items) (sym a.1) (a_type a.0)

  -- what is found in a box
  pub boxed-is : (o : Option Ty) (content : TyId) (impl_no : Option ℕ) (f : DynamicType) →
      box_content o ≡ Some content → type_in_box impl_no o ≡ Some f → f ≡ content_type content impl_no
  boxed-is None content impl_no f e h = absurd (none-some content e)
  boxed-is (Some (Ty.Boxed t)) content impl_no f e h = let x : Some (content_type t impl_no) ≡ Some f =
      h in let y : content_type t impl_no ≡ f = cc in let z : Some t ≡ Some content = e in let c : t ≡ content =
      cc in sym y ∙ ap (λ t. content_type t impl_no) c
  boxed-is (Some other) content impl_no f e h = absurd (none-some content e)

  pub dyn-is : (o : Option Ty) → is_dyn o ≡ true → (n : ℕ) × (o ≡ Some (Ty.Dyn n))
  dyn-is None e = absurd (false≢true e)
  dyn-is (Some (Ty.Dyn k)) e = (k, refl)
  dyn-is (Some other) e = absurd (false≢true e)

  pub content-proper : (content : TyId) (impl_no : Option ℕ) → is_some impl_no ≡ is_dyn (type_at items content) →
      has_impl items (type_at items content) impl_no ≡ true → Proper items (content_type content impl_no)
  content-proper content None e h = a_type content
  content-proper content (Some impl_no) e h =
      let d = dyn-is (type_at items content) (sym e) in
      an_object content impl_no d.0 d.1 (ap (λ o. has_impl items o (Some impl_no)) (sym d.1) ∙ h)

  pub box-proper : (o : Option Ty) (content : TyId) (impl_no : Option ℕ) (f : DynamicType) →
      box_content o ≡ Some content → is_some impl_no ≡ is_dyn (type_at items content) →
      has_impl items (type_at items content) impl_no ≡ true → type_in_box impl_no o ≡ Some f → Proper items f
  box-proper o content impl_no f e d i h =
      subst (Proper items) (sym (boxed-is o content impl_no f e h)) (content-proper content impl_no d i)
