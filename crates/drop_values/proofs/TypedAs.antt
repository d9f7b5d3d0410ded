-- As which static type a value is found, with the types that its parts are found as then.
use Rattle.std.proofs.Common.{◌≡◌, ℕ, zero, suc, ◌==◌, ◌||◌, Bool, true, false, List, [], replicate, Option, Some, None, is_some, refl, ap, sym, ◌∙◌, subst, slice_get}
use Rattle.std.specs.Option.{option_map_or}
use Rattle.std.proofs.lemmas.Bool.{false≢true}
use Rattle.std.proofs.lemmas.Bool.Decides.{Decides-eqb}
use Rattle.std.proofs.lemmas.Option.{none-some}
use Rattle.mir_ty.specs.declared.ty.Ty.{Ty}
use Rattle.mir_ty.specs.declared.ty.TyId.{TyId}
use Rattle.mir_ty.specs.ItemTable.{ItemTable, type_at}
use Rattle.mir_ty.specs.Parts.{parts_of}
use Rattle.store_model.specs.declared.address.At.{At}
use Rattle.store_model.specs.Abstract.Presence.{Presence, presence_at}
use Rattle.store_model.specs.Concrete.Drops.{drop_impl}
use Rattle.store_model.specs.Concrete.Location.{DynamicType, OfType, OfObject, adt_of_impl, adt_ty, concrete_ty, is_of_type, content_type, type_in_box, type_of_field}
use Rattle.store_model.specs.Places.Place.{Step, ToPart, ToField, ToContent, ToElement, is_enum, is_reference, step_ty}
use Rattle.store_model.specs.Places.TypeForms.{is_adt, is_bool, is_dyn, is_unit, int_kind, box_content}
use Rattle.store_model.specs.Values.Datum.{Datum, Gone, Number, Truth, UnitValue, Aggregate, Box, Address}
use Rattle.drop_values.proofs.Behind.{Leads, stops, by_part, by_content, leads-fits}
use Rattle.drop_values.proofs.Found.{field_at, boxed-is, dyn-is, content-proper}
use Rattle.drop_values.specs.Typed.{step_if, part_step, variant_if, has_variant, Fits, PartsFit, Proper, a_type, an_object}

module _ (items : ItemTable) where
  -- what a value fits goes by the concrete type alone
  pub fits-concrete : (f g : DynamicType) (p : Presence) (d : Datum) → concrete_ty items f ≡ concrete_ty items g →
      Fits items f p d → Fits items g p d
  fits-concrete f g p Gone e k = k
  fits-concrete f g p (Number x) e k = (k.0, (k.1.0, sym (ap int_kind e) ∙ k.1.1))
  fits-concrete f g p (Truth x) e k = (k.0, sym (ap is_bool e) ∙ k.1)
  fits-concrete f g p UnitValue e k = (k.0, sym (ap is_unit e) ∙ k.1)
  fits-concrete f g p (Address x) e k = (k.0, sym (ap is_reference e) ∙ k.1)
  fits-concrete f g p (Aggregate variant serial parts) e k = (
    k.0,
    k.1 ∙ ap (λ o. is_some (drop_impl items o)) e,
    sym (ap (λ o. has_variant items o variant) e) ∙ k.2,
    subst (λ o. PartsFit items (λ n. type_of_field items variant n o)
        (λ n. presence_at (step_if items (option_map_or (is_enum items) o false) variant n) p) parts) e k.3,
  )
  fits-concrete f g p (Box serial impl_no inside) e k = (
    k.0,
    (k.1.0, sym (ap box_content e) ∙ k.1.1, k.1.2, k.1.3),
    (
      k.2.0,
      sym (ap (type_in_box impl_no) e)
          ∙ k.2.1,
      k.2.2,
    ),
  )

  -- found as a type: as it, as a trait object of it, or as the concrete type of a trait object
  pub data As : DynamicType → TyId → Type 0 where
    itself_as : (id : TyId) → As (OfType id) id
    object_as : (id : TyId) (impl_no n : ℕ) → type_at items id ≡ Some (Ty.Dyn n) → As (OfObject id impl_no) id
    concrete_as : (ty id : TyId) (impl_no n : ℕ) → concrete_ty items (OfObject ty impl_no) ≡ Some (Ty.Adt n) →
        type_at items id ≡ Some (Ty.Adt n) → As (OfObject ty impl_no) id

  same_number : (a b : TyId) → (a.0 == b.0) ≡ true → b ≡ a
  same_number a b h = ap (λ n. record { 0 = n }) (sym ((Decides-eqb a.0 b.0).0 h))

  is_adt-type : (n : ℕ) (o : Option Ty) → is_adt n o ≡ true → o ≡ Some (Ty.Adt n)
  is_adt-type n None h = absurd (false≢true h)
  is_adt-type n (Some (Ty.Adt m)) h = ap (λ k. Some (Ty.Adt k)) (sym ((Decides-eqb n m).0 h))
  is_adt-type n (Some other) h = absurd (false≢true h)

  pub as-of : (id : TyId) (found : DynamicType) → Proper items found → is_of_type items id found ≡ true → As found id
  as-of id _ (a_type id') h = subst (λ x. As (OfType x) id) (sym (same_number id id' h)) (itself_as id)
  as-of id _ (an_object ty impl_no n dyn has) h = by (id.0 == ty.0) refl
      (option_map_or (λ n. is_adt n (type_at items id)) (adt_of_impl items impl_no) false) refl h
    where
      of_impl : (o : Option ℕ) → adt_of_impl items impl_no ≡ o → option_map_or (λ n. is_adt n (type_at items id))
          o false ≡ true → As (OfObject ty impl_no) id
      of_impl None e h = absurd (false≢true h)
      of_impl (Some m) e h = concrete_as ty id impl_no m (ap adt_ty e) (is_adt-type m (type_at items id) h)

      by : (a : Bool) → (id.0 == ty.0) ≡ a → (b : Bool) → option_map_or (λ n. is_adt n (type_at items id))
          (adt_of_impl items impl_no) false ≡ b → (a || b) ≡ true → As (OfObject ty impl_no) id
      by true ea b eb h = subst (λ x. As (OfObject x impl_no) id) (sym (same_number id ty ea))
          (object_as id impl_no n (ap (type_at items) (sym (same_number id ty ea)) ∙ dyn))
      by false ea true eb h = of_impl (adt_of_impl items impl_no) refl eb
      by false ea false eb h = absurd (false≢true h)

  -- a value of a type that can be stored is a value of what is found there
  pub typed-as : (found : DynamicType) (id : TyId) (p : Presence) (d : Datum) → As found id →
      is_dyn (type_at items id) ≡ false → Fits items (OfType id) p d → Fits items found p d
  typed-as _ id p d (itself_as _) sized k = k
  typed-as _ id p d (object_as _ impl_no n dyn) sized k = absurd (false≢true (sym sized ∙ ap is_dyn dyn))
  typed-as _ id p d (concrete_as ty _ impl_no n c t) sized k = fits-concrete (OfType id) (OfObject ty impl_no) p d
      (t ∙ sym c) k

  pub as-typed : (found : DynamicType) (id : TyId) (p : Presence) (d : Datum) → As found id →
      is_dyn (type_at items id) ≡ false → Fits items found p d → Fits items (OfType id) p d
  as-typed _ id p d (itself_as _) sized k = k
  as-typed _ id p d (object_as _ impl_no n dyn) sized k = absurd (false≢true (sym sized ∙ ap is_dyn dyn))
  as-typed _ id p d (concrete_as ty _ impl_no n c t) sized k = fits-concrete (OfObject ty impl_no)
      (OfType id) p d (c ∙ sym t) k

  pub content-as : (content : TyId) (impl_no : Option ℕ) → is_some impl_no ≡ is_dyn (type_at items content) →
      As (content_type content impl_no) content
  content-as content None e = itself_as content
  content-as content (Some impl_no) e = let d = dyn-is items (type_at items content) (sym e) in object_as
      content impl_no d.0 d.1

  pub leads-proper : {path : List At} {found f' : DynamicType} {p p' : Presence} {d d' : Datum} →
      Leads items path found p d f' p' d' → Fits items found p d → Proper items found → Proper items f'
  leads-proper (stops found p d) k pr = pr
  leads-proper (by_part path found p variant serial parts n inner f f' p' d' is_part is_found rest) k pr =
      leads-proper rest (leads-fits items (by_part [] found p variant serial parts n inner f f
      (presence_at (part_step items found variant n) p) inner is_part is_found
      (stops f (presence_at (part_step items found variant n) p) inner)) k)
      (let a = field_at items (concrete_ty items found) variant n f is_found in subst (Proper items)
      (sym a.1) (a_type a.0))
  leads-proper (by_content path found p serial impl_no inside f f' p' d' is_found rest) k pr =
      leads-proper rest (subst (λ g. Fits items g (presence_at ToContent p) inside) (let same : k.2.0 ≡ f = cc in same)
      k.2.2)
      (subst (Proper items) (sym (boxed-is items (concrete_ty items found) k.1.0 impl_no f k.1.1 is_found))
      (content-proper items k.1.0 impl_no k.1.2 k.1.3))

  -- ---- one step

  no_dyn_step : (step : Step) (n : ℕ) (next : TyId) → step_ty items step (Ty.Dyn n) ≡ Some next → ⊥
  no_dyn_step (ToPart m) n next e = none-some next e
  no_dyn_step (ToField v m) n next e = none-some next e
  no_dyn_step ToContent n next e = none-some next e
  no_dyn_step (ToElement i) n next e = none-some next e

  pub as-concrete : (found : DynamicType) (id : TyId) (step : Step) (ty : Ty) (next : TyId) → As found id →
      type_at items id ≡ Some ty → step_ty items step ty ≡ Some next → concrete_ty items found ≡ Some ty
  as-concrete _ id step ty next (itself_as _) is s = is
  as-concrete _ id step ty next (object_as _ impl_no n dyn) is s =
      absurd (no_dyn_step step n next (subst (λ t. step_ty items step t ≡ Some next)
      (let x : Some ty ≡ Some (Ty.Dyn n) = sym is ∙ dyn in let y : ty ≡ Ty.Dyn n = cc in y) s))
  as-concrete _ id step ty next (concrete_as t _ impl_no n c d) is s = c ∙ sym d ∙ is

  pub field-as : (o : Option Ty) (ty : Ty) (variant n : ℕ) (f : DynamicType) (next : TyId) → o ≡ Some ty →
      slice_get (parts_of items ty variant) n ≡ Some next → type_of_field items variant n o ≡ Some f → As f next
  field-as o ty variant n f next is part e =
      let x : Some (OfType next) ≡ Some f = sym (ap (λ (x : Option TyId). option_map_or
      (λ (id : TyId). Some (OfType id)) x None) part) ∙ sym (ap (type_of_field items variant n) is) ∙ e in
      let y : OfType next ≡ f = cc in subst (λ g. As g next) y (itself_as next)

  pub variant-zero : (ty : Ty) (variant : ℕ) → is_enum items ty ≡ false → has_variant items (Some ty) variant ≡ true →
      variant ≡ 0
  variant-zero (Ty.Adt k) variant e h = (Decides-eqb variant 0).0
      (subst (λ b. variant_if items b (slice_get items.adts k) variant ≡ true) e h)
  variant-zero (Ty.Tuple ts) variant e h = (Decides-eqb variant 0).0 h
  variant-zero (Ty.Array t c) variant e h = (Decides-eqb variant 0).0 h
  variant-zero (Ty.Closure k) variant e h = (Decides-eqb variant 0).0 h
  variant-zero other variant e h = absurd (false≢true h)

  pub element-is : (count n : ℕ) (e next : TyId) → slice_get (replicate count e) n ≡ Some next → next ≡ e
  element-is zero n e next h = absurd (none-some next h)
  element-is (suc count) zero e next h = let x : Some e ≡ Some next = h in let y : e ≡ next = cc in sym y
  element-is (suc count) (suc n) e next h = element-is count n e next h
