-- Values that are made of full ones are full: aggregates, boxes, boxes of a trait, numbers.
use Rattle.std.proofs.Common.{◌≡◌, ℕ, Bool, true, false, ℤ, List, [], ◌∷◌, Option, Some, None, is_some, slice_get, refl, ap, sym, ◌∙◌, subst}
use Rattle.std.specs.Option.{option_map_or}
use Rattle.std.proofs.lemmas.Bool.{false≢true}
use Rattle.mir_base.specs.declared.int_kind.IntKind.{IntKind}
use Rattle.mir_ty.specs.declared.ty.Ty.{Ty}
use Rattle.mir_ty.specs.declared.ty.TyId.{TyId}
use Rattle.mir_ty.specs.ItemTable.{ItemTable, type_at}
use Rattle.mir_ty.specs.Parts.{parts_of}
use Rattle.store_model.specs.Abstract.Presence.{is_present}
use Rattle.store_model.specs.Concrete.Drops.{drop_impl}
use Rattle.store_model.specs.Concrete.Location.{DynamicType, OfType, OfObject, adt_of_impl, adt_ty, type_in_box, type_of_field}
use Rattle.store_model.specs.Places.TypeForms.{int_kind, is_bool, is_dyn, box_content}
use Rattle.store_model.specs.Values.Datum.{Datum, Number, Truth, Aggregate, Box, data_from}
use Rattle.drop_values.specs.Typed.{has_variant, has_impl, Fits, PartsFit, a_type, IsFull}
use Rattle.store_model.specs.Places.Place.{is_reference}
use Rattle.drop_values.proofs.Touched.{NoAddress}
use Rattle.drop_values.proofs.TypedAs.{fits-concrete}

module _ (items : ItemTable) where
  -- as many full values as types, each of its type
  abbrev pub AllFull : List TyId → List Datum → Type 0
  AllFull [] [] = Unit {0}
  AllFull (id ∷ ids) (v ∷ vs) = IsFull items (OfType id) v × AllFull ids vs
  AllFull [] (v ∷ vs) = ⊥
  AllFull (id ∷ ids) [] = ⊥

  abbrev typed_part : List TyId → ℕ → Option DynamicType
  typed_part ids n = option_map_or (λ id. Some (OfType id)) (slice_get ids n) None

  parts-fit : (ids : List TyId) (vs : List Datum) → AllFull ids vs →
      PartsFit items (typed_part ids) (λ n. is_present) (data_from vs)
  parts-fit [] [] h = λ n. refl
  parts-fit (id ∷ ids) (v ∷ vs) h = ((OfType id, refl, h.0.1), parts-fit ids vs h.1)
  parts-fit [] (v ∷ vs) h = absurd h
  parts-fit (id ∷ ids) [] h = absurd h

  -- an aggregate of full parts
  pub aggregate-full : (id : TyId) (ty : Ty) (variant : ℕ) (serial : Option ℕ) (vs : List Datum) →
      type_at items id ≡ Some ty → is_some serial ≡ is_some (drop_impl items (Some ty)) →
      has_variant items (Some ty) variant ≡ true → AllFull (parts_of items ty variant) vs →
      IsFull items (OfType id) (Aggregate variant serial (data_from vs))
  aggregate-full id ty variant serial vs t s v h = (
    a_type id,
    (
      refl,
      s ∙ ap (λ o. is_some (drop_impl items o)) (sym t),
      ap (λ o. has_variant items o variant) t ∙ v,
      subst (λ o. PartsFit items (λ n. type_of_field items variant n o) (λ n. is_present) (data_from vs)) (sym t)
          (parts-fit (parts_of items ty variant) vs h),
    ),
  )

  -- a box around a full value
  pub box-full : (id content : TyId) (serial : ℕ) (v : Datum) → type_at items id ≡ Some (Ty.Boxed content) →
      is_dyn (type_at items content) ≡ false → IsFull items (OfType content) v →
      IsFull items (OfType id) (Box serial None v)
  box-full id content serial v t d h = (
    a_type id,
    (
      refl,
      (content, ap box_content t, sym d, refl),
      (OfType content, ap (type_in_box None) t, h.1),
    ),
  )

  pub number-full : (id : TyId) (kind : IntKind) (number : ℤ) → int_kind (type_at items id) ≡ Some kind →
      IsFull items (OfType id) (Number number)
  number-full id kind number k = (a_type id, (refl, (kind, k)))

  pub truth-full : (id : TyId) (truth : Bool) → is_bool (type_at items id) ≡ true →
      IsFull items (OfType id) (Truth truth)
  truth-full id truth b = (a_type id, (refl, b))

  -- a box of a struct or enum that becomes one of a trait
  pub object-full : (id from content inner : TyId) (n impl_no serial : ℕ) (other : Option ℕ) (inside : Datum) →
      type_at items id ≡ Some (Ty.Boxed content) → is_dyn (type_at items content) ≡ true →
      type_at items from ≡ Some (Ty.Boxed inner) → type_at items inner ≡ Some (Ty.Adt n) →
      adt_of_impl items impl_no ≡ Some n → has_impl items (type_at items content) (Some impl_no) ≡ true →
      IsFull items (OfType from) (Box serial other inside) →
      IsFull items (OfType id) (Box serial (Some impl_no) inside)
  object-full id from content inner n impl_no serial other inside t d f i a has h = (
    a_type id,
    (
      refl,
      (content, ap box_content t, sym d, has),
      (OfObject content impl_no, ap (type_in_box (Some impl_no)) t, by other h.1.1 h.1.2),
    ),
  )
    where
      by : (other : Option ℕ) → ((c : TyId) × (box_content (type_at items from) ≡ Some c)
          × (is_some other ≡ is_dyn (type_at items c)) × (has_impl items (type_at items c) other ≡ true)) →
          ((g : DynamicType) × (type_in_box other (type_at items from) ≡ Some g) × Fits items g is_present inside) →
          Fits items (OfObject content impl_no) is_present inside
      by None c g =
          let same : OfType inner ≡ g.0 = (let x : Some (OfType inner) ≡ Some g.0 = sym (ap (type_in_box None) f)
          ∙ g.1 in
          cc) in
          fits-concrete items (OfType inner) (OfObject content impl_no) is_present inside (i ∙ sym (ap adt_ty a))
          (subst (λ g. Fits items g is_present inside) (sym same) g.2)
      by (Some k) c g =
          let same : inner ≡ c.0 = (let x : Some inner ≡ Some c.0 = sym (ap box_content f) ∙ c.1 in cc) in
          absurd (false≢true (sym (c.2 ∙ ap (λ x. is_dyn (type_at items x)) (sym same) ∙ ap is_dyn i)))

  -- what is full of a type that is no reference is no address
  pub full-plain : (id : TyId) (d : Datum) → is_reference (type_at items id) ≡ false → IsFull items (OfType id) d →
      NoAddress d
  full-plain id d r h b e = false≢true (sym r ∙ (subst (IsFull items (OfType id)) e h).1.1)
