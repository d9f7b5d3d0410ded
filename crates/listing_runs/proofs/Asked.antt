-- What a run asks of types has one answer in two tables of items whose types are written alike: the type as which a
-- value is found, whether it is the one that a reference names, the types of its parts, and its `Drop` body.
use Rattle.std.proofs.Common.{◌≡◌, ℕ, zero, suc, Bool, true, false, ◌||◌, ◌==◌, if◌then◌else◌, List, [], ◌∷◌, replicate, Option, Some, None, slice_get, refl, ap, subst}
use Rattle.std.specs.Prelude.{option_and_then}
use Rattle.std.specs.Option.{option_map_or}
use Rattle.mir_ty.specs.declared.def.ImplDef.{ImplDef}
use Rattle.mir_ty.specs.declared.ty.Ty.{Ty}
use Rattle.mir_ty.specs.declared.ty.TyId.{TyId}
use Rattle.mir_ty.specs.ItemTable.{ItemTable, type_at}
use Rattle.mir_ty.specs.Parts.{captures_of, parts_of}
use Rattle.store_model.specs.declared.address.At.{At}
use Rattle.store_model.specs.declared.address.At.TheVariants.{Part, Inside}
use Rattle.store_model.specs.Concrete.Drops.{with_drop_body, drop_impl, still_of}
use Rattle.store_model.specs.Concrete.Location.{DynamicType, OfType, OfObject, adt_of_impl, adt_ty, concrete_ty, is_of_type, content_type, type_in_box, type_of_field, type_of_part, named_by}
use Rattle.store_model.specs.Places.Place.{Step, ToPart, ToField, ToContent, ToElement, is_enum, part_if, unless_enum, content_of, element_of, step_ty, ty_along}
use Rattle.store_model.specs.Places.TypeForms.{same_id, is_never, int_kind}
use Rattle.store_model.specs.Values.Datum.{Datum, Aggregate, Box}
use Rattle.listing_write.proofs.Reading.Alike.{TyAlike, ListsAlike, Alike, int, never, adt, tuple, array, boxed, shared, unique, closure}
use Rattle.listing_write.proofs.Reading.Tested.{OptTy, OptId, HeldAlike, adt_alike, slice_alike}

module _ (left right : ItemTable) where
  -- what two tables answer alike
  pub record AnswersAlike : Type 0 where
    pub held : HeldAlike left right
    pub types : (a b : TyId) → TyAlike left right a b → OptTy left right (type_at left a) (type_at right b)
    pub ids : (a b c d : TyId) → TyAlike left right a b → TyAlike left right c d → same_id a c ≡ same_id b d
    pub impls : left.impls ≡ right.impls
    pub drops : (n : ℕ) → option_map_or (λ adt. adt.drop_body) (slice_get left.adts n) None
        ≡ option_map_or (λ adt. adt.drop_body) (slice_get right.adts n) None

  -- the types as which one value is found in the two
  pub data DynAlike : DynamicType → DynamicType → Type 0 where
    of_type : {a b : TyId} → TyAlike left right a b → DynAlike (OfType a) (OfType b)
    of_object : {a b : TyId} → TyAlike left right a b → (impl_no : ℕ) →
        DynAlike (OfObject a impl_no) (OfObject b impl_no)

  pub data OptDyn : Option DynamicType → Option DynamicType → Type 0 where
    no_dynamic : OptDyn None None
    a_dynamic : {d e : DynamicType} → DynAlike d e → OptDyn (Some d) (Some e)

  -- what is said of two types that may be missing, and of two numbers of types
  by_forms : (P : Option Ty → Option Ty → Type 0) → P None None →
      ((s t : Ty) → Alike left right s t → P (Some s) (Some t)) → (x y : Option Ty) → OptTy left right x y → P x y
  by_forms P none some None None h = none
  by_forms P none some (Some s) (Some t) h = some s t h
  by_forms P none some None (Some t) h = absurd h
  by_forms P none some (Some s) None h = absurd h

  pub by_ids : (P : Option TyId → Option TyId → Type 0) → P None None →
      ((a b : TyId) → TyAlike left right a b → P (Some a) (Some b)) → (x y : Option TyId) → OptId left right x y → P x y
  by_ids P none some None None h = none
  by_ids P none some (Some a) (Some b) h = some a b h
  by_ids P none some None (Some b) h = absurd h
  by_ids P none some (Some a) None h = absurd h

  -- the parts of types
  copies : (a b : TyId) → TyAlike left right a b → (n : ℕ) → ListsAlike left right (replicate n a) (replicate n b)
  copies a b h zero = tt
  copies a b h (suc n) = (h, copies a b h n)

  of_one : (t : Bool) (xs ys : List TyId) → ListsAlike left right xs ys →
      ListsAlike left right (if t then xs else []) (if t then ys else [])
  of_one true xs ys h = h
  of_one false xs ys h = tt

  content_alike : (a b : TyId) → TyAlike left right a b → (impl_no : Option ℕ) →
      DynAlike (content_type a impl_no) (content_type b impl_no)
  content_alike a b h None = of_type h
  content_alike a b h (Some n) = of_object h n

  in_box_alike : (impl_no : Option ℕ) (x y : Option Ty) → OptTy left right x y →
      OptDyn (type_in_box impl_no x) (type_in_box impl_no y)
  in_box_alike impl_no = by_forms (λ x y. OptDyn (type_in_box impl_no x) (type_in_box impl_no y)) no_dynamic by
    where
      by : (s t : Ty) → Alike left right s t → OptDyn (type_in_box impl_no (Some s)) (type_in_box impl_no (Some t))
      by s t (boxed {a = a} {b = b} h) = a_dynamic (content_alike a b h impl_no)
      by s t _ = no_dynamic

  -- what a reference names
  pub named_alike : (x y : Option Ty) → OptTy left right x y → OptId left right (named_by x) (named_by y)
  named_alike = by_forms (λ x y. OptId left right (named_by x) (named_by y)) tt by
    where
      by : (s t : Ty) → Alike left right s t → OptId left right (named_by (Some s)) (named_by (Some t))
      by s t (shared h) = h
      by s t (unique h) = h
      by s t _ = tt

  pub never_same : (x y : Option Ty) → OptTy left right x y → is_never x ≡ is_never y
  never_same = by_forms (λ x y. is_never x ≡ is_never y) refl by
    where
      by : (s t : Ty) → Alike left right s t → is_never (Some s) ≡ is_never (Some t)
      by s t never = refl
      by s t _ = refl

  pub kind_same : (x y : Option Ty) → OptTy left right x y → int_kind x ≡ int_kind y
  kind_same = by_forms (λ x y. int_kind x ≡ int_kind y) refl by
    where
      by : (s t : Ty) → Alike left right s t → int_kind (Some s) ≡ int_kind (Some t)
      by s t (int kind) = refl
      by s t _ = refl

  pub then_id : (f g : TyId → Option TyId) (x y : Option TyId) → OptId left right x y →
      ((a b : TyId) → TyAlike left right a b → OptId left right (f a) (g b)) →
      OptId left right (option_and_then f x) (option_and_then g y)
  then_id f g x y h on = by_ids (λ x y. OptId left right (option_and_then f x) (option_and_then g y)) tt on x y h

  module _ (alike : AnswersAlike) where
    parts_alike : (s t : Ty) → Alike left right s t → (v : ℕ) →
        ListsAlike left right (parts_of left s v) (parts_of right t v)
    parts_alike s t (adt n) v = alike.held.fields n v
    parts_alike s t (tuple {xs = xs} {ys = ys} h) v = of_one (v == 0) xs ys h
    parts_alike s t (array {a = a} {b = b} h count) v =
        of_one (v == 0) (replicate count a) (replicate count b) (copies a b h count)
    parts_alike s t (closure n) v =
        of_one (v == 0) (captures_of (slice_get left.closures n)) (captures_of (slice_get right.closures n))
        (alike.held.captures n)
    parts_alike s t _ v = tt

    part_at_alike : (s t : Ty) → Alike left right s t → (v n : ℕ) →
        OptId left right (slice_get (parts_of left s v) n) (slice_get (parts_of right t v) n)
    part_at_alike s t h v n = slice_alike left right (parts_of left s v) (parts_of right t v) (parts_alike s t h v) n

    -- the types of places
    enum_same : (s t : Ty) → Alike left right s t → is_enum left s ≡ is_enum right t
    enum_same s t (adt n) = alike.held.enums n
    enum_same s t _ = refl

    unless_alike : (e f : Bool) → e ≡ f → (x y : Option TyId) → OptId left right x y →
        OptId left right (unless_enum e x) (unless_enum f y)
    unless_alike e f h x y k = subst (λ g. OptId left right (unless_enum e x) (unless_enum g y)) h (own e)
      where
        own : (e : Bool) → OptId left right (unless_enum e x) (unless_enum e y)
        own true = tt
        own false = k

    part_if_alike : (e f : Bool) → e ≡ f → (x y : Option TyId) → OptId left right x y →
        OptId left right (part_if e x) (part_if f y)
    part_if_alike e f h x y k = subst (λ g. OptId left right (part_if e x) (part_if g y)) h (own e)
      where
        own : (e : Bool) → OptId left right (part_if e x) (part_if e y)
        own true = k
        own false = tt

    step_alike : (step : Step) (s t : Ty) → Alike left right s t →
        OptId left right (step_ty left step s) (step_ty right step t)
    step_alike (ToPart n) s t h =
        unless_alike (is_enum left s) (is_enum right t) (enum_same s t h) (slice_get (parts_of left s 0) n)
        (slice_get (parts_of right t 0) n) (part_at_alike s t h 0 n)
    step_alike (ToField v n) s t h =
        part_if_alike (is_enum left s) (is_enum right t) (enum_same s t h) (slice_get (parts_of left s v) n)
        (slice_get (parts_of right t v) n) (part_at_alike s t h v n)
    step_alike ToContent s t h = by s t h
      where
        by : (s t : Ty) → Alike left right s t → OptId left right (content_of s) (content_of t)
        by s t (boxed h) = h
        by s t (shared h) = h
        by s t (unique h) = h
        by s t _ = tt
    step_alike (ToElement index) s t h = by s t h
      where
        by : (s t : Ty) → Alike left right s t → OptId left right (element_of s) (element_of t)
        by s t (array h count) = h
        by s t _ = tt

    step_taken : (step : Step) (x y : Option Ty) → OptTy left right x y →
        OptId left right (option_and_then (step_ty left step) x) (option_and_then (step_ty right step) y)
    step_taken step =
        by_forms (λ x y. OptId left right (option_and_then (step_ty left step) x)
        (option_and_then (step_ty right step) y)) tt (step_alike step)

    pub along_alike : (steps : List Step) (a b : TyId) → TyAlike left right a b →
        OptId left right (ty_along left steps a) (ty_along right steps b)
    along_alike [] a b h = h
    along_alike (step ∷ steps) a b h =
        then_id (ty_along left steps) (ty_along right steps) (option_and_then (step_ty left step) (type_at left a))
        (option_and_then (step_ty right step) (type_at right b))
        (step_taken step (type_at left a) (type_at right b) (alike.types a b h)) (along_alike steps)

    -- the struct or enum of an impl
    adt_of_impl_same : (n : ℕ) → adt_of_impl left n ≡ adt_of_impl right n
    adt_of_impl_same n =
        ap (λ (impls : List ImplDef). option_map_or (λ impl. Some impl.adt) (slice_get impls n) None) alike.impls

    own_adt : (o : Option ℕ) → OptTy left right (adt_ty o) (adt_ty o)
    own_adt None = tt
    own_adt (Some n) = adt n

    pub concrete_alike : (d e : DynamicType) → DynAlike d e →
        OptTy left right (concrete_ty left d) (concrete_ty right e)
    concrete_alike d e (of_type {a = a} {b = b} h) = alike.types a b h
    concrete_alike d e (of_object h n) =
        subst (λ o. OptTy left right (adt_ty (adt_of_impl left n)) (adt_ty o)) (adt_of_impl_same n)
        (own_adt (adt_of_impl left n))

    -- whether a value is found as a type
    pub of_type_same : (a b : TyId) → TyAlike left right a b → (d e : DynamicType) → DynAlike d e →
        is_of_type left a d ≡ is_of_type right b e
    of_type_same a b h d e (of_type {a = c} {b = f} k) = alike.ids a b c f h k
    of_type_same a b h d e (of_object {a = c} {b = f} k n) =
        λ i. alike.ids a b c f h k i
        || option_map_or (λ m. adt_alike left right m (type_at left a) (type_at right b) (alike.types a b h) i)
        (adt_of_impl_same n i) false

    pub still_same : (d e : DynamicType) → DynAlike d e → (f g : DynamicType) → DynAlike f g →
        still_of left d f ≡ still_of right e g
    still_same d e (of_type {a = a} {b = b} h) f g k = of_type_same a b h f g k
    still_same d e (of_object h n) f g k =
        λ i. option_map_or
        (λ m. adt_alike left right m (concrete_ty left f) (concrete_ty right g) (concrete_alike f g k) i)
        (adt_of_impl_same n i) false

    -- as what a part is found
    field_alike : (v n : ℕ) (x y : Option Ty) → OptTy left right x y →
        OptDyn (type_of_field left v n x) (type_of_field right v n y)
    field_alike v n =
        by_forms (λ x y. OptDyn (type_of_field left v n x) (type_of_field right v n y)) no_dynamic
        (λ s t h. by_ids
        (λ x y. OptDyn (option_map_or (λ id. Some (OfType id)) x None) (option_map_or (λ id. Some (OfType id)) y None))
        no_dynamic (λ a b k. a_dynamic (of_type k)) (slice_get (parts_of left s v) n) (slice_get (parts_of right t v) n)
        (part_at_alike s t h v n))

    pub part_alike : (step : At) (value : Datum) (d e : DynamicType) → DynAlike d e →
        OptDyn (type_of_part left step value d) (type_of_part right step value e)
    part_alike (Part n) (Aggregate variant serial parts) d e h =
        field_alike variant n (concrete_ty left d) (concrete_ty right e) (concrete_alike d e h)
    part_alike Inside (Box serial impl_no inside) d e h =
        in_box_alike impl_no (concrete_ty left d) (concrete_ty right e) (concrete_alike d e h)
    part_alike step value d e h = no_dynamic

    -- the `Drop` body of a type
    pub drop_impl_same : (x y : Option Ty) → OptTy left right x y → drop_impl left x ≡ drop_impl right y
    drop_impl_same = by_forms (λ x y. drop_impl left x ≡ drop_impl right y) refl by
      where
        by : (s t : Ty) → Alike left right s t → drop_impl left (Some s) ≡ drop_impl right (Some t)
        by s t (adt n) = ap (with_drop_body n) (alike.drops n)
        by s t _ = refl
