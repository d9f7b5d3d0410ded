-- What types say: as what a value of a type is found, which types have a `Drop` impl, and that what needs no dropping
-- is quiet.
use Rattle.std.proofs.Common.{◌≡◌, ℕ, suc, Bool, true, false, [], ◌++◌, Option, Some, None, is_some, refl, ap, sym, ◌∙◌, subst, slice_get}
use Rattle.std.specs.Prelude.{option_and_then}
use Rattle.std.specs.Option.{option_map_or, option_to_list}
use Rattle.std.proofs.lemmas.Bool.{false≢true}
use Rattle.std.proofs.lemmas.Option.{none-some}
use Rattle.mir_ty.specs.declared.adt.Adt.{Adt}
use Rattle.mir_ty.specs.declared.ty.Ty.{Ty}
use Rattle.mir_ty.specs.declared.ty.TyId.{TyId}
use Rattle.mir_ty.specs.Facts.{needs_drop, drop_rule, is_scalar, has_drop_impl, ty_has_drop_impl, adt_has_drop_impl, NeedsDrop, a_box, a_dyn, an_impl, a_part}
use Rattle.mir_ty.specs.ItemTable.{ItemTable, type_at}
use Rattle.mir_ty.specs.Parts.{parts_of}
use Rattle.mir_base.specs.declared.int_kind.IntKind.{IntKind}
use Rattle.mir_ty.proofs.ItemFacts.{needs_drop-at}
use Rattle.mir_ty.proofs.LeastRelations.{needs_drop_from, needs_drop-rules}
use Rattle.store_model.specs.Abstract.Presence.{Presence, presence_at}
use Rattle.store_model.specs.Concrete.Drops.{drop_impl, with_drop_body}
use Rattle.store_model.specs.Concrete.Location.{DynamicType, OfType, OfObject, concrete_ty, content_type, type_of_field}
use Rattle.store_model.specs.Places.Place.{is_reference}
use Rattle.store_model.specs.Places.TypeForms.{is_dyn, is_bool, is_unit, box_content, int_kind}
use Rattle.store_model.specs.Values.Datum.{Datum, Data, Gone, Number, Truth, UnitValue, Aggregate, Box, Address, no_part, a_part}
use Rattle.store_model.specs.Values.Wholeness.{serials, serials_of_all}
use Rattle.drop_values.specs.Plan.{IfFound, Quiet, QuietParts}
use Rattle.drop_values.proofs.Found.{field_at, dyn-is}
use Rattle.drop_values.proofs.Counting.{after, after-zero}
use Rattle.drop_values.specs.Typed.{has_impl, part_step, Fits, PartsFit}

pub no_and_yes : {A : Type 0} (b : Bool) → b ≡ true → b ≡ false → A
no_and_yes b h k = absurd (false≢true (sym k ∙ h))

module _ (items : ItemTable) where
  -- a value is found as a type, or as a trait object in a box of its trait
  pub data IsOf : DynamicType → TyId → Type 0 where
    itself : (id : TyId) → IsOf (OfType id) id
    object : (id : TyId) (impl_no n : ℕ) → type_at items id ≡ Some (Ty.Dyn n) →
        has_impl items (Some (Ty.Dyn n)) (Some impl_no) ≡ true → IsOf (OfObject id impl_no) id

  pub dyn_needs : (id : TyId) (n : ℕ) → type_at items id ≡ Some (Ty.Dyn n) → needs_drop items id ≡ true
  dyn_needs id n e = needs_drop_from items id (a_dyn e)

  no_need : (id : TyId) → needs_drop items id ≡ false → NeedsDrop items id → ⊥
  no_need id e n = false≢true (sym e ∙ needs_drop_from items id n)

  pub impl_or_none : (o : Option ℕ) → is_some o ≡ false → o ≡ None
  impl_or_none None e = refl
  impl_or_none (Some n) e = absurd (false≢true (sym e))

  -- a type with no `Drop` impl has no `Drop` body to be entered
  pub no_impl : (o : Option Ty) → option_map_or (ty_has_drop_impl items) o false ≡ false → drop_impl items o ≡ None
  no_impl None e = refl
  no_impl (Some (Ty.Adt n)) e = by (slice_get items.adts n) e
    where
      by : (o : Option Adt) → adt_has_drop_impl o ≡ false → with_drop_body n
          (option_map_or (λ adt. adt.drop_body) o None) ≡ None
      by None e = refl
      by (Some adt) e = ap (with_drop_body n) (impl_or_none adt.drop_body e)
  no_impl (Some other) e = refl

  -- one with a `Drop` impl is a struct or an enum, and has one
  pub record HasImpl (o : Option Ty) : Type 0 where
    pub adt : ℕ
    pub of : ℕ × ℕ
    pub type_is : o ≡ Some (Ty.Adt adt)
    pub impl_is : drop_impl items o ≡ Some of

  pub has_impl_of : (o : Option Ty) → option_map_or (ty_has_drop_impl items) o false ≡ true → HasImpl o
  has_impl_of None e = absurd (false≢true e)
  has_impl_of (Some (Ty.Adt n)) e = by (slice_get items.adts n) refl e
    where
      body : (o : Option ℕ) → is_some o ≡ true → (b : ℕ) × (o ≡ Some b)
      body None e = absurd (false≢true e)
      body (Some b) e = (b, refl)

      by : (o : Option Adt) → slice_get items.adts n ≡ o → adt_has_drop_impl o ≡ true → HasImpl (Some (Ty.Adt n))
      by None h e = absurd (false≢true e)
      by (Some adt) h e = let b = body adt.drop_body e in
          record {
            adt = n;
            of = (n, b.0);
            type_is = refl;
            impl_is =
                ap (λ o. with_drop_body n (option_map_or (λ adt. adt.drop_body) o None)) h ∙ ap (with_drop_body n) b.1;
          }
  has_impl_of (Some other) e = absurd (false≢true e)

  -- ---- what needs no dropping holds nothing that is numbered, and no `Drop` body is entered in it

  pub data Unneeded : DynamicType → Type 0 where
    unneeded : (id : TyId) → needs_drop items id ≡ false → Unneeded (OfType id)

  unneeded_no_impl : (found : DynamicType) → Unneeded found → drop_impl items (concrete_ty items found) ≡ None
  unneeded_no_impl found (unneeded id e) = by (has_drop_impl items id) refl
    where
      by : (b : Bool) → has_drop_impl items id ≡ b → drop_impl items (type_at items id) ≡ None
      by true h = absurd (no_need id e (an_impl h))
      by false h = no_impl (type_at items id) h

  unneeded_field : (found : DynamicType) (variant n : ℕ) (f : DynamicType) → Unneeded found →
      type_of_field items variant n (concrete_ty items found) ≡ Some f → Unneeded f
  unneeded_field found variant n f (unneeded id e) h =
      let a = field_at items (type_at items id) variant n f h in subst Unneeded (sym a.1)
      (by a.0 a.2 (needs_drop items a.0) refl)
    where
      by : (part : TyId) → option_and_then (λ ty. slice_get (parts_of items ty variant) n)
          (type_at items id) ≡ Some part → (b : Bool) → needs_drop items part ≡ b → Unneeded (OfType part)
      by part k false n' = unneeded part n'
      by part k true n' = absurd (no_need id e (a_part variant n k ((needs_drop-rules items part).0 n')))

  mutual
    pub quiet : (d : Datum) (found : DynamicType) (p : Presence) → Unneeded found → Fits items found p d →
        (serials d ≡ []) × Quiet items d found
    quiet Gone found p u k = (refl, tt)
    quiet (Number number) found p u k = (refl, tt)
    quiet (Truth truth) found p u k = (refl, tt)
    quiet UnitValue found p u k = (refl, tt)
    quiet (Address address) found p u k = (refl, tt)
    quiet (Box serial impl_no inside) found p (unneeded id e) k =
        absurd (no_need id e (boxed (type_at items id) refl k.1.1))
      where
        boxed : (o : Option Ty) → type_at items id ≡ o → box_content o ≡ Some k.1.0 → NeedsDrop items id
        boxed None h c = absurd (none-some k.1.0 c)
        boxed (Some (Ty.Boxed t)) h c = a_box h
        boxed (Some other) h c = absurd (none-some k.1.0 c)
    quiet (Aggregate variant serial parts) found p u k =
        let none : drop_impl items (concrete_ty items found) ≡ None = unneeded_no_impl found u in
        let rest = quiets parts (λ n. type_of_field items variant n (concrete_ty items found))
        (λ n. type_of_field items variant n (concrete_ty items found)) 0
        (λ n. presence_at (part_step items found variant n) p)
        (λ m. ap (λ n. type_of_field items variant n (concrete_ty items found)) (sym (after-zero m)))
        (λ n f. unneeded_field found variant n f u) k.3 in (
          ap (λ s. option_to_list s ++ serials_of_all parts) (impl_or_none serial (k.1 ∙ ap is_some none)) ∙ rest.0,
          (none, rest.1),
        )

    -- the parts from a number on
    quiets : (parts : Data) (found_at from : ℕ → Option DynamicType) (n : ℕ) (presence_of : ℕ → Presence) →
        ((m : ℕ) → from m ≡ found_at (after n m)) →
        ((n : ℕ) (f : DynamicType) → found_at n ≡ Some f → Unneeded f) → PartsFit items from presence_of parts →
        (serials_of_all parts ≡ []) × QuietParts items parts found_at n
    quiets no_part found_at from n presence_of e u k = (refl, tt)
    quiets (a_part first rest) found_at from n presence_of e u k =
        let here : found_at n ≡ Some k.0.0 = sym (e 0) ∙ k.0.1 in
        let one = quiet first k.0.0 (presence_of 0) (u n k.0.0 here) k.0.2 in
        let others = quiets rest found_at (λ m. from (suc m)) (suc n) (λ m. presence_of (suc m))
        (λ m. e (suc m)) u k.1 in (
          (λ i. one.0 i ++ others.0 i),
          (subst (λ o. IfFound o (Quiet items first)) (sym here) one.1, others.1),
        )

  pub content-of : (content : TyId) (impl_no : Option ℕ) → is_some impl_no ≡ is_dyn (type_at items content) →
      has_impl items (type_at items content) impl_no ≡ true → IsOf (content_type content impl_no) content
  content-of content None e h = itself content
  content-of content (Some impl_no) e h =
      let d = dyn-is items (type_at items content) (sym e) in
      object content impl_no d.0 d.1 (ap (λ o. has_impl items o (Some impl_no)) (sym d.1) ∙ h)

  -- ---- values without parts need no dropping

  pub scalar_rule : (ty : Ty) → is_scalar ty ≡ true → drop_rule items.adts items.closures (needs_drop items) ty ≡ false
  scalar_rule (Ty.Adt n) e = absurd (false≢true e)
  scalar_rule (Ty.Tuple ts) e = absurd (false≢true e)
  scalar_rule (Ty.Array t c) e = absurd (false≢true e)
  scalar_rule (Ty.Boxed t) e = absurd (false≢true e)
  scalar_rule (Ty.Dyn n) e = absurd (false≢true e)
  scalar_rule (Ty.Closure n) e = absurd (false≢true e)
  scalar_rule other e = refl

  pub number_scalar : (ty : Ty) (k : IntKind) → int_kind (Some ty) ≡ Some k → is_scalar ty ≡ true
  number_scalar (Ty.Adt n) k e = absurd (none-some k e)
  number_scalar (Ty.Tuple ts) k e = absurd (none-some k e)
  number_scalar (Ty.Array t c) k e = absurd (none-some k e)
  number_scalar (Ty.Boxed t) k e = absurd (none-some k e)
  number_scalar (Ty.Dyn n) k e = absurd (none-some k e)
  number_scalar (Ty.Closure n) k e = absurd (none-some k e)
  number_scalar other k e = refl

  pub truth_scalar : (ty : Ty) → is_bool (Some ty) ≡ true → is_scalar ty ≡ true
  truth_scalar (Ty.Adt n) e = absurd (false≢true e)
  truth_scalar (Ty.Tuple ts) e = absurd (false≢true e)
  truth_scalar (Ty.Array t c) e = absurd (false≢true e)
  truth_scalar (Ty.Boxed t) e = absurd (false≢true e)
  truth_scalar (Ty.Dyn n) e = absurd (false≢true e)
  truth_scalar (Ty.Closure n) e = absurd (false≢true e)
  truth_scalar other e = refl

  pub unit_scalar : (ty : Ty) → is_unit (Some ty) ≡ true → is_scalar ty ≡ true
  unit_scalar (Ty.Adt n) e = absurd (false≢true e)
  unit_scalar (Ty.Tuple ts) e = absurd (false≢true e)
  unit_scalar (Ty.Array t c) e = absurd (false≢true e)
  unit_scalar (Ty.Boxed t) e = absurd (false≢true e)
  unit_scalar (Ty.Dyn n) e = absurd (false≢true e)
  unit_scalar (Ty.Closure n) e = absurd (false≢true e)
  unit_scalar other e = refl

  pub reference_scalar : (ty : Ty) → is_reference (Some ty) ≡ true → is_scalar ty ≡ true
  reference_scalar (Ty.Adt n) e = absurd (false≢true e)
  reference_scalar (Ty.Tuple ts) e = absurd (false≢true e)
  reference_scalar (Ty.Array t c) e = absurd (false≢true e)
  reference_scalar (Ty.Boxed t) e = absurd (false≢true e)
  reference_scalar (Ty.Dyn n) e = absurd (false≢true e)
  reference_scalar (Ty.Closure n) e = absurd (false≢true e)
  reference_scalar other e = refl

  pub not_scalar : {A : Type 0} (id : TyId) (ty : Ty) → type_at items id ≡ Some ty → needs_drop items id ≡ true →
      is_scalar ty ≡ true → A
  not_scalar id ty is need s = no_and_yes (needs_drop items id) need (needs_drop-at items id ty is ∙ scalar_rule ty s)
