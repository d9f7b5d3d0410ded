-- What the tests of types tell: the type at a number.
use Rattle.std.proofs.Common.{◌≡◌, ℕ, zero, suc, not, Bool, true, false, List, length, Option, Some, None, refl, sym, subst}
use Rattle.std.proofs.lemmas.Bool.{eqb-true}
use Rattle.std.proofs.lemmas.Option.{none-some, same_Some}
use Rattle.mir_base.specs.declared.int_kind.IntKind.{IntKind}
use Rattle.mir_ty.specs.declared.ty.Ty.{Ty}
use Rattle.mir_ty.specs.declared.ty.TyId.{TyId}
use Rattle.mir_ty.specs.Facts as facts
use Rattle.mir_ty.specs.ItemTable.{ItemTable, type_at}
use Rattle.src_meaning.specs.Forms as source
use Rattle.store_model.specs.Places.Place as places
use Rattle.store_model.specs.Places.TypeForms as forms
use Rattle.well_typed.specs.Types as types

untrue : false ≡ true → ⊥
untrue e = let never : false ≡ true = e in cc

module _ (items : ItemTable) where
  pub bool_known : (id : TyId) → types.is_bool items id ≡ true → type_at items id ≡ Some Ty.Bool
  bool_known id h = by (type_at items id) refl
    where
      by : (o : Option Ty) → type_at items id ≡ o → type_at items id ≡ Some Ty.Bool
      by None e = absurd (untrue (rw e at h))
      by (Some Ty.Bool) e = e
      by (Some other) e = absurd (untrue (rw e at h))

  pub unit_known : (id : TyId) → types.is_unit items id ≡ true → type_at items id ≡ Some Ty.Unit
  unit_known id h = by (type_at items id) refl
    where
      by : (o : Option Ty) → type_at items id ≡ o → type_at items id ≡ Some Ty.Unit
      by None e = absurd (untrue (rw e at h))
      by (Some Ty.Unit) e = e
      by (Some other) e = absurd (untrue (rw e at h))

  pub never_known : (id : TyId) → source.is_never items id ≡ true → type_at items id ≡ Some Ty.Never
  never_known id h = by (type_at items id) refl
    where
      by : (o : Option Ty) → type_at items id ≡ o → type_at items id ≡ Some Ty.Never
      by None e = absurd (untrue (rw e at h))
      by (Some Ty.Never) e = e
      by (Some other) e = absurd (untrue (rw e at h))

  pub int_known : (id : TyId) (x : IntKind) → types.kind_of items id ≡ Some x → type_at items id ≡ Some (Ty.Int x)
  int_known id x h = by (type_at items id) refl
    where
      by : (o : Option Ty) → type_at items id ≡ o → type_at items id ≡ Some (Ty.Int x)
      by None e = absurd (none-some x (rw e at h))
      by (Some (Ty.Int kind)) e = rw (same_Some kind x (rw e at h)) at e
      by (Some other) e = absurd (none-some x (rw e at h))

  pub adt_known : (id : TyId) (x : ℕ) → types.adt_of items id ≡ Some x → type_at items id ≡ Some (Ty.Adt x)
  adt_known id x h = by (type_at items id) refl
    where
      by : (o : Option Ty) → type_at items id ≡ o → type_at items id ≡ Some (Ty.Adt x)
      by None e = absurd (none-some x (rw e at h))
      by (Some (Ty.Adt n)) e = rw (same_Some n x (rw e at h)) at e
      by (Some other) e = absurd (none-some x (rw e at h))

  pub tuple_known : (id : TyId) (x : List TyId) → types.tuple_of items id ≡ Some x → type_at items id ≡ Some (Ty.Tuple x)
  tuple_known id x h = by (type_at items id) refl
    where
      by : (o : Option Ty) → type_at items id ≡ o → type_at items id ≡ Some (Ty.Tuple x)
      by None e = absurd (none-some x (rw e at h))
      by (Some (Ty.Tuple parts)) e = rw (same_Some parts x (rw e at h)) at e
      by (Some other) e = absurd (none-some x (rw e at h))

  pub array_known : (id : TyId) (x : TyId × ℕ) → types.array_of items id ≡ Some x → type_at items id ≡ Some (Ty.Array x.0 x.1)
  array_known id x h = by (type_at items id) refl
    where
      by : (o : Option Ty) → type_at items id ≡ o → type_at items id ≡ Some (Ty.Array x.0 x.1)
      by None e = absurd (none-some x (rw e at h))
      by (Some (Ty.Array element count)) e = subst (λ z. type_at items id ≡ Some (Ty.Array z.0 z.1)) (same_Some (element, count) x (rw e at h)) e
      by (Some other) e = absurd (none-some x (rw e at h))

  pub boxed_known : (id : TyId) (x : TyId) → types.boxed_of items id ≡ Some x → type_at items id ≡ Some (Ty.Boxed x)
  boxed_known id x h = by (type_at items id) refl
    where
      by : (o : Option Ty) → type_at items id ≡ o → type_at items id ≡ Some (Ty.Boxed x)
      by None e = absurd (none-some x (rw e at h))
      by (Some (Ty.Boxed content)) e = rw (same_Some content x (rw e at h)) at e
      by (Some other) e = absurd (none-some x (rw e at h))

  pub dyn_known : (id : TyId) (x : ℕ) → types.trait_of items id ≡ Some x → type_at items id ≡ Some (Ty.Dyn x)
  dyn_known id x h = by (type_at items id) refl
    where
      by : (o : Option Ty) → type_at items id ≡ o → type_at items id ≡ Some (Ty.Dyn x)
      by None e = absurd (none-some x (rw e at h))
      by (Some (Ty.Dyn n)) e = rw (same_Some n x (rw e at h)) at e
      by (Some other) e = absurd (none-some x (rw e at h))

  pub closure_known : (id : TyId) (x : ℕ) → types.closure_of items id ≡ Some x → type_at items id ≡ Some (Ty.Closure x)
  closure_known id x h = by (type_at items id) refl
    where
      by : (o : Option Ty) → type_at items id ≡ o → type_at items id ≡ Some (Ty.Closure x)
      by None e = absurd (none-some x (rw e at h))
      by (Some (Ty.Closure n)) e = rw (same_Some n x (rw e at h)) at e
      by (Some other) e = absurd (none-some x (rw e at h))

  pub usize_known : (id : TyId) → types.is_usize items id ≡ true → type_at items id ≡ Some (Ty.Int IntKind.Usize)
  usize_known id h = by (type_at items id) refl
    where
      by : (o : Option Ty) → type_at items id ≡ o → type_at items id ≡ Some (Ty.Int IntKind.Usize)
      by None e = absurd (untrue (rw e at h))
      by (Some (Ty.Int IntKind.Usize)) e = e
      by (Some other) e = absurd (untrue (rw e at h))

  pub i32_known : (id : TyId) → types.is_i32 items id ≡ true → type_at items id ≡ Some (Ty.Int IntKind.I32)
  i32_known id h = by (type_at items id) refl
    where
      by : (o : Option Ty) → type_at items id ≡ o → type_at items id ≡ Some (Ty.Int IntKind.I32)
      by None e = absurd (untrue (rw e at h))
      by (Some (Ty.Int IntKind.I32)) e = e
      by (Some other) e = absurd (untrue (rw e at h))

  pub signed_known : (id : TyId) → types.is_signed items id ≡ true → (kind : IntKind) × (type_at items id ≡ Some (Ty.Int kind)) × (forms.is_signed (Some (Ty.Int kind)) ≡ true)
  signed_known id h = by (type_at items id) refl
    where
      by : (o : Option Ty) → type_at items id ≡ o → (kind : IntKind) × (type_at items id ≡ Some (Ty.Int kind)) × (forms.is_signed (Some (Ty.Int kind)) ≡ true)
      by None e = absurd (untrue (rw e at h))
      by (Some (Ty.Int IntKind.I32)) e = (IntKind.I32, e, refl)
      by (Some (Ty.Int IntKind.I64)) e = (IntKind.I64, e, refl)
      by (Some other) e = absurd (untrue (rw e at h))

  pub reference_known : (id : TyId) (r : Bool × TyId) → types.reference_of items id ≡ Some r → (ty : Ty) × (type_at items id ≡ Some ty) × (forms.referent r.0 (Some ty) ≡ Some r.1) × (forms.is_dyn (Some ty) ≡ false)
  reference_known id r h = by (type_at items id) refl
    where
      by : (o : Option Ty) → type_at items id ≡ o → (ty : Ty) × (type_at items id ≡ Some ty) × (forms.referent r.0 (Some ty) ≡ Some r.1) × (forms.is_dyn (Some ty) ≡ false)
      by None e = absurd (none-some r (rw e at h))
      by (Some (Ty.Shared to)) e = (Ty.Shared to, e, subst (λ z. forms.referent z.0 (Some (Ty.Shared to)) ≡ Some z.1) (same_Some (false, to) r (rw e at h)) refl, refl)
      by (Some (Ty.Unique to)) e = (Ty.Unique to, e, subst (λ z. forms.referent z.0 (Some (Ty.Unique to)) ≡ Some z.1) (same_Some (true, to) r (rw e at h)) refl, refl)
      by (Some other) e = absurd (none-some r (rw e at h))

  pub inside_known : (id x : TyId) → types.inside_of items id ≡ Some x → (ty : Ty) × (type_at items id ≡ Some ty) × (places.content_of ty ≡ Some x)
  inside_known id x h = by (type_at items id) refl
    where
      by : (o : Option Ty) → type_at items id ≡ o → (ty : Ty) × (type_at items id ≡ Some ty) × (places.content_of ty ≡ Some x)
      by None e = absurd (none-some x (rw e at h))
      by (Some (Ty.Boxed content)) e = (Ty.Boxed content, e, (rw e at h))
      by (Some (Ty.Shared to)) e = (Ty.Shared to, e, (rw e at h))
      by (Some (Ty.Unique to)) e = (Ty.Unique to, e, (rw e at h))
      by (Some other) e = absurd (none-some x (rw e at h))

  not_true : (b : Bool) → not b ≡ true → b ≡ false
  not_true true h = absurd (untrue h)
  not_true false h = refl

  pub fields_known : (id : TyId) → types.has_fields items id ≡ true → (ty : Ty) × (type_at items id ≡ Some ty) × (places.is_enum items ty ≡ false)
  fields_known id h = by (type_at items id) refl
    where
      by : (o : Option Ty) → type_at items id ≡ o → (ty : Ty) × (type_at items id ≡ Some ty) × (places.is_enum items ty ≡ false)
      by None e = absurd (untrue (rw e at h))
      by (Some (Ty.Adt n)) e = (Ty.Adt n, e, not_true _ (rw e at h))
      by (Some (Ty.Tuple parts)) e = (Ty.Tuple parts, e, refl)
      by (Some other) e = absurd (untrue (rw e at h))

  pub same_never : (id : TyId) → types.is_never items id ≡ source.is_never items id
  same_never id = by (type_at items id) refl
    where
      by : (o : Option Ty) → type_at items id ≡ o → types.is_never items id ≡ source.is_never items id
      by None e = rw e
      by (Some (Ty.Int kind)) e = rw e
      by (Some other) e = rw e

  pub not_dyn : (id : TyId) (ty : Ty) → type_at items id ≡ Some ty → types.is_dyn items id ≡ false → forms.is_dyn (Some ty) ≡ false
  not_dyn id (Ty.Dyn n) e h = absurd (untrue (sym (rw e at h)))
  not_dyn id other e h = refl

  pub copied_sized : (id : TyId) (ty : Ty) → type_at items id ≡ Some ty → facts.is_copy items id ≡ true → forms.is_dyn (Some ty) ≡ false
  copied_sized id (Ty.Dyn n) e h = by_rounds (length items.types) h
    where
      by_rounds : (rounds : ℕ) → facts.in_rounds items.types (facts.copy_rule items.adts items.closures) rounds id ≡ true → forms.is_dyn (Some (Ty.Dyn n)) ≡ false
      by_rounds zero h = absurd (untrue h)
      by_rounds (suc rounds) h = absurd (untrue (rw e at h))
  copied_sized id other e h = refl

pub same_number : (a b : TyId) → types.is_same a b ≡ true → a ≡ b
same_number a b h = let e = eqb-true a.0 b.0 h in λ i. record { 0 = e i }
