-- What is found where a type is wanted, and what values of a type are.
use Rattle.std.proofs.Common.{◌≡◌, ℕ, ℤ, ◌==◌, ◌&&◌, ◌||◌, ◌≤◌, ◌<◌, get_or, nat_lt, Bool, true, false, List, length, IsTrue, Option, Some, None, not, refl, ap, sym, ◌∙◌, subst, arith}
use Rattle.std.specs.Prelude.{slice_get, option_and_then, position}
use Rattle.std.specs.Option.{option_map_or}
use Rattle.std.proofs.lemmas.Bool.{false≢true, ltb-true, ltb-false}
use Rattle.std.proofs.lemmas.Bool.Decides.{Decides-eqb}
use Rattle.std.proofs.lemmas.Option.{slice_get_past, slice_get-get_or, none-some}
use Rattle.std.proofs.lemmas.List.Quantifiers.{position-Some}
use Rattle.mir_base.specs.declared.int_kind.IntKind.{IntKind}
use Rattle.mir_ty.specs.declared.ty.Ty.{Ty}
use Rattle.mir_ty.specs.declared.ty.TyId.{TyId}
use Rattle.mir_ty.specs.ItemTable.{ItemTable, type_at}
use Rattle.mir_ty.specs.Parts.{variants_of, parts_of}
use Rattle.mir_ty.specs.declared.adt.Adt.{Adt}
use Rattle.store_model.specs.declared.address.At.TheVariants.{Part}
use Rattle.store_model.specs.Concrete.Location.{DynamicType, OfType, OfObject, adt_of_impl, adt_ty, concrete_ty, is_of_type, type_of_part, type_of_field}
use Rattle.store_model.specs.Places.Place.{is_enum, is_reference}
use Rattle.store_model.specs.Places.TypeForms.{is_bool, is_dyn, is_adt, is_never, is_unit, int_kind, box_content}
use Rattle.store_model.specs.Values.Datum.{Datum, Data, Gone, Number, Truth, UnitValue, Aggregate, Box, Address, no_part}
use Rattle.src_meaning.specs.Locals.OfBody.{bool_ty}
use Rattle.well_typed.specs.Claim.{Claim, Holds, some}
use Rattle.well_typed.specs.Types as types
use Rattle.soundness_values.specs.Typed.{IsOf, is_aggregate, has_variant, is_found}

pub truth : (b : Bool) → IsTrue b → b ≡ true
truth true h = refl
truth false h = h

pub both_left : (a b : Bool) → (a && b) ≡ true → a ≡ true
both_left true b h = refl
both_left false b h = absurd (false≢true h)

pub both_right : (a b : Bool) → (a && b) ≡ true → b ≡ true
both_right true b h = h
both_right false b h = absurd (false≢true h)

pub same_ty : (a b : TyId) → types.is_same a b ≡ true → a ≡ b
same_ty a b h = ap (λ (n : ℕ). record { 0 = n }) ((Decides-eqb a.0 b.0).0 h)

-- ---- the type of what is found

the_adt : (n : ℕ) (o : Option Ty) → is_adt n o ≡ true → o ≡ Some (Ty.Adt n)
the_adt n (Some (Ty.Adt m)) h = ap (λ k. Some (Ty.Adt k)) (sym ((Decides-eqb n m).0 h))
the_adt n None h = absurd (false≢true h)
the_adt n (Some other) h = absurd (false≢true h)

either_true : (a b : Bool) → (a || b) ≡ true → (a ≡ false → b ≡ true)
either_true false b h e = h
either_true true b h e = absurd (false≢true (sym e))

pub type_found : (items : ItemTable) (ty : TyId) (found : DynamicType) → is_of_type items ty found ≡ true →
    is_found items found ≡ true → is_dyn (type_at items ty) ≡ false → concrete_ty items found ≡ type_at items ty
type_found items ty (OfType id) h f d = ap (type_at items) (sym (same_ty ty id h))
type_found items ty (OfObject id impl_no) h f d = by (ty.0 == id.0) refl
  where
    through_impl : (o : Option ℕ) → option_map_or (λ n. is_adt n (type_at items ty)) o false ≡ true →
        adt_ty o ≡ type_at items ty
    through_impl None k = absurd (false≢true k)
    through_impl (Some n) k = sym (the_adt n (type_at items ty) k)

    by : (b : Bool) → (ty.0 == id.0) ≡ b → concrete_ty items (OfObject id impl_no) ≡ type_at items ty
    by true e = absurd (false≢true (sym d ∙ ap (λ i. is_dyn (type_at items i)) (same_ty ty id e)
        ∙ both_left (is_dyn (type_at items id)) _ f))
    by false e = through_impl (adt_of_impl items impl_no) (either_true (ty.0 == id.0) _ h e)

-- ---- values of types

pub a_number : (items : ItemTable) (found : DynamicType) (kind : IntKind) (d : Datum) →
    concrete_ty items found ≡ Some (Ty.Int kind) → IsOf items found d → (n : ℤ) × (d ≡ Number n)
a_number items found kind Gone e h = absurd h
a_number items found kind (Number n) e h = (n, refl)
a_number items found kind (Truth b) e h =
    absurd (false≢true (sym (ap is_bool e) ∙ h))
a_number items found kind UnitValue e h = absurd (false≢true (sym (ap is_unit e) ∙ h))
a_number items found kind (Aggregate variant serial parts) e h =
    absurd (false≢true (sym (ap is_aggregate e) ∙ both_left (is_aggregate (concrete_ty items found)) _ h.1))
a_number items found kind (Box serial impl_no inside) e h =
    absurd (none-some h.0.0 (sym (ap box_content e) ∙ h.0.1))
a_number items found kind (Address address) e h = absurd (false≢true (sym (ap is_reference e) ∙ h))

pub a_truth : (items : ItemTable) (found : DynamicType) (d : Datum) →
    concrete_ty items found ≡ Some Ty.Bool → IsOf items found d → (b : Bool) × (d ≡ Truth b)
a_truth items found Gone e h = absurd h
a_truth items found (Number n) e h = absurd (none-some h.0 (sym (ap int_kind e) ∙ h.1))
a_truth items found (Truth b) e h = (b, refl)
a_truth items found UnitValue e h = absurd (false≢true (sym (ap is_unit e) ∙ h))
a_truth items found (Aggregate variant serial parts) e h =
    absurd (false≢true (sym (ap is_aggregate e) ∙ both_left (is_aggregate (concrete_ty items found)) _ h.1))
a_truth items found (Box serial impl_no inside) e h =
    absurd (none-some h.0.0 (sym (ap box_content e) ∙ h.0.1))
a_truth items found (Address address) e h = absurd (false≢true (sym (ap is_reference e) ∙ h))

-- an aggregate, and its variant is one of its type
pub record AnAggregate (items : ItemTable) (ty : Option Ty) (d : Datum) : Type 0 where
  pub active : ℕ
  pub serial : Option ℕ
  pub parts : Data
  pub is : d ≡ Aggregate active serial parts
  pub variant : has_variant items ty active ≡ true

-- a type of which no value is a number, a truth value, unit, a box or a reference
pub record IsAggregateType (ty : Option Ty) : Type 0 where
  pub number : int_kind ty ≡ None
  pub bool : is_bool ty ≡ false
  pub unit : is_unit ty ≡ false
  pub box : box_content ty ≡ None
  pub reference : is_reference ty ≡ false

pub an_aggregate : (items : ItemTable) (found : DynamicType) (ty : Option Ty) (d : Datum) →
    concrete_ty items found ≡ ty → IsAggregateType ty → IsOf items found d → AnAggregate items ty d
an_aggregate items found ty Gone e t h = absurd h
an_aggregate items found ty (Number n) e t h = absurd (none-some h.0 (sym t.number ∙ ap int_kind (sym e) ∙ h.1))
an_aggregate items found ty (Truth b) e t h = absurd (false≢true (sym t.bool ∙ ap is_bool (sym e) ∙ h))
an_aggregate items found ty UnitValue e t h = absurd (false≢true (sym t.unit ∙ ap is_unit (sym e) ∙ h))
an_aggregate items found ty (Aggregate active serial parts) e t h = record {
  active = active;
  serial = serial;
  parts = parts;
  is = refl;
  variant = ap (λ o. has_variant items o active) (sym e)
      ∙ both_right (is_aggregate (concrete_ty items found)) (has_variant items (concrete_ty items found) active) h.1;
}
an_aggregate items found ty (Box serial impl_no inside) e t h =
    absurd (none-some h.0.0 (sym t.box ∙ ap box_content (sym e) ∙ h.0.1))
an_aggregate items found ty (Address address) e t h =
    absurd (false≢true (sym t.reference ∙ ap is_reference (sym e) ∙ h))

pub adt_type : (n : ℕ) → IsAggregateType (Some (Ty.Adt n))
adt_type n = record { number = refl; bool = refl; unit = refl; box = refl; reference = refl }

pub tuple_type : (tys : List TyId) → IsAggregateType (Some (Ty.Tuple tys))
tuple_type tys = record { number = refl; bool = refl; unit = refl; box = refl; reference = refl }

pub array_type : (element : TyId) (count : ℕ) → IsAggregateType (Some (Ty.Array element count))
array_type element count = record { number = refl; bool = refl; unit = refl; box = refl; reference = refl }

-- ---- the type of a comparison's local

no_never : (ty : Ty) → is_bool (Some ty) ≡ true → is_never (Some ty) ≡ false
no_never Ty.Never h = absurd (false≢true h)
no_never other h = refl

found_one : (list : List Ty) (n : ℕ) → position (λ ty. is_bool (Some ty)) list ≡ Some n →
    is_never (slice_get list n) ≡ false
found_one list n e =
    let found = position-Some (λ ty. is_bool (Some ty)) list n Ty.Bool e in
    ap is_never (slice_get-get_or list n Ty.Bool found.0) ∙ no_never (get_or list n Ty.Bool) found.1

pub bool_is_made : (items : ItemTable) → is_never (type_at items (bool_ty items)) ≡ false
bool_is_made items = by (position (λ ty. is_bool (Some ty)) items.types) refl
  where
    by : (o : Option ℕ) → position (λ ty. is_bool (Some ty)) items.types ≡ o →
        is_never (slice_get items.types (option_map_or (λ n. n) o (length items.types))) ≡ false
    by None e =
        let within : length items.types ≤ length items.types = omega arith in
        ap is_never (slice_get_past items.types (length items.types) within)
    by (Some n) e = found_one items.types n e

-- ---- what claims say of types

pub adt_by : (o : Option Ty) (f : ℕ → Claim) → Holds (some (option_and_then types.adt_in o) f) →
    (n : ℕ) × (o ≡ Some (Ty.Adt n)) × Holds (f n)
adt_by None f h = absurd (false≢true h)
adt_by (Some (Ty.Adt n)) f h = (n, refl, h)
adt_by (Some other) f h = absurd (false≢true h)

pub tuple_by : (o : Option Ty) (f : List TyId → Claim) → Holds (some (option_and_then types.tuple_in o) f) →
    (tys : List TyId) × (o ≡ Some (Ty.Tuple tys)) × Holds (f tys)
tuple_by None f h = absurd (false≢true h)
tuple_by (Some (Ty.Tuple tys)) f h = (tys, refl, h)
tuple_by (Some other) f h = absurd (false≢true h)

pub array_by : (o : Option Ty) (f : TyId × ℕ → Claim) → Holds (some (option_and_then types.array_in o) f) →
    (element : TyId) × (count : ℕ) × (o ≡ Some (Ty.Array element count)) × Holds (f (element, count))
array_by None f h = absurd (false≢true h)
array_by (Some (Ty.Array element count)) f h = (element, count, refl, h)
array_by (Some other) f h = absurd (false≢true h)

pub int_by : (o : Option Ty) (value : ℤ) → IsTrue (option_map_or (types.is_within value) (option_and_then types.kind_in o) false) →
    (kind : IntKind) × (o ≡ Some (Ty.Int kind))
int_by None value h = absurd (false≢true h)
int_by (Some (Ty.Int kind)) value h = (kind, refl)
int_by (Some other) value h = absurd (false≢true h)

pub bool_by : (o : Option Ty) → IsTrue (option_map_or types.is_bool_ty o false) → o ≡ Some Ty.Bool
bool_by None h = absurd (false≢true h)
bool_by (Some Ty.Bool) h = refl
bool_by (Some other) h = absurd (false≢true h)

pub some_by : {A : Type 0} (o : Option A) (f : A → Claim) → Holds (some o f) → (a : A) × (o ≡ Some a) × Holds (f a)
some_by None f h = absurd (false≢true h)
some_by (Some a) f h = (a, refl, h)

-- ---- the variant that stands

pub no_enum_active : (items : ItemTable) (n active : ℕ) → IsTrue (not (types.is_enum items n)) →
    has_variant items (Some (Ty.Adt n)) active ≡ true → (active == 0) ≡ true
no_enum_active items n active h v = by (types.is_enum items n) h
    (both_right (nat_lt active (length (variants_of (slice_get items.adts n)))) _ v)
  where
    by : (b : Bool) → IsTrue (not b) → (b || active == 0) ≡ true → (active == 0) ≡ true
    by false h e = e
    by true h e = absurd (false≢true h)

variant_length : (o : Option Adt) → option_map_or (λ (def : Adt). length def.variants) o 0 ≡ length (variants_of o)
variant_length None = refl
variant_length (Some def) = refl

pub lone_variant : (items : ItemTable) (n variant active : ℕ) →
    nat_lt variant (option_map_or (λ (def : Adt). length def.variants) (slice_get items.adts n) 0) ≡ true →
    nat_lt 1 (option_map_or (λ (def : Adt). length def.variants) (slice_get items.adts n) 0) ≡ false →
    has_variant items (Some (Ty.Adt n)) active ≡ true → (variant == active) ≡ true
lone_variant items n variant active a b v =
    let l : option_map_or (λ (def : Adt). length def.variants) (slice_get items.adts n) 0
    ≡ length (variants_of (slice_get items.adts n)) = variant_length (slice_get items.adts n) in
    let is_first : variant < option_map_or (λ (def : Adt). length def.variants) (slice_get items.adts n) 0 =
    ltb-true variant _ a in
    let other : active < option_map_or (λ (def : Adt). length def.variants) (slice_get items.adts n) 0 =
    ltb-true active _ (subst (λ k. nat_lt active k ≡ true) (sym l)
    (both_left (nat_lt active (length (variants_of (slice_get items.adts n)))) _ v)) in
    let few : option_map_or (λ (def : Adt). length def.variants) (slice_get items.adts n) 0 ≤ 1 = ltb-false 1 _ b in
    let same : variant ≡ active = omega arith in (Decides-eqb variant active).1 same

-- ---- the types of parts

pub part_typed : (items : ItemTable) (found : DynamicType) (o : Option Ty) (active number : ℕ) (serial : Option ℕ)
    (want : TyId) → concrete_ty items found ≡ o →
    option_and_then (λ ty. slice_get (parts_of items ty active) number) o ≡ Some want →
    type_of_part items (Part number) (Aggregate active serial no_part) found ≡ Some (OfType want)
part_typed items found o active number serial want e f = ap (type_of_field items active number) e ∙ by o f
  where
    by : (p : Option Ty) → option_and_then (λ ty. slice_get (parts_of items ty active) number) p ≡ Some want →
        type_of_field items active number p ≡ Some (OfType want)
    by None g = absurd (none-some want g)
    by (Some ty) g = ap (λ x. option_map_or (λ id. Some (OfType id)) x None) g
