-- What the rules of typing tell of types, in the words of the tests of a run: numbers, truths, `()`, tuples, arrays,
-- boxes and the like are neither references nor trait objects; and operands that fit are of one type.
use Rattle.std.proofs.Common.{◌≡◌, ◌⊎◌, inl, inr, ℕ, zero, suc, ◌+◌, ◌<◌, ◌==◌, ◌&&◌, ◌||◌, not, Bool, true, false, ℤ, List, [], ◌∷◌, length, Option, Some, None, is_some, if◌then◌else◌, refl, ap, sym, ◌∙◌, subst, arith}
use Rattle.std.specs.Prelude.{option_and_then, unwrap_or, position}
use Rattle.std.specs.List.{list_any, position_or_len}
use Rattle.std.specs.Option.{option_map_or}
use Rattle.std.specs.Cmp.Derive.{both_true}
use Rattle.std.proofs.lemmas.Bool.{false≢true, lt-ltb}
use Rattle.std.proofs.lemmas.Bool.Decides.{Decides-eqb}
use Rattle.std.proofs.lemmas.Option.{none-some}
use Rattle.mir_base.specs.declared.int_kind.IntKind.{IntKind}
use Rattle.mir_ty.specs.declared.ty.Ty.{Ty}
use Rattle.mir_ty.specs.declared.ty.TyId.{TyId}
use Rattle.mir_ty.specs.Facts.{needs_drop, is_copy, is_scalar, drop_rule, copy_rule, in_rounds}
use Rattle.mir_ty.specs.ItemTable.{ItemTable, type_at}
use Rattle.store_model.specs.Concrete.Effects.{impl_of}
use Rattle.store_model.specs.Places.Place.{is_reference}
use Rattle.store_model.specs.Places.TypeForms as type_forms
use Rattle.store_model.specs.Places.TypeForms.{is_int, is_bool, is_unit, is_dyn, same_int, are_compared, is_signed, int_kind}
use Rattle.src_meaning.specs.Forms.{is_never}
use Rattle.src_meaning.specs.Shape.{kind_of}
use Rattle.well_typed.specs.Types as types
use Rattle.well_typed.specs.Nodes as typing
use Rattle.soundness_values.specs.Typed.{number_fits}
use Rattle.soundness_cells.proofs.PassCellTests.{alone, no_reference}
use Rattle.soundness_values.proofs.PlaceTypes.{same_type}

pub left_of : (a b : Bool) → (a && b) ≡ true → a ≡ true
left_of true b e = refl
left_of false b e = absurd (false≢true e)

pub right_of : (a b : Bool) → (a && b) ≡ true → b ≡ true
right_of true b e = e
right_of false b e = absurd (false≢true e)

pub one_of : (a b : Bool) → (a || b) ≡ true → (a ≡ true) ⊎ (b ≡ true)
one_of true b e = inl refl
one_of false b e = inr e

pub is_false : (a : Bool) → not a ≡ true → a ≡ false
is_false true e = absurd (false≢true e)
is_false false e = refl

-- a type, if there is one, is neither a reference nor `dyn`
abbrev pub Plain : Option Ty → Type 0
Plain o = (not (is_reference o) && not (is_dyn o)) ≡ true

-- nor is it `!`
abbrev pub Sort : Option Ty → Type 0
Sort o = Plain o × (type_forms.is_never o ≡ false)

-- ---- by the forms of types

unit_by : (o : Option Ty) → option_map_or types.is_unit_ty o false ≡ true → (is_unit o ≡ true) × Sort o
unit_by None e = absurd (false≢true e)
unit_by (Some Ty.Unit) e = (refl, (refl, refl))
unit_by (Some ty) e = absurd (false≢true e)

bool_by : (o : Option Ty) → option_map_or types.is_bool_ty o false ≡ true → (is_bool o ≡ true) × Sort o
bool_by None e = absurd (false≢true e)
bool_by (Some Ty.Bool) e = (refl, (refl, refl))
bool_by (Some ty) e = absurd (false≢true e)

never_by : (o : Option Ty) → option_map_or types.is_never_ty o false ≡ type_forms.is_never o
never_by None = refl
never_by (Some Ty.Never) = refl
never_by (Some ty) = refl

number_by : (o : Option Ty) (value : ℤ) →
    option_map_or (types.is_within value) (option_and_then types.kind_in o) false ≡ true →
    (is_int (unwrap_or (int_kind o) IntKind.I32) o ≡ true)
    × ((number_fits (unwrap_or (int_kind o) IntKind.I32) value ≡ true) × Sort o)
number_by None value e = absurd (false≢true e)
number_by (Some (Ty.Int IntKind.I32)) value e = (refl, (refl, (refl, refl)))
number_by (Some (Ty.Int IntKind.I64)) value e = (refl, (e, (refl, refl)))
number_by (Some (Ty.Int IntKind.U32)) value e = (refl, (e, (refl, refl)))
number_by (Some (Ty.Int IntKind.U64)) value e = (refl, (e, (refl, refl)))
number_by (Some (Ty.Int IntKind.Usize)) value e = (refl, (e, (refl, refl)))
number_by (Some ty) value e = absurd (false≢true e)

int_by : (o : Option Ty) → is_some (option_and_then types.kind_in o) ≡ true → (same_int o o ≡ true) × Sort o
int_by None e = absurd (false≢true e)
int_by (Some (Ty.Int IntKind.I32)) e = (refl, (refl, refl))
int_by (Some (Ty.Int IntKind.I64)) e = (refl, (refl, refl))
int_by (Some (Ty.Int IntKind.U32)) e = (refl, (refl, refl))
int_by (Some (Ty.Int IntKind.U64)) e = (refl, (refl, refl))
int_by (Some (Ty.Int IntKind.Usize)) e = (refl, (refl, refl))
int_by (Some ty) e = absurd (false≢true e)

signed_by : (o : Option Ty) → option_map_or types.is_signed_kind (option_and_then types.kind_in o) false ≡ true →
    (is_signed o ≡ true) × ((same_int o o ≡ true) × Sort o)
signed_by None e = absurd (false≢true e)
signed_by (Some (Ty.Int IntKind.I32)) e = (refl, (refl, (refl, refl)))
signed_by (Some (Ty.Int IntKind.I64)) e = (refl, (refl, (refl, refl)))
signed_by (Some (Ty.Int IntKind.U32)) e = absurd (false≢true e)
signed_by (Some (Ty.Int IntKind.U64)) e = absurd (false≢true e)
signed_by (Some (Ty.Int IntKind.Usize)) e = absurd (false≢true e)
signed_by (Some ty) e = absurd (false≢true e)

i32_by : (o : Option Ty) → option_map_or (types.is_kind IntKind.I32) (option_and_then types.kind_in o) false ≡ true →
    (is_int IntKind.I32 o ≡ true) × Sort o
i32_by None e = absurd (false≢true e)
i32_by (Some (Ty.Int IntKind.I32)) e = (refl, (refl, refl))
i32_by (Some (Ty.Int IntKind.I64)) e = absurd (false≢true e)
i32_by (Some (Ty.Int IntKind.U32)) e = absurd (false≢true e)
i32_by (Some (Ty.Int IntKind.U64)) e = absurd (false≢true e)
i32_by (Some (Ty.Int IntKind.Usize)) e = absurd (false≢true e)
i32_by (Some ty) e = absurd (false≢true e)

usize_by : (o : Option Ty) → option_map_or (types.is_kind IntKind.Usize) (option_and_then types.kind_in o) false ≡
    true →
    (is_int IntKind.Usize o ≡ true) × Sort o
usize_by None e = absurd (false≢true e)
usize_by (Some (Ty.Int IntKind.Usize)) e = (refl, (refl, refl))
usize_by (Some (Ty.Int IntKind.I32)) e = absurd (false≢true e)
usize_by (Some (Ty.Int IntKind.I64)) e = absurd (false≢true e)
usize_by (Some (Ty.Int IntKind.U32)) e = absurd (false≢true e)
usize_by (Some (Ty.Int IntKind.U64)) e = absurd (false≢true e)
usize_by (Some ty) e = absurd (false≢true e)

-- an integer type or `bool`
compared_by : (o : Option Ty) → (is_some (option_and_then types.kind_in o) || option_map_or types.is_bool_ty o false) ≡
    true →
    (are_compared o o ≡ true) × Sort o
compared_by o e = by (one_of (is_some (option_and_then types.kind_in o)) (option_map_or types.is_bool_ty o false) e)
  where
    first : (a b : Bool) → a ≡ true → (a || b) ≡ true
    first true b h = refl
    first false b h = absurd (false≢true h)

    second : (a b : Bool) → b ≡ true → (a || b) ≡ true
    second true b h = refl
    second false b h = h

    by : (is_some (option_and_then types.kind_in o) ≡ true) ⊎ (option_map_or types.is_bool_ty o false ≡ true) →
        (are_compared o o ≡ true) × Sort o
    by (inl i) = (first (same_int o o) (is_bool o && is_bool o) (int_by o i).0, (int_by o i).1)
    by (inr b) = (
      second (same_int o o) (is_bool o && is_bool o) (both_true (bool_by o b).0 (bool_by o b).0),
      (bool_by o b).1,
    )

pub tuple_by : (o : Option Ty) (tys : List TyId) → option_and_then types.tuple_in o ≡ Some tys →
    (o ≡ Some (Ty.Tuple tys)) × Sort o
tuple_by None tys e = absurd (none-some tys e)
tuple_by (Some (Ty.Tuple parts)) tys e = let same : parts ≡ tys = cc in (ap (λ l. Some (Ty.Tuple l)) same, (refl, refl))
tuple_by (Some ty) tys e = absurd (none-some tys e)

pub array_by : (o : Option Ty) (a : TyId × ℕ) → option_and_then types.array_in o ≡ Some a →
    (o ≡ Some (Ty.Array a.0 a.1)) × Sort o
array_by None a e = absurd (none-some a e)
array_by (Some (Ty.Array element count)) a e =
    let same : (element, count) ≡ a = cc in (ap (λ (p : TyId × ℕ). Some (Ty.Array p.0 p.1)) same, (refl, refl))
array_by (Some ty) a e = absurd (none-some a e)

pub boxed_by : (o : Option Ty) (inside : TyId) → option_and_then types.boxed_in o ≡ Some inside →
    (o ≡ Some (Ty.Boxed inside)) × Sort o
boxed_by None inside e = absurd (none-some inside e)
boxed_by (Some (Ty.Boxed content)) inside e =
    let same : content ≡ inside = cc in (ap (λ t. Some (Ty.Boxed t)) same, (refl, refl))
boxed_by (Some ty) inside e = absurd (none-some inside e)

pub closure_by : (o : Option Ty) (n : ℕ) → option_map_or (λ m. m == n) (option_and_then types.closure_in o) false ≡
    true →
    (o ≡ Some (Ty.Closure n)) × Sort o
closure_by None n e = absurd (false≢true e)
closure_by (Some (Ty.Closure m)) n e = (ap (λ k. Some (Ty.Closure k)) ((Decides-eqb m n).0 e), (refl, refl))
closure_by (Some ty) n e = absurd (false≢true e)

pub adt_by : (o : Option Ty) (n : ℕ) → option_map_or (λ m. m == n) (option_and_then types.adt_in o) false ≡ true →
    (o ≡ Some (Ty.Adt n)) × Sort o
adt_by None n e = absurd (false≢true e)
adt_by (Some (Ty.Adt m)) n e = (ap (λ k. Some (Ty.Adt k)) ((Decides-eqb m n).0 e), (refl, refl))
adt_by (Some ty) n e = absurd (false≢true e)

pub reference_by : (o : Option Ty) → is_some (option_and_then types.reference_in o) ≡ is_reference o
reference_by None = refl
reference_by (Some (Ty.Shared to)) = refl
reference_by (Some (Ty.Unique to)) = refl
reference_by (Some ty) = refl

pub dyn_by : (o : Option Ty) → is_some (option_and_then types.dyn_in o) ≡ is_dyn o
dyn_by None = refl
dyn_by (Some (Ty.Dyn n)) = refl
dyn_by (Some ty) = refl

pub box_same : (o : Option Ty) → option_and_then types.boxed_in o ≡ type_forms.box_content o
box_same None = refl
box_same (Some (Ty.Boxed inside)) = refl
box_same (Some ty) = refl

pub adt_same : (o : Option Ty) → option_and_then types.adt_in o ≡ type_forms.adt_of o
adt_same None = refl
adt_same (Some (Ty.Adt n)) = refl
adt_same (Some ty) = refl

pub dyn_of_by : (o : Option Ty) (n : ℕ) → option_map_or (λ m. m == n) (option_and_then types.dyn_in o) false ≡ true →
    type_forms.is_dyn_of n o ≡ true
dyn_of_by None n e = absurd (false≢true e)
dyn_of_by (Some (Ty.Dyn m)) n e = (Decides-eqb n m).1 (sym ((Decides-eqb m n).0 e))
dyn_of_by (Some ty) n e = absurd (false≢true e)

-- some one of a list has a position
pub has_position : {A : Type 0} (test : A → Bool) (list : List A) → list_any test list ≡ true →
    is_some (position test list) ≡ true
has_position {A} test list e =
    ap (λ b. is_some (if b then Some (position_or_len test list) else None))
    (lt-ltb (position_or_len test list) (length list) (comes list e))
  where
    comes : (list : List A) → list_any test list ≡ true → position_or_len test list < length list
    comes [] e = absurd (false≢true e)
    comes (a ∷ list) e = by (test a) e (λ h. comes list h)
      where
        by : (b : Bool) → (b || list_any test list) ≡ true →
            (list_any test list ≡ true → position_or_len test list < length list) →
            (if not b then 1 + position_or_len test list else 0) < length (a ∷ list)
        by true e later = let positive : 0 < length (a ∷ list) = omega arith in positive
        by false e later =
            let l : position_or_len test list < length list = later e in
            let more : 1 + position_or_len test list < length (a ∷ list) = omega (l, arith) in more

-- ---- of types by their numbers

module _ (items : ItemTable) where
  abbrev pub Alone : TyId → Type 0
  Alone id = alone items id ≡ true

  -- neither a reference nor a trait object nor `!`
  abbrev pub Sorted : TyId → Type 0
  Sorted id = Alone id × (is_never items id ≡ false)

  pub unit_is : (id : TyId) → types.is_unit items id ≡ true → (is_unit (type_at items id) ≡ true) × Sorted id
  unit_is id e = unit_by (type_at items id) e

  pub bool_is : (id : TyId) → types.is_bool items id ≡ true → (is_bool (type_at items id) ≡ true) × Sorted id
  bool_is id e = bool_by (type_at items id) e

  pub number_is : (id : TyId) (value : ℤ) → types.is_number_of items id value ≡ true →
      (is_int (kind_of items id) (type_at items id) ≡ true) ×
      ((number_fits (kind_of items id) value ≡ true) × Sorted id)
  number_is id value e = number_by (type_at items id) value e

  pub int_is : (id : TyId) → types.is_int items id ≡ true →
      (same_int (type_at items id) (type_at items id) ≡ true) × Sorted id
  int_is id e = int_by (type_at items id) e

  pub signed_is : (id : TyId) → types.is_signed items id ≡ true → (is_signed (type_at items id) ≡ true)
      × ((same_int (type_at items id) (type_at items id) ≡ true) × Sorted id)
  signed_is id e = signed_by (type_at items id) e

  pub i32_is : (id : TyId) → types.is_i32 items id ≡ true → (is_int IntKind.I32 (type_at items id) ≡ true) × Sorted id
  i32_is id e = i32_by (type_at items id) e

  pub usize_is : (id : TyId) → types.is_usize items id ≡ true →
      (is_int IntKind.Usize (type_at items id) ≡ true) × Sorted id
  usize_is id e = usize_by (type_at items id) e

  pub compared_is : (id : TyId) → typing.int_or_bool items id ≡ true →
      (are_compared (type_at items id) (type_at items id) ≡ true) × Sorted id
  compared_is id e = compared_by (type_at items id) e

  pub never_same : (id : TyId) → types.is_never items id ≡ is_never items id
  never_same id = never_by (type_at items id)

  -- what is made and fits a type is of it
  pub made_fits : (want ty : TyId) → types.fits items want ty ≡ true → is_never items ty ≡ false → ty ≡ want
  made_fits want ty e n = by (one_of (types.is_same ty want) (types.is_never items ty) e)
    where
      by : (types.is_same ty want ≡ true) ⊎ (types.is_never items ty ≡ true) → ty ≡ want
      by (inl same) = same_type ty want same
      by (inr never) = absurd (false≢true (sym n ∙ sym (never_same ty) ∙ never))

  -- of a type that is tested, or of type `!`
  pub made_is : (test : Bool) (ty : TyId) → (test || types.is_never items ty) ≡ true → is_never items ty ≡ false →
      test ≡ true
  made_is test ty e n = by (one_of test (types.is_never items ty) e)
    where
      by : (test ≡ true) ⊎ (types.is_never items ty ≡ true) → test ≡ true
      by (inl t) = t
      by (inr never) = absurd (false≢true (sym n ∙ sym (never_same ty) ∙ never))

  -- two operands that are made are of one type
  pub operands_same : (test : TyId → Bool) (a b : TyId) → typing.are_operands items test a b ≡ true →
      is_never items a ≡ false → is_never items b ≡ false → (test a ≡ true) × (b ≡ a)
  operands_same test a b e n m = by (one_of (test a && types.fits items a b) (test b && types.fits items b a) e)
    where
      by : ((test a && types.fits items a b) ≡ true) ⊎ ((test b && types.fits items b a) ≡ true) →
          (test a ≡ true) × (b ≡ a)
      by (inl h) = (
        left_of (test a) (types.fits items a b) h,
        made_fits a b (right_of (test a) (types.fits items a b) h) m,
      )
      by (inr h) =
          let same : a ≡ b = made_fits b a (right_of (test b) (types.fits items b a) h) n in
          (subst (λ t. test t ≡ true) (sym same) (left_of (test b) (types.fits items b a) h), sym same)

  -- ---- what needs dropping is no reference, and not of type `!`; what is Copy is no `dyn`

  abbrev pub is_plain_scalar : Option Ty → Bool
  is_plain_scalar None = true
  is_plain_scalar (Some ty) = is_scalar ty

  pub scalar_undropped : (id : TyId) → is_plain_scalar (type_at items id) ≡ true → needs_drop items id ≡ false
  scalar_undropped id h = rounds (length items.types)
    where
      rule : (k : ℕ) (o : Option Ty) → is_plain_scalar o ≡ true →
          option_map_or (drop_rule items.adts items.closures
          (in_rounds items.types (drop_rule items.adts items.closures) k)) o false ≡ false
      rule k None h = refl
      rule k (Some (Ty.Int kind)) h = refl
      rule k (Some Ty.Bool) h = refl
      rule k (Some Ty.Unit) h = refl
      rule k (Some Ty.Never) h = refl
      rule k (Some (Ty.Shared to)) h = refl
      rule k (Some (Ty.Unique to)) h = refl
      rule k (Some ty) h = absurd (false≢true h)

      rounds : (k : ℕ) → in_rounds items.types (drop_rule items.adts items.closures) k id ≡ false
      rounds zero = refl
      rounds (suc k) = rule k (type_at items id) h

  reference_scalar : (o : Option Ty) → is_reference o ≡ true → is_plain_scalar o ≡ true
  reference_scalar None e = refl
  reference_scalar (Some (Ty.Shared to)) e = refl
  reference_scalar (Some (Ty.Unique to)) e = refl
  reference_scalar (Some ty) e = absurd (false≢true e)

  never_scalar : (o : Option Ty) → type_forms.is_never o ≡ true → is_plain_scalar o ≡ true
  never_scalar None e = refl
  never_scalar (Some Ty.Never) e = refl
  never_scalar (Some ty) e = absurd (false≢true e)

  pub dropped_no_reference : (id : TyId) → needs_drop items id ≡ true → no_reference items id ≡ true
  dropped_no_reference id n = by (is_reference (type_at items id)) refl
    where
      by : (b : Bool) → is_reference (type_at items id) ≡ b → not b ≡ true
      by true e = absurd (false≢true (sym (scalar_undropped id (reference_scalar (type_at items id) e)) ∙ n))
      by false e = refl

  pub dropped_not_never : (id : TyId) → needs_drop items id ≡ true → is_never items id ≡ true → ⊥
  dropped_not_never id n e = false≢true (sym (scalar_undropped id (never_scalar (type_at items id) e)) ∙ n)

  copy_no_dyn : (id : TyId) → is_copy items id ≡ true → is_dyn (type_at items id) ≡ false
  copy_no_dyn id h = rounds (length items.types) h
    where
      rule : (k : ℕ) (o : Option Ty) → option_map_or (copy_rule items.adts items.closures
          (in_rounds items.types (copy_rule items.adts items.closures) k)) o false ≡ true → is_dyn o ≡ false
      rule k None e = refl
      rule k (Some (Ty.Dyn n)) e = absurd (false≢true e)
      rule k (Some ty) e = refl

      rounds : (k : ℕ) → in_rounds items.types (copy_rule items.adts items.closures) k id ≡ true →
          is_dyn (type_at items id) ≡ false
      rounds zero e = absurd (false≢true e)
      rounds (suc k) e = rule k (type_at items id) e

  both_not : (a b : Bool) → a ≡ false → b ≡ false → (not a && not b) ≡ true
  both_not true b e f = absurd (false≢true (sym e))
  both_not false true e f = absurd (false≢true (sym f))
  both_not false false e f = refl

  -- a place whose value is used
  pub used_alone : (id : TyId) (movable : Bool) → (is_copy items id || (movable && not (types.is_dyn items id))) ≡
      true →
      not (types.is_reference items id) ≡ true → Alone id
  used_alone id movable e n = both_not (is_reference (type_at items id)) (is_dyn (type_at items id))
      (sym (reference_by (type_at items id)) ∙ is_false (types.is_reference items id) n)
      (by (one_of (is_copy items id) (movable && not (types.is_dyn items id)) e))
    where
      by : (is_copy items id ≡ true) ⊎ ((movable && not (types.is_dyn items id)) ≡ true) →
          is_dyn (type_at items id) ≡ false
      by (inl c) = copy_no_dyn id c
      by (inr m) = sym (dyn_by (type_at items id)) ∙ is_false (types.is_dyn items id)
          (right_of movable (not (types.is_dyn items id)) m)

  pub neither_alone : (id : TyId) → types.is_reference items id ≡ false → types.is_dyn items id ≡ false → Alone id
  neither_alone id n m = both_not (is_reference (type_at items id)) (is_dyn (type_at items id))
      (sym (reference_by (type_at items id)) ∙ n) (sym (dyn_by (type_at items id)) ∙ m)

  -- ---- a box that is coerced to one of a trait object

  boxed_plain : (o : Option Ty) → is_some (option_and_then types.boxed_in o) ≡ true → Sort o
  boxed_plain None e = absurd (false≢true e)
  boxed_plain (Some (Ty.Boxed inside)) e = (refl, refl)
  boxed_plain (Some ty) e = absurd (false≢true e)

  pub record Coerces (object from : TyId) (trait_no : ℕ) : Type 0 where
    pub object_alone : Sorted object
    pub from_alone : Sorted from
    pub of_trait : type_forms.is_dyn_of trait_no
        (option_and_then (type_at items) (type_forms.box_content (type_at items object))) ≡ true
    pub by_impl : option_map_or (λ adt. is_some (impl_of items trait_no adt))
        (type_forms.adt_of (option_and_then (type_at items) (type_forms.box_content (type_at items from)))) false ≡ true

  pub coerces : (object from : TyId) (trait_no : ℕ) → typing.box_implements items object from trait_no ≡ true →
      Coerces object from trait_no
  coerces object from trait_no h = record {
    object_alone = boxed_plain (type_at items object) (boxed_if (types.trait_of items) (λ n. n == trait_no)
        (types.boxed_of items object) first);
    from_alone = boxed_plain (type_at items from) (boxed_if (types.adt_of items)
        (λ adt. types.implements items adt trait_no) (types.boxed_of items from) second);
    of_trait = subst (λ b. type_forms.is_dyn_of trait_no (option_and_then (type_at items) b) ≡ true)
        (box_same (type_at items object)) (to_dyn (types.boxed_of items object) first);
    by_impl = subst (λ b. option_map_or (λ adt. is_some (impl_of items trait_no adt))
        (type_forms.adt_of (option_and_then (type_at items) b)) false ≡ true)
        (box_same (type_at items from)) (by_adt (types.boxed_of items from) second);
  }
    where
      first : option_map_or (λ n. n == trait_no) (option_and_then (types.trait_of items) (types.boxed_of items object))
          false
          ≡ true
      first = left_of (option_map_or (λ n. n == trait_no)
          (option_and_then (types.trait_of items) (types.boxed_of items object)) false)
          (option_map_or (λ adt. types.implements items adt trait_no)
          (option_and_then (types.adt_of items) (types.boxed_of items from)) false) h

      second : option_map_or (λ adt. types.implements items adt trait_no)
          (option_and_then (types.adt_of items) (types.boxed_of items from)) false ≡ true
      second = right_of (option_map_or (λ n. n == trait_no)
          (option_and_then (types.trait_of items) (types.boxed_of items object)) false)
          (option_map_or (λ adt. types.implements items adt trait_no)
          (option_and_then (types.adt_of items) (types.boxed_of items from)) false) h

      boxed_if : (form : TyId → Option ℕ) (test : ℕ → Bool) (b : Option TyId) →
          option_map_or test (option_and_then form b) false ≡ true → is_some b ≡ true
      boxed_if form test None e = absurd (false≢true e)
      boxed_if form test (Some inside) e = refl

      to_dyn : (b : Option TyId) →
          option_map_or (λ n. n == trait_no) (option_and_then (types.trait_of items) b) false ≡ true →
          type_forms.is_dyn_of trait_no (option_and_then (type_at items) b) ≡ true
      to_dyn None e = absurd (false≢true e)
      to_dyn (Some inside) e = dyn_of_by (type_at items inside) trait_no e

      has_impl : (o : Option ℕ) → option_map_or (λ adt. types.implements items adt trait_no) o false ≡ true →
          option_map_or (λ adt. is_some (impl_of items trait_no adt)) o false ≡ true
      has_impl None e = absurd (false≢true e)
      has_impl (Some adt) e = has_position (λ impl. (impl.trait_no == trait_no) && (impl.adt == adt)) items.impls e

      by_adt : (b : Option TyId) → option_map_or (λ adt. types.implements items adt trait_no)
          (option_and_then (types.adt_of items) b) false ≡ true →
          option_map_or (λ adt. is_some (impl_of items trait_no adt))
          (type_forms.adt_of (option_and_then (type_at items) b)) false ≡ true
      by_adt None e = absurd (false≢true e)
      by_adt (Some inside) e = has_impl (type_forms.adt_of (type_at items inside))
          (subst (λ o. option_map_or (λ adt. types.implements items adt trait_no) o false ≡ true)
          (adt_same (type_at items inside)) e)

  -- a box of a trait object is not coerced again
  pub not_twice : (object from another : TyId) (trait_no other : ℕ) →
      typing.box_implements items object from trait_no ≡ true →
      typing.box_implements items another object other ≡ true → ⊥
  not_twice object from another trait_no other h k = of_box (types.boxed_of items object)
      (left_of (option_map_or (λ n. n == trait_no)
      (option_and_then (types.trait_of items) (types.boxed_of items object)) false)
      (option_map_or (λ adt. types.implements items adt trait_no)
      (option_and_then (types.adt_of items) (types.boxed_of items from)) false) h)
      (right_of (option_map_or (λ n. n == other)
      (option_and_then (types.trait_of items) (types.boxed_of items another)) false)
      (option_map_or (λ adt. types.implements items adt other)
      (option_and_then (types.adt_of items) (types.boxed_of items object)) false) k)
    where
      of_content : (o : Option Ty) → option_map_or (λ n. n == trait_no) (option_and_then types.dyn_in o) false ≡ true →
          option_map_or (λ adt. types.implements items adt other) (option_and_then types.adt_in o) false ≡ true → ⊥
      of_content None e f = false≢true e
      of_content (Some (Ty.Dyn n)) e f = false≢true f
      of_content (Some ty) e f = false≢true e

      of_box : (b : Option TyId) → option_map_or (λ n. n == trait_no) (option_and_then (types.trait_of items) b) false
          ≡ true → option_map_or (λ adt. types.implements items adt other) (option_and_then (types.adt_of items) b)
          false
          ≡ true → ⊥
      of_box None e f = false≢true e
      of_box (Some inside) e f = of_content (type_at items inside) e f
