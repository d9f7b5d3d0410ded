-- How a value of a type is taken apart: a box, an enum, and all others by their numbered parts.
use Rattle.std.proofs.Common.{◌≡◌, ℕ, Bool, true, false, List, Option, Some, None, slice_get, refl, ap}
use Rattle.std.proofs.lemmas.Bool.{false≢true}
use Rattle.std.proofs.lemmas.Option.{none-some}
use Rattle.mir_ty.specs.declared.ty.Ty.{Ty}
use Rattle.mir_ty.specs.declared.ty.TyId.{TyId}
use Rattle.mir_ty.specs.ItemTable.{ItemTable}
use Rattle.mir_ty.specs.Parts.{parts_of, variants_of}
use Rattle.store_model.specs.Places.Place.{Step, ToPart, ToField, ToContent, ToElement, is_enum, is_reference, content_of, step_ty}
use Rattle.store_model.specs.Places.TypeForms.{is_dyn}
use Rattle.drop_values.specs.Facts.{Branches}
use Rattle.drop_values.specs.Plan.{Plan, InParts, ByVariant}
use Rattle.drop_values.specs.Planning.{guarded, taken_apart, part_plans, variant_plans, apart_reads, any_bare}
use Rattle.drop_elaborate.specs.Kinds.{is_box}

-- a value that is taken apart by its numbered parts
pub record Plainly (items : ItemTable) (ty : Ty) : Type 0 where
  pub no_enum : is_enum items ty ≡ false
  pub apart : (guard : Option ℕ) (plans : List (Step × Plan)) → taken_apart items guard (is_enum items ty) ty plans
      ≡ InParts (part_plans items guard (parts_of items ty 0) ToPart plans 0)
  pub asks : (under : Branches) → apart_reads items (is_enum items ty) ty under
      ≡ any_bare items (parts_of items ty 0) ToPart under 0
  pub content : (to : TyId) → content_of ty ≡ Some to → is_reference (Some ty) ≡ true
  pub no_box : is_box (Some ty) ≡ false
  pub solid : is_dyn (Some ty) ≡ true → (step : Step) → step_ty items step ty ≡ None

pub record AsEnum (items : ItemTable) (n : ℕ) : Type 0 where
  pub enum : is_enum items (Ty.Adt n) ≡ true
  pub apart : (guard : Option ℕ) (plans : List (Step × Plan)) → taken_apart items guard (is_enum items (Ty.Adt n))
      (Ty.Adt n) plans
      ≡ guarded guard (ByVariant (variant_plans items (variants_of (slice_get items.adts n)) plans 0))
  pub asks : (under : Branches) → apart_reads items (is_enum items (Ty.Adt n)) (Ty.Adt n) under ≡ true

pub data Apart (items : ItemTable) : Ty → Type 0 where
  boxed : (content : TyId) → Apart items (Ty.Boxed content)
  enum : (n : ℕ) → AsEnum items n → Apart items (Ty.Adt n)
  plainly : (ty : Ty) → Plainly items ty → Apart items ty

module _ (items : ItemTable) where
  dyn-solid : (k : ℕ) (step : Step) → step_ty items step (Ty.Dyn k) ≡ None
  dyn-solid k (ToPart n) = refl
  dyn-solid k (ToField v n) = refl
  dyn-solid k ToContent = refl
  dyn-solid k (ToElement i) = refl

  by-adt : (n : ℕ) (b : Bool) → is_enum items (Ty.Adt n) ≡ b → Apart items (Ty.Adt n)
  by-adt n true e = enum n (record {
    enum = e;
    apart = λ guard plans. ap (λ (b : Bool). taken_apart items guard b (Ty.Adt n) plans) e;
    asks = λ under. ap (λ (b : Bool). apart_reads items b (Ty.Adt n) under) e;
  })
  by-adt n false e = plainly (Ty.Adt n) (record {
    no_enum = e;
    apart = λ guard plans. ap (λ (b : Bool). taken_apart items guard b (Ty.Adt n) plans) e;
    asks = λ under. ap (λ (b : Bool). apart_reads items b (Ty.Adt n) under) e;
    content = λ to c. absurd (none-some to c);
    no_box = refl;
    solid = λ d step. absurd (false≢true d);
  })

  pub apart_as : (ty : Ty) → Apart items ty
  apart_as (Ty.Adt n) = by-adt n (is_enum items (Ty.Adt n)) refl
  apart_as (Ty.Boxed content) = boxed content
  apart_as (Ty.Int kind) = plainly (Ty.Int kind) (record {
    no_enum = refl;
    apart = λ guard plans. refl;
    asks = λ under. refl;
    content = λ inside c. absurd (none-some inside c);
    no_box = refl;
    solid = λ d step. absurd (false≢true d);
  })
  apart_as Ty.Bool = plainly Ty.Bool (record {
    no_enum = refl;
    apart = λ guard plans. refl;
    asks = λ under. refl;
    content = λ inside c. absurd (none-some inside c);
    no_box = refl;
    solid = λ d step. absurd (false≢true d);
  })
  apart_as Ty.Unit = plainly Ty.Unit (record {
    no_enum = refl;
    apart = λ guard plans. refl;
    asks = λ under. refl;
    content = λ inside c. absurd (none-some inside c);
    no_box = refl;
    solid = λ d step. absurd (false≢true d);
  })
  apart_as Ty.Never = plainly Ty.Never (record {
    no_enum = refl;
    apart = λ guard plans. refl;
    asks = λ under. refl;
    content = λ inside c. absurd (none-some inside c);
    no_box = refl;
    solid = λ d step. absurd (false≢true d);
  })
  apart_as (Ty.Tuple parts) = plainly (Ty.Tuple parts) (record {
    no_enum = refl;
    apart = λ guard plans. refl;
    asks = λ under. refl;
    content = λ inside c. absurd (none-some inside c);
    no_box = refl;
    solid = λ d step. absurd (false≢true d);
  })
  apart_as (Ty.Array element count) = plainly (Ty.Array element count) (record {
    no_enum = refl;
    apart = λ guard plans. refl;
    asks = λ under. refl;
    content = λ inside c. absurd (none-some inside c);
    no_box = refl;
    solid = λ d step. absurd (false≢true d);
  })
  apart_as (Ty.Dyn k) = plainly (Ty.Dyn k) (record {
    no_enum = refl;
    apart = λ guard plans. refl;
    asks = λ under. refl;
    content = λ inside c. absurd (none-some inside c);
    no_box = refl;
    solid = λ d step. dyn-solid k step;
  })
  apart_as (Ty.Shared to) = plainly (Ty.Shared to) (record {
    no_enum = refl;
    apart = λ guard plans. refl;
    asks = λ under. refl;
    content = λ inside c. refl;
    no_box = refl;
    solid = λ d step. absurd (false≢true d);
  })
  apart_as (Ty.Unique to) = plainly (Ty.Unique to) (record {
    no_enum = refl;
    apart = λ guard plans. refl;
    asks = λ under. refl;
    content = λ inside c. refl;
    no_box = refl;
    solid = λ d step. absurd (false≢true d);
  })
  apart_as (Ty.Closure k) = plainly (Ty.Closure k) (record {
    no_enum = refl;
    apart = λ guard plans. refl;
    asks = λ under. refl;
    content = λ inside c. absurd (none-some inside c);
    no_box = refl;
    solid = λ d step. absurd (false≢true d);
  })
