-- A table with more closures than a type can count: types are written as before, and each type of a table that was read exists.
use Rattle.std.proofs.Common.{◌≡◌, ℕ, zero, suc, ◌^◌, ◌<◌, ◌≤◌, true, false, List, [], ◌∷◌, ◌++◌, map, length, codes, decimal, Option, Some, None, refl, ap, sym, subst, arith, lt-ltb}
use Rattle.std.specs.List.{list_all}
use Rattle.std.specs.Option.{option_map_or}
use Rattle.std.proofs.lemmas.Bool.{and_from}
use Rattle.mir_ty.specs.declared.def.ClosureDef.{ClosureDef}
use Rattle.mir_ty.specs.declared.ty.Ty.{Ty}
use Rattle.mir_ty.specs.declared.ty.TyId.{TyId}
use Rattle.mir_ty.specs.AreItems.{types_in}
use Rattle.mir_ty.specs.Facts.{in_rounds}
use Rattle.mir_ty.specs.ItemTable.{ItemTable, type_at}
use Rattle.cfg_graph.specs.WellFormed.TypeFaults.{own_number_exists, existing, ty_exists}
use Rattle.listing_write.specs.Fields.{TyFits}
use Rattle.listing_write.specs.Types.{tuple_text, form_text, found_text, type_within, type_text, deepest}
use Rattle.listing_write.proofs.Reading.Basics.{Every}
use Rattle.listing_write.proofs.Reading.Parts.{every_from_all}
use Rattle.listing_write.proofs.Reading.Types.{IsShown}
use Rattle.listing_parts.specs.Table.{AreRead, HasHead}
use Rattle.listing_parts.proofs.Complete.{found_at}

-- so many closures
pub closures_of : ℕ → List ClosureDef
closures_of zero = []
closures_of (suc n) = record { captures = []; body = 0 } ∷ closures_of n

pub count_of : (n : ℕ) → length (closures_of n) ≡ n
unfolding closures_of
count_of zero = refl
count_of (suc n) = ap suc (count_of n)

module _ (items : ItemTable) (many : List ClosureDef) where
  abbrev pub enough : ItemTable
  enough = record items { closures = many }

  row_same : (f g : TyId → List ℕ) → ((id : TyId) → f id ≡ g id) → (ids : List TyId) → map f ids ≡ map g ids
  row_same f g h [] = refl
  row_same f g h (id ∷ ids) = λ i. h id i ∷ row_same f g h ids i

  form_same : (f g : TyId → List ℕ) → ((id : TyId) → f id ≡ g id) → (ty : Ty) → form_text items f ty ≡ form_text enough g ty
  form_same f g h (Ty.Tuple parts) = ap tuple_text (row_same f g h parts)
  form_same f g h (Ty.Array element count) = ap (λ (w : List ℕ). codes "[" ++ w ++ codes "; " ++ decimal count ++ codes "]") (h element)
  form_same f g h (Ty.Boxed inside) = ap (λ (w : List ℕ). codes "Box<" ++ w ++ codes ">") (h inside)
  form_same f g h (Ty.Shared to) = ap (λ (w : List ℕ). codes "&" ++ w) (h to)
  form_same f g h (Ty.Unique to) = ap (λ (w : List ℕ). codes "&mut " ++ w) (h to)
  form_same f g h other = refl

  within_same : (d : ℕ) (id : TyId) → type_within items d id ≡ type_within enough d id
  within_same zero id = refl
  within_same (suc d) id = by (type_at items id) (within_same d)
    where
      by : (o : Option Ty) → ((part : TyId) → type_within items d part ≡ type_within enough d part) → found_text items (type_within items d) o ≡ found_text enough (type_within enough d) o
      by None deeper = refl
      by (Some ty) deeper = form_same (type_within items d) (type_within enough d) deeper ty

  pub text_same : (id : TyId) → type_text items id ≡ type_text enough id
  unfolding type_text
  text_same id = within_same deepest id

  module _ (read : AreRead items items.types) (much : 2 ^ 32 ≤ length many) where
    own_there : (ty : Ty) → HasHead items ty → TyFits ty → own_number_exists enough ty ≡ true
    own_there (Ty.Adt n) head fits = lt-ltb n (length items.adts) head
    own_there (Ty.Dyn n) head fits = lt-ltb n (length items.traits) head
    own_there (Ty.Closure n) head fits = lt-ltb n (length many) (omega (arith, fits, much))
    own_there _ head fits = refl

    shown : (k : ℕ) (id : TyId) → id.0 < k → id.0 < length items.types → IsShown enough k id
    shown zero id less there = absurd (omega (arith, less))
    shown (suc k) id less there =
        let (ty, is) = found_at items.types id.0 there in
        let may = read id.0 ty is in
        subst (λ (o : Option Ty). option_map_or (existing enough (in_rounds items.types (existing enough) k)) o false ≡ true) (sym is)
        (and_from (own_number_exists enough ty) _ (own_there ty may.head may.fits) (each (types_in ty) (every_from_all (λ (part : TyId). part.0 < id.0) (types_in ty) may.below) (λ part below. shown k part (omega (arith, below, less)) (omega (arith, below, there)))))
      where
        each : (ids : List TyId) → Every (λ part. part.0 < id.0) ids → ((part : TyId) → part.0 < id.0 → IsShown enough k part) → list_all (in_rounds items.types (existing enough) k) ids ≡ true
        each [] h deeper = refl
        each (part ∷ ids) h deeper = and_from (in_rounds items.types (existing enough) k part) _ (deeper part h.0) (each ids h.1 deeper)

    pub there_exists : (id : TyId) → id.0 < length items.types → ty_exists enough id ≡ true
    there_exists id there = shown (length items.types) id there there
