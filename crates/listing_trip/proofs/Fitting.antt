-- The numbers of a well formed graph fit their fields, line by line: what a rule bounds is bounded by lists, which are
-- short, and what no rule bounds has 32 bits in memory.
use Rattle.std.proofs.Common.{◌≡◌, ◌≢◌, ℕ, ◌-◌, ◌^◌, ◌==◌, ◌<◌, ℤ, pos, negsuc, Bool, true, false, if◌then◌else◌, List, [], ◌∷◌, map, length, replicate, Option, Some, None, is_some, All, nat_lt, slice_get, refl, ap, arith, ltb-true, leb-true}
use Rattle.std.specs.Prelude.{option_and_then, int_le}
use Rattle.std.specs.List.{list_all}
use Rattle.std.proofs.lemmas.Bool.{and_parts, false≢true}
use Rattle.std.proofs.lemmas.List.{length-replicate}
use Rattle.std.proofs.lemmas.Option.{slice_get_within}
use Rattle.mir_base.specs.declared.int_kind.IntKind.{IntKind}
use Rattle.mir_base.specs.IntKind.{least_of, greatest_of}
use Rattle.mir_ty.specs.declared.adt.Adt.{Adt}
use Rattle.mir_ty.specs.declared.adt.Variant.{Variant}
use Rattle.mir_ty.specs.declared.def.ClosureDef.{ClosureDef}
use Rattle.mir_ty.specs.declared.ty.Ty.{Ty}
use Rattle.mir_ty.specs.declared.ty.TyId.{TyId}
use Rattle.mir_ty.specs.AreItems.{AdtIsShort, AreShort, IsShort, types_in}
use Rattle.mir_ty.specs.ItemTable.{ItemTable, type_at}
use Rattle.mir_ty.specs.Parts.{captures_of, fields_of, of_one_variant, parts_of, variants_of}
use Rattle.store_model.specs.Concrete.Effects.{fits}
use Rattle.store_model.specs.Places.Place.{is_enum, part_if, step_ty, ty_along, unless_enum}
use Rattle.cfg_graph.specs.declared.place.Operand.{Operand}
use Rattle.cfg_graph.specs.declared.place.Place.{Place}
use Rattle.cfg_graph.specs.declared.place.Step.{Step}
use Rattle.cfg_graph.specs.Places.{index_locals, named_step, place_id}
use Rattle.cfg_graph.specs.Uses.{operand_uses, place_used}
use Rattle.cfg_graph.specs.WellFormed.Typing.{constant_fits, is_typed_place, ty}
use Rattle.listing_write.specs.Fields.{ConstantFits, Fits, OperandFits, PlaceFits, StepFits, TyFits}
use Rattle.listing_write.proofs.Reading.Basics.{Every}
use Rattle.listing_write.proofs.Reading.Listed.{all_at}
use Rattle.mir_text.proofs.Told.{all_from_every}

-- what is there behind a step
pub then_some : {X Y : Type 0} (f : X → Option Y) (o : Option X) → is_some (option_and_then f o) ≡ true →
    (x : X) × (o ≡ Some x) × (is_some (f x) ≡ true)
then_some f None h = absurd (false≢true h)
then_some f (Some x) h = (x, refl, h)

pub some_within : {X : Type 0} (xs : List X) (n : ℕ) → is_some (slice_get xs n) ≡ true → n < length xs
some_within xs n h = by (slice_get xs n) refl h
  where
    by : (o : Option _) → slice_get xs n ≡ o → is_some o ≡ true → n < length xs
    by None e h = absurd (false≢true h)
    by (Some x) e h = slice_get_within xs n x e

pub below : (n m : ℕ) → nat_lt n m ≡ true → m < 2 ^ 32 → Fits n
below n m h few =
    let less = ltb-true n m h in
    omega (arith, less, few)

-- a constant inside its type
least_fits : (kind : IntKind) (n : ℕ) → int_le (least_of kind) (negsuc n) ≡ true → n < 2 ^ 127
least_fits IntKind.I32 n h = let k = leb-true n (2 ^ 31 - 1) h in omega (arith, k)
least_fits IntKind.I64 n h = let k = leb-true n (2 ^ 63 - 1) h in omega (arith, k)
least_fits IntKind.U32 n h = absurd (false≢true h)
least_fits IntKind.U64 n h = absurd (false≢true h)
least_fits IntKind.Usize n h = absurd (false≢true h)

greatest_fits : (kind : IntKind) (n : ℕ) → int_le (pos n) (greatest_of kind) ≡ true → n < 2 ^ 127
greatest_fits IntKind.I32 n h = let k = leb-true n (2 ^ 31 - 1) h in omega (arith, k)
greatest_fits IntKind.I64 n h = let k = leb-true n (2 ^ 63 - 1) h in omega (arith, k)
greatest_fits IntKind.U32 n h = let k = leb-true n (2 ^ 32 - 1) h in omega (arith, k)
greatest_fits IntKind.U64 n h = let k = leb-true n (2 ^ 64 - 1) h in omega (arith, k)
greatest_fits IntKind.Usize n h = let k = leb-true n (2 ^ 64 - 1) h in omega (arith, k)

constant : (kind : IntKind) (value : ℤ) → fits kind value ≡ true → ConstantFits value
constant kind (pos n) h = greatest_fits kind n (and_parts (int_le (least_of kind) (pos n)) _ h).1
constant kind (negsuc n) h = least_fits kind n (and_parts (int_le (least_of kind) (negsuc n)) _ h).0

module _ (items : ItemTable) (short : AreShort items) (counts : All TyFits items.types) where
  -- a type has few parts in each of its variants
  abbrev FewParts : Ty → ℕ → Type 0
  FewParts ty variant = length (parts_of items ty variant) < 2 ^ 32

  of_one : (parts : List TyId) (variant : ℕ) → length parts < 2 ^ 32 → length (of_one_variant parts variant) < 2 ^ 32
  of_one parts variant few = by (variant == 0)
    where
      by : (t : Bool) → length (if t then parts else []) < 2 ^ 32
      by true = few
      by false = omega arith

  fields_few : (adt : Adt) → AdtIsShort adt → (variant : ℕ) → length (fields_of (slice_get adt.variants variant)) < 2
      ^ 32
  fields_few adt few variant = by (slice_get adt.variants variant) refl
    where
      by : (o : Option Variant) → slice_get adt.variants variant ≡ o → length (fields_of o) < 2 ^ 32
      by None e = omega arith
      by (Some v) e = let k = all_at (λ (w : Variant). IsShort w.fields) adt.variants variant v few.fields e in omega
          (arith, k)

  adt_few : (n variant : ℕ) → FewParts (Ty.Adt n) variant
  adt_few n variant = by (slice_get items.adts n) refl
    where
      by : (o : Option Adt) → slice_get items.adts n ≡ o → length (fields_of (slice_get (variants_of o) variant)) < 2
          ^ 32
      by None e = omega arith
      by (Some adt) e = fields_few adt (all_at AdtIsShort items.adts n adt short.in_adts e) variant

  captures_few : (n : ℕ) → length (captures_of (slice_get items.closures n)) < 2 ^ 32
  captures_few n = by (slice_get items.closures n) refl
    where
      by : (o : Option ClosureDef) → slice_get items.closures n ≡ o → length (captures_of o) < 2 ^ 32
      by None e = omega arith
      by (Some def) e =
          let k = all_at (λ (d : ClosureDef). IsShort d.captures) items.closures n def short.in_closures e in
          omega (arith, k)

  parts_few : (form : Ty) → TyFits form → IsShort (types_in form) → (variant : ℕ) → FewParts form variant
  parts_few (Ty.Adt n) count own variant = adt_few n variant
  parts_few (Ty.Tuple parts) count own variant = of_one parts variant (omega (arith, own))
  parts_few (Ty.Array element many) count own variant =
      of_one (replicate many element) variant
      (let k = length-replicate many element in omega (arith, k, count))
  parts_few (Ty.Closure n) count own variant = of_one (captures_of (slice_get items.closures n)) variant
      (captures_few n)
  parts_few other count own variant = omega arith

  -- a step that leads somewhere has numbers that fit
  part_of : (form : Ty) → TyFits form → IsShort (types_in form) → (variant n : ℕ) →
      is_some (slice_get (parts_of items form variant) n) ≡ true → Fits n
  part_of form count own variant n h =
      let within = some_within (parts_of items form variant) n h in
      let few = parts_few form count own variant in
      omega (arith, within, few)

  unless_some : {X : Type 0} (t : Bool) (o : Option X) → is_some (unless_enum t o) ≡ true → is_some o ≡ true
  unless_some true o h = absurd (false≢true h)
  unless_some false o h = h

  if_some : {X : Type 0} (t : Bool) (o : Option X) → is_some (part_if t o) ≡ true → (t ≡ true) × (is_some o ≡ true)
  if_some true o h = (refl, h)
  if_some false o h = absurd (false≢true h)

  variant_there : (adt : Adt) → AdtIsShort adt → (variant n : ℕ) →
      is_some (slice_get (fields_of (slice_get adt.variants variant)) n) ≡ true → Fits variant
  variant_there adt few variant n h = by (slice_get adt.variants variant) refl h
    where
      by : (o : Option Variant) → slice_get adt.variants variant ≡ o → is_some (slice_get (fields_of o) n) ≡ true →
          Fits variant
      by None e h = absurd (false≢true h)
      by (Some v) e h =
          let within = slice_get_within adt.variants variant v e in
          let most = few.variants in
          omega (arith, within, most)

  variant_of : (form : Ty) (variant n : ℕ) → is_enum items form ≡ true →
      is_some (slice_get (parts_of items form variant) n) ≡ true → Fits variant
  variant_of (Ty.Adt k) variant n enum h = by (slice_get items.adts k) refl h
    where
      by : (o : Option Adt) → slice_get items.adts k ≡ o →
          is_some (slice_get (fields_of (slice_get (variants_of o) variant)) n) ≡ true → Fits variant
      by None e h = absurd (false≢true h)
      by (Some adt) e h = variant_there adt (all_at AdtIsShort items.adts k adt short.in_adts e) variant n h
  variant_of other variant n enum h = absurd (false≢true enum)

  -- the locals are few
  module _ (locals : List TyId) (few : length locals < 2 ^ 32 - 1) where
    abbrev exists : ℕ → Bool
    exists local = nat_lt local (length locals)

    local_fits : (local : ℕ) → exists local ≡ true → Fits local
    local_fits local h = below local (length locals) h (omega (arith, few))

    step_fits : (step : Step) (steps : List Step) (form : Ty) → TyFits form → IsShort (types_in form) →
        is_some (step_ty items (named_step step) form) ≡ true → list_all exists (index_locals (step ∷ steps)) ≡ true →
        StepFits step × (list_all exists (index_locals steps) ≡ true)
    step_fits (Step.Part n) steps form count own h k =
        (part_of form count own 0 n (unless_some (is_enum items form) _ h), k)
    step_fits (Step.Field variant n) steps form count own h k =
        let (enum, there) = if_some (is_enum items form) _ h in
        ((variant_of form variant n enum there, part_of form count own variant n there), k)
    step_fits Step.Inside steps form count own h k = (tt, k)
    step_fits (Step.Index local) steps form count own h k =
        let (here, others) = and_parts (exists local) _ k in
        (local_fits local here, others)

    steps_fit : (steps : List Step) (id : TyId) → is_some (ty_along items (map named_step steps) id) ≡ true →
        list_all exists (index_locals steps) ≡ true → Every StepFits steps
    steps_fit [] id h k = tt
    steps_fit (step ∷ steps) id h k =
        let (next, at, on) = then_some (ty_along items (map named_step steps)) _ h in
        let (form, is, stepped) = then_some (step_ty items (named_step step)) (type_at items id) (ap is_some at) in
        let count = all_at TyFits items.types id.0 form counts is in
        let own = all_at (λ (t : Ty). IsShort (types_in t)) items.types id.0 form short.in_types is in
        let (fine, others) = step_fits step steps form count own stepped k in
        (fine, steps_fit steps next on others)

    pub place_fits : (place : Place) → list_all exists (place.local ∷ index_locals place.steps) ≡ true →
        is_typed_place items locals place ≡ true → PlaceFits place
    place_fits place there typed =
        let (local, indices) = and_parts (exists place.local) _ there in
        let (led, others) = and_parts (is_some (ty items locals place)) _ typed in
        let (id, at, known) = then_some (type_at items) (place_id items locals place) led in
        let (first, is, along) = then_some (ty_along items (map named_step place.steps))
        (slice_get locals place.local) (ap is_some at) in
        (local_fits place.local local, all_from_every StepFits place.steps (steps_fit place.steps first along indices))

    pub operand_fits : (operand : Operand) → Every (λ made. PlaceFits (place_used made)) (operand_uses operand) →
        constant_fits operand ≡ true → OperandFits operand
    operand_fits (Operand.Copied place) fine h = fine.0
    operand_fits (Operand.Moved place) fine h = fine.0
    operand_fits (Operand.Number value kind) fine h = constant kind value h
    operand_fits (Operand.Truth value) fine h = tt
    operand_fits Operand.Unit fine h = tt
