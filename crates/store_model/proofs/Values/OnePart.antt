-- The parts of a value after one of them was changed.
use Rattle.std.proofs.Common.{◌≡◌, ◌≢◌, ℕ, zero, suc, List, [], ◌∷◌, length, Some, refl, ap}
use Rattle.std.specs.Prelude.{slice_get, slice_set}
use Rattle.store_model.specs.declared.address.At.{At}
use Rattle.store_model.specs.declared.address.At.TheVariants.{Part, Inside}
use Rattle.store_model.specs.Values.Datum.{Datum, Data, Aggregate, Box, no_part, a_part, data_from}
use Rattle.store_model.specs.Values.Parts.{count}
use Rattle.store_model.specs.Values.Access.{part, with_part, part_at, with_part_at}

pub part_at-with_part_at : (number : ℕ) (new old : Datum) (parts : Data) → part_at number parts ≡ Some old → part_at number (with_part_at number new parts) ≡ Some new
part_at-with_part_at number new old no_part h = absurd (cc)
part_at-with_part_at zero new old (a_part first rest) h = refl
part_at-with_part_at (suc number) new old (a_part first rest) h = part_at-with_part_at number new old rest h

pub with_part_at-part_at : (number : ℕ) (old : Datum) (parts : Data) → part_at number parts ≡ Some old → with_part_at number old parts ≡ parts
with_part_at-part_at number old no_part h = refl
with_part_at-part_at zero old (a_part first rest) h = ap (λ x. a_part x rest) (let e : old ≡ first = cc in e)
with_part_at-part_at (suc number) old (a_part first rest) h = ap (a_part first) (with_part_at-part_at number old rest h)

pub with_part_at-with_part_at : (number : ℕ) (new later : Datum) (parts : Data) → with_part_at number later (with_part_at number new parts) ≡ with_part_at number later parts
with_part_at-with_part_at number new later no_part = refl
with_part_at-with_part_at zero new later (a_part first rest) = refl
with_part_at-with_part_at (suc number) new later (a_part first rest) = ap (a_part first) (with_part_at-with_part_at number new later rest)

pub part_at-with_part_at_other : (number other : ℕ) (new : Datum) (parts : Data) → number ≢ other → part_at other (with_part_at number new parts) ≡ part_at other parts
part_at-with_part_at_other number other new no_part differ = refl
part_at-with_part_at_other zero zero new (a_part first rest) differ = absurd (differ refl)
part_at-with_part_at_other zero (suc other) new (a_part first rest) differ = refl
part_at-with_part_at_other (suc number) zero new (a_part first rest) differ = refl
part_at-with_part_at_other (suc number) (suc other) new (a_part first rest) differ = part_at-with_part_at_other number other new rest (λ e. differ (ap suc e))

pub with_part_at-swap : (number other : ℕ) (new another : Datum) (parts : Data) → number ≢ other → with_part_at number new (with_part_at other another parts) ≡ with_part_at other another (with_part_at number new parts)
with_part_at-swap number other new another no_part differ = refl
with_part_at-swap zero zero new another (a_part first rest) differ = absurd (differ refl)
with_part_at-swap zero (suc other) new another (a_part first rest) differ = refl
with_part_at-swap (suc number) zero new another (a_part first rest) differ = refl
with_part_at-swap (suc number) (suc other) new another (a_part first rest) differ = ap (a_part first) (with_part_at-swap number other new another rest (λ e. differ (ap suc e)))

-- the parts that a list gives, by their numbers
pub part_at-data_from : (values : List Datum) (number : ℕ) → part_at number (data_from values) ≡ slice_get values number
part_at-data_from [] number = refl
part_at-data_from (value ∷ values) zero = refl
part_at-data_from (value ∷ values) (suc number) = part_at-data_from values number

pub with_part_at-data_from : (values : List Datum) (number : ℕ) (new : Datum) → with_part_at number new (data_from values) ≡ data_from (slice_set values number new)
with_part_at-data_from [] number new = refl
with_part_at-data_from (value ∷ values) zero new = refl
with_part_at-data_from (value ∷ values) (suc number) new = ap (a_part value) (with_part_at-data_from values number new)

pub count-data_from : (values : List Datum) → count (data_from values) ≡ length values
count-data_from [] = refl
count-data_from (value ∷ values) = ap suc (count-data_from values)

-- the changed part stands where the step leads
pub part-with_part : (step : At) (new old root : Datum) → part step root ≡ Some old → part step (with_part step new root) ≡ Some new
part-with_part (Part number) new old (Aggregate variant serial parts) h = part_at-with_part_at number new old parts h
part-with_part Inside new old (Box serial impl_no inside) h = refl
part-with_part _ new old _ h = absurd (cc)

pub with_part-part : (step : At) (old root : Datum) → part step root ≡ Some old → with_part step old root ≡ root
with_part-part (Part number) old (Aggregate variant serial parts) h = ap (Aggregate variant serial) (with_part_at-part_at number old parts h)
with_part-part Inside old (Box serial impl_no inside) h = cc
with_part-part _ old _ h = refl

pub with_part-with_part : (step : At) (new later root : Datum) → with_part step later (with_part step new root) ≡ with_part step later root
with_part-with_part (Part number) new later (Aggregate variant serial parts) = ap (Aggregate variant serial) (with_part_at-with_part_at number new later parts)
with_part-with_part Inside new later (Box serial impl_no inside) = refl
with_part-with_part _ new later _ = refl

-- the other parts stay
pub part-with_part_other : (step other : At) (new root : Datum) → step ≢ other → part other (with_part step new root) ≡ part other root
part-with_part_other (Part number) (Part other) new (Aggregate variant serial parts) differ = part_at-with_part_at_other number other new parts (λ e. differ (ap Part e))
part-with_part_other (Part number) Inside new (Aggregate variant serial parts) differ = refl
part-with_part_other Inside (Part other) new (Box serial impl_no inside) differ = refl
part-with_part_other Inside Inside new (Box serial impl_no inside) differ = absurd (differ refl)
part-with_part_other _ _ new _ differ = refl

pub with_part-swap : (step other : At) (new another root : Datum) → step ≢ other → with_part step new (with_part other another root) ≡ with_part other another (with_part step new root)
with_part-swap (Part number) (Part other) new another (Aggregate variant serial parts) differ = ap (Aggregate variant serial) (with_part_at-swap number other new another parts (λ e. differ (ap Part e)))
with_part-swap (Part number) Inside new another (Aggregate variant serial parts) differ = refl
with_part-swap Inside (Part other) new another (Box serial impl_no inside) differ = refl
with_part-swap Inside Inside new another (Box serial impl_no inside) differ = absurd (differ refl)
with_part-swap _ _ new another _ differ = refl
