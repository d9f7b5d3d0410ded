-- Values in which nothing is half taken from a value with a `Drop` impl; and parts of which the first are gone.
use Rattle.std.proofs.Common.{◌≡◌, ℕ, zero, suc, ◌&&◌, Bool, true, false, [], Some, is_some, refl, ap}
use Rattle.std.proofs.lemmas.Bool.{false≢true}
use Rattle.store_model.specs.Values.Datum.{Datum, Data, Gone, Number, Truth, UnitValue, Aggregate, Box, Address, no_part, a_part}
use Rattle.store_model.specs.Values.Access.{part_at, with_part_at}
use Rattle.store_model.specs.Values.Wholeness.{is_whole, are_whole, serials_of_all}

-- a value with a `Drop` impl is whole or gone, at any depth
abbrev mutual
  pub Sealed : Datum → Type 0
  Sealed (Aggregate variant serial parts) = (is_some serial ≡ true → are_whole parts ≡ true) × AllSealed parts
  Sealed (Box serial impl_no inside) = Sealed inside
  Sealed d = Unit {0}

  pub AllSealed : Data → Type 0
  AllSealed no_part = Unit {0}
  AllSealed (a_part first rest) = Sealed first × AllSealed rest

pub and_first : (a b : Bool) → (a && b) ≡ true → a ≡ true
and_first true b h = refl
and_first false b h = absurd (false≢true h)

pub and_second : (a b : Bool) → (a && b) ≡ true → b ≡ true
and_second true b h = h
and_second false b h = absurd (false≢true h)

mutual
  pub sealed_if_whole : (d : Datum) → is_whole d ≡ true → Sealed d
  sealed_if_whole Gone h = tt
  sealed_if_whole (Number number) h = tt
  sealed_if_whole (Truth truth) h = tt
  sealed_if_whole UnitValue h = tt
  sealed_if_whole (Aggregate variant serial parts) h = ((λ k. h), all_sealed_if_whole parts h)
  sealed_if_whole (Box serial impl_no inside) h = sealed_if_whole inside h
  sealed_if_whole (Address address) h = tt

  all_sealed_if_whole : (parts : Data) → are_whole parts ≡ true → AllSealed parts
  all_sealed_if_whole no_part h = tt
  all_sealed_if_whole (a_part first rest) h = (
    sealed_if_whole first (and_first (is_whole first) (are_whole rest) h),
    all_sealed_if_whole rest
        (and_second (is_whole first) (are_whole rest) h),
  )

-- so many parts are gone, and these follow
abbrev pub gone_before : ℕ → Data → Data
gone_before zero rest = rest
gone_before (suc n) rest = a_part Gone (gone_before n rest)

pub part_after_gone : (n : ℕ) (first : Datum) (rest : Data) → part_at n (gone_before n (a_part first rest))
    ≡ Some first
part_after_gone zero first rest = refl
part_after_gone (suc n) first rest = part_after_gone n first rest

pub one_more_gone : (n : ℕ) (first : Datum) (rest : Data) → with_part_at n Gone (gone_before n (a_part first rest))
    ≡ gone_before (suc n) rest
one_more_gone zero first rest = refl
one_more_gone (suc n) first rest = ap (a_part Gone) (one_more_gone n first rest)

pub no_serials : (n : ℕ) → serials_of_all (gone_before n no_part) ≡ []
no_serials zero = refl
no_serials (suc n) = no_serials n
