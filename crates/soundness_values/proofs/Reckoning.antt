-- Checked operators, bounds and asked numbers of a checked run: what they give is a number of its type.
use Rattle.std.proofs.Common.{◌≡◌, ℕ, zero, suc, pos, negsuc, ℤ, ◌<◌, ◌≤◌, ◌%◌, ◌==◌, ◌&&◌, ◌||◌, not, Bool, true, false, List, [], ◌∷◌, Option, Some, None, refl, ap, sym, ◌∙◌, subst, arith}
use Rattle.std.specs.Prelude.{int_lt, int_le, int_div, int_rem, neg_ℤ, unsigned_abs, option_and_then}
use Rattle.std.specs.Option.{option_map_or}
use Rattle.std.proofs.Math.Nat.{mod-le}
use Rattle.std.proofs.lemmas.Bool.{false≢true, leb-true, le-leb, ltb-true}
use Rattle.std.proofs.lemmas.Option.{none-some}
use Rattle.mir_base.specs.declared.int_kind.IntKind.{IntKind}
use Rattle.mir_base.specs.declared.operator.Math.{Math}
use Rattle.mir_base.specs.declared.trace.Why.{Why}
use Rattle.mir_base.specs.IntKind.{least_of, greatest_of}
use Rattle.store_model.specs.Concrete.Effects.{fits, Computed, Gives, PanicsBy, within_kind, if_within, divided, computed, int_eq}
use Rattle.soundness_values.specs.Typed.{number_fits}

first : (a b : Bool) → (a && b) ≡ true → a ≡ true
first true b h = refl
first false b h = absurd (false≢true h)

second : (a b : Bool) → (a && b) ≡ true → b ≡ true
second true b h = h
second false b h = absurd (false≢true h)

both : (a b : Bool) → a ≡ true → b ≡ true → (a && b) ≡ true
both true b h k = k
both false b h k = absurd (false≢true h)

-- a remainder lies between bounds around 0 where its dividend does
signed_rem : (low high : ℕ) (z d : ℤ) → (int_le (negsuc low) z && int_le z (pos high)) ≡ true →
    (int_le (negsuc low) (int_rem z d) && int_le (int_rem z d) (pos high)) ≡ true
signed_rem low high (pos a) d h =
    let below : a ≤ high = leb-true a high h in
    let less = mod-le a (unsigned_abs d) in
    le-leb (a % unsigned_abs d) high (let z : a % unsigned_abs d ≤ high = omega arith in z)
signed_rem low high (negsuc a) d h = by (suc a % unsigned_abs d) (mod-le (suc a) (unsigned_abs d))
  where
    by : (m : ℕ) → m ≤ suc a → (int_le (negsuc low) (neg_ℤ (pos m)) && int_le (neg_ℤ (pos m)) (pos high)) ≡ true
    by zero l = le-leb 0 high (let z : 0 ≤ high = omega arith in z)
    by (suc m) l =
        let below : a ≤ low = leb-true a low (first _ _ h) in
        both _ _ (le-leb m low (let z : m ≤ low = omega arith in z)) refl

unsigned_rem : (high : ℕ) (z d : ℤ) → (int_le (pos 0) z && int_le z (pos high)) ≡ true →
    (int_le (pos 0) (int_rem z d) && int_le (int_rem z d) (pos high)) ≡ true
unsigned_rem high (pos a) d h =
    let below : a ≤ high = leb-true a high (second _ _ h) in
    let less = mod-le a (unsigned_abs d) in
    both _ _ (le-leb 0 (a % unsigned_abs d) (let z : 0 ≤ a % unsigned_abs d = omega arith in z))
    (le-leb (a % unsigned_abs d) high (let z : a % unsigned_abs d ≤ high = omega arith in z))
unsigned_rem high (negsuc a) d h = absurd (false≢true h)

fits_rem : (kind : IntKind) (z d : ℤ) → fits kind z ≡ true → fits kind (int_rem z d) ≡ true
fits_rem IntKind.I32 z d h = signed_rem 2147483647 2147483647 z d h
fits_rem IntKind.I64 z d h = signed_rem 9223372036854775807 9223372036854775807 z d h
fits_rem IntKind.U32 z d h = unsigned_rem 4294967295 z d h
fits_rem IntKind.U64 z d h = unsigned_rem 18446744073709551615 z d h
fits_rem IntKind.Usize z d h = unsigned_rem 18446744073709551615 z d h

fits_number : (kind : IntKind) (z : ℤ) → fits kind z ≡ true → number_fits kind z ≡ true
fits_number IntKind.I32 z h = refl
fits_number IntKind.I64 z h = h
fits_number IntKind.U32 z h = h
fits_number IntKind.U64 z h = h
fits_number IntKind.Usize z h = h

number_rem : (kind : IntKind) (z d : ℤ) → number_fits kind z ≡ true → number_fits kind (int_rem z d) ≡ true
number_rem IntKind.I32 z d h = refl
number_rem IntKind.I64 z d h = fits_rem IntKind.I64 z d h
number_rem IntKind.U32 z d h = fits_rem IntKind.U32 z d h
number_rem IntKind.U64 z d h = fits_rem IntKind.U64 z d h
number_rem IntKind.Usize z d h = fits_rem IntKind.Usize z d h

-- an operation gives a number of the kind, or it panics
pub data Reckoned (kind : IntKind) : Computed → Type 0 where
  gives : (number : ℤ) → number_fits kind number ≡ true → Reckoned kind (Gives number)
  panics : (why : Why) → Reckoned kind (PanicsBy why)

within : (kind : IntKind) (number : ℤ) (b : Bool) → fits kind number ≡ b → Reckoned kind (within_kind b number)
within kind number true e = gives number (fits_number kind number e)
within kind number false e = panics Why.Overflow

pub reckoned_within : (kind : IntKind) (number : ℤ) → Reckoned kind (if_within kind number)
reckoned_within kind number = within kind number (fits kind number) refl

div_within : (kind : IntKind) (zero_it : Bool) (number : ℤ) → Reckoned kind (divided zero_it kind number number)
div_within kind true number = panics Why.Divide
div_within kind false number = within kind number (fits kind number) refl

rem_within : (kind : IntKind) (zero_it : Bool) (a b : ℤ) → number_fits kind a ≡ true →
    Reckoned kind (divided zero_it kind (int_div a b) (int_rem a b))
rem_within kind true a b h = panics Why.Divide
rem_within kind false a b h = by (fits kind (int_div a b))
  where
    by : (c : Bool) → Reckoned kind (within_kind c (int_rem a b))
    by true = gives (int_rem a b) (number_rem kind a b h)
    by false = panics Why.Overflow

pub reckoned : (operator : Math) (kind : IntKind) (a b : ℤ) → number_fits kind a ≡ true →
    Reckoned kind (computed operator kind a b)
reckoned Math.Add kind a b h = within kind _ (fits kind _) refl
reckoned Math.Sub kind a b h = within kind _ (fits kind _) refl
reckoned Math.Mul kind a b h = within kind _ (fits kind _) refl
reckoned Math.Div kind a b h = div_within kind (int_eq b (pos 0)) (int_div a b)
reckoned Math.Rem kind a b h = rem_within kind (int_eq b (pos 0)) a b h

-- a number of type `usize` is none below 0
pub is_natural : (z : ℤ) → number_fits IntKind.Usize z ≡ true → (n : ℕ) × (z ≡ pos n)
is_natural (pos n) h = (n, refl)
is_natural (negsuc n) h = absurd (false≢true h)
