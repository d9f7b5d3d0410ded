-- The first place of a key among locals, and the first `bool` among types.
use Rattle.std.proofs.Common.{◌≡◌, ◌==◌, ◌+◌, ◌<◌, ◌≤◌, ℕ, Bool, true, false, cond, nat_eq, nat_lt, List, map, drop, get_or, length, Option, Some, None, refl, sym, ap, ◌∙◌, arith}
use Rattle.std.specs.List.{position, position_from, position_or_len}
use Rattle.std.specs.Option.{option_map, option_map_or}
use Rattle.std.specs.Prelude.{slice_get}
use Rattle.std.proofs.lemmas.Bool.Decides.{nat_tests}
use Rattle.std.proofs.lemmas.Iterator.Adapters.{position_from-zero}
use Rattle.std.proofs.lemmas.List.{at_drop_more}
use Rattle.std.proofs.lemmas.List.Sums.{position_or_len_is, prefix_len-le-length}
use Rattle.std.proofs.lemmas.Option.{slice_get-get_or, slice_get-map}
use Rattle.std.proofs.lemmas.Simd.{map-map}
use Rattle.mir_ty.specs.declared.ty.Ty.{Ty}
use Rattle.src_meaning.specs.Scopes.{Entry}
use Rattle.store_model.specs.Places.TypeForms.{is_bool}
use Rattle.lower_locals.specs.Own.{is_another}
use Rattle.lower_locals.specs.View.{entry_of, key_of, keys, tys}
use Rattle.lower_locals.specs.declared.local.Local.{Local}
use borrow.Author.Count.{below_none, below_more}

pub position_is : {X : Type 0} (p : X → Bool) (xs : List X) → position p xs ≡ position_from p 0 xs
position_is p xs = position_from-zero p xs

-- a key's first place, one local earlier
pub one_earlier : (locals : List Local) (n m : ℕ) (d : Local) (key : ℕ) (before : Option ℕ) → m + 1 ≡ n → m < length locals →
    before ≡ position_from (λ k. k == key) n (map key_of (drop n locals)) →
    cond (nat_eq (key_of (get_or locals m d)) key) (Some m) before
    ≡ position_from (λ k. k == key) m (map key_of (drop m locals))
one_earlier locals n m d key before is_next less so_far =
    ap (λ o. cond (nat_eq (key_of (get_or locals m d)) key) (Some m) o)
    (so_far ∙ ap (λ n. position_from (λ k. k == key) n (map key_of (drop n locals))) (sym is_next))
    ∙ sym (at_drop_more (λ rest. position_from (λ k. k == key) m (map key_of rest)) locals m d less)

-- a position, or the length where there is none
or_length : (n len : ℕ) → n ≤ len → option_map_or (λ n. n) (cond (nat_lt n len) (Some n) None) len ≡ n
or_length n len within = by (nat_lt n len) refl
  where
    by : (b : Bool) → nat_lt n len ≡ b → option_map_or (λ n. n) (cond b (Some n) None) len ≡ n
    by true e = refl
    by false e = grind (arith, nat_tests)

abbrev is_bool_ty : Ty → Bool
is_bool_ty ty = is_bool (Some ty)

-- there are so many types, and none of them is `bool`
pub record HasNoneBefore (types : List Ty) (n : ℕ) : Type 0 where
  pub within : n ≤ length types
  pub none : (k : ℕ) → k < n → is_bool_ty (get_or types k Ty.Bool) ≡ false

is_no_bool : (ty : Ty) → is_another (Some ty) ≡ true → is_bool_ty ty ≡ false
is_no_bool Ty.Bool e = sym e
is_no_bool ty e = refl

is_the_bool : (ty : Ty) → is_another (Some ty) ≡ false → is_bool_ty ty ≡ true
is_the_bool Ty.Bool e = refl
is_the_bool ty e = sym e

pub none_before : (types : List Ty) → HasNoneBefore types 0
none_before types = record { within = omega arith; none = below_none _ }

pub one_past : (types : List Ty) (n : ℕ) → HasNoneBefore types n → n < length types → is_another (slice_get types n) ≡ true → HasNoneBefore types (n + 1)
one_past types n before less is =
    let here = is_no_bool (get_or types n Ty.Bool) (rw (slice_get-get_or types n Ty.Bool less) at is) in
    record { within = omega arith; none = below_more (λ k. is_bool_ty (get_or types k Ty.Bool) ≡ false) n before.none here }

pub bool_is : (types : List Ty) (n : ℕ) → HasNoneBefore types n → is_another (slice_get types n) ≡ false → option_map_or (λ n. n) (position is_bool_ty types) (length types) ≡ n
bool_is types n before is =
    or_length (position_or_len is_bool_ty types) (length types) (prefix_len-le-length _ types)
    ∙ position_or_len_is is_bool_ty types n Ty.Bool before.within before.none
    (λ less. is_the_bool (get_or types n Ty.Bool) (rw (slice_get-get_or types n Ty.Bool less) at is))

-- the keys and the types of locals that are seen as entries
pub keys_are : (locals : List Local) → keys (map entry_of locals) ≡ map key_of locals
keys_are locals = map-map (λ (e : Entry). e.key) entry_of locals

pub ty_at : (locals : List Local) (i : ℕ) → slice_get (tys (map entry_of locals)) i ≡ option_map (λ local. local.ty) (slice_get locals i)
ty_at locals i =
    ap (λ ids. slice_get ids i) (map-map (λ (e : Entry). e.ty) entry_of locals) ∙ slice_get-map (λ (local : Local). local.ty) locals i
