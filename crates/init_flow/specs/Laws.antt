-- Switches keep the length of a row, and what they make of a union is the union of what they make of the two.
use Rattle.std.specs.Prelude.{◌≡◌, ℕ, suc, nat_eq, Bool, true, false, not, ◌||◌, ◌&&◌, List, [], ◌∷◌, length, map, Option, Some, None, slice_get, if◌then◌else◌}
use Rattle.std.proofs.Common.{refl, ap, sym, ◌∙◌, arith}
use Rattle.std.proofs.lemmas.Bool.{eqb-true}
use Rattle.bit_rows.specs.Words.{union, difference}
use Rattle.init_flow.specs.Carried.{Bits}
use Rattle.init_flow.specs.declared.switches.Switch.{Switch}
use Rattle.init_flow.specs.declared.switches.Switches.{Switches}
use Rattle.init_flow.specs.Switches.{switched, by_mask, switch_by, all_switched, taken, passed_by, way_switches}

length-union : (a b : Bits) → length a ≡ length b → length (union a b) ≡ length b
length-union [] [] e = refl
length-union [] (y ∷ ys) e = absurd (omega (e, arith))
length-union (x ∷ xs) [] e = absurd (omega (e, arith))
length-union (x ∷ xs) (y ∷ ys) e = ap suc (length-union xs ys (omega (e, arith)))

length-difference : (a b : Bits) → length a ≡ length b → length (difference a b) ≡ length b
length-difference [] [] e = refl
length-difference [] (y ∷ ys) e = absurd (omega (e, arith))
length-difference (x ∷ xs) [] e = absurd (omega (e, arith))
length-difference (x ∷ xs) (y ∷ ys) e = ap suc (length-difference xs ys (omega (e, arith)))

or-or : (m a b : Bool) → (m || (a || b)) ≡ ((m || a) || (m || b))
or-or true a b = refl
or-or false a b = refl

without-or : (m a b : Bool) → (not m && (a || b)) ≡ ((not m && a) || (not m && b))
without-or true a b = refl
without-or false a b = refl

union-union : (m a b : Bits) → length m ≡ length a → length a ≡ length b
    → union m (union a b) ≡ union (union m a) (union m b)
union-union [] [] [] e d = refl
union-union (m ∷ ms) (x ∷ xs) (y ∷ ys) e d =
    λ i. or-or m x y i ∷ union-union ms xs ys (omega (e, arith)) (omega (d, arith)) i
union-union [] (x ∷ xs) ys e d = absurd (omega (e, arith))
union-union (m ∷ ms) [] ys e d = absurd (omega (e, arith))
union-union [] [] (y ∷ ys) e d = absurd (omega (d, arith))
union-union (m ∷ ms) (x ∷ xs) [] e d = absurd (omega (d, arith))

difference-union : (m a b : Bits) → length m ≡ length a → length a ≡ length b
    → difference m (union a b) ≡ union (difference m a) (difference m b)
difference-union [] [] [] e d = refl
difference-union (m ∷ ms) (x ∷ xs) (y ∷ ys) e d =
    λ i. without-or m x y i ∷ difference-union ms xs ys (omega (e, arith)) (omega (d, arith)) i
difference-union [] (x ∷ xs) ys e d = absurd (omega (e, arith))
difference-union (m ∷ ms) [] ys e d = absurd (omega (e, arith))
difference-union [] [] (y ∷ ys) e d = absurd (omega (d, arith))
difference-union (m ∷ ms) (x ∷ xs) [] e d = absurd (omega (d, arith))

length-switched : (mask : Bits) (on : Bool) (row : Bits) → length (switched mask on row) ≡ length row
length-switched mask on row = by (nat_eq (length mask) (length row)) on refl
  where
    by : (c on : Bool) → nat_eq (length mask) (length row) ≡ c
        → length (if c then (if on then union mask row else difference mask row) else row) ≡ length row
    by true true e = length-union mask row (eqb-true (length mask) (length row) e)
    by true false e = length-difference mask row (eqb-true (length mask) (length row) e)
    by false on e = refl

switched-union : (mask : Bits) (on : Bool) (a b : Bits) → length a ≡ length b
    → switched mask on (union a b) ≡ union (switched mask on a) (switched mask on b)
switched-union mask on a b same =
    ap (λ (n : ℕ).
    if nat_eq (length mask) n then (if on then union mask (union a b) else difference mask (union a b)) else union a b)
    (length-union a b same ∙ sym same)
    ∙ by (nat_eq (length mask) (length a)) on refl
    ∙ ap (λ (n : ℕ).
    union (switched mask on a) (if nat_eq (length mask) n then (if on then union mask b else difference mask b) else b))
    same
  where
    by : (c on : Bool) → nat_eq (length mask) (length a) ≡ c
        → (if c then (if on then union mask (union a b) else difference mask (union a b)) else union a b)
        ≡ union (if c then (if on then union mask a else difference mask a) else a)
        (if c then (if on then union mask b else difference mask b) else b)
    by true true e = union-union mask a b (eqb-true (length mask) (length a) e) same
    by true false e = difference-union mask a b (eqb-true (length mask) (length a) e) same
    by false on e = refl

length-mask : (mask : Option Bits) (on : Bool) (row : Bits) → length (by_mask mask on row) ≡ length row
length-mask None on row = refl
length-mask (Some mask) on row = length-switched mask on row

mask-union : (mask : Option Bits) (on : Bool) (a b : Bits) → length a ≡ length b
    → by_mask mask on (union a b) ≡ union (by_mask mask on a) (by_mask mask on b)
mask-union None on a b same = refl
mask-union (Some mask) on a b same = switched-union mask on a b same

pub length-all :
    (below : List Bits) (switches : List Switch) (row : Bits) → length (all_switched below switches row) ≡ length row
length-all below [] row = refl
length-all below (switch ∷ switches) row =
    length-all below switches (switch_by below switch row) ∙ length-mask (slice_get below switch.path) switch.on row

all-union : (below : List Bits) (switches : List Switch) (a b : Bits) → length a ≡ length b
    → all_switched below switches (union a b) ≡ union (all_switched below switches a) (all_switched below switches b)
all-union below [] a b same = refl
all-union below (switch ∷ switches) a b same =
    ap (all_switched below switches) (mask-union (slice_get below switch.path) switch.on a b same)
    ∙ all-union below switches (switch_by below switch a) (switch_by below switch b)
    (length-mask (slice_get below switch.path) switch.on a ∙ same
    ∙ sym (length-mask (slice_get below switch.path) switch.on b))

-- the laws of an analysis
pub keeps : (s : Switches) (gone : Bool) (width block way : ℕ) (row : Bits) → length row ≡ width
    → length (passed_by s gone block way row) ≡ width
keeps s gone width block way row long =
    length-all s.below (map (taken gone) (way_switches (slice_get s.blocks block) way)) row ∙ long

pub distributes :
    (s : Switches) (gone : Bool) (width block way : ℕ) (a b : Bits) → length a ≡ width → length b ≡ width
    → passed_by s gone block way (union a b) ≡ union (passed_by s gone block way a) (passed_by s gone block way b)
distributes s gone width block way a b long other =
    all-union s.below (map (taken gone) (way_switches (slice_get s.blocks block) way)) a b (long ∙ sym other)
