-- The union of rows.
use Rattle.std.proofs.Common.{◌≡◌, ◌≢◌, ℕ, zero, suc, ◌<◌, ◌≤◌, Bool, true, false, ◌||◌, [], ◌∷◌, length, replicate, refl, sym, ap, arith}
use Rattle.std.specs.Prelude.{slice_index_or}
use Rattle.std.proofs.lemmas.Bool.{false≢true}
use Rattle.init_flow.specs.Carried.{Bits}
use Rattle.init_flow.specs.WorkList.{is_off, off}
use Rattle.bit_rows.specs.Words.{union}

pub union-length : (a b : Bits) → length a ≡ length b → length (union a b) ≡ length a
union-length [] [] e = refl
union-length [] (y ∷ ys) e = absurd (omega (e, arith))
union-length (x ∷ xs) [] e = absurd (omega (e, arith))
union-length (x ∷ xs) (y ∷ ys) e = ap suc (union-length xs ys (omega (e, arith)))

or-same : (a b : Bool) → (a || (a || b)) ≡ (a || b)
or-same true b = refl
or-same false b = refl

or-among : (a b c : Bool) → (b || c) ≡ c → (b || (a || c)) ≡ (a || c)
or-among a false c e = refl
or-among false true c e = e
or-among true true c e = refl

-- what is taken in is in
pub union-again : (a b : Bits) → length a ≡ length b → union a (union a b) ≡ union a b
union-again [] [] e = refl
union-again [] (y ∷ ys) e = absurd (omega (e, arith))
union-again (x ∷ xs) [] e = absurd (omega (e, arith))
union-again (x ∷ xs) (y ∷ ys) e =
    let rest = union-again xs ys (omega (e, arith)) in rw (or-same x y, rest) refl

head_or : Bool → Bits → Bool
head_or none [] = none
head_or none (x ∷ xs) = x

rest_of : Bits → Bits
rest_of [] = []
rest_of (x ∷ xs) = xs

-- and stays in
pub union-stays : (a b c : Bits) → length a ≡ length c → length b ≡ length c → union b c ≡ c → union b (union a c) ≡ union a c
unfolding head_or rest_of
union-stays [] [] [] e d is = refl
union-stays (x ∷ xs) (y ∷ ys) (z ∷ zs) e d is =
    rw (or-among x y z (ap (head_or false) is), union-stays xs ys zs (omega (e, arith)) (omega (d, arith)) (ap rest_of is)) refl
union-stays [] [] (z ∷ zs) e d is = absurd (omega (e, arith))
union-stays [] (y ∷ ys) [] e d is = absurd (omega (d, arith))
union-stays [] (y ∷ ys) (z ∷ zs) e d is = absurd (omega (e, arith))
union-stays (x ∷ xs) [] [] e d is = absurd (omega (e, arith))
union-stays (x ∷ xs) [] (z ∷ zs) e d is = absurd (omega (d, arith))
union-stays (x ∷ xs) (y ∷ ys) [] e d is = absurd (omega (e, arith))

or-between : (a b c : Bool) → (a || b) ≡ b → (b || c) ≡ c → (a || c) ≡ c
or-between false b c e d = refl
or-between true true c e d = d
or-between true false c e d = absurd (false≢true (sym e))

-- a row in a row that is in a third
pub in_between : (a b c : Bits) → length a ≡ length b → length b ≡ length c → union a b ≡ b → union b c ≡ c → union a c ≡ c
unfolding head_or rest_of
in_between [] [] [] e d ab bc = refl
in_between (x ∷ xs) (y ∷ ys) (z ∷ zs) e d ab bc =
    rw (or-between x y z (ap (head_or false) ab) (ap (head_or false) bc), in_between xs ys zs (omega (e, arith)) (omega (d, arith)) (ap rest_of ab) (ap rest_of bc)) refl
in_between [] [] (z ∷ zs) e d ab bc = absurd (omega (d, arith))
in_between [] (y ∷ ys) c e d ab bc = absurd (omega (e, arith))
in_between (x ∷ xs) [] c e d ab bc = absurd (omega (e, arith))
in_between (x ∷ xs) (y ∷ ys) [] e d ab bc = absurd (omega (d, arith))

-- the union with a row of no bits
pub union-none : (a : Bits) → union a (replicate (length a) false) ≡ a
union-none [] = refl
union-none (true ∷ xs) = ap (λ z. true ∷ z) (union-none xs)
union-none (false ∷ xs) = ap (λ z. false ∷ z) (union-none xs)

-- a bit of a union
pub union-bit : (a b : Bits) (i : ℕ) → length a ≡ length b → slice_index_or (union a b) i false ≡ (slice_index_or a i false || slice_index_or b i false)
union-bit [] [] i e = refl
union-bit [] (y ∷ ys) i e = absurd (omega (e, arith))
union-bit (x ∷ xs) [] i e = absurd (omega (e, arith))
union-bit (x ∷ xs) (y ∷ ys) zero e = refl
union-bit (x ∷ xs) (y ∷ ys) (suc i) e = union-bit xs ys i (omega (e, arith))

fewer-bit : (x y : Bool) → is_off (x || y) ≤ is_off y
fewer-bit true y = omega arith
fewer-bit false y = omega arith

pub fewer : (a b : Bits) → length a ≡ length b → off (union a b) ≤ off b
fewer [] [] e = omega arith
fewer [] (y ∷ ys) e = absurd (omega (e, arith))
fewer (x ∷ xs) [] e = absurd (omega (e, arith))
fewer (x ∷ xs) (y ∷ ys) e = let one = fewer-bit x y in let rest = fewer xs ys (omega (e, arith)) in omega (one, rest, arith)

-- a union that is another row has fewer bits off
pub fewer-than : (a b : Bits) → length a ≡ length b → union a b ≢ b → off (union a b) < off b
fewer-than [] [] e other = absurd (other refl)
fewer-than [] (y ∷ ys) e other = absurd (omega (e, arith))
fewer-than (x ∷ xs) [] e other = absurd (omega (e, arith))
fewer-than (true ∷ xs) (true ∷ ys) e other = let rest = fewer-than xs ys (omega (e, arith)) (λ is. other (ap (λ z. true ∷ z) is)) in omega (rest, arith)
fewer-than (true ∷ xs) (false ∷ ys) e other = let rest = fewer xs ys (omega (e, arith)) in omega (rest, arith)
fewer-than (false ∷ xs) (true ∷ ys) e other = let rest = fewer-than xs ys (omega (e, arith)) (λ is. other (ap (λ z. true ∷ z) is)) in omega (rest, arith)
fewer-than (false ∷ xs) (false ∷ ys) e other = let rest = fewer-than xs ys (omega (e, arith)) (λ is. other (ap (λ z. false ∷ z) is)) in omega (rest, arith)
