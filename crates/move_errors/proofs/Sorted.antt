-- Lists of choices by their numbers, and runs that wait in order.
use Rattle.std.proofs.Common.{◌≡◌, ◌⊎◌, inl, inr, ℕ, zero, suc, ◌+◌, ◌*◌, ◌<◌, ◌≤◌, Bool, true, false, List, [], ◌∷◌, ◌++◌, length, Option, Some, None, Contains, refl, sym, ap, subst, arith}
use Rattle.std.proofs.lemmas.List.Elements.{Contains-append_left, Contains-append_right, Contains-append_cases}
use Rattle.move_errors.specs.Reaches.{InOrder, IsLeast}
use Rattle.move_errors.specs.Runs.{Problem, Trip, Leads, step, number_of}
use Rattle.move_errors.specs.Searching.{number_from, number, AllIn, Ordered, pushed, chosen}
use Rattle.move_errors.specs.declared.point.Point.{Point}
use Rattle.move_errors.specs.declared.point.Onward.{Onward}

-- Numbers of lists.

bit-small : (b : Bool) → number_of b < 2
bit-small true = omega arith
bit-small false = omega arith

pub number-append : (n : ℕ) (xs ys : List Bool) → number_from n (xs ++ ys) ≡ number_from (number_from n xs) ys
number-append n [] ys = refl
number-append n (x ∷ xs) ys = number-append (n * 2 + number_of x) xs ys

positive : (n : ℕ) (xs : List Bool) → 1 ≤ n → 1 ≤ number_from n xs
positive n [] h = h
positive n (x ∷ xs) h = positive (n * 2 + number_of x) xs (omega (h, arith))

pub one-at-least : (t : Trip) → 1 ≤ number t
one-at-least t = positive 1 t.given (omega arith)

-- of lists of one length that of the greater start is greater
greater : (n m : ℕ) (xs ys : List Bool) → length xs ≡ length ys → n < m → number_from n xs < number_from m ys
greater n m [] [] long less = less
greater n m [] (y ∷ ys) long less = absurd (omega (long, arith))
greater n m (x ∷ xs) [] long less = absurd (omega (long, arith))
greater n m (x ∷ xs) (y ∷ ys) long less =
    let k = bit-small x in greater (n * 2 + number_of x) (m * 2 + number_of y) xs ys (omega (long, arith)) (omega (less, k, arith))

-- and a longer list has a greater number
longer : (n m : ℕ) (xs ys : List Bool) → length xs < length ys → 1 ≤ m → n ≤ m → number_from n xs < number_from m ys
longer n m xs [] short some less = absurd (omega (short, arith))
longer n m xs (y ∷ ys) short some less = elim (same-or (length xs) (length ys) (omega (short, arith))) [
  | inl same ↦ greater n (m * 2 + number_of y) xs ys same (omega (some, less, arith))
  | inr shorter ↦ longer n (m * 2 + number_of y) xs ys shorter (omega (some, arith)) (omega (some, less, arith))
]
  where
    same-or : (a b : ℕ) → a ≤ b → (a ≡ b) ⊎ (a < b)
    same-or zero zero le = inl refl
    same-or zero (suc b) le = inr (omega arith)
    same-or (suc a) zero le = absurd (omega (le, arith))
    same-or (suc a) (suc b) le = elim (same-or a b (omega (le, arith))) [ inl e ↦ inl (ap suc e) | inr l ↦ inr (omega (l, arith)) ]

in-order : (n : ℕ) (xs ys : List Bool) → length xs ≡ length ys → number_from n xs ≤ number_from n ys → InOrder xs ys
in-order n [] [] long le = refl
in-order n [] (y ∷ ys) long le = absurd (omega (long, arith))
in-order n (x ∷ xs) [] long le = absurd (omega (long, arith))
in-order n (false ∷ xs) (true ∷ ys) long le = omega (long, arith)
in-order n (true ∷ xs) (false ∷ ys) long le =
    let k = greater (n * 2 + 0) (n * 2 + 1) ys xs (omega (long, arith)) (omega arith) in absurd (omega (k, le, arith))
in-order n (false ∷ xs) (false ∷ ys) long le = in-order (n * 2 + 0) xs ys (omega (long, arith)) le
in-order n (true ∷ xs) (true ∷ ys) long le = in-order (n * 2 + 1) xs ys (omega (long, arith)) le

pub least-by-number : (xs ys : List Bool) → number_from 1 xs ≤ number_from 1 ys → IsLeast xs ys
least-by-number xs ys le = by (three (length xs) (length ys))
  where
    three : (a b : ℕ) → (a < b) ⊎ ((a ≡ b) ⊎ (b < a))
    three zero zero = inr (inl refl)
    three zero (suc b) = inl (omega arith)
    three (suc a) zero = inr (inr (omega arith))
    three (suc a) (suc b) = elim (three a b) [ inl l ↦ inl (omega (l, arith)) | inr more ↦ elim more [ inl e ↦ inr (inl (ap suc e)) | inr l ↦ inr (inr (omega (l, arith))) ] ]

    by : (length xs < length ys) ⊎ ((length xs ≡ length ys) ⊎ (length ys < length xs)) → IsLeast xs ys
    by (inl short) = inl short
    by (inr (inl same)) = inr (in-order 1 xs ys same le)
    by (inr (inr long)) = let k = longer 1 1 ys xs long (omega arith) (omega arith) in absurd (omega (k, le, arith))

-- Lists of runs.

pub here : {X : Type 0} (x : X) (xs : List X) → Contains (x ∷ xs) x
here x xs = (0, omega arith, refl)

pub there : {X : Type 0} (x y : X) (xs : List X) → Contains xs x → Contains (y ∷ xs) x
there x y xs has = (suc has.0, (let k = has.1 in omega (k, arith)), has.2)

pub none-in : {X : Type 0} (x : X) → Contains [] x → ⊥
none-in x has = let k = has.1 in omega (k, arith)

pub first-or : {X : Type 0} (x y : X) (xs : List X) → Contains (y ∷ xs) x → (y ≡ x) ⊎ Contains xs x
first-or x y xs (zero, within, is) = inl is
first-or x y xs (suc k, within, is) = inr (k, omega (within, arith), is)

pub all-in : (P : ℕ → Type 0) (ts : List Trip) → ((t : Trip) → Contains ts t → P (number t)) → AllIn P ts
all-in P [] each = tt
all-in P (t ∷ ts) each = (each t (here t ts), all-in P ts (λ x has. each x (there x t ts has)))

pub in-all : (P : ℕ → Type 0) (ts : List Trip) (t : Trip) → AllIn P ts → Contains ts t → P (number t)
in-all P [] t all has = absurd (none-in t has)
in-all P (x ∷ ts) t all has = elim (first-or t x ts has) [
  | inl same ↦ subst (λ (z : Trip). P (number z)) same all.0
  | inr later ↦ in-all P ts t all.1 later
]

ordered-append : (ts more : List Trip) → Ordered ts → Ordered more
    → ((t u : Trip) → Contains ts t → Contains more u → (number t < number u) × (number u < number t * 2)) → Ordered (ts ++ more)
ordered-append [] more one two between = two
ordered-append (t ∷ ts) more one two between = (
  all-in (λ n. (number t < n) × (n < number t * 2)) (ts ++ more) (λ u has.
      elim (Contains-append_cases ts more u has) [
        | inl early ↦ in-all (λ n. (number t < n) × (n < number t * 2)) ts u one.0 early
        | inr late ↦ between t u (here t ts) late
      ]),
  ordered-append ts more one.1 two (λ x u has late. between x u (there x t ts has) late),
)

module _ (f : Problem) where
  pub step-silent : (t : Trip) (to : Point) → number (step f t None to) ≡ number t
  step-silent t to = number-append 1 t.given []

  pub step-choice : (t : Trip) (choice : Bool) (to : Point) → number (step f t (Some choice) to) ≡ number t * 2 + number_of choice
  step-choice t choice to = number-append 1 t.given (choice ∷ [])

  pub step-mono : (t u : Trip) (choice : Option Bool) (to : Point) → number t ≤ number u → number (step f t choice to) ≤ number (step f u choice to)
  step-mono t u None to le = let a = step-silent t to in let b = step-silent u to in omega (a, b, le, arith)
  step-mono t u (Some c) to le = let a = step-choice t c to in let b = step-choice u c to in omega (a, b, le, arith)

  pub step-more : (t : Trip) (choice : Option Bool) (to : Point) → number t ≤ number (step f t choice to)
  step-more t None to = let a = step-silent t to in omega (a, arith)
  step-more t (Some c) to = let a = step-choice t c to in omega (a, arith)

  -- where a run goes on, what waits is still in order
  in-chosen : (t : Trip) (o : Option Point) (c : Bool) (x : Trip) → Contains (chosen f t o c) x → (to : Point) × (o ≡ Some to) × (step f t (Some c) to ≡ x)
  in-chosen t None c x has = absurd (none-in x has)
  in-chosen t (Some to) c x has = elim (first-or x (step f t (Some c) to) [] has) [ inl same ↦ (to, refl, same) | inr stop ↦ absurd (none-in x stop) ]

  chosen-in : (t : Trip) (o : Option Point) (c : Bool) (to : Point) → o ≡ Some to → Contains (chosen f t o c) (step f t (Some c) to)
  chosen-in t None c to e = absurd (cc)
  chosen-in t (Some p) c to e = subst (λ (z : Point). Contains (step f t (Some c) p ∷ []) (step f t (Some c) z)) (let same : p ≡ to = cc in same) (here (step f t (Some c) p) [])

  pub in-pushed : (o : Onward) (t : Trip) (ts : List Trip) (x : Trip) → Contains (pushed f o t ts) x
      → Contains ts x ⊎ ((choice : Option Bool) × (to : Point) × Leads o choice to × (step f t choice to ≡ x))
  in-pushed Onward.Nowhere t ts x has = inl has
  in-pushed (Onward.Silent p) t ts x has = elim (first-or x (step f t None p) ts has) [
    | inl same ↦ inr (None, p, (refl, refl), same)
    | inr later ↦ inl later
  ]
  in-pushed (Onward.Choices a b) t ts x has = elim (Contains-append_cases ts (chosen f t a false ++ chosen f t b true) x has) [
    | inl early ↦ inl early
    | inr late ↦ elim (Contains-append_cases (chosen f t a false) (chosen f t b true) x late) [
      | inl none ↦ (let it = in-chosen t a false x none in inr (Some false, it.0, inl (refl, it.1), it.2))
      | inr one ↦ (let it = in-chosen t b true x one in inr (Some true, it.0, inr (refl, it.1), it.2))
    ]
  ]

  pub stays-pushed : (o : Onward) (t : Trip) (ts : List Trip) (x : Trip) → Contains ts x → Contains (pushed f o t ts) x
  stays-pushed Onward.Nowhere t ts x has = has
  stays-pushed (Onward.Silent p) t ts x has = there x (step f t None p) ts has
  stays-pushed (Onward.Choices a b) t ts x has = Contains-append_left ts (chosen f t a false ++ chosen f t b true) x has

  pub leads-pushed : (o : Onward) (t : Trip) (ts : List Trip) (choice : Option Bool) (to : Point) → Leads o choice to → Contains (pushed f o t ts) (step f t choice to)
  leads-pushed Onward.Nowhere t ts choice to leads = absurd leads
  leads-pushed (Onward.Silent p) t ts choice to leads =
      subst (λ (z : Point). Contains (step f t None p ∷ ts) (step f t choice z)) leads.1
      (subst (λ (z : Option Bool). Contains (step f t None p ∷ ts) (step f t z p)) (sym leads.0) (here (step f t None p) ts))
  leads-pushed (Onward.Choices a b) t ts choice to (inl none) =
      subst (λ (z : Option Bool). Contains (ts ++ (chosen f t a false ++ chosen f t b true)) (step f t z to)) (sym none.0)
      (Contains-append_right ts (chosen f t a false ++ chosen f t b true) (step f t (Some false) to)
      (Contains-append_left (chosen f t a false) (chosen f t b true) (step f t (Some false) to) (chosen-in t a false to none.1)))
  leads-pushed (Onward.Choices a b) t ts choice to (inr one) =
      subst (λ (z : Option Bool). Contains (ts ++ (chosen f t a false ++ chosen f t b true)) (step f t z to)) (sym one.0)
      (Contains-append_right ts (chosen f t a false ++ chosen f t b true) (step f t (Some true) to)
      (Contains-append_right (chosen f t a false) (chosen f t b true) (step f t (Some true) to) (chosen-in t b true to one.1)))

  ordered-chosen : (t : Trip) (a b : Option Point) → Ordered (chosen f t a false ++ chosen f t b true)
  ordered-chosen t None None = tt
  ordered-chosen t None (Some q) = (tt, tt)
  ordered-chosen t (Some p) None = (tt, tt)
  ordered-chosen t (Some p) (Some q) = (
    (let a = step-choice t false p in let b = step-choice t true q in let k = one-at-least t in ((omega (a, b, arith), omega (a, b, k, arith)), tt)),
    (tt, tt),
  )

  chosen-number : (t : Trip) (a b : Option Point) (x : Trip) → Contains (chosen f t a false ++ chosen f t b true) x → (number t * 2 ≤ number x) × (number x ≤ number t * 2 + 1)
  chosen-number t a b x has = elim (Contains-append_cases (chosen f t a false) (chosen f t b true) x has) [
    | inl none ↦ (let it = in-chosen t a false x none in let e = step-choice t false it.0 in let same = ap number it.2 in (omega (e, same, arith), omega (e, same, arith)))
    | inr one ↦ (let it = in-chosen t b true x one in let e = step-choice t true it.0 in let same = ap number it.2 in (omega (e, same, arith), omega (e, same, arith)))
  ]

  pub ordered-pushed : (o : Onward) (t : Trip) (ts : List Trip) → Ordered (t ∷ ts) → Ordered (pushed f o t ts)
  ordered-pushed Onward.Nowhere t ts order = order.1
  ordered-pushed (Onward.Silent p) t ts order = (
    all-in (λ n. (number (step f t None p) < n) × (n < number (step f t None p) * 2)) ts (λ x has.
        let it = in-all (λ n. (number t < n) × (n < number t * 2)) ts x order.0 has in
        let e = step-silent t p in (let a = it.0 in omega (a, e, arith), let b = it.1 in omega (b, e, arith))),
    order.1,
  )
  ordered-pushed (Onward.Choices a b) t ts order = ordered-append ts (chosen f t a false ++ chosen f t b true) order.1 (ordered-chosen t a b) (λ x u has late.
      let it = in-all (λ n. (number t < n) × (n < number t * 2)) ts x order.0 has in
      let k = chosen-number t a b u late in
      let a1 = it.0 in let b1 = it.1 in let c1 = k.0 in let d1 = k.1 in
      (omega (b1, c1, arith), omega (a1, d1, arith)))
