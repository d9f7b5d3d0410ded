-- The rounds find exactly the least set of parameters that may be replaced: each round that finds anything finds one
-- parameter more, so from some round on nothing is found, and then the set is closed under the rules.
use Rattle.std.proofs.Common.{◌≡◌, if◌then◌else◌, ℕ, zero, suc, ◌+◌, ◌<◌, ◌≤◌, Bool, true, false, ◌&&◌, ◌||◌, not, ◌==◌, List, [], ◌∷◌, map, length, slice_index_or, IsTrue, Contains, ◌⊎◌, inl, inr, refl, sym, ap, subst, arith}
use Rattle.std.proofs.lemmas.Bool.{eqb-true}
use Rattle.std.proofs.lemmas.Grind.{common_steps}
use Rattle.std.specs.List.{list_all, list_any, filter}
use Rattle.mir_ty.specs.ItemTable.{ItemTable}
use Rattle.well_typed.proofs.ClaimLemmas.{and_true, true_left, true_right}
use Rattle.well_typed.proofs.ItemLemmas.{all_of}
use Rattle.typing_rules.specs.Replaced.{BodyParameter, Facts, is_param, is_among, is_replaced, bodies_of, param_of, after, all_facts, Replaceable, by_store, by_call, RoundsFindTheLeast}

-- ---- truth values and lists

or_left : (a b : Bool) → IsTrue a → IsTrue (a || b)
or_left true b h = refl
or_left false b h = absurd (cc)

or_right : (a b : Bool) → IsTrue b → IsTrue (a || b)
or_right true b h = refl
or_right false b h = h

or_cases : (a b : Bool) → IsTrue (a || b) → IsTrue a ⊎ IsTrue b
or_cases true b h = inl refl
or_cases false b h = inr h

abbrev one_if : Bool → ℕ
one_if true = 1
one_if false = 0

at_most_one : (b : Bool) → one_if b ≤ 1
at_most_one true = omega arith
at_most_one false = omega arith

one_more : (a b : Bool) → (IsTrue a → IsTrue b) → (IsTrue (not b || a) × (one_if a ≡ one_if b)) ⊎ (one_if a < one_if b)
one_more true true h = inl (refl, refl)
one_more true false h = absurd (let no : IsTrue false = h refl in cc)
one_more false true h = inr (omega arith)
one_more false false h = inl (refl, refl)

module _ {A : Type 0} where
  any_got : (p : A → Bool) (xs : List A) → IsTrue (list_any p xs) → (x : A) × Contains xs x × IsTrue (p x)
  any_got p [] h = absurd (cc)
  any_got p (y ∷ ys) h = by (any_got p ys) (or_cases (p y) (list_any p ys) h)
    where
      by : (IsTrue (list_any p ys) → (x : A) × Contains ys x × IsTrue (p x)) → IsTrue (p y) ⊎ IsTrue (list_any p ys)
          → (x : A) × Contains (y ∷ ys) x × IsTrue (p x)
      by got (inl here) = (y, (0, omega arith, refl), here)
      by got (inr later) =
          let found = got later in
          (found.0, (suc found.1.0, omega (arith, found.1.1), found.1.2), found.2)

  any_by : (p : A → Bool) (xs : List A) (k : ℕ) (x : A) → k < length xs → slice_index_or xs k x ≡ x → IsTrue (p x) →
      IsTrue (list_any p xs)
  any_by p [] k x below is h = absurd (omega (arith, below))
  any_by p (y ∷ ys) zero x below is h = or_left (p y) (list_any p ys) (subst (λ z. IsTrue (p z)) (sym is) h)
  any_by p (y ∷ ys) (suc k) x below is h =
      or_right (p y) (list_any p ys) (any_by p ys k x (omega (arith, below)) is h)

  any_of : (p : A → Bool) (xs : List A) (x : A) → Contains xs x → IsTrue (p x) → IsTrue (list_any p xs)
  any_of p xs x c h = any_by p xs c.0 x c.1 c.2 h

  any_more : (p q : A → Bool) → ((x : A) → IsTrue (p x) → IsTrue (q x)) → (xs : List A) → IsTrue (list_any p xs) →
      IsTrue (list_any q xs)
  any_more p q more xs h = let found = any_got p xs h in any_of q xs found.0 found.1 (more found.0 found.2)

  -- how many pass
  abbrev count : (A → Bool) → List A → ℕ
  count p [] = 0
  count p (x ∷ xs) = one_if (p x) + count p xs

  count_below : (p : A → Bool) (xs : List A) → count p xs ≤ length xs
  count_below p [] = omega arith
  count_below p (x ∷ xs) = omega (arith, at_most_one (p x), count_below p xs)

  -- where all that pass one test pass another, either the same pass, or more
  abbrev Same : (A → Bool) → (A → Bool) → List A → Type 0
  Same p q xs = IsTrue (list_all (λ x. not (q x) || p x) xs)

  count_more : (p q : A → Bool) → ((x : A) → IsTrue (p x) → IsTrue (q x)) → (xs : List A) → (Same p q xs × (count p
      xs ≡ count q xs)) ⊎ (count p xs < count q xs)
  count_more p q more [] = inl (refl, refl)
  count_more p q more (x ∷ xs) = by (one_more (p x) (q x) (more x)) (count_more p q more xs)
    where
      by : (IsTrue (not (q x) || p x) × (one_if (p x) ≡ one_if (q x))) ⊎ (one_if (p x) < one_if (q x)) →
          (Same p q xs × (count p xs ≡ count q xs)) ⊎ (count p xs < count q xs) → (Same p q (x ∷ xs) × (count p (x ∷
          xs) ≡ count q (x ∷ xs))) ⊎ (count p (x ∷ xs) < count q (x ∷ xs))
      by (inl a) (inl b) =
          inl (and_true (not (q x) || p x) (list_all (λ x. not (q x) || p x) xs) a.0 b.0, omega (arith, a.1, b.1))
      by (inl a) (inr b) = inr (omega (arith, a.1, b))
      by (inr a) (inl b) = inr (omega (arith, a, b.1))
      by (inr a) (inr b) = inr (omega (arith, a, b))

  any_filter : {B : Type 0} (g : A → B) (t : A → Bool) (p : B → Bool) (xs : List A) → list_any p (map g (filter t
      xs)) ≡ list_any (λ x. t x && p (g x)) xs
  any_filter g t p [] = refl
  any_filter g t p (x ∷ xs) = by (t x) (any_filter g t p xs)
    where
      by : (b : Bool) → list_any p (map g (filter t xs)) ≡ list_any (λ x. t x && p (g x)) xs → list_any p (map g (if
          b then x ∷ filter t xs else filter t xs)) ≡ ((b && p (g x)) || list_any (λ x. t x && p (g x)) xs)
      by true e = ap (λ r. p (g x) || r) e
      by false e = e

-- ---- rounds

module _ (items : ItemTable) (facts : List Facts) where
  abbrev A : ℕ → ℕ → ℕ → Bool
  A n number body = is_among (after n items facts) number body

  abbrev t : ℕ → Facts → Bool
  t n f = f.is_stored || list_any (is_replaced items (after n items facts)) f.passed

  among : (n number body : ℕ) → A (suc n) number body ≡ list_any (λ (f : Facts). t n f && is_param body number
      f.param) facts
  among n number body = any_filter param_of (t n) (is_param body number) facts

  -- what one set has another has, so what is passed on for the one is for the other
  abbrev Below : ℕ → ℕ → Type 0
  Below n m = (number body : ℕ) → IsTrue (A n number body) → IsTrue (A m number body)

  told_more : (n m : ℕ) → Below n m → (f : Facts) → IsTrue (t n f) → IsTrue (t m f)
  told_more n m more f h = by (or_cases f.is_stored _ h)
    where
      by : IsTrue f.is_stored ⊎ IsTrue (list_any (is_replaced items (after n items facts)) f.passed) → IsTrue (t m f)
      by (inl stored) = or_left f.is_stored _ stored
      by (inr passed) =
          or_right f.is_stored _ (any_more (is_replaced items (after n items facts)) (is_replaced items (after m
          items facts))
          (λ p h. any_more (is_among (after n items facts) p.number) (is_among (after m items facts) p.number) (more
          p.number) (bodies_of items p.callee) h) f.passed passed)

  rounds_grow : (n : ℕ) → Below n (suc n)
  rounds_grow zero number body h = absurd (cc)
  rounds_grow (suc n) number body h =
      subst IsTrue (sym (among (suc n) number body))
      (any_more (λ (f : Facts). t n f && is_param body number f.param) (λ (f : Facts). t (suc n) f && is_param body
      number f.param)
      (λ f g. and_true (t (suc n) f) _ (told_more n (suc n) (rounds_grow n) f (true_left (t n f) _ g)) (true_right (t
      n f) _ g)) facts
      (subst IsTrue (among n number body) h))

  abbrev Stable : ℕ → Type 0
  Stable m = Same (t m) (t (suc m)) facts

  not_or : (a b : Bool) → IsTrue (not a || b) → IsTrue a → IsTrue b
  not_or true b h g = h
  not_or false b h g = absurd (cc)

  stays : (m : ℕ) → Stable m → (f : Facts) → Contains facts f → IsTrue (t (suc m) f) → IsTrue (t m f)
  stays m stable f has = not_or (t (suc m) f) (t m f) (all_of (λ f. not (t (suc m) f) || t m f) facts f stable has)

  back : (m : ℕ) → Stable m → Below (suc (suc m)) (suc m)
  back m stable number body h =
      let found = any_got (λ (f : Facts). t (suc m) f && is_param body number f.param) facts (subst IsTrue (among
      (suc m) number body) h) in
      subst IsTrue (sym (among m number body))
      (any_of (λ (f : Facts). t m f && is_param body number f.param) facts found.0 found.1
      (and_true (t m found.0) _ (stays m stable found.0 found.1 (true_left (t (suc m) found.0) _ found.2))
      (true_right (t (suc m) found.0) _ found.2)))

  or_not : (a b : Bool) → (IsTrue a → IsTrue b) → IsTrue (not a || b)
  or_not true b h = h refl
  or_not false b h = refl

  all_so : {B : Type 0} (p : B → Bool) → ((x : B) → IsTrue (p x)) → (xs : List B) → IsTrue (list_all p xs)
  all_so p h [] = refl
  all_so p h (x ∷ xs) = and_true (p x) (list_all p xs) (h x) (all_so p h xs)

  stable_next : (m : ℕ) → Stable m → Stable (suc m)
  stable_next m stable =
      all_so (λ f. not (t (suc (suc m)) f) || t (suc m) f)
      (λ f. or_not (t (suc (suc m)) f) (t (suc m) f) (told_more (suc (suc m)) (suc m) (back m stable) f)) facts

  found_by : (n : ℕ) → Stable n ⊎ (n ≤ count (t n) facts)
  found_by zero = inr (omega arith)
  found_by (suc n) = by (found_by n)
    where
      next_one : (n ≤ count (t n) facts) → (Stable n × (count (t n) facts ≡ count (t (suc n)) facts)) ⊎ (count (t n)
          facts < count (t (suc n)) facts) → Stable (suc n) ⊎ (suc n ≤ count (t (suc n)) facts)
      next_one h (inl same) = inl (stable_next n same.0)
      next_one h (inr more) = inr (omega (arith, h, more))

      by : Stable n ⊎ (n ≤ count (t n) facts) → Stable (suc n) ⊎ (suc n ≤ count (t (suc n)) facts)
      by (inl stable) = inl (stable_next n stable)
      by (inr h) = next_one h (count_more (t n) (t (suc n)) (told_more n (suc n) (rounds_grow n)) facts)

  stable_at_last : Stable (length facts)
  stable_at_last = by (found_by (length facts))
    where
      last : (length facts ≤ count (t (length facts)) facts) → (Same (t (length facts)) (t (suc (length facts)))
          facts × (count (t (length facts)) facts ≡ count (t (suc (length facts))) facts)) ⊎ (count (t (length
          facts)) facts < count (t (suc (length facts))) facts) → Stable (length facts)
      last h (inl same) = same.0
      last h (inr more) = absurd (omega (arith, h, more, count_below (t (suc (length facts))) facts))

      by : Stable (length facts) ⊎ (length facts ≤ count (t (length facts)) facts) → Stable (length facts)
      by (inl stable) = stable
      by (inr h) =
          last h (count_more (t (length facts)) (t (suc (length facts))) (told_more (length facts) (suc (length
          facts)) (rounds_grow (length facts))) facts)

  -- ---- the rules

  param_is : (number body : ℕ) (q : BodyParameter) → IsTrue (is_param body number q) → (q.number ≡ number) × (q.body ≡ body)
  param_is number body q h = (
    eqb-true q.number number (true_right (q.body == body) (q.number == number) h),
    eqb-true q.body body (true_left
        (q.body == body) (q.number == number) h),
  )

  param_self : (q : BodyParameter) → IsTrue (is_param q.body q.number q)
  param_self q = grind (arith, common_steps)

  -- what a round finds is there by the rules
  by_rules : (n number body : ℕ) → IsTrue (A n number body) → Replaceable items facts number body
  by_rules zero number body h = absurd (cc)
  by_rules (suc n) number body h =
      let found = any_got (λ (f : Facts). t n f && is_param body number f.param) facts (subst IsTrue (among n number
      body) h) in
      let is = param_is number body found.0.param (true_right (t n found.0) _ found.2) in
      subst (λ k. Replaceable items facts k body) is.0
      (subst (λ b. Replaceable items facts found.0.param.number b) is.1 (by (by_rules n) found.0 found.1 (or_cases
      found.0.is_stored _ (true_left (t n found.0) _ found.2))))
    where
      by : ((number body : ℕ) → IsTrue (A n number body) → Replaceable items facts number body) → (f : Facts) →
          Contains facts f →
          IsTrue f.is_stored ⊎ IsTrue (list_any (is_replaced items (after n items facts)) f.passed) → Replaceable
          items facts f.param.number f.param.body
      by so f has (inl stored) = by_store f has stored
      by so f has (inr passed) =
          let p = any_got (is_replaced items (after n items facts)) f.passed passed in
          let b = any_got (is_among (after n items facts) p.0.number) (bodies_of items p.0.callee) p.2 in
          by_call f p.0 b.0 has p.1 b.1 (so p.0.number b.0 b.2)

  -- a parameter that passes in the last round is among those that were found
  last_found : (f : Facts) → Contains facts f → IsTrue (t (length facts) f) → IsTrue (A (suc (length facts))
      f.param.number f.param.body)
  last_found f has h =
      subst IsTrue (sym (among (length facts) f.param.number f.param.body))
      (any_of (λ (g : Facts). t (length facts) g && is_param f.param.body f.param.number g.param) facts f has
      (and_true (t (length facts) f) _ h (param_self f.param)))

  by_rounds : {number body : ℕ} → Replaceable items facts number body → IsTrue (A (suc (length facts)) number body)
  by_rounds (by_store f has stored) = last_found f has (or_left f.is_stored _ stored)
  by_rounds (by_call f p b has passes calls rest) =
      let here : IsTrue (is_replaced items (after (suc (length facts)) items facts) p) =
      any_of (is_among (after (suc (length facts)) items facts) p.number) (bodies_of items p.callee) b calls
      (by_rounds rest) in
      last_found f has (stays (length facts) stable_at_last f has
      (or_right f.is_stored _ (any_of (is_replaced items (after (suc (length facts)) items facts)) f.passed p passes
      here)))

pub rounds_find_the_least : RoundsFindTheLeast
rounds_find_the_least p number body = (
  by_rules p.items (all_facts p.bodies) (suc (length (all_facts p.bodies))) number body,
  λ r. by_rounds p.items
      (all_facts p.bodies) r,
)
