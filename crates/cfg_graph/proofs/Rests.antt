-- What is asked of all members of a list is what is asked of the rest, when it is asked of one after the other.
use Rattle.std.proofs.Common.{◌≡◌, ℕ, zero, suc, ◌+◌, ◌<◌, Bool, true, false, not, cond, ◌⊎◌, inl, inr, ◌||◌, List, [], ◌∷◌, ◌++◌, map, length, drop, take, slice_get, Option, Some, None, refl, ap, sym, ◌∙◌, arith}
use Rattle.std.specs.List.{list_any}
use Rattle.std.specs.Option.{option_map_or, is_some, option_or}
use Rattle.std.specs.Prelude.{option_map, position, nat_lt, zip}
use Rattle.std.specs.List.{position_or_len}
use Rattle.std.proofs.lemmas.Bool.{cases_Bool, lt-ltb, le-ltb, ltb-true, ltb-false}
use Rattle.std.proofs.Math.Seq.{drop-cons}
use Rattle.std.proofs.lemmas.Option.{slice_get_within, get_or_from_slice_get}
use Rattle.cfg_graph.specs.declared.graph.GraphFault.{GraphFault}
use Rattle.cfg_graph.specs.WellFormed.Broken.{first_of}
use Rattle.cfg_graph.specs.WellFormed.Faults.{of_each, at_line}

module _ {X : Type 0} where
  pub within : (xs : List X) (n : ℕ) (x : X) → Some x ≡ slice_get xs n → n < length xs
  within xs n x at = slice_get_within xs n x (sym at)

  pub rest_from : (xs : List X) (n : ℕ) (x : X) → Some x ≡ slice_get xs n → drop n xs ≡ x ∷ drop (n + 1) xs
  rest_from xs n x at =
      let one : suc n ≡ n + 1 = omega arith in
      drop-cons xs n x (within xs n x at) ∙ ap (λ (y : X). y ∷ drop (suc n) xs) (get_or_from_slice_get xs n x x (sym at)) ∙ ap (λ (k : ℕ). x ∷ drop k xs) one

  pub rest_past : (xs : List X) (n : ℕ) → None ≡ slice_get xs n → drop n xs ≡ []
  rest_past [] zero h = refl
  rest_past [] (suc n) h = refl
  rest_past (x ∷ xs) zero h = absurd (cc)
  rest_past (x ∷ xs) (suc n) h = rest_past xs n h

  module _ (p : X → Bool) (xs : List X) (n : ℕ) where
    pub any_more : (x : X) → Some x ≡ slice_get xs n → list_any p (drop n xs) ≡ (p x || list_any p (drop (n + 1) xs))
    any_more x at = ap (list_any p) (rest_from xs n x at)

    pub any_end : None ≡ slice_get xs n → list_any p (drop n xs) ≡ false
    any_end h = ap (list_any p) (rest_past xs n h)

  pub first_append : (xs ys : List X) (x : X) → first_of xs ≡ Some x → first_of (xs ++ ys) ≡ Some x
  first_append [] ys x h = absurd (cc)
  first_append (y ∷ xs) ys x h = h

  pub first_skip : (xs ys : List X) → first_of xs ≡ None → first_of (xs ++ ys) ≡ first_of ys
  first_skip [] ys h = refl
  first_skip (y ∷ xs) ys h = absurd (cc)

pub first_of-map : {X Y : Type 0} (f : X → Y) (xs : List X) → first_of (map f xs) ≡ option_map f (first_of xs)
first_of-map f [] = refl
first_of-map f (x ∷ xs) = refl

module _ {X : Type 0} (faults : ℕ → X → List GraphFault) (xs : List X) (n : ℕ) where
  pub each_found : (x : X) (fault : GraphFault) → Some x ≡ slice_get xs n → Some fault ≡ first_of (faults n x) → first_of (of_each faults n (drop n xs)) ≡ Some fault
  each_found x fault at found =
      ap (λ ys. first_of (of_each faults n ys)) (rest_from xs n x at) ∙ first_append (faults n x) (of_each faults (suc n) (drop (n + 1) xs)) fault (sym found)

  pub each_more : (x : X) → Some x ≡ slice_get xs n → None ≡ first_of (faults n x) → first_of (of_each faults n (drop n xs)) ≡ first_of (of_each faults (n + 1) (drop (n + 1) xs))
  each_more x at none =
      let one : suc n ≡ n + 1 = omega arith in
      ap (λ ys. first_of (of_each faults n ys)) (rest_from xs n x at) ∙ first_skip (faults n x) (of_each faults (suc n) (drop (n + 1) xs)) (sym none)
      ∙ ap (λ (k : ℕ). first_of (of_each faults k (drop (n + 1) xs))) one

  pub each_end : None ≡ slice_get xs n → first_of (of_each faults n (drop n xs)) ≡ None
  each_end h = ap (λ ys. first_of (of_each faults n ys)) (rest_past xs n h)

-- whether a member of the first few passes
module _ {X : Type 0} (p : X → Bool) where
  pub few_more : (xs : List X) (n : ℕ) → list_any p (take (n + 1) xs) ≡ (list_any p (take n xs) || option_map_or p (slice_get xs n) false)
  few_more xs n = let one : n + 1 ≡ suc n = omega arith in ap (λ k. list_any p (take k xs)) one ∙ by xs n
    where
      or_false : (b : Bool) → b ≡ (b || false)
      or_false true = refl
      or_false false = refl

      or-assoc : (a b c : Bool) → (a || (b || c)) ≡ ((a || b) || c)
      or-assoc true b c = refl
      or-assoc false b c = refl

      by : (xs : List X) (n : ℕ) → list_any p (take (suc n) xs) ≡ (list_any p (take n xs) || option_map_or p (slice_get xs n) false)
      by [] zero = refl
      by [] (suc n) = refl
      by (x ∷ xs) zero = sym (or_false (p x))
      by (x ∷ xs) (suc n) = ap (λ b. p x || b) (by xs n) ∙ or-assoc (p x) (list_any p (take n xs)) (option_map_or p (slice_get xs n) false)

  pub few_goes_on : (xs : List X) (n : ℕ) → list_any p (take n xs) ≡ false → option_map_or p (slice_get xs n) false ≡ false → list_any p (take (n + 1) xs) ≡ false
  few_goes_on xs n before here = few_more xs n ∙ ap (λ b. b || option_map_or p (slice_get xs n) false) before ∙ here

  or_true : (b : Bool) → (b || true) ≡ true
  or_true true = refl
  or_true false = refl

  pub few_kept : (xs : List X) (i n : ℕ) → i < n → option_map_or p (slice_get xs i) false ≡ true → list_any p (take n xs) ≡ true
  few_kept [] i n below h = absurd (cc)
  few_kept (x ∷ xs) i zero below h = absurd (omega arith)
  few_kept (x ∷ xs) zero (suc n) below h = ap (λ b. b || list_any p (take n xs)) h
  few_kept (x ∷ xs) (suc i) (suc n) below h = ap (λ b. p x || b) (few_kept xs i n (omega arith) h) ∙ or_true (p x)

  pub few_mapped : {Y : Type 0} (f : Y → X) (ys : List Y) (n : ℕ) → list_any p (take n (map f ys)) ≡ list_any (λ y. p (f y)) (take n ys)
  few_mapped f [] zero = refl
  few_mapped f [] (suc n) = refl
  few_mapped f (y ∷ ys) zero = refl
  few_mapped f (y ∷ ys) (suc n) = ap (λ b. p (f y) || b) (few_mapped f ys n)

  next : (b : Bool) (n m : ℕ) (rest : Bool) → nat_lt n m ≡ rest → nat_lt (cond (not b) (1 + n) 0) (suc m) ≡ (b || rest)
  next true n m rest e = lt-ltb 0 (suc m) (omega arith)
  next false n m rest e = by (cases_Bool (nat_lt n m))
    where
      by : (nat_lt n m ≡ true) ⊎ (nat_lt n m ≡ false) → nat_lt (1 + n) (suc m) ≡ rest
      by (inl less) = lt-ltb (1 + n) (suc m) (omega (arith, ltb-true n m less)) ∙ sym less ∙ e
      by (inr more) = le-ltb (1 + n) (suc m) (omega (arith, ltb-false n m more)) ∙ sym more ∙ e

  found-any : (xs : List X) → nat_lt (position_or_len p xs) (length xs) ≡ list_any p xs
  found-any [] = refl
  found-any (x ∷ xs) = next (p x) (position_or_len p xs) (length xs) (list_any p xs) (found-any xs)

  some_if : (b : Bool) (n : ℕ) → is_some (cond b (Some n) None) ≡ b
  some_if true n = refl
  some_if false n = refl

  pub position-any : (xs : List X) → is_some (position p xs) ≡ list_any p xs
  position-any xs = some_if (nat_lt (position_or_len p xs) (length xs)) (position_or_len p xs) ∙ found-any xs

  -- a loop that asks one member after the other
  module _ (xs : List X) (n : ℕ) (all : list_any p xs ≡ list_any p (drop n xs)) where
    pub any_goes_on : (x : X) (passes : Bool) → Some x ≡ slice_get xs n → passes ≡ p x → passes ≡ false → list_any p xs ≡ list_any p (drop (n + 1) xs)
    any_goes_on x passes at is fails = all ∙ any_more p xs n x at ∙ ap (λ b. b || list_any p (drop (n + 1) xs)) (sym is ∙ fails)

    pub any_is_found : (x : X) (passes : Bool) → Some x ≡ slice_get xs n → passes ≡ p x → passes ≡ true → true ≡ list_any p xs
    any_is_found x passes at is holds = sym (all ∙ any_more p xs n x at ∙ ap (λ b. b || list_any p (drop (n + 1) xs)) (sym is ∙ holds))

    pub any_is_not : None ≡ slice_get xs n → false ≡ list_any p xs
    any_is_not none = sym (all ∙ any_end p xs n none)

-- the first of two lists
pub first_of_both : {X : Type 0} (xs ys : List X) → first_of (xs ++ ys) ≡ option_or (first_of xs) (first_of ys)
first_of_both [] ys = refl
first_of_both (x ∷ xs) ys = refl

-- the first fault of a line
pub first_at_line : (body block line : ℕ) (numbers : List ℕ) → first_of (at_line body block line numbers) ≡ option_map (λ number. record { number = number; body = body; block = block; line = line }) (first_of numbers)
first_at_line body block line numbers = first_of-map (λ number. record { number = number; body = body; block = block; line = line }) numbers

pub at_its_line : (body block at line : ℕ) (number : Option ℕ) (numbers : List ℕ) (fault : Option GraphFault) → at ≡ line
    → fault ≡ option_map (λ number. record { number = number; body = body; block = block; line = at }) number → number ≡ first_of numbers
    → fault ≡ first_of (at_line body block line numbers)
at_its_line body block at line number numbers fault same is first =
    is ∙ ap (option_map (λ (number : ℕ). record { number = number; body = body; block = block; line = at })) first
    ∙ sym (first_at_line body block at numbers) ∙ ap (λ (l : ℕ). first_of (at_line body block l numbers)) same

-- a loop that asks one thing after the other for its first fault
module _ {X : Type 0} (faults : ℕ → X → List GraphFault) (xs : List X) (n : ℕ) (all : first_of (of_each faults 0 xs) ≡ first_of (of_each faults n (drop n xs))) where
  pub fault_later : (x : X) → Some x ≡ slice_get xs n → None ≡ first_of (faults n x) → first_of (of_each faults 0 xs) ≡ first_of (of_each faults (n + 1) (drop (n + 1) xs))
  fault_later x at none = all ∙ each_more faults xs n x at none

  pub fault_here : (x : X) (fault : GraphFault) → Some x ≡ slice_get xs n → Some fault ≡ first_of (faults n x) → Some fault ≡ first_of (of_each faults 0 xs)
  fault_here x fault at found = sym (all ∙ each_found faults xs n x fault at found)

  pub fault_nowhere : None ≡ slice_get xs n → None ≡ first_of (of_each faults 0 xs)
  fault_nowhere none = sym (all ∙ each_end faults xs n none)

-- a loop that asks the pairs of two lists
module _ {X Y : Type 0} (p : X × Y → Bool) (xs : List X) (ys : List Y) (n : ℕ) (all : list_any p (zip xs ys) ≡ list_any p (zip (drop n xs) (drop n ys))) where
  both_from : (x : X) (y : Y) → Some x ≡ slice_get xs n → Some y ≡ slice_get ys n → list_any p (zip xs ys) ≡ (p (x, y) || list_any p (zip (drop (n + 1) xs) (drop (n + 1) ys)))
  both_from x y at_x at_y = all ∙ ap (λ (zs : List X). list_any p (zip zs (drop n ys))) (rest_from xs n x at_x) ∙ ap (λ (zs : List Y). list_any p (zip (x ∷ drop (n + 1) xs) zs)) (rest_from ys n y at_y)

  pub pair_later : (x : X) (y : Y) (passes : Bool) → Some x ≡ slice_get xs n → Some y ≡ slice_get ys n → passes ≡ p (x, y) → passes ≡ false
      → list_any p (zip xs ys) ≡ list_any p (zip (drop (n + 1) xs) (drop (n + 1) ys))
  pair_later x y passes at_x at_y is fails = both_from x y at_x at_y ∙ ap (λ b. b || list_any p (zip (drop (n + 1) xs) (drop (n + 1) ys))) (sym is ∙ fails)

  pub pair_here : (x : X) (y : Y) (passes : Bool) → Some x ≡ slice_get xs n → Some y ≡ slice_get ys n → passes ≡ p (x, y) → passes ≡ true → true ≡ list_any p (zip xs ys)
  pair_here x y passes at_x at_y is holds = sym (both_from x y at_x at_y ∙ ap (λ b. b || list_any p (zip (drop (n + 1) xs) (drop (n + 1) ys))) (sym is ∙ holds))

  pub no_pair_left : None ≡ slice_get ys n → false ≡ list_any p (zip xs ys)
  no_pair_left none = sym (all ∙ ap (λ (zs : List Y). list_any p (zip (drop n xs) zs)) (rest_past ys n none) ∙ ap (list_any p) (empty_zip (drop n xs)))
    where
      empty_zip : (zs : List X) → zip {K = X} {X = Y} zs [] ≡ []
      empty_zip [] = refl
      empty_zip (z ∷ zs) = refl

  pub no_pair_here : None ≡ slice_get xs n → false ≡ list_any p (zip xs ys)
  no_pair_here none = sym (all ∙ ap (λ (zs : List X). list_any p (zip zs (drop n ys))) (rest_past xs n none))
