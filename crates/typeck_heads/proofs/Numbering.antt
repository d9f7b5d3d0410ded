-- Names by their numbers.
use Rattle.std.proofs.Common.{◌≡◌, ℕ, suc, ◌+◌, ◌≤◌, Bool, true, false, cond, eqb, if◌then◌else◌, List, [], ◌∷◌, ◌++◌, length, Option, Some, None, refl, ap, sym, ◌∙◌, arith, rules, Decides, nat_lt, length-append}
use Rattle.std.specs.Prelude.{is_some, not, ◌||◌}
use Rattle.std.specs.List.{list_any, position as position_of, position_or_len}
use Rattle.std.specs.Option.{option_or}
use Rattle.std.specs.HashMap as hash
use Rattle.std.specs.HashMap.{HashMap, get_by_text}
use Rattle.std.specs.declared.string.String.{String}
use Rattle.std.specs.String.{string_eq, string_bytes}
use Rattle.std.specs.Str.{bytes_eq}
use Rattle.std.proofs.lemmas.List.Folds.{position_or_len_push}
use Rattle.std.proofs.lemmas.Map.Text.{hash_map_updates_text}
use Rattle.std.proofs.lemmas.Slice.Eq.{bytes_eq-Decides}
use Rattle.std.proofs.lemmas.Bool.Decides.{nat_tests}

within : {X : Type 0} (p : X → Bool) (xs : List X) → position_or_len p xs ≤ length xs
within p [] = omega arith
within p (x ∷ xs) = by (p x) (within p xs)
  where
    by : (b : Bool) → position_or_len p xs ≤ length xs → (if not b then 1 + position_or_len p xs else 0) ≤ suc (length xs)
    by true h = omega arith
    by false h = omega arith

pick : (n len more len' : ℕ) (b : Bool) → n ≤ len → len' ≡ len + 1 → more ≡ cond (eqb n len) (len + cond b 0 1) n →
    cond (nat_lt more len') (Some more) None ≡ option_or (cond (nat_lt n len) (Some n) None) (cond b (Some len) None)
pick n len more len' true h e f = grind (arith, nat_tests)
pick n len more len' false h e f = grind (arith, nat_tests)

pub position_push : {X : Type 0} (p : X → Bool) (xs : List X) (y : X) →
    position_of p (xs ++ y ∷ []) ≡ option_or (position_of p xs) (if p y then Some (length xs) else None)
position_push p xs y =
    pick (position_or_len p xs) (length xs) (position_or_len p (xs ++ y ∷ [])) (length (xs ++ y ∷ [])) (p y) (within p xs)
    (length-append xs (y ∷ [])) (position_or_len_push p xs y)

none_or : (o : Option ℕ) → o ≡ option_or o None
none_or None = refl
none_or (Some n) = refl

pub noted : {Y S : Type 0} (bs name : List ℕ) (m n : HashMap (String Y) ℕ S) (number : ℕ) →
    hash.UpdatesBy string_eq (λ k. bytes_eq bs (string_bytes k)) m n (Some number) → bs ≡ name →
    is_some (get_by_text m name) ≡ false → (q : List ℕ) →
    get_by_text n q ≡ option_or (get_by_text m q) (if bytes_eq q name then Some number else None)
noted bs name m n number h e absent q =
    hash_map_updates_text bs m n (Some number) h q ∙ ap (λ z. cond (bytes_eq z q) (Some number) (get_by_text m q)) e
    ∙ by (bytes_eq name q) (bytes_eq q name) (bytes_eq-Decides name q) (bytes_eq-Decides q name)
  where
    empty : (o : Option ℕ) → is_some o ≡ false → (other : Option ℕ) → other ≡ option_or o other
    empty None h other = refl
    empty (Some k) h other = absurd (cc)

    by : (a b : Bool) → Decides a (name ≡ q) → Decides b (q ≡ name) → cond a (Some number) (get_by_text m q)
        ≡ option_or (get_by_text m q) (if b then Some number else None)
    by true true h i =
        let same : name ≡ q = search (rules, h) in
        empty (get_by_text m q) (ap (λ z. is_some (get_by_text m z)) (sym same) ∙ absent) (Some number)
    by true false h i = absurd (grind (arith, h, i))
    by false true h i = absurd (grind (arith, h, i))
    by false false h i = none_or (get_by_text m q)

shifted : (n m : ℕ) → nat_lt (1 + n) (suc m) ≡ nat_lt n m
shifted n m = grind (arith, nat_tests)

positive : (m : ℕ) → nat_lt 0 (suc m) ≡ true
positive m = grind (arith, nat_tests)

below_any : {X : Type 0} (p : X → Bool) (xs : List X) → nat_lt (position_or_len p xs) (length xs) ≡ list_any p xs
below_any p [] = refl
below_any p (x ∷ xs) = by (p x) (below_any p xs)
  where
    by : (b : Bool) → nat_lt (position_or_len p xs) (length xs) ≡ list_any p xs →
        nat_lt (if not b then 1 + position_or_len p xs else 0) (suc (length xs)) ≡ (b || list_any p xs)
    by true h = positive (length xs)
    by false h = shifted (position_or_len p xs) (length xs) ∙ h

some_if : (b : Bool) (n : ℕ) → is_some (if b then Some n else None) ≡ b
some_if true n = refl
some_if false n = refl

pub position_any : {X : Type 0} (p : X → Bool) (xs : List X) → is_some (position_of p xs) ≡ list_any p xs
position_any p xs = some_if (nat_lt (position_or_len p xs) (length xs)) (position_or_len p xs) ∙ below_any p xs
