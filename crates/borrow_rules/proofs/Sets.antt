-- Tests over lists, and how many pass.
use Rattle.std.proofs.Common.{◌≡◌, ℕ, zero, suc, ◌+◌, ◌<◌, ◌≤◌, Bool, true, false, ◌||◌, List, [], ◌∷◌, length, get_or, map, Option, IsTrue, Contains, ◌++◌, refl, ap, ◌∙◌, arith}
use Rattle.std.specs.List.{list_any, filter_map, flat_map, cons_option}
use Rattle.std.proofs.lemmas.List.Folds.{list_any-from_Any}
use Rattle.typing_rules.specs.Replaced.{Facts}
use Rattle.borrow_rules.specs.Found.{count_of, one_if}

pub any_map : {X Y : Type 0} (p : Y → Bool) (f : X → Y) (xs : List X) → list_any p (map f xs) ≡ list_any (λ x. p (f x)) xs
any_map p f [] = refl
any_map p f (x ∷ xs) = ap (λ r. p (f x) || r) (any_map p f xs)

pub any_alike : {X : Type 0} (p q : X → Bool) → ((x : X) → p x ≡ q x) → (xs : List X) → list_any p xs ≡ list_any q xs
any_alike p q h [] = refl
any_alike p q h (x ∷ xs) = ap (λ b. b || list_any p xs) (h x) ∙ ap (λ r. q x || r) (any_alike p q h xs)

pub filter_map_alike : {X Y : Type 0} (f g : X → Option Y) → ((x : X) → f x ≡ g x) → (xs : List X) → filter_map f xs ≡ filter_map g xs
filter_map_alike f g h [] = refl
filter_map_alike f g h (x ∷ xs) =
    ap (λ o. cons_option o (filter_map f xs)) (h x) ∙ ap (cons_option (g x)) (filter_map_alike f g h xs)

pub any_of : {X : Type 0} (p : X → Bool) (xs : List X) (x : X) → Contains xs x → IsTrue (p x) → IsTrue (list_any p xs)
any_of p xs x c h = list_any-from_Any p xs (c.0, x, c.1, c.2, h)

pub flat_map_alike : {X Y : Type 0} (f g : X → List Y) → ((x : X) → f x ≡ g x) → (xs : List X) → flat_map f xs ≡ flat_map g xs
flat_map_alike f g h [] = refl
flat_map_alike f g h (x ∷ xs) =
    ap (λ l. l ++ flat_map f xs) (h x) ∙ ap (λ l. g x ++ l) (flat_map_alike f g h xs)

-- ---- how many pass

one_le : (a b : Bool) (m n : ℕ) → (a ≡ true → b ≡ true) → m ≤ n → one_if a + m ≤ one_if b + n
one_le true true m n h l = omega (arith, l)
one_le true false m n h l = absurd (let never : false ≡ true = h refl in cc)
one_le false true m n h l = omega (arith, l)
one_le false false m n h l = omega (arith, l)

one_lt : (a b : Bool) (m n : ℕ) → a ≡ false → b ≡ true → m ≤ n → one_if a + m < one_if b + n
one_lt true b m n out there l = absurd (cc)
one_lt false true m n out there l = omega (arith, l)
one_lt false false m n out there l = absurd (cc)

one_less : (a b : Bool) (m n : ℕ) → (a ≡ true → b ≡ true) → m < n → one_if a + m < one_if b + n
one_less true true m n h l = omega (arith, l)
one_less true false m n h l = absurd (let never : false ≡ true = h refl in cc)
one_less false true m n h l = omega (arith, l)
one_less false false m n h l = omega (arith, l)

pub no_more : (p q : Facts → Bool) → ((x : Facts) → p x ≡ true → q x ≡ true) → (xs : List Facts) → count_of p xs ≤ count_of q xs
no_more p q h [] = omega arith
no_more p q h (x ∷ xs) = one_le (p x) (q x) (count_of p xs) (count_of q xs) (h x) (no_more p q h xs)

pub fewer : (p q : Facts → Bool) → ((x : Facts) → p x ≡ true → q x ≡ true) → (xs : List Facts) (k : ℕ) (d : Facts) → k < length xs → p (get_or xs k d) ≡ false → q (get_or xs k d) ≡ true → count_of p xs < count_of q xs
fewer p q h [] k d within out there = absurd (omega (arith, within))
fewer p q h (x ∷ xs) zero d within out there =
    one_lt (p x) (q x) (count_of p xs) (count_of q xs) out there (no_more p q h xs)
fewer p q h (x ∷ xs) (suc k) d within out there =
    one_less (p x) (q x) (count_of p xs) (count_of q xs) (h x) (fewer p q h xs k d (omega (arith, within)) out there)
