-- Lists within lists: what a search through them finds, and how many of their members pass a test.
use Rattle.std.proofs.Common.{◌≡◌, ℕ, zero, suc, ◌+◌, ◌≤◌, cond, Bool, true, false, List, [], ◌∷◌, ◌++◌, map, flat_map, Option, Some, None, slice_get, refl, ap, sym, ◌∙◌, subst, arith}
use Rattle.std.specs.Prelude.{find, count_by}
use Rattle.std.specs.List.{list_all}
use Rattle.std.specs.Cmp.{second_so}
use Rattle.std.proofs.lemmas.Bool.{false≢true}
use Rattle.std.proofs.lemmas.List.Recursion.{is_count_by}
use Rattle.std.proofs.lemmas.Option.{none-some}

-- ---- what a search finds

abbrev first-of : {A : Type 0} → Option A → Option A → Option A
first-of (Some x) b = Some x
first-of None b = b

find-append : {A : Type 0} (p : A → Bool) (xs ys : List A) → find p (xs ++ ys) ≡ first-of (find p xs) (find p ys)
find-append p [] ys = refl
find-append p (x ∷ xs) ys = by (p x) (find-append p xs ys)
  where
    by : (b : Bool) → find p (xs ++ ys) ≡ first-of (find p xs) (find p ys) →
        cond b (Some x) (find p (xs ++ ys)) ≡ first-of (cond b (Some x) (find p xs)) (find p ys)
    by true h = refl
    by false h = h

-- where it is found, if it looks through lists
pub record FoundIn {A B : Type 0} (p : B → Bool) (f : A → List B) (xs : List A) (y : B) : Type 0 where
  pub at : ℕ
  pub x : A
  pub there : slice_get xs at ≡ Some x
  pub found : find p (f x) ≡ Some y

pub found-in : {A B : Type 0} (p : B → Bool) (f : A → List B) (xs : List A) (y : B) →
    find p (flat_map f xs) ≡ Some y → FoundIn p f xs y
found-in p f [] y e = absurd (none-some y e)
found-in p f (x ∷ xs) y e =
    by (find p (f x)) refl (sym (find-append p (f x) (flat_map f xs)) ∙ e) (λ e. found-in p f xs y e)
  where
    by : (o : Option _) → find p (f x) ≡ o → first-of o (find p (flat_map f xs)) ≡ Some y →
        (find p (flat_map f xs) ≡ Some y → FoundIn p f xs y) → FoundIn p f (x ∷ xs) y
    by (Some z) eo e again = record { at = 0; x = x; there = refl; found = eo ∙ e }
    by None eo e again =
        let r = again e in record { at = suc r.at; x = r.x; there = r.there; found = r.found }

-- how many pass
abbrev pub many : {A : Type 0} → (A → Bool) → List A → ℕ
many p [] = 0
many p (x ∷ xs) = cond (p x) 1 0 + many p xs

pub many-is : {A : Type 0} (p : A → Bool) (xs : List A) → count_by p xs ≡ many p xs
many-is p xs = sym (is_count_by (many p) p refl (λ x xs. by (p x) (many p xs)) xs)
  where
    by : (b : Bool) (n : ℕ) → cond b 1 0 + n ≡ cond b (1 + n) n
    by true n = refl
    by false n = omega arith

-- what passes is counted
pub none-counted : {A : Type 0} (p : A → Bool) (xs : List A) (k : ℕ) (x : A) → many p xs ≡ 0 →
    slice_get xs k ≡ Some x → p x ≡ false
none-counted p [] k x c e = absurd (none-some x e)
none-counted p (y ∷ xs) zero x c e =
    ap p (sym (let z : Some y ≡ Some x = e in let same : y ≡ x = cc in same)) ∙ by (p y) c
  where
    by : (b : Bool) → cond b 1 0 + many p xs ≡ 0 → b ≡ false
    by false c = refl
    by true c = absurd (let never : ⊥ = omega (arith, c) in never)
none-counted p (y ∷ xs) (suc k) x c e =
    none-counted p xs k x (let n : many p xs ≡ 0 = omega (arith, c) in n) e

-- what passes alone is found
pub only-found : {A : Type 0} (p : A → Bool) (xs : List A) (k : ℕ) (x : A) → many p xs ≡ 1 →
    slice_get xs k ≡ Some x → p x ≡ true → find p xs ≡ Some x
only-found p [] k x c e h = absurd (none-some x e)
only-found p (y ∷ xs) zero x c e h =
    let same : y ≡ x = (let z : Some y ≡ Some x = e in cc) in
    ap (λ b. cond b (Some y) (find p xs)) (ap p same ∙ h) ∙ ap Some same
only-found p (y ∷ xs) (suc k) x c e h = by (p y) c (λ c. only-found p xs k x c e h)
  where
    by : (b : Bool) → cond b 1 0 + many p xs ≡ 1 → (many p xs ≡ 1 → find p xs ≡ Some x) →
        cond b (Some y) (find p xs) ≡ Some x
    by false c again = again (let z : many p xs ≡ 1 = omega (arith, c) in z)
    by true c again =
        absurd (false≢true (sym (none-counted p xs k x (let z : many p xs ≡ 0 = omega (arith, c) in z) e) ∙ h))

pub count-append : {A : Type 0} (p : A → Bool) (xs ys : List A) →
    many p (xs ++ ys) ≡ many p xs + many p ys
count-append p [] ys = omega arith
count-append p (x ∷ xs) ys = let h = count-append p xs ys in omega (arith, h)

-- the number in all lists, and in one of them
abbrev pub total : {A : Type 0} → (A → ℕ) → List A → ℕ
total f [] = 0
total f (x ∷ xs) = f x + total f xs

pub count-flat : {A B : Type 0} (p : B → Bool) (f : A → List B) (xs : List A) →
    many p (flat_map f xs) ≡ total (λ x. many p (f x)) xs
count-flat p f [] = refl
count-flat p f (x ∷ xs) =
    let h = count-flat p f xs in count-append p (f x) (flat_map f xs) ∙ ap (λ n. many p (f x) + n) h

pub total-part : {A : Type 0} (f : A → ℕ) (xs : List A) (k : ℕ) (x : A) → slice_get xs k ≡ Some x → f x ≤ total f xs
total-part f [] k x e = absurd (none-some x e)
total-part f (y ∷ xs) zero x e =
    let same : f y ≡ f x = ap f (let z : Some y ≡ Some x = e in let s : y ≡ x = cc in s) in omega (arith, same)
total-part f (y ∷ xs) (suc k) x e = let h = total-part f xs k x e in omega (arith, h)

pub total-less : {A : Type 0} (f g : A → ℕ) (xs : List A) → ((x : A) → f x ≤ g x) → total f xs ≤ total g xs
total-less f g [] h = omega arith
total-less f g (x ∷ xs) h = let a = h x in let b = total-less f g xs h in omega (arith, a, b)

-- where the sums are the same and each number is at most the other, they are the same
pub total-same : {A : Type 0} (f g : A → ℕ) (xs : List A) (k : ℕ) (x : A) → ((x : A) → f x ≤ g x) →
    total f xs ≡ total g xs → slice_get xs k ≡ Some x → f x ≡ g x
total-same f g [] k x h t e = absurd (none-some x e)
total-same f g (y ∷ xs) zero x h t e =
    let a = h y in let b = total-less f g xs h in
    let here : f y ≡ g y = omega (arith, a, b, t) in
    subst (λ z. f z ≡ g z) (let z : Some y ≡ Some x = e in let s : y ≡ x = cc in s) here
total-same f g (y ∷ xs) (suc k) x h t e =
    let a = h y in let b = total-less f g xs h in
    total-same f g xs k x h (let z : total f xs ≡ total g xs = omega (arith, a, b, t) in z) e

pub in-append-left : {A : Type 0} (xs ys : List A) (k : ℕ) (x : A) → slice_get xs k ≡ Some x → slice_get (xs ++ ys) k ≡
    Some x
in-append-left [] ys k x e = absurd (none-some x e)
in-append-left (y ∷ xs) ys zero x e = e
in-append-left (y ∷ xs) ys (suc k) x e = in-append-left xs ys k x e

pub in-append-right : {A : Type 0} (xs ys : List A) (k : ℕ) (x : A) → slice_get ys k ≡ Some x →
    (n : ℕ) × (slice_get (xs ++ ys) n ≡ Some x)
in-append-right [] ys k x e = (k, e)
in-append-right (y ∷ xs) ys k x e = let r = in-append-right xs ys k x e in (suc r.0, r.1)

pub in-flat : {A B : Type 0} (f : A → List B) (xs : List A) (i j : ℕ) (x : A) (y : B) → slice_get xs i ≡ Some x →
    slice_get (f x) j ≡ Some y → (k : ℕ) × (slice_get (flat_map f xs) k ≡ Some y)
in-flat f [] i j x y e h = absurd (none-some x e)
in-flat f (z ∷ xs) zero j x y e h =
    let same : z ≡ x = (let w : Some z ≡ Some x = e in cc) in
    (j, in-append-left (f z) (flat_map f xs) j y (ap (λ z. slice_get (f z) j) same ∙ h))
in-flat f (z ∷ xs) (suc i) j x y e h =
    let r = in-flat f xs i j x y e h in in-append-right (f z) (flat_map f xs) r.0 y r.1

pub list_all-later : {A : Type 0} (p : A → Bool) (xs ys : List A) → list_all p (xs ++ ys) ≡ true → list_all p ys ≡ true
list_all-later p [] ys h = h
list_all-later p (x ∷ xs) ys h = list_all-later p xs ys (second_so (p x) (list_all p (xs ++ ys)) h)

pub map-two : {A B : Type 0} (f : A → B) (xs ys : List A) → map f (xs ++ ys) ≡ map f xs ++ map f ys
map-two f [] ys = refl
map-two f (x ∷ xs) ys = ap (λ l. f x ∷ l) (map-two f xs ys)
