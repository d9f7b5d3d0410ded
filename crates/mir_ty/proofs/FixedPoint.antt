-- What a rule shows of the types of a table, round by round.
use Rattle.std.proofs.Common.{◌≡◌, ℕ, zero, suc, ◌+◌, ◌<◌, ◌≤◌, Bool, true, false, cond, List, length, slice_get, Option, Some, None, ◌⊎◌, inl, inr, refl, sym, ap, ◌∙◌, arith}
use Rattle.std.proofs.lemmas.Bool.{false≢true, cases_eq}
use Rattle.std.proofs.lemmas.Option.{slice_get_within}
use Rattle.std.specs.Option.{option_map_or}
use Rattle.mir_ty.specs.declared.ty.Ty.{Ty}
use Rattle.mir_ty.specs.declared.ty.TyId.{TyId}
use Rattle.mir_ty.specs.Facts.{Rule, in_rounds, by_rule}

-- one thing is known wherever the other is
abbrev pub IsWithin : (TyId → Bool) → (TyId → Bool) → Type 0
IsWithin P Q = (id : TyId) → P id ≡ true → Q id ≡ true

-- where more is known, a rule shows no less
pub record IsGrowing (rule : Rule) : Type 0 where
  pub grows : (P Q : TyId → Bool) → IsWithin P Q → (ty : Ty) → rule P ty ≡ true → rule Q ty ≡ true

-- how many numbers below n pass a test
abbrev count : (ℕ → Bool) → ℕ → ℕ
count f zero = 0
count f (suc n) = cond (f n) 1 0 + count f n

count_bound : (f : ℕ → Bool) (n : ℕ) → count f n ≤ n
count_bound f zero = omega arith
count_bound f (suc n) = by (f n) (count_bound f n)
  where
    by : (b : Bool) → count f n ≤ n → cond b 1 0 + count f n ≤ suc n
    by true h = omega arith
    by false h = omega arith

-- where all pass, each passes
count_full : (f : ℕ → Bool) (n : ℕ) → n ≤ count f n → (k : ℕ) → k < n → f k ≡ true
count_full f zero h k below = absurd (omega arith)
count_full f (suc n) h k below = by (f n) refl h (λ h. count_full f n h k) (cases_eq k n)
  where
    by : (b : Bool) → f n ≡ b → suc n ≤ cond b 1 0 + count f n → (n ≤ count f n → k < n → f k ≡ true) → (k ≡ n) ⊎ (k ≡ n → ⊥) → f k ≡ true
    by true is all rest (inl same) = ap f same ∙ is
    by true is all rest (inr other) = rest (omega arith) (omega arith)
    by false is all rest _ = absurd (omega (arith, count_bound f n))

-- below n the second test passes whatever the first does
abbrev PassesBelow : (f g : ℕ → Bool) → ℕ → Type 0
PassesBelow f g n = (k : ℕ) → k < n → f k ≡ true → g k ≡ true

passes_more : (f g : ℕ → Bool) (n : ℕ) → PassesBelow f g n → (f n ≡ true → g n ≡ true) → PassesBelow f g (suc n)
passes_more f g n below here k less = by (cases_eq k n)
  where
    by : (k ≡ n) ⊎ (k ≡ n → ⊥) → f k ≡ true → g k ≡ true
    by (inl same) h = ap g same ∙ here (ap f (sym same) ∙ h)
    by (inr other) h = below k (omega arith) h

-- of two tests, one within the other: they are the same below n, or the second passes more numbers
record Apart (f g : ℕ → Bool) (n : ℕ) : Type 0 where
  cases : PassesBelow g f n ⊎ (count f n < count g n)
  order : count f n ≤ count g n

apart_more : (f g : ℕ → Bool) (n : ℕ) (b c : Bool) → f n ≡ b → g n ≡ c → (b ≡ true → c ≡ true) → Apart f g n
    → (PassesBelow g f (suc n) ⊎ (cond b 1 0 + count f n < cond c 1 0 + count g n)) × (cond b 1 0 + count f n ≤ cond c 1 0 + count g n)
apart_more f g n true false fn gn bc rest = absurd (false≢true (bc refl))
apart_more f g n false true fn gn bc rest = (inr (omega (arith, rest.order)), omega (arith, rest.order))
apart_more f g n true true fn gn bc rest = (by rest.cases, omega (arith, rest.order))
  where
    by : PassesBelow g f n ⊎ (count f n < count g n) → PassesBelow g f (suc n) ⊎ (1 + count f n < 1 + count g n)
    by (inl same) = inl (passes_more g f n same (λ _. fn))
    by (inr less) = inr (omega arith)
apart_more f g n false false fn gn bc rest = (by rest.cases, omega (arith, rest.order))
  where
    by : PassesBelow g f n ⊎ (count f n < count g n) → PassesBelow g f (suc n) ⊎ (0 + count f n < 0 + count g n)
    by (inl same) = inl (passes_more g f n same (λ h. absurd (false≢true (sym gn ∙ h))))
    by (inr less) = inr (omega arith)

apart : (f g : ℕ → Bool) (n : ℕ) → PassesBelow f g n → Apart f g n
apart f g zero h = record { cases = inl (λ k below. absurd (omega arith)); order = omega arith }
apart f g (suc n) h =
    let r = apart_more f g n (f n) (g n) refl refl (h n (omega arith)) (apart f g n (λ k below. h k (omega arith))) in
    record { cases = r.0; order = r.1 }

-- a rule at the type with a number, which shows nothing where there is none
abbrev at_ty : Rule → (TyId → Bool) → Option Ty → Bool
at_ty rule P o = option_map_or (rule P) o false

module _ (types : List Ty) (rule : Rule) (growing : IsGrowing rule) where
  at_ty_grows : (P Q : TyId → Bool) → IsWithin P Q → (o : Option Ty) → at_ty rule P o ≡ true → at_ty rule Q o ≡ true
  at_ty_grows P Q sub None h = absurd (false≢true h)
  at_ty_grows P Q sub (Some ty) h = growing.grows P Q sub ty h

  -- a round more shows no less
  in_rounds-more : (k : ℕ) → IsWithin (in_rounds types rule k) (in_rounds types rule (suc k))
  in_rounds-more zero id h = absurd (false≢true h)
  in_rounds-more (suc k) id h = at_ty_grows _ _ (in_rounds-more k) (slice_get types id.0) h

  -- a round more shows nothing new
  abbrev IsStable : ℕ → Type 0
  IsStable k = IsWithin (in_rounds types rule (suc k)) (in_rounds types rule k)

  IsStable-more : (k : ℕ) → IsStable k → IsStable (suc k)
  IsStable-more k stable id h = at_ty_grows _ _ stable (slice_get types id.0) h

  abbrev shown : ℕ → ℕ → Bool
  shown k n = in_rounds types rule k (record { 0 = n })

  -- what is shown is shown of a type of the table
  in_rounds-within : (k : ℕ) (id : TyId) → in_rounds types rule k id ≡ true → id.0 < length types
  in_rounds-within zero id h = absurd (false≢true h)
  in_rounds-within (suc k) id h = by (slice_get types id.0) refl h
    where
      by : (o : Option Ty) → slice_get types id.0 ≡ o → at_ty rule (in_rounds types rule k) o ≡ true → id.0 < length types
      by None is h = absurd (false≢true h)
      by (Some ty) is h = slice_get_within types id.0 ty is

  IsStable-below : (k : ℕ) → PassesBelow (shown (suc k)) (shown k) (length types) → IsStable k
  IsStable-below k same id h = same id.0 (in_rounds-within (suc k) id h) h

  -- after k rounds nothing more is shown, or something is of k types
  progress : (k : ℕ) → IsStable k ⊎ (k ≤ count (shown k) (length types))
  progress zero = inr (omega arith)
  progress (suc k) = by (progress k) (apart (shown k) (shown (suc k)) (length types) (λ n _. in_rounds-more k (record { 0 = n })))
    where
      by : IsStable k ⊎ (k ≤ count (shown k) (length types)) → Apart (shown k) (shown (suc k)) (length types)
          → IsStable (suc k) ⊎ (suc k ≤ count (shown (suc k)) (length types))
      by (inl stable) _ = inl (IsStable-more k stable)
      by (inr some) r = step r.cases
        where
          step : PassesBelow (shown (suc k)) (shown k) (length types) ⊎ (count (shown k) (length types) < count (shown (suc k)) (length types))
              → IsStable (suc k) ⊎ (suc k ≤ count (shown (suc k)) (length types))
          step (inl same) = inl (IsStable-more k (IsStable-below k same))
          step (inr more) = inr (omega arith)

  -- as often as there are types: then the rule shows nothing more
  pub by_rule-settled : (id : TyId) (ty : Ty) → slice_get types id.0 ≡ Some ty → rule (by_rule types rule) ty ≡ true → by_rule types rule id ≡ true
  by_rule-settled id ty is h = by (progress (length types))
    where
      by : IsStable (length types) ⊎ (length types ≤ count (shown (length types)) (length types)) → by_rule types rule id ≡ true
      by (inl stable) = stable id (ap (at_ty rule (by_rule types rule)) is ∙ h)
      by (inr all) = count_full (shown (length types)) (length types) all id.0 (slice_get_within types id.0 ty is)

  -- and what it shows, it shows by what it shows of others
  pub by_rule-shown : (id : TyId) → by_rule types rule id ≡ true → (ty : Ty) × (slice_get types id.0 ≡ Some ty) × (rule (by_rule types rule) ty ≡ true)
  by_rule-shown id h = by (slice_get types id.0) refl (in_rounds-more (length types) id h)
    where
      by : (o : Option Ty) → slice_get types id.0 ≡ o → at_ty rule (by_rule types rule) o ≡ true → (ty : Ty) × (slice_get types id.0 ≡ Some ty) × (rule (by_rule types rule) ty ≡ true)
      by None is h = absurd (false≢true h)
      by (Some ty) is h = (ty, is, h)

  -- it shows no more than what is closed under it
  pub in_rounds-least : (P : TyId → Bool) → ((id : TyId) (ty : Ty) → slice_get types id.0 ≡ Some ty → rule P ty ≡ true → P id ≡ true) → (k : ℕ) → IsWithin (in_rounds types rule k) P
  in_rounds-least P closed zero id h = absurd (false≢true h)
  in_rounds-least P closed (suc k) id h = by (slice_get types id.0) refl (at_ty_grows _ _ (in_rounds-least P closed k) (slice_get types id.0) h)
    where
      by : (o : Option Ty) → slice_get types id.0 ≡ o → at_ty rule P o ≡ true → P id ≡ true
      by None is h = absurd (false≢true h)
      by (Some ty) is h = closed id ty is h

-- a second table holds the types of the first at their numbers
abbrev pub Extends : List Ty → List Ty → Type 0
Extends old new = (id : TyId) (ty : Ty) → slice_get old id.0 ≡ Some ty → slice_get new id.0 ≡ Some ty

-- a second rule shows no less than the first
abbrev pub ShowsNoLess : Rule → Rule → Type 0
ShowsNoLess old new = (P : TyId → Bool) (ty : Ty) → old P ty ≡ true → new P ty ≡ true

-- with more types and a rule that shows no less, no less is shown
pub by_rule-wider : (types types' : List Ty) (rule rule' : Rule) → IsGrowing rule → IsGrowing rule' → Extends types types' → ShowsNoLess rule rule'
    → IsWithin (by_rule types rule) (by_rule types' rule')
by_rule-wider types types' rule rule' growing growing' extends wider =
    in_rounds-least types rule growing (by_rule types' rule') (λ id ty is h. by_rule-settled types' rule' growing' id ty (extends id ty is) (wider _ ty h)) (length types)
