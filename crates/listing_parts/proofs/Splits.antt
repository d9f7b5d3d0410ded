-- What is known where something was found.
use Rattle.std.proofs.Common.{◌≡◌, ℕ, Bool, true, false, if◌then◌else◌, List, [], ◌∷◌, ◌++◌, Option, Some, None, nat_eq, eqb-true, refl, ap, inl, inr}
use Rattle.std.specs.Prelude.{◌⊎◌}
use Rattle.std.proofs.lemmas.Option.{same_Some, none-some}
use Rattle.std.proofs.lemmas.Bool.{and_parts, false≢true}
use Rattle.cfg_graph.specs.WellFormed.NameFaults.{same_name}
use Rattle.listing_write.specs.Reading.Words.{FoundInText, bind, chosen, or_else, span}

pub split : {X Y : Type 0} (o : Option X) (go : X → Option Y) (y : Y) → bind o go ≡ Some y → (x : X) × (o ≡ Some x) × (go x ≡ Some y)
split None go y h = absurd (none-some y h)
split (Some x) go y h = (x, refl, h)

pub either : {X Y : Type 0} (o : Option X) (go : X → Option Y) (other : Option Y) (y : Y) → chosen o go other ≡ Some y
    → ((x : X) × (o ≡ Some x) × (go x ≡ Some y)) ⊎ ((o ≡ None) × (other ≡ Some y))
either None go other y h = inr (refl, h)
either (Some x) go other y h = inl (x, refl, h)

pub one_of_two : {X : Type 0} (a b : Option X) (x : X) → or_else a b ≡ Some x → (a ≡ Some x) ⊎ (b ≡ Some x)
one_of_two None b x h = inr h
one_of_two (Some y) b x h = inl h

pub tested : {X : Type 0} (t : Bool) (a b : Option X) (x : X) → (if t then a else b) ≡ Some x → ((t ≡ true) × (a ≡ Some x)) ⊎ ((t ≡ false) × (b ≡ Some x))
tested true a b x h = inl (refl, h)
tested false a b x h = inr (refl, h)

-- what was found is one thing, with one text behind it
pub same_found : {X : Type 0} (a : X) (r : List ℕ) (b : X) (s : List ℕ) → ◌≡◌ {A = FoundInText X} (Some (a, r)) (Some (b, s)) → (a ≡ b) × (r ≡ s)
same_found {X} a r b s h =
    let same : ◌≡◌ {A = X × List ℕ} (a, r) (b, s) = same_Some (a, r) (b, s) h in
    (ap (λ (q : X × List ℕ). q.0) same, ap (λ (q : X × List ℕ). q.1) same)

pub span_parts : (p : ℕ → Bool) (t : List ℕ) → t ≡ (span p t).0 ++ (span p t).1
span_parts p [] = refl
span_parts p (b ∷ bs) = by (p b) refl (span_parts p bs)
  where
    by : (v : Bool) → p b ≡ v → bs ≡ (span p bs).0 ++ (span p bs).1 → b ∷ bs ≡ (span p (b ∷ bs)).0 ++ (span p (b ∷ bs)).1
    by true e h = rw e (ap (λ (x : List ℕ). b ∷ x) h)
    by false e h = rw e refl

pub same_is : (a b : List ℕ) → same_name a b ≡ true → a ≡ b
same_is [] [] h = refl
same_is [] (b ∷ bs) h = absurd (false≢true h)
same_is (a ∷ as_more) [] h = absurd (false≢true h)
same_is (a ∷ as_more) (b ∷ bs) h =
    let (one, others) = and_parts (nat_eq a b) _ h in
    let rest = same_is as_more bs others in
    λ i. eqb-true a b one i ∷ rest i
