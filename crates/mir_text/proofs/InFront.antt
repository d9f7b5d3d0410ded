-- What a section finds stands in front, thing by thing, and each of them is such as its line says.
use Rattle.std.proofs.Common.{◌≡◌, ℕ, zero, suc, List, [], ◌∷◌, ◌++◌, length, Some, None, refl, ap, sym, subst, ◌∙◌, arith, append_assoc, append-nil, length-append}
use Rattle.std.specs.Prelude.{⊤}
use Rattle.listing_write.specs.Items.{counted}
use Rattle.listing_write.specs.Reading.Words.{FoundInText}
use Rattle.mir_text.specs.SectionReading.{onward, on_within}

-- of things that are counted from a number on
abbrev pub EachFrom : {X : Type 0} → (ℕ → X → Type 0) → ℕ → List X → Type 0
EachFrom P n [] = ⊤
EachFrom P n (x ∷ xs) = P n x × EachFrom P (suc n) xs

module _ {S X : Type 0} (step : S → List ℕ → FoundInText S) (part : S → List X) (text : ℕ → X → List ℕ) (V : ℕ → X → Type 0) where
  -- one thing more, which stands in front
  pub record IsOne (s u : S) (t r : List ℕ) : Type 0 where
    pub thing : X
    pub more : part u ≡ part s ++ thing ∷ []
    pub is : t ≡ text (length (part s)) thing ++ r
    pub valid : V (length (part s)) thing

  -- these things stand in front of what is left
  pub record StandInFront (s : S) (t : List ℕ) (q : S × List ℕ) : Type 0 where
    pub things : List X
    pub more : part q.0 ≡ part s ++ things
    pub is : t ≡ counted text (length (part s)) things ++ q.1
    pub valid : EachFrom V (length (part s)) things

  pub in_front : ((s u : S) (t r : List ℕ) → step s t ≡ Some (u, r) → IsOne s u t r) → (k : ℕ) (s : S) (t : List ℕ) → StandInFront s t (on_within k step s t)
  in_front one zero s t = record { things = []; more = sym (append-nil (part s)); is = refl; valid = tt }
  in_front one (suc k) s t = by (step s t) refl (in_front one k)
    where
      by : (o : FoundInText S) → step s t ≡ o → ((u : S) (r : List ℕ) → StandInFront u r (on_within k step u r)) → StandInFront s t (onward o (on_within k step) s t)
      by None e deeper = record { things = []; more = sym (append-nil (part s)); is = refl; valid = tt }
      by (Some f) e deeper =
          let first = one s f.0 t f.1 e in
          let rest = deeper f.0 f.1 in
          let next : length (part f.0) ≡ suc (length (part s)) = (let count = length-append (part s) (first.thing ∷ []) in let same = ap length first.more in omega (arith, count, same)) in
          record {
            things = first.thing ∷ rest.things;
            more = rest.more ∙ ap (λ (ys : List X). ys ++ rest.things) first.more ∙ append_assoc (part s) (first.thing ∷ []) rest.things;
            is =
                first.is ∙ ap (λ (w : List ℕ). text (length (part s)) first.thing ++ w) (rest.is ∙ ap (λ (n : ℕ). counted text n rest.things ++ (on_within k step f.0 f.1).1) next)
                ∙ sym (append_assoc (text (length (part s)) first.thing) (counted text (suc (length (part s))) rest.things) (on_within k step f.0 f.1).1);
            valid = (first.valid, subst (λ (n : ℕ). EachFrom V n rest.things) next rest.valid);
          }
