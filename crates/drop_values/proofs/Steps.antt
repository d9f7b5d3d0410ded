-- The test of steps tells equal steps. (The same stands in `cfg_graph`, above this crate.)
use Rattle.std.proofs.Common.{◌≡◌, ℕ, ◌==◌, true, refl, ap, ◌∙◌}
use Rattle.std.specs.Cmp.{first_so, second_so}
use Rattle.std.specs.Cmp.Derive.{both_true}
use Rattle.std.proofs.lemmas.Bool.{false≢true}
use Rattle.std.proofs.lemmas.Bool.Decides.{Decides-eqb}
use Rattle.store_model.specs.Places.Place.{Step, ToPart, ToField, ToContent, ToElement, same_step}

same_number : (n m : ℕ) → (n == m) ≡ true → n ≡ m
same_number n m h = (Decides-eqb n m).0 h

pub same_step-sound : (a b : Step) → same_step a b ≡ true → a ≡ b
same_step-sound (ToPart n) (ToPart m) h = ap ToPart (same_number n m h)
same_step-sound (ToField v n) (ToField u m) h =
    ap (λ w. ToField w n) (same_number v u (first_so (v == u) (n == m) h))
    ∙ ap (ToField u) (same_number n m (second_so (v == u) (n == m) h))
same_step-sound ToContent ToContent h = refl
same_step-sound (ToElement n) (ToElement m) h = ap ToElement (same_number n m h)
same_step-sound (ToPart n) (ToField u m) h = absurd (false≢true h)
same_step-sound (ToPart n) ToContent h = absurd (false≢true h)
same_step-sound (ToPart n) (ToElement m) h = absurd (false≢true h)
same_step-sound (ToField v n) (ToPart m) h = absurd (false≢true h)
same_step-sound (ToField v n) ToContent h = absurd (false≢true h)
same_step-sound (ToField v n) (ToElement m) h = absurd (false≢true h)
same_step-sound ToContent (ToPart m) h = absurd (false≢true h)
same_step-sound ToContent (ToField u m) h = absurd (false≢true h)
same_step-sound ToContent (ToElement m) h = absurd (false≢true h)
same_step-sound (ToElement n) (ToPart m) h = absurd (false≢true h)
same_step-sound (ToElement n) (ToField u m) h = absurd (false≢true h)
same_step-sound (ToElement n) ToContent h = absurd (false≢true h)

same_number-refl : (n : ℕ) → (n == n) ≡ true
same_number-refl n = (Decides-eqb n n).1 refl

pub same_step-refl : (a : Step) → same_step a a ≡ true
same_step-refl (ToPart n) = same_number-refl n
same_step-refl (ToField v n) = both_true (same_number-refl v) (same_number-refl n)
same_step-refl ToContent = refl
same_step-refl (ToElement n) = same_number-refl n
