-- Steps of places that are the same, or lead apart.
use Rattle.std.proofs.Common.{◌≡◌, ℕ, ◌==◌, ◌&&◌, Bool, true, false, refl, ap, sym, ◌∙◌, subst}
use Rattle.std.proofs.lemmas.Bool.{false≢true}
use Rattle.std.proofs.lemmas.Bool.Decides.{Decides-eqb}
use Rattle.mir_ty.specs.ItemTable.{ItemTable}
use Rattle.store_model.specs.Places.Place.{Step, ToPart, ToField, ToContent, ToElement, same_step}
use Rattle.soundness_values.proofs.Fits.{StepIsNot}

pub equal : (n m : ℕ) → (n == m) ≡ true → n ≡ m
equal n m h = (Decides-eqb n m).0 h

pub itself : (n : ℕ) → (n == n) ≡ true
itself n = (Decides-eqb n n).1 refl

pub left : (a b : Bool) → (a && b) ≡ true → a ≡ true
left true b h = refl
left false b h = absurd (false≢true h)

pub right : (a b : Bool) → (a && b) ≡ true → b ≡ true
right true b h = h
right false b h = absurd (false≢true h)

pub step_same : (s t : Step) → same_step s t ≡ true → s ≡ t
step_same (ToPart n) (ToPart m) h = ap ToPart (equal n m h)
step_same (ToPart n) (ToField u m) h = absurd (false≢true h)
step_same (ToPart n) ToContent h = absurd (false≢true h)
step_same (ToPart n) (ToElement m) h = absurd (false≢true h)
step_same (ToField v n) (ToPart m) h = absurd (false≢true h)
step_same (ToField v n) (ToField u m) h = ap (λ x. ToField x n) (equal v u (left (v == u) (n == m) h))
    ∙ ap (ToField u) (equal n m (right (v == u) (n == m) h))
step_same (ToField v n) ToContent h = absurd (false≢true h)
step_same (ToField v n) (ToElement m) h = absurd (false≢true h)
step_same ToContent (ToPart m) h = absurd (false≢true h)
step_same ToContent (ToField u m) h = absurd (false≢true h)
step_same ToContent ToContent h = refl
step_same ToContent (ToElement m) h = absurd (false≢true h)
step_same (ToElement n) (ToPart m) h = absurd (false≢true h)
step_same (ToElement n) (ToField u m) h = absurd (false≢true h)
step_same (ToElement n) ToContent h = absurd (false≢true h)
step_same (ToElement n) (ToElement m) h = ap ToElement (equal n m h)

pub both : (a b : Bool) → a ≡ true → b ≡ true → (a && b) ≡ true
both true b h k = k
both false b h k = absurd (false≢true h)

pub step_itself : (s : Step) → same_step s s ≡ true
step_itself (ToPart n) = itself n
step_itself (ToField v n) = both (v == v) (n == n) (itself v) (itself n)
step_itself ToContent = refl
step_itself (ToElement n) = itself n

pub steps_apart : (items : ItemTable) (s t : Step) → same_step s t ≡ false → StepIsNot items s t
steps_apart items s t h = record {
  apart = h;
  differ = λ other e d. false≢true
      (sym h ∙ subst (λ x. same_step s x ≡ true) (step_same s other e ∙ sym (step_same t other d)) (step_itself s));
}
