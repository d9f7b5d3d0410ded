-- A place that is known as gone stays so where something is taken elsewhere: so a destination that was empty before
-- operands were taken is empty then.
use Rattle.std.proofs.Common.{◌≡◌, ℕ, ◌==◌, Bool, true, false, List, [], ◌∷◌, refl, sym, ◌∙◌, subst}
use Rattle.std.proofs.lemmas.Bool.Decides.{Decides-eqb}
use Rattle.mir_ty.specs.ItemTable.{ItemTable}
use Rattle.store_model.specs.Abstract.Effects.{presence, with_presence}
use Rattle.store_model.specs.Abstract.Presence.{Presence, is_gone, itself_gone, presence_at, presence_along, changed_at, after_action}
use Rattle.store_model.specs.Places.Place.{Step, same_step}
use Rattle.soundness_values.proofs.Fits.{known_same, known_other, itself_same}
use Rattle.soundness_values.proofs.LocalPresence.{presence_changed, presence_other}
use Rattle.soundness_values.proofs.Steps.{step_same, step_itself, steps_apart}

module _ (items : ItemTable) where
  all_gone : (steps : List Step) → itself_gone (presence_along steps is_gone) ≡ true
  all_gone [] = refl
  all_gone (s ∷ steps) = all_gone steps

  pub gone_still : (steps taken : List Step) (p : Presence) → itself_gone (presence_along steps p) ≡ true →
      itself_gone (presence_along steps (after_action true taken p)) ≡ true
  gone_still steps [] p h = all_gone steps
  gone_still [] (t ∷ taken) p h = itself_same items t (after_action true taken) p ∙ h
  gone_still (s ∷ steps) (t ∷ taken) p h = by (gone_still steps taken (presence_at s p) h) (same_step s t) refl
    where
      by : itself_gone (presence_along steps (after_action true taken (presence_at s p))) ≡ true → (b : Bool) →
          same_step s t ≡ b →
          itself_gone (presence_along steps (presence_at s (changed_at t (after_action true taken) p))) ≡ true
      by later true e = subst (λ x. itself_gone (presence_along steps (presence_at s (changed_at x (after_action true taken) p)))
          ≡ true) (step_same s t e)
          (subst (λ x. itself_gone (presence_along steps x) ≡ true)
          (sym (known_same items s (after_action true taken) p (step_itself s))) later)
      by later false e = subst (λ x. itself_gone (presence_along steps x) ≡ true)
          (sym (known_other items s t (after_action true taken) p (steps_apart items s t e))) h

  -- of locals, where a change takes something
  pub gone_in_cells : (cells : List (ℕ × Presence)) (local other : ℕ) (steps taken : List Step)
      (change : Presence → Presence) → change (presence other cells) ≡ after_action true taken (presence other cells) →
      itself_gone (presence_along steps (presence local cells)) ≡ true →
      itself_gone (presence_along steps (presence local (with_presence other change cells))) ≡ true
  gone_in_cells cells local other steps taken change is h = by (local == other) refl
    where
      by : (b : Bool) → (local == other) ≡ b →
          itself_gone (presence_along steps (presence local (with_presence other change cells))) ≡ true
      by true e =
          let same : local ≡ other = (Decides-eqb local other).0 e in
          subst (λ n. itself_gone (presence_along steps (presence n (with_presence other change cells))) ≡ true)
          (sym same)
          (subst (λ x. itself_gone (presence_along steps x) ≡ true)
          (sym (presence_changed other change cells ∙ is))
          (gone_still steps taken (presence other cells)
          (subst (λ n. itself_gone (presence_along steps (presence n cells)) ≡ true) same h)))
      by false e = subst (λ x. itself_gone (presence_along steps x) ≡ true)
          (sym (presence_other other local change cells e)) h
