-- What is known of a local after a change of what is known of one: the changed one is as the change says, and every
-- other is as it was.
use Rattle.std.proofs.Common.{◌≡◌, ℕ, ◌==◌, Bool, true, false, List, [], ◌∷◌, if◌then◌else◌, refl, ap, sym, ◌∙◌}
use Rattle.std.proofs.lemmas.Bool.Decides.{Decides-eqb}
use Rattle.store_model.specs.Abstract.Effects.{presence, with_presence}
use Rattle.store_model.specs.Abstract.Presence.{Presence, is_gone}

same_key : (n : ℕ) → (n == n) ≡ true
same_key n = (Decides-eqb n n).1 refl

pub presence_changed : (key : ℕ) (change : Presence → Presence) (cells : List (ℕ × Presence)) →
    presence key (with_presence key change cells) ≡ change (presence key cells)
presence_changed key change [] = ap (λ b. if b then change is_gone else is_gone) (same_key key)
presence_changed key change (c ∷ cells) = by (key == c.0) refl (presence_changed key change cells)
  where
    by : (b : Bool) → (key == c.0) ≡ b → presence key (with_presence key change cells) ≡ change
        (presence key cells) →
        presence key (if b then (key, change c.1) ∷ cells else c ∷ with_presence key change cells) ≡ change
        (if b then c.1 else presence key cells)
    by true e later = ap (λ b. if b then change c.1 else presence key cells) (same_key key)
    by false e later = ap (λ b. if b then c.1 else presence key (with_presence key change cells)) e ∙ later

pub presence_other : (key other : ℕ) (change : Presence → Presence) (cells : List (ℕ × Presence)) →
    (other == key) ≡ false → presence other (with_presence key change cells) ≡ presence other cells
presence_other key other change [] h = ap (λ b. if b then change is_gone else is_gone) h
presence_other key other change (c ∷ cells) h = by (key == c.0) refl (presence_other key other change cells h)
  where
    by : (b : Bool) → (key == c.0) ≡ b → presence other (with_presence key change cells) ≡ presence other cells →
        presence other (if b then (key, change c.1) ∷ cells else c ∷ with_presence key change cells)
        ≡ (if other == c.0 then c.1 else presence other cells)
    by true e later =
        ap (λ b. if b then change c.1 else presence other cells) h
        ∙ sym (ap (λ b. if b then c.1 else presence other cells)
        (ap (λ n. other == n) (sym ((Decides-eqb key c.0).0 e))
        ∙ h))
    by false e later = ap (λ x. if other == c.0 then c.1 else x) later
