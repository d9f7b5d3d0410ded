-- Places that do not overlap as the rule of borrows sees them do not as places at locals, whatever their indices are.
use Rattle.std.proofs.Common.{◌≡◌, ℕ, ◌==◌, ◌&&◌, not, Bool, true, false, List, [], ◌∷◌, map, refl, ap, sym, ◌∙◌}
use Rattle.std.proofs.lemmas.Bool.{false≢true}
use Rattle.std.proofs.lemmas.Bool.Decides.{Decides-eqb}
use Rattle.store_model.specs.Places.Place.{Step, ToPart, ToField, ToContent, ToElement, Place}
use Rattle.src_meaning.specs.Locals.Effects.{step_at, place_at}
use Rattle.src_meaning.specs.Locals.OfBody.{local_among}
use Rattle.typing_rules.specs.Accesses as rules
use Rattle.typing_rules.specs.Accesses.{AccessPlace, begin_alike}
use Rattle.soundness_values.proofs.Checks as checks
use Rattle.soundness_values.proofs.Checks.{meet}
use Rattle.soundness_values.proofs.NoOverlap.{Seen, seen}
use Rattle.soundness_cells.proofs.PassLocals.{one_key}

-- steps are seen alike, whatever locals the indices have
pub seen_at : (local_of : ℕ → ℕ) (steps : List Step) → seen (map (step_at local_of) steps) ≡ seen steps
seen_at local_of [] = refl
seen_at local_of (ToPart n ∷ steps) = ap (λ l. rules.ToPart n ∷ l) (seen_at local_of steps)
seen_at local_of (ToField v n ∷ steps) = ap (λ l. rules.ToPart n ∷ l) (seen_at local_of steps)
seen_at local_of (ToContent ∷ steps) = ap (λ l. rules.ToContent ∷ l) (seen_at local_of steps)
seen_at local_of (ToElement i ∷ steps) = refl

both_numbers : (b r s : Bool) → (b && r) ≡ false → (r ≡ false → s ≡ false) → (b && s) ≡ false
both_numbers true r s h f = f h
both_numbers false r s h f = refl

-- steps that do not begin alike do not meet
pub never_meet : (a b : List Step) → begin_alike (seen a) (seen b) ≡ false → meet a b ≡ false
never_meet [] b h = absurd (false≢true (sym h))
never_meet (ToElement i ∷ a) [] h = absurd (false≢true (sym h))
never_meet (ToElement i ∷ a) (step ∷ b) h = absurd (false≢true (sym h))
never_meet (ToPart n ∷ a) [] h = absurd (false≢true (sym h))
never_meet (ToField u n ∷ a) [] h = absurd (false≢true (sym h))
never_meet (ToContent ∷ a) [] h = absurd (false≢true (sym h))
never_meet (ToPart n ∷ a) (ToElement i ∷ b) h = absurd (false≢true (sym h))
never_meet (ToField u n ∷ a) (ToElement i ∷ b) h = absurd (false≢true (sym h))
never_meet (ToContent ∷ a) (ToElement i ∷ b) h = absurd (false≢true (sym h))
never_meet (ToPart n ∷ a) (ToPart m ∷ b) h =
    both_numbers (n == m) (begin_alike (seen a) (seen b)) (meet a b) h (never_meet a b)
never_meet (ToPart n ∷ a) (ToField v m ∷ b) h =
    both_numbers (n == m) (begin_alike (seen a) (seen b)) (meet a b) h (never_meet a b)
never_meet (ToPart n ∷ a) (ToContent ∷ b) h = refl
never_meet (ToField u n ∷ a) (ToPart m ∷ b) h =
    both_numbers (n == m) (begin_alike (seen a) (seen b)) (meet a b) h (never_meet a b)
never_meet (ToField u n ∷ a) (ToField v m ∷ b) h =
    both_numbers (n == m) (begin_alike (seen a) (seen b)) (meet a b) h (never_meet a b)
never_meet (ToField u n ∷ a) (ToContent ∷ b) h = refl
never_meet (ToContent ∷ a) (ToPart m ∷ b) h = refl
never_meet (ToContent ∷ a) (ToField v m ∷ b) h = refl
never_meet (ToContent ∷ a) (ToContent ∷ b) h = never_meet a b h

module _ (ks : List ℕ) where
  abbrev local : ℕ → ℕ
  local = local_among ks

  -- keys that differ have locals that do
  pub locals_differ : (a b : ℕ) → (a ≡ b → false ≡ true) → (local a == local b) ≡ false
  locals_differ a b f = by (local a == local b) refl
    where
      by : (c : Bool) → (local a == local b) ≡ c → c ≡ false
      by false e = refl
      by true e = absurd (false≢true (f (one_key ks a b ((Decides-eqb (local a) (local b)).0 e))))

  -- so places do not, which do not overlap as they are seen
  pub begin_apart : (a b : AccessPlace) (p q : Place) → Seen a p → Seen b q → rules.overlap a b ≡ false →
      ((place_at local p).local == (place_at local q).local
      && begin_alike (seen (place_at local p).steps) (seen (place_at local q).steps)) ≡ false
  begin_apart a b p q s t h = by (local p.local == local q.local) refl
    where
      same_key : (local p.local == local q.local) ≡ true → (a.key == b.key) ≡ true
      same_key e = (Decides-eqb a.key b.key).1
          (s.key_is ∙ one_key ks p.local q.local ((Decides-eqb (local p.local) (local q.local)).0 e) ∙ sym t.key_is)

      steps_apart : (a.key == b.key) ≡ true → begin_alike (seen p.steps) (seen q.steps) ≡ false
      steps_apart e = ap (λ l. begin_alike l (seen q.steps)) (sym s.steps_are)
          ∙ ap (λ l. begin_alike a.steps l) (sym t.steps_are)
          ∙ ap (λ c. c && begin_alike a.steps b.steps) (sym e) ∙ h

      by : (c : Bool) → (local p.local == local q.local) ≡ c →
          (c && begin_alike (seen (map (step_at local) p.steps)) (seen (map (step_at local) q.steps))) ≡ false
      by false e = refl
      by true e = ap (λ l. begin_alike l (seen (map (step_at local) q.steps))) (seen_at local p.steps)
          ∙ ap (begin_alike (seen p.steps)) (seen_at local q.steps) ∙ steps_apart (same_key e)

  -- and have no part in common
  pub none_common : (a b : AccessPlace) (p q : Place) → Seen a p → Seen b q → rules.overlap a b ≡ false →
      checks.overlap (place_at local p) (place_at local q) ≡ false
  none_common a b p q s t h = by (local p.local == local q.local) (begin_apart a b p q s t h)
    where
      by : (c : Bool) → (c && begin_alike (seen (map (step_at local) p.steps)) (seen (map (step_at local) q.steps)))
          ≡ false → (c && meet (map (step_at local) p.steps) (map (step_at local) q.steps)) ≡ false
      by false e = refl
      by true e = never_meet (map (step_at local) p.steps) (map (step_at local) q.steps) e
