-- A place that is known as whole stays so where something is taken from, or stored into, a place that does not
-- overlap it by the rule of borrows: so does a place that an earlier argument names, while later arguments are made.
use Rattle.std.proofs.Common.{◌≡◌, ◌&&◌, not, Bool, true, false, List, [], ◌∷◌, refl, ap, sym, ◌∙◌, subst}
use Rattle.std.proofs.lemmas.Bool.{false≢true}
use Rattle.mir_ty.specs.ItemTable.{ItemTable}
use Rattle.store_model.specs.Places.Place.{Step, ToPart, ToField, ToContent, ToElement, same_step}
use Rattle.store_model.specs.Abstract.Presence.{Presence, presence_at, presence_along, itself_gone, changed_at, after_action, all_present, containers_present, is_whole_at}
use Rattle.typing_rules.specs.Accesses.{begin_alike}
use Rattle.soundness_values.proofs.Fits.{known_same, known_other, itself_same}
use Rattle.soundness_values.proofs.Steps.{itself, step_same, step_itself, steps_apart}
use Rattle.soundness_values.proofs.NoOverlap.{seen}

-- steps that do not begin alike, after a common one
after_common : (x : Step) (s t : List Step) → begin_alike (seen (x ∷ s)) (seen (x ∷ t)) ≡ false →
    begin_alike (seen s) (seen t) ≡ false
after_common (ToPart n) s t h = ap (λ b. b && begin_alike (seen s) (seen t)) (sym (itself n)) ∙ h
after_common (ToField v n) s t h = ap (λ b. b && begin_alike (seen s) (seen t)) (sym (itself n)) ∙ h
after_common ToContent s t h = h
after_common (ToElement i) s t h = absurd (false≢true (sym h))

nothing_alike : (s : List Step) → begin_alike (seen s) [] ≡ false → ⊥
nothing_alike [] h = false≢true (sym h)
nothing_alike (ToPart n ∷ s) h = false≢true (sym h)
nothing_alike (ToField v n ∷ s) h = false≢true (sym h)
nothing_alike (ToContent ∷ s) h = false≢true (sym h)
nothing_alike (ToElement i ∷ s) h = false≢true (sym h)

module _ (items : ItemTable) where
  pub whole_apart : (s t : List Step) (takes : Bool) (p : Presence) → begin_alike (seen s) (seen t) ≡ false →
      is_whole_at s (after_action takes t p) ≡ is_whole_at s p
  whole_apart [] t takes p h = absurd (false≢true (sym h))
  whole_apart (x ∷ s) [] takes p h = absurd (nothing_alike (x ∷ s) h)
  whole_apart (x ∷ s) (y ∷ t) takes p h =
      by (same_step x y) refl
      (λ same. whole_apart s t takes (presence_at x p)
      (after_common x s t (subst (λ z. begin_alike (seen (x ∷ s)) (seen (z ∷ t)) ≡ false) (sym same) h)))
    where
      changed : Presence
      changed = changed_at y (after_action takes t) p

      -- the part at which the step ends is another, or the same with a change in it
      onward : (q : Presence) → presence_at x changed ≡ q →
          is_whole_at (x ∷ s) changed
          ≡ ((not (itself_gone p) && containers_present s q) && all_present (presence_along s q))
      onward q e =
          ap (λ g. (not g && containers_present s (presence_at x changed)) && all_present
          (presence_along s (presence_at x changed))) (itself_same items y (after_action takes t) p)
          ∙ ap (λ r. (not (itself_gone p) && containers_present s r) && all_present (presence_along s r)) e

      regroup : (a b c d : Bool) → (b && c) ≡ d → ((a && b) && c) ≡ (a && d)
      regroup true b c d e = e
      regroup false b c d e = refl

      by : (b : Bool) → same_step x y ≡ b →
          (x ≡ y → is_whole_at s (after_action takes t (presence_at x p)) ≡ is_whole_at s (presence_at x p)) →
          is_whole_at (x ∷ s) changed ≡ is_whole_at (x ∷ s) p
      by true e later =
          let same : x ≡ y = step_same x y e in
          let there : presence_at x changed ≡ after_action takes t (presence_at x p) =
          subst (λ z. presence_at x (changed_at z (after_action takes t) p) ≡ after_action takes t (presence_at x p))
          same (known_same items x (after_action takes t) p (step_itself x)) in
          let q : Presence = after_action takes t (presence_at x p) in
          onward q there
          ∙ regroup (not (itself_gone p)) (containers_present s q) (all_present (presence_along s q))
          (is_whole_at s (presence_at x p)) (later same)
          ∙ sym (regroup (not (itself_gone p)) (containers_present s (presence_at x p))
          (all_present (presence_along s (presence_at x p))) (is_whole_at s (presence_at x p)) refl)
      by false e later = onward (presence_at x p)
          (known_other items x y (after_action takes t) p (steps_apart items x y e))
