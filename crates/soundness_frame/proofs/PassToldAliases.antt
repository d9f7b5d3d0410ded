-- The bindings of guards, with those of one guard more: what is no such binding stands for its own local.
use Rattle.std.proofs.Common.{◌≡◌, ◌⊎◌, inl, inr, ℕ, ◌==◌, ◌||◌, Bool, true, false, List, [], ◌∷◌, Option, Some, if◌then◌else◌, refl, ap, sym, ◌∙◌, subst}
use Rattle.std.proofs.lemmas.Bool.{false≢true}
use Rattle.store_model.specs.Places.Place.{Place, whole_local}
use Rattle.src_meaning.specs.Forms as forms
use Rattle.src_meaning.specs.Shape as shapes
use Rattle.src_meaning.specs.Shape.{BoundName}
use Rattle.typing_rules.specs.Accesses as rules
use Rattle.typing_rules.specs.Accesses.{Accessed}
use Rattle.soundness_frame.proofs.PassToldPatterns.{Alike, same_order}
use Rattle.soundness_frame.proofs.PassToldPlaces.{is_alias}

-- a binding is one of these, or was one before
pub alias_with : (bounds : List (ℕ × Accessed)) (aliases : rules.Aliases) (key : ℕ) →
    is_alias (rules.aliases_with bounds aliases) key ≡ true →
    (rules.is_bound (Some key) bounds ≡ true) ⊎ (is_alias aliases key ≡ true)
alias_with [] aliases key u = inr u
alias_with (b ∷ bounds) aliases key u = by (b.0 == key) u (λ v. alias_with bounds aliases key v)
  where
    by : (c : Bool) → (c || is_alias (rules.aliases_with bounds aliases) key) ≡ true →
        (is_alias (rules.aliases_with bounds aliases) key ≡ true →
        (rules.is_bound (Some key) bounds ≡ true) ⊎ (is_alias aliases key ≡ true)) →
        ((c || rules.is_bound (Some key) bounds) ≡ true) ⊎ (is_alias aliases key ≡ true)
    by true u later = inl refl
    by false u later = later u

-- what is none stands for its own local
pub plain_with : (bounds : List (ℕ × Accessed)) (names : List BoundName) (aliases : rules.Aliases)
    (places : shapes.Aliases) → Alike bounds names →
    ((key : ℕ) → is_alias aliases key ≡ false → shapes.place_of_key key places ≡ whole_local key) → (key : ℕ) →
    is_alias (rules.aliases_with bounds aliases) key ≡ false →
    shapes.place_of_key key (forms.aliases_with names places) ≡ whole_local key
plain_with [] [] aliases places a p key e = p key e
plain_with [] (n ∷ names) aliases places a p key e = absurd a
plain_with (b ∷ bounds) [] aliases places a p key e = absurd a
plain_with (b ∷ bounds) (n ∷ names) aliases places a p key e =
    subst (λ d. (if d then n.site.place else shapes.place_of_key key (forms.aliases_with names places)) ≡ whole_local
    key)
    (same_order b.0 key ∙ ap (λ k. key == k) a.0.0)
    (by (b.0 == key) e (λ f. plain_with bounds names aliases places a.1 p key f))
  where
    by : (c : Bool) → (c || is_alias (rules.aliases_with bounds aliases) key) ≡ false →
        (is_alias (rules.aliases_with bounds aliases) key ≡ false →
        shapes.place_of_key key (forms.aliases_with names places) ≡ whole_local key) →
        (if c then n.site.place else shapes.place_of_key key (forms.aliases_with names places)) ≡ whole_local key
    by true e later = absurd (false≢true (sym e))
    by false e later = later e
