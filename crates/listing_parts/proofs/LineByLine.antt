-- Words, and lines of words, at the front of a text.
use Rattle.std.proofs.Common.{◌≡◌, ℕ, Bool, true, false, nat_eq, List, [], ◌∷◌, ◌++◌, Some, refl, sym, ◌∙◌, eqb-true}
use Rattle.std.proofs.lemmas.Bool.{eq-eqb}
use Rattle.std.proofs.lemmas.Option.{none-some, same_Some}
use Rattle.listing_write.specs.Lists.{line}
use Rattle.listing_write.specs.Reading.Words.{bind, strip}
use Rattle.listing_parts.specs.LinesFound.{behind_line}

pub strip_append : (v w t : List ℕ) → strip (v ++ w) t ≡ bind (strip v t) (strip w)
strip_append [] w t = refl
strip_append (a ∷ v) w [] = refl
strip_append (a ∷ v) w (b ∷ bs) = by (strip_append v w bs) (nat_eq a b) refl
  where
    by : strip (v ++ w) bs ≡ bind (strip v bs) (strip w) → (c : Bool) → nat_eq a b ≡ c → strip ((a ∷ v) ++ w) (b ∷ bs) ≡ bind (strip (a ∷ v) (b ∷ bs)) (strip w)
    by more true e = rw e more
    by more false e = rw e refl

-- what is behind a word, and the word before it, are the text
pub strip_sound : (w t r : List ℕ) → strip w t ≡ Some r → t ≡ w ++ r
strip_sound [] t r h = same_Some t r h
strip_sound (a ∷ w) [] r h = absurd (none-some r h)
strip_sound (a ∷ w) (b ∷ bs) r h = by (λ k. strip_sound w bs r k) (nat_eq a b) refl
  where
    by : (strip w bs ≡ Some r → bs ≡ w ++ r) → (c : Bool) → nat_eq a b ≡ c → b ∷ bs ≡ (a ∷ w) ++ r
    by more true e = let rest = more (rw e at h) in (λ i. sym (eqb-true a b e) i ∷ rest i)
    by more false e = absurd (none-some r (rw e at h))

pub strip_whole : (w r : List ℕ) → strip w (w ++ r) ≡ Some r
strip_whole [] r = refl
strip_whole (a ∷ w) r = rw (eq-eqb a a refl) (strip_whole w r)

pub line_sound : (w t r : List ℕ) → behind_line w t ≡ Some r → t ≡ line w ++ r
line_sound w t r h = strip_sound (line w) t r (strip_append w (10 ∷ []) t ∙ h)
