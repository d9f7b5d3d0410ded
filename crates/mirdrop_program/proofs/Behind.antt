-- Texts that are put one behind another.
use Rattle.std.proofs.Common.{◌≡◌, ◌∙◌, ◌++◌, ap, sym, ℕ, List}
use Rattle.std.proofs.lemmas.List.{append_assoc}

pub two : (old a w mid new : List ℕ) → mid ≡ old ++ a → new ≡ mid ++ w → new ≡ old ++ (a ++ w)
two old a w mid new first last = last ∙ ap (λ (x : List ℕ). x ++ w) first ∙ append_assoc old a w

pub three : (old a b c w first second new : List ℕ) → first ≡ old ++ a → second ≡ first ++ (b ++ c) → new ≡ second ++ w →
    new ≡ old ++ (a ++ b ++ c ++ w)
three old a b c w first second new one other last =
    two old (a ++ (b ++ c)) w second new (two old a (b ++ c) first second one other) last
    ∙ ap (λ (x : List ℕ). old ++ (x ++ w)) (sym (append_assoc a b c))
