-- Three pieces that are put behind a text, one behind another.
use Rattle.std.proofs.Common.{◌≡◌, ◌∙◌, ◌++◌, ℕ, List, ap, append_assoc}

pub three_put : (old one two now first second third : List ℕ) → one ≡ old ++ first → two ≡ one ++ second → now ≡ two ++ third →
    now ≡ old ++ (first ++ second ++ third)
three_put old one two now first second third a b c =
    c ∙ ap (λ (l : List ℕ). l ++ third) (b ∙ ap (λ (l : List ℕ). l ++ second) a ∙ append_assoc old first second)
    ∙ append_assoc old (first ++ second) third
