-- Texts are equal where their bytes are.
use Rattle.std.proofs.Common.{◌≡◌, ℕ, ◌&&◌, nat_eq, List, [], ◌∷◌, refl, ap}
use Rattle.std.specs.Cmp.Lexicographic.{pointwise}
use Rattle.src_tree.specs.Grammar.{is_text}

pub texts : (a b : List ℕ) → pointwise nat_eq a b ≡ is_text a b
texts [] [] = refl
texts [] (y ∷ b) = refl
texts (x ∷ a) [] = refl
texts (x ∷ a) (y ∷ b) = ap (λ z. nat_eq x y && z) (texts a b)
