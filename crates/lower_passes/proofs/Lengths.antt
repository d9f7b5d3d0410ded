-- Lengths of lists to which something is added.
use Rattle.std.proofs.Common.{◌≡◌, ◌++◌, ◌∷◌, suc, List, [], length, refl, ap}

pub length_push : {X : Type 0} (xs : List X) (x : X) → length (xs ++ x ∷ []) ≡ suc (length xs)
length_push [] x = refl
length_push (y ∷ xs) x = ap suc (length_push xs x)
