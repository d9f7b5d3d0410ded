-- Lists up to a place, and lists of one element.
use Rattle.std.proofs.Common.{◌≡◌, ℕ, suc, ◌+◌, ◌<◌, List, [], ◌∷◌, ◌++◌, get_or, length, min, replicate, take, ap, sym, ◌∙◌, arith}
use Rattle.std.proofs.Math.Seq.{take-suc}
use Rattle.std.proofs.lemmas.List.{length-replicate, take-replicate, take_min}

pub take_next : {X : Type 0} (xs : List X) (n : ℕ) (d : X) → n < length xs → take (n + 1) xs ≡ take n xs ++ get_or xs n d ∷ []
take_next xs n d below =
    (let k : n + 1 ≡ suc n = omega arith in ap (λ (m : ℕ). take m xs) k) ∙ take-suc xs n d below

pub few_alike : {X : Type 0} (few n : ℕ) (x : X) → take few (replicate n x) ≡ replicate (min few n) x
few_alike few n x =
    sym (take_min few (replicate n x)) ∙ ap (λ (m : ℕ). take (min few m) (replicate n x)) (length-replicate n x)
    ∙ take-replicate (min few n) n x (omega arith)
