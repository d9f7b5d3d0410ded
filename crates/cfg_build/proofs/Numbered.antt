-- What is found of one more member of a list, by its number, is put behind what was found before.
use Rattle.std.proofs.Common.{◌≡◌, ◌∙◌, ◌∷◌, ◌++◌, ◌+◌, ◌<◌, ℕ, List, drop, length, sym, ap, append_assoc}
use Rattle.std.proofs.lemmas.List.{at_drop_more}
use Rattle.std.specs.Prelude.{get_or}

pub numbered_more : {X Y : Type 0} (F : ℕ → List X → List Y) (part : ℕ → X → List Y) (xs : List X) (i : ℕ) (d : X) (before new all : List Y) → ((k : ℕ) (x : X) (rest : List X) → F k (x ∷ rest) ≡ part k x ++ F (k + 1) rest) → i < length xs → d ≡ get_or xs i d → new ≡ before ++ part i d → before ++ F i (drop i xs) ≡ all → new ++ F (i + 1) (drop (i + 1) xs) ≡ all
numbered_more F part xs i d before new all cons less is is_new so_far =
    let first : F i (drop i xs) ≡ part i d ++ F (i + 1) (drop (i + 1) xs) =
    at_drop_more (F i) xs i d less ∙ cons i (get_or xs i d) (drop (i + 1) xs)
    ∙ ap (λ x. part i x ++ F (i + 1) (drop (i + 1) xs)) (sym is) in
    ap (λ (l : List _). l ++ F (i + 1) (drop (i + 1) xs)) is_new
    ∙ append_assoc before (part i d) (F (i + 1) (drop (i + 1) xs))
    ∙ ap (λ (l : List _). before ++ l) (sym first)
    ∙ so_far
