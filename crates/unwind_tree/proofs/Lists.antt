-- Lists that are gone over from their last member to their first.
use Rattle.std.proofs.Common.{◌≡◌, ◌∙◌, ◌∷◌, ◌++◌, ◌+◌, ◌<◌, ℕ, List, drop, length, sym, ap, append_assoc}
use Rattle.std.proofs.lemmas.List.{at_drop_more}
use Rattle.std.specs.Prelude.{get_or}

-- what is put behind others for one more member
pub one_earlier : {X Y : Type 0} (F : List X → List Y) (part : X → List Y) (xs : List X) (n m : ℕ) (d : X) (start before new : List Y) → ((x : X) (rest : List X) → F (x ∷ rest) ≡ F rest ++ part x) → m + 1 ≡ n → m < length xs → before ≡ start ++ F (drop n xs) → new ≡ before ++ part (get_or xs m d) → new ≡ start ++ F (drop m xs)
one_earlier F part xs n m d start before new cons is_next less so_far is_new =
    is_new ∙ ap (λ (l : List _). l ++ part (get_or xs m d)) (so_far ∙ ap (λ k. start ++ F (drop k xs)) (sym is_next))
    ∙ append_assoc start (F (drop (m + 1) xs)) (part (get_or xs m d))
    ∙ ap (λ (l : List _). start ++ l) (sym (at_drop_more F xs m d less ∙ cons (get_or xs m d) (drop (m + 1) xs)))
