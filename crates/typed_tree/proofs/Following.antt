-- What is found of one more member of a list is put behind what was found before.
use Rattle.std.proofs.Common.{◌≡◌, ◌∙◌, ◌∷◌, ◌++◌, ◌+◌, ◌<◌, ℕ, List, drop, length, refl, sym, ap, append_assoc}
use Rattle.std.proofs.lemmas.List.{at_drop_more}
use Rattle.std.specs.Prelude.{get_or}

pub one_more : {X Y : Type 0} (F : List X → List Y) (part : X → List Y) (xs : List X) (i : ℕ) (d : X) (before new all : List Y) → ((x : X) (rest : List X) → F (x ∷ rest) ≡ part x ++ F rest) → i < length xs → d ≡ get_or xs i d → new ≡ before ++ part d → before ++ F (drop i xs) ≡ all → new ++ F (drop (i + 1) xs) ≡ all
one_more F part xs i d before new all cons less is is_new so_far =
    let first : F (drop i xs) ≡ part d ++ F (drop (i + 1) xs) =
    at_drop_more F xs i d less ∙ cons (get_or xs i d) (drop (i + 1) xs)
    ∙ ap (λ x. part x ++ F (drop (i + 1) xs)) (sym is) in
    ap (λ (l : List _). l ++ F (drop (i + 1) xs)) is_new
    ∙ append_assoc before (part d) (F (drop (i + 1) xs))
    ∙ ap (λ (l : List _). before ++ l) (sym first)
    ∙ so_far

-- what is found in several calls, one behind the other
pub two_behind : {Y : Type 0} (old first new a b all : List Y) → first ≡ old ++ a → all ≡ a ++ b → new ≡ first ++ b → new ≡ old ++ all
two_behind old first new a b all is_first is_all is_new =
    is_new ∙ ap (λ (l : List _). l ++ b) is_first ∙ append_assoc old a b ∙ ap (λ (l : List _). old ++ l) (sym is_all)

pub three_behind : {Y : Type 0} (old first second new a b d all : List Y) → first ≡ old ++ a → second ≡ first ++ b → all ≡ a ++ b ++ d → new ≡ second ++ d → new ≡ old ++ all
three_behind old first second new a b d all is_first is_second is_all is_new =
    two_behind old second new (a ++ b) d all (two_behind old first second a b (a ++ b) is_first refl is_second) is_all is_new

pub four_behind : {Y : Type 0} (old first second third new a b d e all : List Y) → first ≡ old ++ a → second ≡ first ++ b → third ≡ second ++ d → all ≡ a ++ b ++ d ++ e → new ≡ third ++ e → new ≡ old ++ all
four_behind old first second third new a b d e all is_first is_second is_third is_all is_new =
    two_behind old third new (a ++ b ++ d) e all (three_behind old first second third a b d (a ++ b ++ d) is_first is_second refl is_third) is_all is_new
