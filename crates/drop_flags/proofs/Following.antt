-- What is added for one more element of a list stands behind what was added before.
use Rattle.std.proofs.Common.{◌≡◌, ◌∙◌, ◌∷◌, [], ◌++◌, ◌+◌, ◌<◌, ◌≤◌, ℕ, suc, List, drop, length, sym, ap, append_assoc, append-nil, arith}
use Rattle.std.proofs.lemmas.List.{at_drop_more, at_drop_all}
use Rattle.std.specs.Prelude.{get_or}

pub one_more :
    {X Y : Type 0} (F : List X → List Y) (part : X → List Y) (xs : List X) (i : ℕ) (d : X) (before new all : List Y) →
    ((x : X) (rest : List X) → F (x ∷ rest) ≡ part x ++ F rest) → i < length xs → d ≡ get_or xs i d →
    new ≡ before ++ part d → before ++ F (drop i xs) ≡ all → new ++ F (drop (i + 1) xs) ≡ all
one_more F part xs i d before new all cons less is is_new so_far =
    let first : F (drop i xs) ≡ part d ++ F (drop (i + 1) xs) =
    at_drop_more F xs i d less ∙ cons (get_or xs i d) (drop (i + 1) xs)
    ∙ ap (λ x. part x ++ F (drop (i + 1) xs)) (sym is) in
    ap (λ (l : List _). l ++ F (drop (i + 1) xs)) is_new
    ∙ append_assoc before (part d) (F (drop (i + 1) xs))
    ∙ ap (λ (l : List _). before ++ l) (sym first)
    ∙ so_far

-- by elements and numbers that go on with them
pub one_more_by :
    {X Y : Type 0} (F : List X → ℕ → List Y) (part : X → ℕ → List Y) (xs : List X) (i n : ℕ) (d : X)
    (before new all : List Y) → ((x : X) (rest : List X) (n : ℕ) → F (x ∷ rest) n ≡ part x n ++ F rest (suc n)) →
    i < length xs → d ≡ get_or xs i d → new ≡ before ++ part d n → before ++ F (drop i xs) n ≡ all →
    new ++ F (drop (i + 1) xs) (n + 1) ≡ all
one_more_by {X} {Y} F part xs i n d before new all cons less is is_new so_far =
    let next : n + 1 ≡ suc n = omega arith in
    let first : F (drop i xs) n ≡ part d n ++ F (drop (i + 1) xs) (suc n) =
    at_drop_more (λ (l : List X). F l n) xs i d less ∙ cons (get_or xs i d) (drop (i + 1) xs) n
    ∙ ap (λ (x : X). part x n ++ F (drop (i + 1) xs) (suc n)) (sym is) in
    ap (λ (m : ℕ). new ++ F (drop (i + 1) xs) m) next
    ∙ ap (λ (l : List Y). l ++ F (drop (i + 1) xs) (suc n)) is_new
    ∙ append_assoc before (part d n) (F (drop (i + 1) xs) (suc n))
    ∙ ap (λ (l : List Y). before ++ l) (sym first)
    ∙ so_far

-- nothing is left
pub none_left :
    {X Y : Type 0} (F : List X → List Y) (xs : List X) (i : ℕ) (now all : List Y) → F [] ≡ [] → length xs ≤ i →
    now ++ F (drop i xs) ≡ all → now ≡ all
none_left {X} {Y} F xs i now all none far so_far =
    sym (append-nil now) ∙ ap (λ (l : List Y). now ++ l) (sym none)
    ∙ ap (λ (l : List Y). now ++ l) (sym (at_drop_all F xs i far)) ∙ so_far
