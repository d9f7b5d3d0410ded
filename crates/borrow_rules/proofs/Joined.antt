-- What is told in several calls, one behind the other.
use Rattle.std.proofs.Common.{◌≡◌, ◌++◌, ◌∷◌, ◌+◌, ◌<◌, ℕ, suc, List, drop, length, sym, ap, ◌∙◌, arith, append_assoc, append-nil}
use Rattle.std.proofs.lemmas.List.{at_drop_more}
use Rattle.std.specs.Prelude.{get_or}
use Rattle.mir_base.specs.declared.place_in_text.Pos.{Pos}
use Rattle.typing_rules.specs.Accesses.{Accessed, CollectedAccesses, quiet, ◌⊕◌}

abbrev told_by : List Accessed → List Pos → CollectedAccesses
told_by accesses conflicts = record { accesses = accesses; conflicts = conflicts }

pub assoc : (a b c : CollectedAccesses) → ((a ⊕ b) ⊕ c) ≡ (a ⊕ (b ⊕ c))
assoc a b c =
    ap (λ (l : List Accessed). told_by l ((a.conflicts ++ b.conflicts) ++ c.conflicts)) (append_assoc a.accesses b.accesses c.accesses)
    ∙ ap (λ (l : List Pos). told_by (a.accesses ++ (b.accesses ++ c.accesses)) l) (append_assoc a.conflicts b.conflicts c.conflicts)

pub with_quiet : (a : CollectedAccesses) → (a ⊕ quiet) ≡ a
with_quiet a =
    ap (λ (l : List Accessed). told_by l (a.conflicts ++ quiet.conflicts)) (append-nil a.accesses)
    ∙ ap (λ (l : List Pos). told_by a.accesses l) (append-nil a.conflicts)

pub one : (old a whole : CollectedAccesses) → whole ≡ a → (new : CollectedAccesses) → new ≡ (old ⊕ a) → new ≡ (old ⊕ whole)
one old a whole is new n = n ∙ ap (λ (t : CollectedAccesses). old ⊕ t) (sym is)

pub two : (old first a b whole : CollectedAccesses) → first ≡ (old ⊕ a) → whole ≡ (a ⊕ b) → (new : CollectedAccesses) → new ≡ (first ⊕ b) → new ≡ (old ⊕ whole)
two old first a b whole e is new n =
    n ∙ ap (λ (t : CollectedAccesses). t ⊕ b) e ∙ assoc old a b ∙ ap (λ (t : CollectedAccesses). old ⊕ t) (sym is)

pub three : (old first second a b c whole : CollectedAccesses) → first ≡ (old ⊕ a) → second ≡ (first ⊕ b) → whole ≡ (a ⊕ (b ⊕ c)) → (new : CollectedAccesses) → new ≡ (second ⊕ c) → new ≡ (old ⊕ whole)
three old first second a b c whole e f is new n =
    two old first a (b ⊕ c) whole e is new (n ∙ ap (λ (t : CollectedAccesses). t ⊕ c) f ∙ assoc first b c)

pub four : (old first second third a b c d whole : CollectedAccesses) → first ≡ (old ⊕ a) → second ≡ (first ⊕ b) → third ≡ (second ⊕ c) → whole ≡ (a ⊕ (b ⊕ (c ⊕ d))) → (new : CollectedAccesses) → new ≡ (third ⊕ d) → new ≡ (old ⊕ whole)
four old first second third a b c d whole e f g is new n =
    three old first second a b (c ⊕ d) whole e f is new (n ∙ ap (λ (t : CollectedAccesses). t ⊕ d) g ∙ assoc second c d)

-- what a loop tells of one more member, behind what it told before
pub one_more : {X : Type 0} (F : List X → CollectedAccesses) (part : X → CollectedAccesses) (xs : List X) (i : ℕ) (d : X) (before new all : CollectedAccesses) → ((x : X) (rest : List X) → F (x ∷ rest) ≡ (part x ⊕ F rest)) → i < length xs → d ≡ get_or xs i d → new ≡ (before ⊕ part d) → (before ⊕ F (drop i xs)) ≡ all → (new ⊕ F (drop (i + 1) xs)) ≡ all
one_more F part xs i d before new all cons less is is_new so_far =
    let first : F (drop i xs) ≡ (part d ⊕ F (drop (i + 1) xs)) =
    at_drop_more F xs i d less ∙ cons (get_or xs i d) (drop (i + 1) xs)
    ∙ ap (λ x. part x ⊕ F (drop (i + 1) xs)) (sym is) in
    ap (λ (t : CollectedAccesses). t ⊕ F (drop (i + 1) xs)) is_new
    ∙ assoc before (part d) (F (drop (i + 1) xs))
    ∙ ap (λ (t : CollectedAccesses). before ⊕ t) (sym first)
    ∙ so_far

-- and what it lists of one more member, by its number
pub one_more_listed : {X Y : Type 0} (F : ℕ → List X → List Y) (part : ℕ → X → List Y) (xs : List X) (i : ℕ) (d : X) (before new all : List Y) → ((k : ℕ) (x : X) (rest : List X) → F k (x ∷ rest) ≡ part k x ++ F (suc k) rest) → i < length xs → d ≡ get_or xs i d → new ≡ before ++ part i d → before ++ F i (drop i xs) ≡ all → new ++ F (i + 1) (drop (i + 1) xs) ≡ all
one_more_listed F part xs i d before new all cons less is is_new so_far =
    let next : suc i ≡ i + 1 = omega arith in
    let first : F i (drop i xs) ≡ part i d ++ F (i + 1) (drop (i + 1) xs) =
    at_drop_more (F i) xs i d less ∙ cons i (get_or xs i d) (drop (i + 1) xs)
    ∙ ap (λ x. part i x ++ F (suc i) (drop (i + 1) xs)) (sym is)
    ∙ ap (λ (k : ℕ). part i d ++ F k (drop (i + 1) xs)) next in
    ap (λ (l : List _). l ++ F (i + 1) (drop (i + 1) xs)) is_new
    ∙ append_assoc before (part i d) (F (i + 1) (drop (i + 1) xs))
    ∙ ap (λ (l : List _). before ++ l) (sym first)
    ∙ so_far
