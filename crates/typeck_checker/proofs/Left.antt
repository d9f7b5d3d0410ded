-- Variables that went out of scope.
use Rattle.std.proofs.Common.{◌≡◌, ℕ, suc, ◌+◌, ◌-◌, ◌≤◌, Bool, List, [], ◌∷◌, ◌++◌, drop, take, length, Some, slice_get, refl, ap, sym, ◌∙◌, arith}
use Rattle.std.proofs.Math.Seq.{take-suc}
use Rattle.std.proofs.lemmas.List.{map_push}
use Rattle.std.proofs.lemmas.Option.{slice_get_within, get_or_from_slice_get}
use Rattle.typing_rules.specs.Scope.{Env, NamedEntry, joined, with_variables}
use Rattle.typeck_checker.specs.Scopes.{bound_in, entry_in_guard, with_entry, with_only, without_youngest}
use Rattle.typeck_env.proofs.Slots.{one_more_left}

-- one more of the youngest
pub left_one : (e f g : Env) (n to : ℕ) → to ≤ n → f ≡ record e { variables = drop (n - to) e.variables } → g ≡ without_youngest f →
    g ≡ record e { variables = drop (n + 1 - to) e.variables }
left_one e f g n to h is next =
    next ∙ ap without_youngest is
    ∙ ap (λ xs. record e { variables = xs }) (one_more_left (n - to) e.variables ∙ ap (λ k. drop k e.variables) (let k : suc (n - to) ≡ n + 1 - to = omega (arith, h) in k))

joined_length : (xs old : List NamedEntry) → length (joined xs old) ≡ length xs + length old
joined_length [] old = let none : List NamedEntry = [] in let k : length old ≡ length none + length old = omega arith in k
joined_length (x ∷ xs) old = joined_length xs (x ∷ old) ∙ (let k : length xs + length (x ∷ old) ≡ length (x ∷ xs) + length old = omega arith in k)

joined_rest : (xs old : List NamedEntry) → drop (length xs) (joined xs old) ≡ old
joined_rest [] old = refl
joined_rest (x ∷ xs) old =
    sym (one_more_left (length xs) (joined xs (x ∷ old))) ∙ ap (drop 1) (joined_rest xs (x ∷ old))

-- what was entered is left
pub leaves : (xs : List NamedEntry) (e : Env) → with_only (length e.variables) (with_variables xs e) ≡ e
leaves xs e =
    ap (λ vs. record e { variables = vs })
    (ap (λ k. drop k (joined xs e.variables)) (let k : length (joined xs e.variables) - length e.variables ≡ length xs = omega (arith, joined_length xs e.variables) in k)
    ∙ joined_rest xs e.variables)

-- ---- one binding more is entered

joined_last : (xs old : List NamedEntry) (x : NamedEntry) → joined (xs ++ x ∷ []) old ≡ x ∷ joined xs old
joined_last [] old x = refl
joined_last (y ∷ ys) old x = joined_last ys (y ∷ old) x

one_more : (xs : List NamedEntry) (n : ℕ) (x : NamedEntry) → slice_get xs n ≡ Some x → take (n + 1) xs ≡ take n xs ++ x ∷ []
one_more xs n x at =
    (let k : n + 1 ≡ suc n = omega arith in ap (λ (m : ℕ). take m xs) k)
    ∙ take-suc xs n x (slice_get_within xs n x at) ∙ ap (λ y. take n xs ++ y ∷ []) (get_or_from_slice_get xs n x x at)

pub enters_one : (within : Bool) (e f g : Env) (xs : List NamedEntry) (n : ℕ) (x : NamedEntry) → slice_get xs n ≡ Some x →
    f ≡ with_variables (bound_in within (take n xs)) e → g ≡ with_entry (entry_in_guard within x) f → g ≡ with_variables (bound_in within (take (n + 1) xs)) e
enters_one within e f g xs n x at is next =
    next ∙ ap (with_entry (entry_in_guard within x)) is
    ∙ ap (λ (vs : List NamedEntry). record e { variables = vs })
    (sym (joined_last (bound_in within (take n xs)) e.variables (entry_in_guard within x))
    ∙ ap (λ (ys : List NamedEntry). joined ys e.variables) (sym (map_push (entry_in_guard within) (take n xs) x) ∙ ap (bound_in within) (sym (one_more xs n x at))))
