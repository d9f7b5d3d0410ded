-- Bindings of a pattern, inside the guard of their arm and behind it.
use Rattle.std.proofs.Common.{◌≡◌, true, false, List, [], ◌∷◌, refl, ap}
use Rattle.typing_rules.specs.Scope.{NamedEntry, guarded, in_guard}
use Rattle.typeck_checker.specs.Scopes.{bound_in}

pub plain_same : (xs : List NamedEntry) → bound_in false xs ≡ xs
plain_same [] = refl
plain_same (x ∷ xs) = ap (λ (ys : List NamedEntry). x ∷ ys) (plain_same xs)

pub guarded_same : (xs : List NamedEntry) → bound_in true xs ≡ in_guard xs
guarded_same [] = refl
guarded_same (x ∷ xs) = ap (λ (ys : List NamedEntry). record x { meaning = guarded x.meaning } ∷ ys) (guarded_same xs)
