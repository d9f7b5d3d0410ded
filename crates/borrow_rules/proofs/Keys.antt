-- Keys among bindings, and aliases by their keys.
use Rattle.std.proofs.Common.{◌≡◌, ℕ, ◌==◌, ◌||◌, false, List, [], ◌∷◌, Some, None, map, refl, ap}
use Rattle.std.specs.List.{list_any}
use Rattle.borrow_rules.specs.AccessView.{bound_in}
use Rattle.borrow_rules.specs.declared.bindings.BoundPart.{BoundPart}
use Rattle.typing_rules.specs.Accesses.{is_bound}

pub no_key : (bounds : List BoundPart) → is_bound None (map bound_in bounds) ≡ false
no_key [] = refl
no_key (b ∷ bs) = no_key bs

pub a_key : (key : ℕ) (bounds : List BoundPart) → is_bound (Some key) (map bound_in bounds) ≡ list_any (λ (b : BoundPart). b.key.0 == key) bounds
a_key key [] = refl
a_key key (b ∷ bs) = ap (λ r. (b.key.0 == key) || r) (a_key key bs)
