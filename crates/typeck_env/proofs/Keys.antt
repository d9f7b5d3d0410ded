-- Keys of entries by their numbers.
use Rattle.std.proofs.Common.{◌≡◌, ℕ, ◌||◌, ◌==◌, List, [], ◌∷◌, refl, ap}
use Rattle.std.specs.List.{list_any}
use Rattle.typing_rules.specs.Places.{is_any}
use Rattle.typeck_env.specs.Scope.{keys_of}
use Rattle.mir_base.specs.declared.place_in_text.Key.{Key}

pub any_key : (key : ℕ) (keys : List Key) → list_any (λ (k : Key). key == k.0) keys ≡ is_any key (keys_of keys)
any_key key [] = refl
any_key key (k ∷ keys) = ap (λ b. key == k.0 || b) (any_key key keys)
