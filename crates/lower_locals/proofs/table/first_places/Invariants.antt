use Rattle.std.proofs.Common.{◌≡◌, ◌==◌, ℕ, map, drop}
use Rattle.lower_locals.specs.Places.{found}
use Rattle.std.specs.List.{position_from}
use Rattle.lower_locals.specs.View.{key_of}
use Rattle.lower_locals.proofs.table.first_places.Given as goal

abbrev pub invariant-loop-number : goal.invariant-loop-number
invariant-loop-number l =
    (key : ℕ) → found l.places key ≡ position_from (λ k. k == key) l.number (map key_of (drop l.number l.locals))
