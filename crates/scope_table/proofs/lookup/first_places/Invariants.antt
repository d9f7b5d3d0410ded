use Rattle.std.proofs.Common.{◌≡◌, ◌==◌, ℕ, nat_eq, map, drop}
use Rattle.std.specs.HashMap.{get}
use Rattle.std.specs.List.{position_from}
use Rattle.scope_table.specs.Lookup.{node_of}
use Rattle.scope_table.proofs.lookup.first_places.Given as goal

abbrev pub invariant-loop-number : goal.invariant-loop-number
invariant-loop-number l =
    (id : ℕ) → get nat_eq l.places id ≡ position_from (λ k. k == id) l.number (map node_of (drop l.number l.rows))
