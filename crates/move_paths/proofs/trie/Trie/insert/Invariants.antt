use Rattle.std.proofs.Common.{◌≡◌, ◌↔◌, ◌⊎◌, ℕ, true, Some, slice_get, Contains}
use Rattle.store_model.specs.Places.Place.{Place}
use Rattle.cfg_graph.specs.Places.{named}
use Rattle.cfg_graph.specs.Moves.Gone.{is_at_or_above}
use Rattle.move_paths.specs.Trie.{upto}
use Rattle.move_paths.proofs.trie.Trie.insert.Given as goal

abbrev pub invariant-loop-step : goal.invariant-loop-step
invariant-loop-step l =
    (slice_get l.self l.path ≡ Some (upto l.step-index (named l.place)))
    × ((n : ℕ) (q : Place) → slice_get l.initial.self n ≡ Some q → slice_get l.self n ≡ Some q)
    × ((q : Place) → Contains l.self q ↔ (Contains l.initial.self q ⊎ (is_at_or_above q (upto l.step-index (named l.place)) ≡ true)))
