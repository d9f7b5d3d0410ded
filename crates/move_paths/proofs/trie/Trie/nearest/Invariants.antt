use Rattle.std.proofs.Common.{◌≡◌, Some, slice_get}
use Rattle.cfg_graph.specs.Places.{named}
use Rattle.move_paths.specs.Trie.{places, upto}
use Rattle.move_paths.proofs.trie.Trie.nearest.Given as goal

abbrev pub invariant-loop-step : goal.invariant-loop-step
invariant-loop-step l =
    (slice_get (places l.self-inside.locals l.self-inside.parts) l.path ≡ Some (upto l.step-index (named l.place))) × (l.depth ≡ l.step-index)
