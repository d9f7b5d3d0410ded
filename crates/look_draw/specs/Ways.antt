-- The ways out of a terminator as lists of blocks.
use Rattle.std.specs.Prelude.{ℕ, List, [], ◌∷◌}
use Rattle.cfg_graph.specs.declared.terminator.Unwind.{Unwind}
use Rattle.cfg_graph.specs.Edges.{unwind_block}
use Rattle.look_draw.specs.declared.drawings.Ways.{Ways}

abbrev pub targets_of : Ways → List ℕ
targets_of Ways.Nowhere = []
targets_of (Ways.To block) = block ∷ []
targets_of (Ways.Either first second) = first ∷ second ∷ []

abbrev pub target_of : Unwind → List ℕ
target_of unwind = unwind_block unwind
