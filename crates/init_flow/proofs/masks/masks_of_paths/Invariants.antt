use Rattle.std.proofs.Common.{◌≡◌, length}
use Rattle.init_flow.specs.Marks.{masks_from}
use Rattle.init_flow.proofs.Marking.{Marked}
use Rattle.init_flow.proofs.masks.masks_of_paths.Given as goal

abbrev pub invariant-loop-path : goal.invariant-loop-path
invariant-loop-path l = (length l.rows ≡ l.bits) × Marked l.forest.paths (masks_from l.bits 0 l.rows) l.path
