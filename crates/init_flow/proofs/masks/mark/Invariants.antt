use Rattle.std.proofs.Common.{◌≡◌, ℕ, suc, length, Option, Some, None}
use Rattle.init_flow.specs.Marks.{masks_from}
use Rattle.init_flow.proofs.Marking.{Marking}
use Rattle.init_flow.proofs.masks.mark.Given as goal

abbrev left : Option ℕ → ℕ
left None = 0
left (Some of) = suc of

abbrev pub invariant-loop-at : goal.invariant-loop-at
invariant-loop-at l =
    (length l.rows ≡ l.bits) × Marking l.forest.paths (masks_from l.bits 0 l.initial.rows) (masks_from l.bits 0 l.rows) l.path l.at

abbrev pub decreases-loop-at : goal.decreases-loop-at
decreases-loop-at l = left l.at
