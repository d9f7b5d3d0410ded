use Rattle.std.proofs.Common.{◌≡◌, Some, drop}
use Rattle.src_tree.specs.Table.{rest_of}
use Rattle.src_tree.specs.View.{parts_in}
use Rattle.src_tree.specs.Checking.{follows}
use Rattle.src_tree.proofs.levels.+levelled.Given as goal

abbrev pub invariant-follows-loop-piece : goal.invariant-follows-loop-piece
invariant-follows-loop-piece l =
    follows l.head (Some (rest_of l.point)) l.row (parts_in (drop l.piece-index l.pieces))
    ≡ follows l.head (Some (rest_of l.initial.point)) l.row (parts_in l.pieces)
