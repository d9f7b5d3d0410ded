use Rattle.std.proofs.Common.{◌≡◌, min, max, drop}
use Rattle.src_tree.specs.Layout.{parts_depth}
use Rattle.src_tree.specs.View.{parts_in}
use Rattle.src_tree.proofs.nesting.+depth.Given as goal

abbrev pub invariant-pieces_depth-loop-piece : goal.invariant-pieces_depth-loop-piece
invariant-pieces_depth-loop-piece l =
    max l.deepest (min (parts_depth (parts_in (drop l.piece-index l.pieces))) 4294967295) ≡ min (parts_depth (parts_in l.pieces)) 4294967295
