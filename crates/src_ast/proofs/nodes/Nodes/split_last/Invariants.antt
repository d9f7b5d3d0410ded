use Rattle.std.proofs.Common.{◌≡◌, ◌≤◌, length, take}
use Rattle.src_ast.specs.View.{views}
use Rattle.src_tree.specs.View.{parts_in}
use Rattle.src_ast.proofs.nodes.Nodes.split_last.Given as goal

abbrev pub invariant-loop-left : goal.invariant-loop-left
invariant-loop-left l =
    (views (parts_in l.pieces) ≡ views (parts_in (take l.left l.pieces))) × (l.left ≤ length l.pieces)

abbrev pub decreases-loop-left : goal.decreases-loop-left
decreases-loop-left l = l.left
