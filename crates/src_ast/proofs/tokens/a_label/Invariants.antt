use Rattle.std.proofs.Common.{◌≡◌, drop}
use Rattle.src_ast.specs.View as seen
use Rattle.src_ast.specs.View.{tokens_in}
use Rattle.src_tree.specs.View.{parts_in}
use Rattle.src_ast.proofs.tokens.a_label.Given as goal

abbrev pub invariant-loop-piece : goal.invariant-loop-piece
invariant-loop-piece l =
    seen.a_label (tokens_in (parts_in l.pieces)) ≡ seen.a_label (tokens_in (parts_in (drop l.piece-index l.pieces)))
