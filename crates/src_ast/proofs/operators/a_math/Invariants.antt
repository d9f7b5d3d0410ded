use Rattle.std.proofs.Common.{◌≡◌, drop}
use Rattle.src_ast.specs.View.{first_that, math_in, tokens_in}
use Rattle.src_tree.specs.View.{parts_in}
use Rattle.src_ast.proofs.operators.a_math.Given as goal

abbrev pub invariant-loop-piece : goal.invariant-loop-piece
invariant-loop-piece l =
    first_that math_in (tokens_in (parts_in l.pieces)) ≡ first_that math_in (tokens_in (parts_in (drop l.piece-index l.pieces)))
