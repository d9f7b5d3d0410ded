use Rattle.std.proofs.Common.{◌≡◌, drop}
use Rattle.src_ast.specs.View.{tokens_in}
use Rattle.src_tree.specs.View.{parts_in}
use Rattle.src_ast.proofs.tokens.split_token.Given as goal

abbrev pub invariant-loop-i : goal.invariant-loop-i
invariant-loop-i l = tokens_in (parts_in l.pieces) ≡ tokens_in (parts_in (drop l.i l.pieces))
