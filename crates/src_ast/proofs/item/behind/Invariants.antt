use Rattle.std.proofs.Common.{◌≡◌, drop}
use Rattle.src_ast.specs.View.{behind_word, tokens_in}
use Rattle.src_tree.specs.View.{parts_in}
use Rattle.src_ast.proofs.item.behind.Given as goal

abbrev pub invariant-loop-i : goal.invariant-loop-i
invariant-loop-i l =
    behind_word l.word (tokens_in (parts_in l.pieces)) ≡ behind_word l.word (tokens_in (parts_in (drop l.i l.pieces)))
