use Rattle.std.proofs.Common.{◌≡◌, ◌++◌, [], drop}
use Rattle.src_tree.specs.Layout.{spell_parts}
use Rattle.src_tree.specs.View.{parts_in}
use Rattle.src_tree.proofs.spelling.+spell.Given as goal

abbrev pub invariant-spell_pieces-loop-piece : goal.invariant-spell_pieces-loop-piece
invariant-spell_pieces-loop-piece l =
    l.out ++ spell_parts (parts_in (drop l.piece-index l.pieces)) [] ≡ l.initial.out ++ spell_parts (parts_in l.pieces) []
