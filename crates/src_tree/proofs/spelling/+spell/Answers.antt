use Rattle.std.proofs.Common.{rules, ◌≡◌, ◌++◌, [], ◌∷◌, ◌+◌, List, drop, map, sym, ap, ◌∙◌, append_assoc}
use Rattle.std.proofs.lemmas.List.{at_drop_more}
use Rattle.src_tree.specs.declared.node.NodePiece.{NodePiece}
use Rattle.src_tree.specs.Layout.{spell_parts}
use Rattle.src_tree.specs.View.{piece_of, parts_from, parts_in}
use Rattle.src_tree.proofs.Spells.{piece_first}
use Rattle.src_tree.proofs.spelling.+spell.Goals as goal

pub spell_pieces-loop-piece-preserved : goal.spell_pieces-loop-piece-preserved
spell_pieces-loop-piece-preserved t c =
    let i = c.loop-piece.piece-index in
    let xs = c.args.pieces.now in
    let d = c.piece-item.result in
    let out = c.loop-piece.out in
    let rest = drop (i + 1) xs in
    let F = λ (all : List NodePiece). out ++ spell_parts (parts_in all) [] in
    let G = λ (x : NodePiece). out ++ spell_parts (parts_in (x ∷ rest)) [] in
    let whole = at_drop_more F xs i d c.loop-piece-test.true ∙ sym (ap G c.piece-item.is) in
    let now : c.spell_piece.new.out ≡ out ++ spell_parts (parts_from (piece_of d ∷ [])) [] = search rules in
    ap (λ z. z ++ spell_parts (parts_in rest) []) now
    ∙ append_assoc out (spell_parts (parts_from (piece_of d ∷ [])) []) (spell_parts (parts_in rest) [])
    ∙ ap (λ z. out ++ z) (sym (piece_first (piece_of d) (map piece_of rest)))
    ∙ sym whole ∙ c.loop-piece.invariant
