use Rattle.std.proofs.Common.{rules, ℕ, ◌≡◌, min, max, [], ◌∷◌, ◌+◌, List, drop, map, sym, ap, ◌∙◌, arith}
use Rattle.std.proofs.lemmas.List.{at_drop_more}
use Rattle.src_tree.specs.declared.node.NodePiece.{NodePiece}
use Rattle.src_tree.specs.Layout.{parts_depth}
use Rattle.src_tree.specs.View.{piece_of, parts_from, parts_in}
use Rattle.src_tree.proofs.Spells.{depth_first}
use Rattle.src_tree.proofs.nesting.+depth.Goals as goal

one_more : (deepest single rest whole total now : ℕ) → whole ≡ max single rest → now ≡ max deepest (min single 4294967295)
    → max deepest (min whole 4294967295) ≡ min total 4294967295 → max now (min rest 4294967295) ≡ min total 4294967295
one_more deepest single rest whole total now e f g = omega arith

pub pieces_depth-loop-piece-preserved : goal.pieces_depth-loop-piece-preserved
pieces_depth-loop-piece-preserved t c =
    let i = c.loop-piece.piece-index in
    let xs = c.args.pieces.now in
    let d = c.piece-item.result in
    let rest = drop (i + 1) xs in
    let F = λ (all : List NodePiece). parts_depth (parts_in all) in
    let G = λ (x : NodePiece). parts_depth (parts_in (x ∷ rest)) in
    let whole : parts_depth (parts_in (drop i xs)) ≡ parts_depth (parts_in (d ∷ rest)) = at_drop_more F xs i d c.loop-piece-test.true ∙ sym (ap G c.piece-item.is) in
    let single : c.piece_depth.result ≡ min (parts_depth (parts_from (piece_of d ∷ []))) 4294967295 = search rules in
    let most : c.max-deepest.result ≡ max c.loop-piece.deepest c.piece_depth.result = search rules in
    one_more c.loop-piece.deepest (parts_depth (parts_from (piece_of d ∷ []))) (parts_depth (parts_in rest)) (parts_depth (parts_in (drop i xs))) (parts_depth (parts_in xs)) c.max-deepest.result
    (whole ∙ depth_first (piece_of d) (map piece_of rest)) (most ∙ ap (λ z. max c.loop-piece.deepest z) single) c.loop-piece.invariant
