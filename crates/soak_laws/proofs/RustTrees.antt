-- Each tree is what contracts see of a tree as Rust has it.
use Rattle.std.proofs.Common.{◌≡◌, List, [], ◌∷◌, map, refl, ap, ◌∙◌}
use Rattle.mir_base.specs.declared.place_in_text.Pos.{Pos}
use Rattle.src_tree.specs.declared.node.SyntaxNode.{SyntaxNode}
use Rattle.src_tree.specs.declared.node.NodePiece.{NodePiece}
use Rattle.src_tree.specs.declared.node.NodePiece as piece
use Rattle.src_tree.specs.Layout as plain
use Rattle.src_tree.specs.Layout.{node, Parts, end, tok, sub}
use Rattle.src_tree.specs.View.{a_node, layout_of, piece_of, parts_in, parts_from}
use Rattle.src_tree.proofs.Pieces.{token_seen, node_seen, node_laid}

abbrev mutual
  pub tree_node : plain.SyntaxNode Pos → SyntaxNode
  tree_node (node at row parts) = record { row = row; at = at; parts = pieces parts }

  pub pieces : Parts Pos → List NodePiece
  pieces end = []
  pieces (tok t rest) = piece.Token t ∷ pieces rest
  pieces (sub g rest) = piece.Node (tree_node g) ∷ pieces rest

mutual
  node_is : (g : plain.SyntaxNode Pos) → layout_of (tree_node g) ≡ g
  node_is (node at row parts) = node_laid (tree_node (node at row parts)) ∙ ap (node at row) (pieces_are parts)

  pub pieces_are : (ps : Parts Pos) → parts_in (pieces ps) ≡ ps
  pieces_are end = refl
  pieces_are (tok t rest) =
      ap (λ p. parts_from (p ∷ map piece_of (pieces rest))) (token_seen t) ∙ ap (tok t) (pieces_are rest)
  pieces_are (sub g rest) =
      ap (λ p. parts_from (p ∷ map piece_of (pieces rest))) (node_seen (tree_node g) ∙ ap a_node (node_is g))
      ∙ ap (sub g) (pieces_are rest)
