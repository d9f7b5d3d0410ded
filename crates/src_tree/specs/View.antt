-- What contracts see of a tree: its layout, without the places in memory where its nodes lie.
use Rattle.std.specs.Prelude.{List, [], ◌∷◌, map}
use Rattle.mir_base.specs.declared.place_in_text.Pos.{Pos}
use Rattle.src_token.specs.declared.token.Token.{Token}
use Rattle.src_tree.specs.declared.node.SyntaxNode.{SyntaxNode, SyntaxNode-F, fold-SyntaxNode}
use Rattle.src_tree.specs.declared.node.NodePiece.{NodePiece, NodePiece-F, fold-NodePiece}
use Rattle.src_tree.specs.declared.node.Tree.{Tree}
use Rattle.src_tree.specs.Layout as plain
use Rattle.src_tree.specs.Layout.{node, Parts, end, tok, sub}

-- a part by itself
pub data Single : Type 0 where
  a_token : (t : Token) → Single
  a_node : (g : plain.SyntaxNode Pos) → Single

abbrev pub parts_from : List Single → Parts Pos
parts_from [] = end
parts_from (a_token t ∷ rest) = tok t (parts_from rest)
parts_from (a_node g ∷ rest) = sub g (parts_from rest)

abbrev pub node_layer : SyntaxNode-F Single (plain.SyntaxNode Pos) → plain.SyntaxNode Pos
node_layer n = node n.at n.row (parts_from n.parts)

abbrev pub piece_layer : NodePiece-F Single (plain.SyntaxNode Pos) → Single
piece_layer (NodePiece-F.Token t) = a_token t
piece_layer (NodePiece-F.Node g) = a_node g

abbrev pub layout_of : SyntaxNode → plain.SyntaxNode Pos
layout_of = fold-SyntaxNode Single (plain.SyntaxNode Pos) piece_layer node_layer

abbrev pub piece_of : NodePiece → Single
piece_of = fold-NodePiece Single (plain.SyntaxNode Pos) piece_layer node_layer

-- the parts of a node or of a text
abbrev pub parts_in : List NodePiece → Parts Pos
parts_in pieces = parts_from (map piece_of pieces)

abbrev pub items_of : Tree → Parts Pos
items_of tree = parts_in tree.items
