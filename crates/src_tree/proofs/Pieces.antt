-- What contracts see of a part and of a node, by what it is made of.
use Rattle.std.proofs.Common.{◌≡◌, sym, ap, ◌∙◌}
use Rattle.src_token.specs.declared.token.Token.{Token}
use Rattle.src_tree.specs.declared.node.SyntaxNode.{SyntaxNode}
use Rattle.src_tree.specs.declared.node.NodePiece
use Rattle.src_tree.specs.declared.node.NodePiece.TheFolds.{fold-roll-NodePiece, fold_out-SyntaxNode, fold-roll-SyntaxNode}
use Rattle.src_tree.specs.declared.node.NodePiece.TheVariants.{rolls-Node, rolls-Token}
use Rattle.src_tree.specs.Layout.{node}
use Rattle.src_tree.specs.View.{a_token, a_node, layout_of, piece_of, parts_in}

pub token_seen : (t : Token) → piece_of (NodePiece.Token t) ≡ a_token t
token_seen t = ap piece_of (sym (rolls-Token t)) ∙ search fold-roll-NodePiece

pub node_seen : (g : SyntaxNode) → piece_of (NodePiece.Node g) ≡ a_node (layout_of g)
node_seen g = ap piece_of (sym (rolls-Node g)) ∙ search fold-roll-NodePiece

pub node_laid : (g : SyntaxNode) → layout_of g ≡ node g.at g.row (parts_in g.parts)
node_laid g = search (fold_out-SyntaxNode, fold-roll-SyntaxNode)
