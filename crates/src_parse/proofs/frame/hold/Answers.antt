use Rattle.std.proofs.Common.{rules, ◌≡◌, max, ◌∷◌, ◌++◌, [], ap, ◌∙◌}
use Rattle.src_tree.specs.declared.node.SyntaxNode.{SyntaxNode}
use Rattle.src_tree.specs.declared.node.NodePiece
use Rattle.src_tree.specs.Grammar.{behind, counts}
use Rattle.src_tree.specs.Layout.{node}
use Rattle.src_tree.specs.Reading.{with_sub}
use Rattle.src_tree.specs.Table.{rest_of}
use Rattle.src_tree.specs.View.{parts_in}
use Rattle.src_parse.specs.Counting.{sat}
use Rattle.src_parse.proofs.Parts.{one_node, node_in, same_counted}
use Rattle.src_parse.proofs.frame.hold.Goals as goal

pub returns : goal.returns
returns c =
    let f = c.args.frame.now in
    let g = c.args.part in
    let r = c.args.row in
    let made : SyntaxNode = record { row = r; at = g.at; parts = g.parts } in
    let p : c.push.new.self ≡ f.parts ++ NodePiece.Node made ∷ [] = search rules in
    let b : rest_of c.behind-frame.result ≡ behind (rest_of f.point) r = search rules in
    let d : c.max-frame.result ≡ max f.deepest (sat g.deepest (counts r)) = search rules in
    let ps : parts_in c.push.new.self ≡ with_sub (parts_in f.parts) (node g.at r (parts_in g.parts)) = ap parts_in p ∙ one_node f.parts made ∙ ap (with_sub (parts_in f.parts)) (node_in made) in
    same_counted f.place (rest_of c.behind-frame.result) (behind (rest_of f.point) r) f.at (parts_in c.push.new.self) (with_sub (parts_in f.parts) (node g.at r (parts_in g.parts)))
    c.max-frame.result (max f.deepest (sat g.deepest (counts r))) f.floor f.around b ps d
