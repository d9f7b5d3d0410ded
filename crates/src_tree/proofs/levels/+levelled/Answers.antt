use Rattle.std.proofs.Common.{rules, ◌≡◌, Some, None, ◌∷◌, ◌&&◌, [], List, length, map, sym, ap, ◌∙◌, refl}
use Rattle.std.proofs.lemmas.List.{nil_from_length}
use Rattle.src_token.specs.declared.token.Token.{Token}
use Rattle.src_tree.specs.declared.node.SyntaxNode.{SyntaxNode}
use Rattle.src_tree.specs.declared.node.NodePiece
use Rattle.src_tree.specs.Checking.{levels, begun as begun_of, follows as follows_of}
use Rattle.src_tree.specs.Grammar.{joined}
use Rattle.src_tree.specs.Layout.{sub, tok}
use Rattle.src_tree.specs.Table.{joined_of, rest_at}
use Rattle.src_tree.specs.View.{layout_of, piece_of, parts_from, parts_in}
use Rattle.src_tree.proofs.Pieces.{node_seen, token_seen}
use Rattle.src_tree.proofs.Tests.{joined_on, not_joined}
use Rattle.src_tree.proofs.levels.+levelled.Goals as goal

one : (ps : List NodePiece.NodePiece) (g : SyntaxNode) (rest : List NodePiece.NodePiece) → ps ≡ NodePiece.Node g ∷ rest → parts_in ps ≡ sub (layout_of g) (parts_in rest)
one ps g rest e =
    ap parts_in e ∙ ap (λ z. parts_from (z ∷ map piece_of rest)) (node_seen g)

two : (ps : List NodePiece.NodePiece) (g : SyntaxNode) (t : Token) (rest : List NodePiece.NodePiece) → ps ≡ NodePiece.Node g ∷ NodePiece.Token t ∷ rest → parts_in ps ≡ sub (layout_of g) (tok t (parts_in rest))
two ps g t rest e =
    one ps g (NodePiece.Token t ∷ rest) e ∙ ap (λ z. sub (layout_of g) (parts_from (z ∷ map piece_of rest))) (token_seen t)

pub makes_row-returns-then-node_levelled : goal.makes_row-returns-then-node_levelled
makes_row-returns-then-node_levelled t c =
    let first = c.in-Some-Node-default.first in
    let token = c.in-Some-Token-default-split_first.token in
    let rest = c.in-Some-Token-default-split_first.rest.now in
    let e : c.args.node.now.parts ≡ NodePiece.Node first ∷ NodePiece.Token token ∷ rest = search rules in
    let j : Some (joined_of c.in-Some-join_beginning.begun) ≡ joined c.args.seen token = search rules in
    let n : c.node_levelled.result ≡ levels (Some c.in-Some-join_beginning.begun.place) (layout_of first) = search rules in
    let f : c.follows-then-node_levelled.result ≡ follows_of c.args.seen.head (Some (rest_at c.in-Some-join_beginning.begun.at)) c.args.node.now.row (parts_in rest) = search rules in
    ap (λ z. z && c.follows-then-node_levelled.result) (sym c.if-node_levelled.true)
    ∙ joined_on c.args.seen c.args.node.now.row (layout_of first) token (parts_in rest) c.node_levelled.result c.follows-then-node_levelled.result c.in-Some-join_beginning.begun j n f
    ∙ ap (begun_of c.args.seen c.args.node.now.row) (sym (two c.args.node.now.parts first token rest e))

pub makes_row-returns-else-node_levelled : goal.makes_row-returns-else-node_levelled
makes_row-returns-else-node_levelled t c =
    let first = c.in-Some-Node-default.first in
    let token = c.in-Some-Token-default-split_first.token in
    let rest = c.in-Some-Token-default-split_first.rest.now in
    let e : c.args.node.now.parts ≡ NodePiece.Node first ∷ NodePiece.Token token ∷ rest = search rules in
    let j : Some (joined_of c.in-Some-join_beginning.begun) ≡ joined c.args.seen token = search rules in
    let n : c.node_levelled.result ≡ levels (Some c.in-Some-join_beginning.begun.place) (layout_of first) = search rules in
    let b = follows_of c.args.seen.head (Some (rest_at c.in-Some-join_beginning.begun.at)) c.args.node.now.row (parts_in rest) in
    c.if-node_levelled.false ∙ ap (λ z. z && b) (sym c.if-node_levelled.false)
    ∙ joined_on c.args.seen c.args.node.now.row (layout_of first) token (parts_in rest) c.node_levelled.result b c.in-Some-join_beginning.begun j n refl
    ∙ ap (begun_of c.args.seen c.args.node.now.row) (sym (two c.args.node.now.parts first token rest e))

pub makes_row-returns-in-None-join_beginning : goal.makes_row-returns-in-None-join_beginning
makes_row-returns-in-None-join_beginning t c =
    let first = c.in-Some-Node-default.first in
    let token = c.in-Some-Token-default-split_first.token in
    let rest = c.in-Some-Token-default-split_first.rest.now in
    let e : c.args.node.now.parts ≡ NodePiece.Node first ∷ NodePiece.Token token ∷ rest = search rules in
    let j : None ≡ joined c.args.seen token = search rules in
    not_joined c.args.seen c.args.node.now.row (layout_of first) token (parts_in rest) j
    ∙ ap (begun_of c.args.seen c.args.node.now.row) (sym (two c.args.node.now.parts first token rest e))

pub makes_row-returns-in_default-2 : goal.makes_row-returns-in_default-2
makes_row-returns-in_default-2 t c =
    let first = c.in-Some-Node-default.first in
    let zero_ : length c.in-Some-Node-default.rest.now ≡ 0 = search rules in
    let none : c.in-Some-Node-default.rest.now ≡ [] = nil_from_length c.in-Some-Node-default.rest.now zero_ in
    let e : c.args.node.now.parts ≡ NodePiece.Node first ∷ [] = search (rules, none) in
    ap (begun_of c.args.seen c.args.node.now.row) (sym (one c.args.node.now.parts first [] e))
