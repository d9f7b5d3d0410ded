-- Parts with one more.
use Rattle.std.proofs.Common.{◌≡◌, ℕ, List, [], ◌∷◌, ◌++◌, refl, ap, ◌∙◌, map}
use Rattle.mir_base.specs.declared.place_in_text.Pos.{Pos}
use Rattle.src_token.specs.declared.token.Token.{Token}
use Rattle.src_tree.specs.declared.node.SyntaxNode.{SyntaxNode}
use Rattle.src_tree.specs.declared.node.NodePiece
use Rattle.src_tree.specs.Layout as plain
use Rattle.src_tree.specs.Layout.{Parts, tok, sub, end}
use Rattle.src_tree.specs.View.{Single, a_token, a_node, layout_of, piece_of, parts_from, parts_in}
use Rattle.src_tree.specs.Reading.{with_tok, with_sub}
use Rattle.src_tree.specs.declared.place.GrammarPlace.{GrammarPlace}
use Rattle.src_parse.specs.Counting.{Counted}
use Rattle.src_tree.specs.Grammar.{GrammarRest, items}
use Rattle.src_tree.specs.Table.{rest_at}
use Rattle.src_tree.proofs.Named.{items_is}
use Rattle.src_tree.proofs.Pieces.{token_seen, node_seen, node_laid}

token_behind : (xs : List Single) (t : Token) → parts_from (xs ++ a_token t ∷ []) ≡ with_tok (parts_from xs) t
token_behind [] t = refl
token_behind (a_token u ∷ xs) t = ap (λ z. tok u z) (token_behind xs t)
token_behind (a_node g ∷ xs) t = ap (λ z. sub g z) (token_behind xs t)

node_behind : (xs : List Single) (h : plain.SyntaxNode Pos) → parts_from (xs ++ a_node h ∷ []) ≡ with_sub (parts_from xs) h
node_behind [] h = refl
node_behind (a_token u ∷ xs) h = ap (λ z. tok u z) (node_behind xs h)
node_behind (a_node g ∷ xs) h = ap (λ z. sub g z) (node_behind xs h)

singles : (ps : List NodePiece.NodePiece) (p : NodePiece.NodePiece) → map piece_of (ps ++ p ∷ []) ≡ map piece_of ps ++ piece_of p ∷ []
singles [] p = refl
singles (x ∷ ps) p = ap (λ z. piece_of x ∷ z) (singles ps p)

pub one_token : (ps : List NodePiece.NodePiece) (t : Token) → parts_in (ps ++ NodePiece.Token t ∷ []) ≡ with_tok (parts_in ps) t
one_token ps t = ap parts_from (singles ps (NodePiece.Token t) ∙ ap (λ z. map piece_of ps ++ z ∷ []) (token_seen t)) ∙ token_behind (map piece_of ps) t

pub one_node : (ps : List NodePiece.NodePiece) (g : SyntaxNode) → parts_in (ps ++ NodePiece.Node g ∷ []) ≡ with_sub (parts_in ps) (layout_of g)
one_node ps g = ap parts_from (singles ps (NodePiece.Node g) ∙ ap (λ z. map piece_of ps ++ z ∷ []) (node_seen g)) ∙ node_behind (map piece_of ps) (layout_of g)

pub lone_token : (t : Token) → parts_in (NodePiece.Token t ∷ []) ≡ tok t end
lone_token t = one_token [] t

pub node_then_token : (g : SyntaxNode) (t : Token) → parts_in (NodePiece.Node g ∷ NodePiece.Token t ∷ []) ≡ sub (layout_of g) (tok t end)
node_then_token g t = one_token (NodePiece.Node g ∷ []) t ∙ ap (λ z. with_tok z t) (one_node [] g)

pub items_there : rest_at 215 ≡ items
items_there = items_is

pub node_in : (g : SyntaxNode) → layout_of g ≡ plain.node g.at g.row (parts_in g.parts)
node_in g = node_laid g

abbrev pub counted : GrammarPlace → GrammarRest → Pos → Parts Pos → ℕ → ℕ → ℕ → Counted
counted c q at ps d f a = record { place = c; rest = q; at = at; parts = ps; deepest = d; floor = f; around = a }

pub same_counted : (c : GrammarPlace) (q q2 : GrammarRest) (at : Pos) (ps ps2 : Parts Pos) (d d2 f a : ℕ) → q ≡ q2 → ps ≡ ps2 → d ≡ d2 → counted c q at ps d f a ≡ counted c q2 at ps2 d2 f a
same_counted c q q2 at ps ps2 d d2 f a x y z = ap (λ v. counted c v at ps d f a) x ∙ ap (λ v. counted c q2 at v d f a) y ∙ ap (λ v. counted c q2 at ps2 v f a) z
