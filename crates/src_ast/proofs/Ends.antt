-- Parts of a node with one more behind them.
use Rattle.std.proofs.Common.{◌≡◌, ℕ, suc, ◌-◌, ◌<◌, ◌≤◌, List, [], ◌∷◌, ◌++◌, length, take, get_or, map, refl, ap, sym, ◌∙◌, arith}
use Rattle.std.proofs.Math.Seq.{take-suc}
use Rattle.mir_base.specs.declared.place_in_text.Pos.{Pos}
use Rattle.src_token.specs.declared.token.Token.{Token}
use Rattle.src_tree.specs.declared.node.SyntaxNode.{SyntaxNode}
use Rattle.src_tree.specs.declared.node.NodePiece.{NodePiece}
use Rattle.src_tree.specs.declared.node.NodePiece as piece
use Rattle.src_tree.specs.Layout as plain
use Rattle.src_tree.specs.View.{Single, a_token, a_node, layout_of, piece_of, parts_from, parts_in}
use Rattle.src_tree.proofs.Pieces.{token_seen, node_seen}
use Rattle.src_ast.specs.Syntax.{Syn, Syns, no_syn, a_syn, just}
use Rattle.src_ast.specs.View.{view, views, last_of, but_last}

abbrev with_syn : Syns → Syn → Syns
with_syn no_syn s = a_syn s no_syn
with_syn (a_syn first rest) s = a_syn first (with_syn rest s)

last_with : (ss : Syns) (s : Syn) → last_of (with_syn ss s) ≡ just s
last_with no_syn s = refl
last_with (a_syn first no_syn) s = refl
last_with (a_syn first (a_syn second rest)) s = last_with (a_syn second rest) s

but_with : (ss : Syns) (s : Syn) → but_last (with_syn ss s) ≡ ss
but_with no_syn s = refl
but_with (a_syn first no_syn) s = refl
but_with (a_syn first (a_syn second rest)) s = ap (λ z. a_syn first z) (but_with (a_syn second rest) s)

token_behind : (xs : List Single) (t : Token) → views (parts_from (xs ++ a_token t ∷ [])) ≡ views (parts_from xs)
token_behind [] t = refl
token_behind (a_token u ∷ xs) t = token_behind xs t
token_behind (a_node g ∷ xs) t = ap (λ z. a_syn (view g) z) (token_behind xs t)

node_behind : (xs : List Single) (g : plain.SyntaxNode Pos) → views (parts_from (xs ++ a_node g ∷ [])) ≡ with_syn (views (parts_from xs)) (view g)
node_behind [] g = refl
node_behind (a_token u ∷ xs) g = node_behind xs g
node_behind (a_node h ∷ xs) g = ap (λ z. a_syn (view h) z) (node_behind xs g)

singles : (ps : List NodePiece) (p : NodePiece) → map piece_of (ps ++ p ∷ []) ≡ map piece_of ps ++ piece_of p ∷ []
singles [] p = refl
singles (x ∷ ps) p = ap (λ z. piece_of x ∷ z) (singles ps p)

past_token : (ps : List NodePiece) (t : Token) → views (parts_in (ps ++ piece.Token t ∷ [])) ≡ views (parts_in ps)
past_token ps t = ap (λ z. views (parts_from z)) (singles ps (piece.Token t) ∙ ap (λ z. map piece_of ps ++ z ∷ []) (token_seen t)) ∙ token_behind (map piece_of ps) t

with_node : (ps : List NodePiece) (g : SyntaxNode) → views (parts_in (ps ++ piece.Node g ∷ [])) ≡ with_syn (views (parts_in ps)) (view (layout_of g))
with_node ps g = ap (λ z. views (parts_from z)) (singles ps (piece.Node g) ∙ ap (λ z. map piece_of ps ++ z ∷ []) (node_seen g)) ∙ node_behind (map piece_of ps) (layout_of g)

last_is : (ps : List NodePiece) (g : SyntaxNode) → last_of (views (parts_in (ps ++ piece.Node g ∷ []))) ≡ just (view (layout_of g))
last_is ps g = ap last_of (with_node ps g) ∙ last_with (views (parts_in ps)) (view (layout_of g))

earlier_is : (ps : List NodePiece) (g : SyntaxNode) → but_last (views (parts_in (ps ++ piece.Node g ∷ []))) ≡ views (parts_in ps)
earlier_is ps g = ap but_last (with_node ps g) ∙ but_with (views (parts_in ps)) (view (layout_of g))

-- the part in front of where the walk from the end has come to
module _ (xs : List NodePiece) (left : ℕ) (p : NodePiece) (some : 0 < left) (fits : left ≤ length xs) (is : p ≡ get_or xs (left - 1) p)
    (here : views (parts_in xs) ≡ views (parts_in (take left xs))) where
  with_it : views (parts_in xs) ≡ views (parts_in (take (left - 1) xs ++ p ∷ []))
  with_it =
      let one_more : left ≡ suc (left - 1) = omega arith in
      let within : left - 1 < length xs = omega arith in
      here ∙ ap (λ n. views (parts_in (take n xs))) one_more
      ∙ ap (λ z. views (parts_in z)) (take-suc xs (left - 1) p within ∙ ap (λ z. take (left - 1) xs ++ z ∷ []) (sym is))

  pub last_at : (g : SyntaxNode) → p ≡ piece.Node g → just (view (layout_of g)) ≡ last_of (views (parts_in xs))
  last_at g e = sym (ap last_of (with_it ∙ ap (λ z. views (parts_in (take (left - 1) xs ++ z ∷ []))) e) ∙ last_is (take (left - 1) xs) g)

  pub earlier_at : (g : SyntaxNode) → p ≡ piece.Node g → views (parts_in (take (left - 1) xs)) ≡ but_last (views (parts_in xs))
  earlier_at g e = sym (ap but_last (with_it ∙ ap (λ z. views (parts_in (take (left - 1) xs ++ z ∷ []))) e) ∙ earlier_is (take (left - 1) xs) g)

  pub token_at : (t : Token) → p ≡ piece.Token t → views (parts_in xs) ≡ views (parts_in (take (left - 1) xs))
  token_at t e = with_it ∙ ap (λ z. views (parts_in (take (left - 1) xs ++ z ∷ []))) e ∙ past_token (take (left - 1) xs) t
