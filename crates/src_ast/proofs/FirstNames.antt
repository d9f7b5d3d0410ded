-- Names that stand first among some nodes.
use Rattle.std.proofs.Common.{◌≡◌, ℕ, suc, ◌+◌, ◌-◌, ◌<◌, ◌≤◌, true, false, ◌&&◌, List, [], ◌∷◌, ◌++◌, length, take, drop, get_or, map, refl, ap, sym, ◌∙◌, arith, append-nil, length-drop}
use Rattle.std.proofs.Math.Seq.{take-suc}
use Rattle.std.proofs.lemmas.List.{take-append-drop, drop_more, take_all}
use Rattle.std.proofs.lemmas.Bool.{and_parts}
use Rattle.src_token.specs.declared.token.Token.{Token}
use Rattle.src_tree.specs.declared.node.SyntaxNode.{SyntaxNode}
use Rattle.src_tree.specs.declared.node.NodePiece.{NodePiece}
use Rattle.src_tree.specs.declared.node.NodePiece as piece
use Rattle.src_tree.specs.View.{Single, a_token, a_node, layout_of, piece_of, parts_from, parts_in}
use Rattle.src_tree.proofs.Pieces.{token_seen, node_seen}
use Rattle.src_ast.specs.Seen.{are_idents}
use Rattle.src_ast.specs.Syntax.{Syns, no_syn, a_syn}
use Rattle.src_ast.specs.View.{view, views, is_ident, named, idents, behind_idents}

abbrev joined : Syns → Syns → Syns
joined no_syn bs = bs
joined (a_syn a as_) bs = a_syn a (joined as_ bs)

views_joined : (xs ys : List Single) → views (parts_from (xs ++ ys)) ≡ joined (views (parts_from xs)) (views (parts_from ys))
views_joined [] ys = refl
views_joined (a_token t ∷ xs) ys = views_joined xs ys
views_joined (a_node g ∷ xs) ys = ap (λ z. a_syn (view g) z) (views_joined xs ys)

singles_joined : (ps qs : List NodePiece) → map piece_of (ps ++ qs) ≡ map piece_of ps ++ map piece_of qs
singles_joined [] qs = refl
singles_joined (p ∷ ps) qs = ap (λ z. piece_of p ∷ z) (singles_joined ps qs)

parts_joined : (ps qs : List NodePiece) → views (parts_in (ps ++ qs)) ≡ joined (views (parts_in ps)) (views (parts_in qs))
parts_joined ps qs = ap (λ z. views (parts_from z)) (singles_joined ps qs) ∙ views_joined (map piece_of ps) (map piece_of qs)

behind_joined : (as_ bs : Syns) → are_idents as_ ≡ true → behind_idents (joined as_ bs) ≡ behind_idents bs
behind_joined no_syn bs h = refl
behind_joined (a_syn a as_) bs h = let both = and_parts (is_ident a) _ h in rw (both.0) (behind_joined as_ bs both.1)

idents_joined : (as_ bs : Syns) → are_idents as_ ≡ true → idents (joined as_ bs) ≡ idents as_ ++ idents bs
idents_joined no_syn bs h = refl
idents_joined (a_syn a as_) bs h = let both = and_parts (is_ident a) _ h in rw (both.0) (ap (λ z. named a ∷ z) (idents_joined as_ bs both.1))

are_joined : (as_ bs : Syns) → are_idents as_ ≡ true → are_idents bs ≡ true → are_idents (joined as_ bs) ≡ true
are_joined no_syn bs h k = k
are_joined (a_syn a as_) bs h k = let both = and_parts (is_ident a) _ h in rw (both.0) (are_joined as_ bs both.1 k)

module _ (xs : List NodePiece) (i : ℕ) (p : NodePiece) (within : i < length xs) (is : p ≡ get_or xs i p) (names : are_idents (views (parts_in (take i xs))) ≡ true) where
  apart : views (parts_in xs) ≡ joined (views (parts_in (take i xs))) (views (parts_in (drop i xs)))
  apart = ap (λ z. views (parts_in z)) (sym (take-append-drop i xs)) ∙ parts_joined (take i xs) (drop i xs)

  ahead : drop i xs ≡ p ∷ drop (i + 1) xs
  ahead = drop_more xs i p within ∙ ap (λ z. z ∷ drop (i + 1) xs) (sym is)

  with_it : views (parts_in (take (i + 1) xs)) ≡ joined (views (parts_in (take i xs))) (views (parts_in (p ∷ [])))
  with_it =
      let more : i + 1 ≡ suc i = omega arith in
      ap (λ n. views (parts_in (take n xs))) more
      ∙ ap (λ z. views (parts_in z)) (take-suc xs i p within ∙ ap (λ z. take i xs ++ z ∷ []) (sym is))
      ∙ parts_joined (take i xs) (p ∷ [])

  node_first : (g : SyntaxNode) → p ≡ piece.Node g → (rest : List NodePiece) → views (parts_in (p ∷ rest)) ≡ a_syn (view (layout_of g)) (views (parts_in rest))
  node_first g e rest =
      ap (λ z. views (parts_from (piece_of z ∷ map piece_of rest))) e ∙ ap (λ z. views (parts_from (z ∷ map piece_of rest))) (node_seen g)

  token_first : (t : Token) → p ≡ piece.Token t → views (parts_in (p ∷ [])) ≡ no_syn
  token_first t e = ap (λ z. views (parts_from (piece_of z ∷ []))) e ∙ ap (λ z. views (parts_from (z ∷ []))) (token_seen t)

  pub past_token : (t : Token) → p ≡ piece.Token t → are_idents (views (parts_in (take (i + 1) xs))) ≡ true
  past_token t e = ap are_idents with_it ∙ are_joined (views (parts_in (take i xs))) _ names (ap are_idents (token_first t e))

  pub past_name : (g : SyntaxNode) → p ≡ piece.Node g → is_ident (view (layout_of g)) ≡ true → are_idents (views (parts_in (take (i + 1) xs))) ≡ true
  past_name g e h =
      ap are_idents with_it
      ∙ are_joined (views (parts_in (take i xs))) _ names (ap are_idents (node_first g e []) ∙ ap (λ z. z && true) h)

  module _ (g : SyntaxNode) (e : p ≡ piece.Node g) (other : is_ident (view (layout_of g)) ≡ false) where
    from_here : views (parts_in (drop i xs)) ≡ a_syn (view (layout_of g)) (views (parts_in (drop (i + 1) xs)))
    from_here = ap (λ z. views (parts_in z)) ahead ∙ node_first g e (drop (i + 1) xs)

    no_name : idents (views (parts_in (drop i xs))) ≡ []
    no_name = ap idents from_here ∙ rw other refl

    pub names_end : idents (views (parts_in xs)) ≡ idents (views (parts_in (take i xs)))
    names_end =
        ap idents apart ∙ idents_joined (views (parts_in (take i xs))) _ names
        ∙ ap (λ z. idents (views (parts_in (take i xs))) ++ z) no_name ∙ append-nil _

    pub others_begin : behind_idents (views (parts_in xs)) ≡ views (parts_in (drop i xs))
    others_begin =
        ap behind_idents apart ∙ behind_joined (views (parts_in (take i xs))) _ names ∙ ap behind_idents from_here
        ∙ (let it : behind_idents (a_syn (view (layout_of g)) (views (parts_in (drop (i + 1) xs)))) ≡ a_syn (view (layout_of g)) (views (parts_in (drop (i + 1) xs))) = rw other refl in it)
        ∙ sym from_here

nothing_after : (as_ : Syns) → are_idents as_ ≡ true → behind_idents as_ ≡ no_syn
nothing_after no_syn h = refl
nothing_after (a_syn a as_) h = let both = and_parts (is_ident a) _ h in rw (both.0) (nothing_after as_ both.1)

pub nothing_behind : (xs : List NodePiece) (i : ℕ) → length xs ≤ i → are_idents (views (parts_in (take i xs))) ≡ true → behind_idents (views (parts_in xs)) ≡ no_syn
nothing_behind xs i past h = nothing_after (views (parts_in xs)) (ap (λ z. are_idents (views (parts_in z))) (sym (take_all i xs past)) ∙ h)

pub whole_drop : (xs : List NodePiece) (i : ℕ) → drop i xs ≡ take (length xs - i) (drop i xs)
whole_drop xs i = let e = length-drop i xs in sym (take_all (length xs - i) (drop i xs) (omega arith))
