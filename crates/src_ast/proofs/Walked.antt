-- What a walk over some parts finds, part by part.
use Rattle.std.proofs.Common.{◌≡◌, ℕ, ◌+◌, ◌-◌, ◌<◌, ◌≤◌, true, ◌||◌, List, [], ◌∷◌, length, take, drop, get_or, map, ap, sym, ◌∙◌, if◌then◌else◌}
use Rattle.std.proofs.lemmas.List.{drop_more, drop_all}
use Rattle.src_token.specs.declared.token.Token.{Token}
use Rattle.src_token.specs.declared.word.Word.{Word as Keyword}
use Rattle.src_tree.specs.declared.node.SyntaxNode.{SyntaxNode}
use Rattle.src_tree.specs.declared.node.NodePiece.{NodePiece}
use Rattle.src_tree.specs.declared.node.NodePiece as piece
use Rattle.src_tree.specs.declared.kind.TokenKind.{TokenKind}
use Rattle.src_tree.specs.Grammar.{is}
use Rattle.src_tree.specs.View.{a_token, a_node, layout_of, piece_of, parts_from, parts_in}
use Rattle.src_tree.proofs.Pieces.{token_seen, node_seen}
use Rattle.src_ast.specs.Syntax.{a_syn}
use Rattle.src_ast.specs.View.{view, views, tokens_in, has, behind_word}
use Rattle.src_ast.proofs.FirstNames.{whole_drop}

module _ (xs : List NodePiece) (i : ℕ) (p : NodePiece) (within : i < length xs) (is_p : p ≡ get_or xs i p) where
  ahead : drop i xs ≡ p ∷ drop (i + 1) xs
  ahead = drop_more xs i p within ∙ ap (λ z. z ∷ drop (i + 1) xs) (sym is_p)

  token_ahead : (t : Token) → p ≡ piece.Token t → map piece_of (drop i xs) ≡ a_token t ∷ map piece_of (drop (i + 1) xs)
  token_ahead t e = ap (λ z. map piece_of z) ahead ∙ ap (λ z. piece_of z ∷ map piece_of (drop (i + 1) xs)) e ∙ ap (λ z. z ∷ map piece_of (drop (i + 1) xs)) (token_seen t)

  node_ahead : (g : SyntaxNode) → p ≡ piece.Node g → map piece_of (drop i xs) ≡ a_node (layout_of g) ∷ map piece_of (drop (i + 1) xs)
  node_ahead g e = ap (λ z. map piece_of z) ahead ∙ ap (λ z. piece_of z ∷ map piece_of (drop (i + 1) xs)) e ∙ ap (λ z. z ∷ map piece_of (drop (i + 1) xs)) (node_seen g)

  token_first : (t : Token) → p ≡ piece.Token t → tokens_in (parts_in (drop i xs)) ≡ t ∷ tokens_in (parts_in (drop (i + 1) xs))
  token_first t e = ap (λ z. tokens_in (parts_from z)) (token_ahead t e)

  pub has_here : (kind : TokenKind) (t : Token) → p ≡ piece.Token t → true ≡ is kind t → has kind (tokens_in (parts_in xs)) ≡ has kind (tokens_in (parts_in (drop i xs))) → true ≡ has kind (tokens_in (parts_in xs))
  has_here kind t e found here = ap (λ b. b || has kind (tokens_in (parts_in (drop (i + 1) xs)))) found ∙ ap (has kind) (sym (token_first t e)) ∙ sym here

  pub word_here : (w : Keyword) (t : Token) → p ≡ piece.Token t → true ≡ is (TokenKind.Word w) t → behind_word w (tokens_in (parts_in xs)) ≡ behind_word w (tokens_in (parts_in (drop i xs)))
      → tokens_in (parts_in (take (length xs - (i + 1)) (drop (i + 1) xs))) ≡ behind_word w (tokens_in (parts_in xs))
  word_here w t e found here =
      ap (λ z. tokens_in (parts_in z)) (sym (whole_drop xs (i + 1)))
      ∙ ap (λ b. if b then tokens_in (parts_in (drop (i + 1) xs)) else behind_word w (tokens_in (parts_in (drop (i + 1) xs)))) found
      ∙ ap (behind_word w) (sym (token_first t e)) ∙ sym here

  pub node_first : (g : SyntaxNode) → p ≡ piece.Node g → views (parts_in xs) ≡ views (parts_in (drop i xs))
      → a_syn (view (layout_of g)) (views (parts_in (take (length xs - (i + 1)) (drop (i + 1) xs)))) ≡ views (parts_in xs)
  node_first g e here = ap (λ z. a_syn (view (layout_of g)) (views (parts_in z))) (sym (whole_drop xs (i + 1))) ∙ ap (λ z. views (parts_from z)) (sym (node_ahead g e)) ∙ sym here

  pub past_token : (t : Token) → p ≡ piece.Token t → views (parts_in xs) ≡ views (parts_in (drop i xs)) → views (parts_in xs) ≡ views (parts_in (drop (i + 1) xs))
  past_token t e here = here ∙ ap (λ z. views (parts_from z)) (token_ahead t e)

pub no_word : (xs : List NodePiece) (i : ℕ) (w : Keyword) → length xs ≤ i → behind_word w (tokens_in (parts_in xs)) ≡ behind_word w (tokens_in (parts_in (drop i xs))) → [] ≡ behind_word w (tokens_in (parts_in xs))
no_word xs i w past here = ap (λ z. behind_word w (tokens_in (parts_in z))) (sym (drop_all i xs past)) ∙ sym here
