-- How the parts of the items of a text are written, one part of the text behind another.
use Rattle.std.proofs.Common.{◌≡◌, ℕ, ◌+◌, ◌<◌, suc, List, [], ◌∷◌, ◌++◌, Option, append_assoc, drop, map, length, get_or, drop-cons, add-one, refl, ap, sym, ◌∙◌}
use Rattle.std.specs.List.{filter_map}
use Rattle.std.proofs.lemmas.List.Elements.{filter_map-append}
use Rattle.src_ast.specs.Seen.{syn_of}
use Rattle.src_ast.specs.Syntax.{FieldsKind}
use Rattle.src_ast.specs.View.{view}
use Rattle.src_token.specs.declared.token.Token.{Token}
use Rattle.src_tree.specs.declared.node.SyntaxNode.{SyntaxNode}
use Rattle.src_tree.specs.declared.node.NodePiece
use Rattle.src_tree.specs.declared.node.NodePiece.{NodePiece}
use Rattle.src_tree.specs.View.{parts_from, piece_of, Single, a_token, a_node}
use Rattle.src_tree.proofs.Pieces.{node_seen, token_seen}
use Rattle.typing_rules.specs.Items.{all_kinds, item_syns, items_of}
use Rattle.type_check.specs.Kinds.{kinds_at}

pub at_token : (t : Token) → kinds_at (piece_of (NodePiece.Token t)) ≡ []
at_token t = ap kinds_at (token_seen t)

pub at_node : (n : SyntaxNode) → kinds_at (piece_of (NodePiece.Node n)) ≡ all_kinds (syn_of n ∷ [])
at_node n = ap kinds_at (node_seen n)

abbrev among : List Single → List (List FieldsKind)
among ps = all_kinds (item_syns (items_of (parts_from ps)))

apart : {X Y : Type 0} (h : X → Option Y) (F : List X → List Y) → F ≡ filter_map h → (x : X) (xs : List X) → F (x ∷ xs) ≡ F (x ∷ []) ++ F xs
apart h F is x xs =
    ap (λ G. G (x ∷ xs)) is ∙ filter_map-append h (x ∷ []) xs
    ∙ sym (ap (λ G. G (x ∷ []) ++ G xs) is)

first_piece : (o : Single) (ys : List Single) → among (o ∷ ys) ≡ kinds_at o ++ among ys
first_piece (a_token t) ys = refl
first_piece (a_node g) ys = apart _ all_kinds refl (view g) (item_syns (items_of (parts_from ys)))

pub one_more : (whole earlier more : List (List FieldsKind)) (ps : List NodePiece) (i : ℕ) (p : NodePiece) → i < length ps → p ≡ get_or ps i p →
    whole ≡ earlier ++ among (map piece_of (drop i ps)) → more ≡ earlier ++ kinds_at (piece_of p) →
    whole ≡ more ++ among (map piece_of (drop (i + 1) ps))
one_more whole earlier more ps i p less is so added =
    so
    ∙ ap (λ z. earlier ++ among (map piece_of z)) (drop-cons ps i p less)
    ∙ ap (λ z. earlier ++ among (map piece_of (z ∷ drop (suc i) ps))) (sym is)
    ∙ ap (λ z. earlier ++ z) (first_piece (piece_of p) (map piece_of (drop (suc i) ps)))
    ∙ ap (λ k. earlier ++ (kinds_at (piece_of p) ++ among (map piece_of (drop k ps)))) (sym (add-one i))
    ∙ sym (append_assoc earlier (kinds_at (piece_of p)) (among (map piece_of (drop (i + 1) ps))))
    ∙ ap (λ z. z ++ among (map piece_of (drop (i + 1) ps))) (sym added)
