-- The methods of impls that have `self`: what is asked of a node is asked of its form alone, and one part of a text comes
-- behind another.
use Rattle.std.proofs.Common.{◌≡◌, ℕ, ◌+◌, ◌<◌, suc, List, [], ◌∷◌, ◌++◌, append_assoc, drop, map, length, get_or, drop-cons, add-one, refl, ap, sym, ◌∙◌}
use Rattle.std.specs.List.{flat_map}
use Rattle.src_ast.specs.Seen.{syn_of}
use Rattle.src_ast.specs.Sorts.{item_part, param_part}
use Rattle.src_ast.specs.Syntax.{Word, Syn, syn, shape_of, AnItem, AParam, ImplItem, FnItem, SelfParam, Syns, a_syn, list_of}
use Rattle.src_token.specs.declared.token.Token.{Token}
use Rattle.src_tree.specs.declared.node.SyntaxNode.{SyntaxNode}
use Rattle.src_tree.specs.declared.node.NodePiece
use Rattle.src_tree.specs.declared.node.NodePiece.{NodePiece}
use Rattle.src_tree.specs.View.{parts_from, piece_of, Single, a_token, a_node}
use Rattle.src_tree.proofs.Pieces.{node_seen, token_seen}
use Rattle.typing_rules.specs.Items.{is_self, item_syns, items_of, self_method, self_methods, self_methods_of}
use Rattle.type_check.specs.SelfMethods.{is_self_by, self_method_by, self_methods_at, self_methods_by}

self_as : (x : Syn) → is_self x ≡ is_self_by (param_part (shape_of x))
self_as (syn at (AParam (SelfParam receiver))) = refl
self_as (syn at _) = refl

pub self_seen : (n : SyntaxNode) → is_self (syn_of n) ≡ is_self_by (param_part (shape_of (syn_of n)))
self_seen n = self_as (syn_of n)

method_as : (owner : Word) (x : Syn) → self_method owner x ≡ self_method_by owner (item_part (shape_of x))
method_as owner (syn at (AnItem (FnItem a b c d))) = refl
method_as owner (syn at _) = refl

pub method_seen : (owner : Word) (n : SyntaxNode) → self_method owner (syn_of n) ≡ self_method_by owner (item_part (shape_of (syn_of n)))
method_seen owner n = method_as owner (syn_of n)

item_as : (x : Syn) → self_methods_of x ≡ self_methods_by (item_part (shape_of x))
item_as (syn at (AnItem (ImplItem a b c))) = refl
item_as (syn at _) = refl

pub item_seen : (n : SyntaxNode) → self_methods_of (syn_of n) ≡ self_methods_by (item_part (shape_of (syn_of n)))
item_seen n = item_as (syn_of n)

pub at_token : (t : Token) → self_methods_at (piece_of (NodePiece.Token t)) ≡ []
at_token t = ap self_methods_at (token_seen t)

pub at_node : (n : SyntaxNode) → self_methods_at (piece_of (NodePiece.Node n)) ≡ self_methods_of (syn_of n)
at_node n = ap self_methods_at (node_seen n)

-- ---- one behind another

abbrev functions : Word → Syns → List Word
functions owner ss = flat_map (self_method owner) (list_of ss)

pub one_function : (owner : Word) (whole names more : List Word) (ss : Syns) (x : Syn) (xs : Syns) → whole ≡ names ++ functions owner ss →
    a_syn x xs ≡ ss → more ≡ names ++ self_method owner x → whole ≡ more ++ functions owner xs
one_function owner whole names more ss x xs so split added =
    so
    ∙ ap (λ z. names ++ functions owner z) (sym split)
    ∙ sym (append_assoc names (self_method owner x) (functions owner xs))
    ∙ ap (λ z. z ++ functions owner xs) (sym added)

abbrev among : List Single → List Word
among ps = self_methods (item_syns (items_of (parts_from ps)))

first_piece : (o : Single) (ys : List Single) → among (o ∷ ys) ≡ self_methods_at o ++ among ys
first_piece (a_token t) ys = refl
first_piece (a_node g) ys = refl

pub one_piece : (whole names more : List Word) (ps : List NodePiece) (i : ℕ) (p : NodePiece) → i < length ps → p ≡ get_or ps i p →
    whole ≡ names ++ among (map piece_of (drop i ps)) → more ≡ names ++ self_methods_at (piece_of p) →
    whole ≡ more ++ among (map piece_of (drop (i + 1) ps))
one_piece whole names more ps i p less is so added =
    so
    ∙ ap (λ z. names ++ among (map piece_of z)) (drop-cons ps i p less)
    ∙ ap (λ z. names ++ among (map piece_of (z ∷ drop (suc i) ps))) (sym is)
    ∙ ap (λ z. names ++ z) (first_piece (piece_of p) (map piece_of (drop (suc i) ps)))
    ∙ ap (λ k. names ++ (self_methods_at (piece_of p) ++ among (map piece_of (drop k ps)))) (sym (add-one i))
    ∙ sym (append_assoc names (self_methods_at (piece_of p)) (among (map piece_of (drop (i + 1) ps))))
    ∙ ap (λ z. z ++ among (map piece_of (drop (i + 1) ps))) (sym added)
