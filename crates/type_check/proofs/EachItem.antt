-- The items of a text, one part behind another: of each its head and then its bodies.
use Rattle.std.proofs.Common.{◌≡◌, ℕ, suc, ◌+◌, ◌<◌, List, [], ◌∷◌, drop, map, length, get_or, add-one, drop-cons, Result, Ok, Err, refl, ap, sym, subst, ◌∙◌}
use Rattle.mir_base.specs.declared.rule.RuleError.{RuleError}
use Rattle.src_token.specs.declared.token.Token.{Token}
use Rattle.src_tree.specs.declared.node.SyntaxNode.{SyntaxNode}
use Rattle.src_tree.specs.declared.node.NodePiece
use Rattle.src_tree.specs.declared.node.NodePiece.{NodePiece}
use Rattle.src_tree.specs.View.{parts_in, parts_from, piece_of, Single, a_token, a_node}
use Rattle.src_tree.proofs.Pieces.{node_seen, token_seen}
use Rattle.src_ast.specs.Seen.{syn_of}
use Rattle.src_ast.specs.Syntax.{Syn}
use Rattle.src_ast.specs.View.{view}
use Rattle.typeck_heads.specs.Answers.{Refuses}
use Rattle.typeck_heads.proofs.Sequences.{stopped}
use Rattle.typing_rules.specs.Check.{Check, TypingState, Broken, and_then, pure, ◌>>=◌}
use Rattle.typing_rules.specs.Items.{item_syns, items_of}
use Rattle.typing_rules.specs.Program.{Before, all_items, bodies_of, item_rules}
use Rattle.typing_rules.specs.Scope.{Env}
use Rattle.type_check.specs.Forms.{item_and_bodies, piece_and_bodies}

module _ (w : Env) where
  pub at_token : (before : Before) (t : Token) (s : TypingState) → piece_and_bodies w before (piece_of (NodePiece.Token t)) s ≡ Ok (before, s)
  at_token before t s = ap (λ o. piece_and_bodies w before o s) (token_seen t)

  pub at_node : (before : Before) (n : SyntaxNode) (s : TypingState) → piece_and_bodies w before (piece_of (NodePiece.Node n)) s ≡ item_and_bodies w before (syn_of n) s
  at_node before n s = ap (λ o. piece_and_bodies w before o s) (node_seen n)

  behind_bodies : (o : Result (Unit {0} × TypingState) Broken) (next : Before) (is : List Syn) →
      and_then o (λ _. all_items w next is) ≡ and_then (and_then o (λ _. pure next)) (λ b. all_items w b is)
  behind_bodies (Ok a) next is = refl
  behind_bodies (Err e) next is = refl

  behind_item : (o : Result (Before × TypingState) Broken) (i : Syn) (is : List Syn) →
      and_then o (λ next. bodies_of w i >>= (λ _. all_items w next is))
      ≡ and_then (and_then o (λ next. bodies_of w i >>= (λ _. pure next))) (λ b. all_items w b is)
  behind_item (Ok a) i is = behind_bodies (bodies_of w i a.1) a.0 is
  behind_item (Err e) i is = refl

  first_item : (o : Single) (before : Before) (ys : List Single) (s : TypingState) →
      all_items w before (item_syns (items_of (parts_from (o ∷ ys)))) s
      ≡ and_then (piece_and_bodies w before o s) (λ b. all_items w b (item_syns (items_of (parts_from ys))))
  first_item (a_token t) before ys s = refl
  first_item (a_node g) before ys s = behind_item (item_rules w before (view g) s) (view g) (item_syns (items_of (parts_from ys)))

  item_at : (before : Before) (ps : List NodePiece) (i : ℕ) (p : NodePiece) (s : TypingState) → i < length ps → p ≡ get_or ps i p →
      all_items w before (item_syns (items_of (parts_in (drop i ps)))) s
      ≡ and_then (piece_and_bodies w before (piece_of p) s) (λ b. all_items w b (item_syns (items_of (parts_in (drop (i + 1) ps)))))
  item_at before ps i p s h is =
      ap (λ z. all_items w before (item_syns (items_of (parts_in z))) s) (drop-cons ps i p h)
      ∙ ap (λ z. all_items w before (item_syns (items_of (parts_in (z ∷ drop (suc i) ps)))) s) (sym is)
      ∙ first_item (piece_of p) before (map piece_of (drop (suc i) ps)) s
      ∙ ap (λ z. and_then (piece_and_bodies w before (piece_of p) s) (λ b. all_items w b (item_syns (items_of (parts_in (drop z ps)))))) (sym (add-one i))

  pub on_items : (whole : Result (Unit {0} × TypingState) Broken) (before next : Before) (ps : List NodePiece) (i : ℕ) (p : NodePiece) (s t : TypingState) →
      i < length ps → p ≡ get_or ps i p → whole ≡ all_items w before (item_syns (items_of (parts_in (drop i ps)))) s →
      piece_and_bodies w before (piece_of p) s ≡ Ok (next, t) → whole ≡ all_items w next (item_syns (items_of (parts_in (drop (i + 1) ps)))) t
  on_items whole before next ps i p s t h is so here =
      so ∙ item_at before ps i p s h is
      ∙ ap (λ o. and_then o (λ b. all_items w b (item_syns (items_of (parts_in (drop (i + 1) ps)))))) here

  pub stopped_item : (whole : Result (Unit {0} × TypingState) Broken) (before : Before) (ps : List NodePiece) (i : ℕ) (p : NodePiece) (s : TypingState) (e : RuleError) →
      i < length ps → p ≡ get_or ps i p → whole ≡ all_items w before (item_syns (items_of (parts_in (drop i ps)))) s →
      Refuses (piece_and_bodies w before (piece_of p) s) e → Refuses whole e
  stopped_item whole before ps i p s e h is so here =
      subst (λ o. Refuses o e) (sym (so ∙ item_at before ps i p s h is))
      (stopped (piece_and_bodies w before (piece_of p) s) (λ b. all_items w b (item_syns (items_of (parts_in (drop (i + 1) ps))))) e here)
