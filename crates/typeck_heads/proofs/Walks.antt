-- Bodies of nodes, one behind another.
use Rattle.std.proofs.Common.{◌≡◌, ℕ, Bool, true, false, if◌then◌else◌, List, [], ◌∷◌, ◌++◌, drop, map, length, get_or, suc, ◌+◌, ◌<◌, add-one, drop-cons, subst, Option, Result, Ok, Err, refl, ap, sym, ◌∙◌}
use Rattle.src_tree.specs.declared.node.SyntaxNode.{SyntaxNode}
use Rattle.src_tree.specs.declared.node.NodePiece
use Rattle.src_tree.specs.declared.node.NodePiece.{NodePiece}
use Rattle.src_tree.specs.Layout.{node}
use Rattle.src_tree.specs.View.{layout_of, parts_in, parts_from, piece_of, Single, a_token, a_node}
use Rattle.src_tree.proofs.Pieces.{node_laid, node_seen, token_seen}
use Rattle.src_token.specs.declared.token.Token.{Token}
use Rattle.src_ast.specs.Seen.{syn_of}
use Rattle.src_ast.specs.Syntax.{Word, Syn}
use Rattle.src_ast.specs.View.{view}
use Rattle.typing_rules.specs.Check.{TypingState, Broken, and_then}
use Rattle.typing_rules.specs.Collected as walk
use Rattle.typing_rules.specs.Collected.{body_sig, body_sigs}
use Rattle.typing_rules.specs.Items.{bodies_in, bodies_among, is_body_row, with_body}
use Rattle.typeck_heads.specs.Forms.{own_sig, bodies_in_piece}
use Rattle.mir_base.specs.declared.rule.RuleError.{RuleError}
use Rattle.mir_ty.specs.ItemTable.{ItemTable}
use Rattle.typeck_heads.specs.Answers.{Answers, Refuses}
use Rattle.typeck_heads.proofs.Sequences.{stopped}

module _ (k : walk.Known) (owner : Option Word) where
  joined : (o : Result (walk.Count × TypingState) Broken) (xs ys : List Syn) →
      ((c : walk.Count) (s : TypingState) → body_sigs k owner c (xs ++ ys) s ≡ and_then (body_sigs k owner c xs s) (λ d. body_sigs k owner d ys)) →
      and_then o (λ d. body_sigs k owner d (xs ++ ys))
      ≡ and_then (and_then o (λ d. body_sigs k owner d xs)) (λ d. body_sigs k owner d ys)
  joined (Ok p) xs ys on = on p.0 p.1
  joined (Err e) xs ys on = refl

  -- the bodies of two lists, one behind the other
  pub both_lists : (c : walk.Count) (xs ys : List Syn) (s : TypingState) →
      body_sigs k owner c (xs ++ ys) s ≡ and_then (body_sigs k owner c xs s) (λ d. body_sigs k owner d ys)
  both_lists c [] ys s = refl
  both_lists c (x ∷ xs) ys s = joined (body_sig k owner c x s) xs ys (λ d t. both_lists d xs ys t)

  own_first : (b : Bool) (c : walk.Count) (x : Syn) (xs : List Syn) (s : TypingState) →
      body_sigs k owner c (with_body b x xs) s
      ≡ and_then ((if b then body_sig k owner c x else (λ t. Ok (c, t))) s) (λ d. body_sigs k owner d xs)
  own_first true c x xs s = refl
  own_first false c x xs s = refl

  -- a node: its own head, and then those of the bodies in it
  pub node_bodies : (c : walk.Count) (n : SyntaxNode) (s : TypingState) →
      body_sigs k owner c (bodies_in (layout_of n)) s
      ≡ and_then (own_sig k owner c n.row (syn_of n) s) (λ d. body_sigs k owner d (bodies_among (parts_in n.parts)))
  node_bodies c n s =
      ap (λ z. body_sigs k owner c (bodies_in z) s) (node_laid n)
      ∙ own_first (is_body_row n.row) c (view (node n.at n.row (parts_in n.parts))) (bodies_among (parts_in n.parts)) s
      ∙ ap (λ (x : Syn). and_then (own_sig k owner c n.row x s) (λ d. body_sigs k owner d (bodies_among (parts_in n.parts)))) (sym (ap view (node_laid n)))

  -- what is answered of the bodies in a node, behind its own head
  pub in_node : (c d : walk.Count) (n : SyntaxNode) (parts : List NodePiece) (s u : TypingState) (r : Result walk.Count RuleError) (after : ItemTable) →
      own_sig k owner c n.row (syn_of n) s ≡ Ok (d, u) → parts ≡ n.parts →
      Answers (body_sigs k owner d (bodies_among (parts_in parts)) u) r after → Answers (body_sigs k owner c (bodies_in (layout_of n)) s) r after
  in_node c d n parts s u r after own is h =
      let equal : body_sigs k owner d (bodies_among (parts_in parts)) u ≡ body_sigs k owner c (bodies_in (layout_of n)) s =
      ap (λ z. body_sigs k owner d (bodies_among (parts_in z)) u) is
      ∙ ap (λ o. and_then o (λ e. body_sigs k owner e (bodies_among (parts_in n.parts)))) (sym own) ∙ sym (node_bodies c n s) in
      subst (λ o. Answers o r after) equal h

pub at_token : (t : Token) → bodies_in_piece (piece_of (NodePiece.Token t)) ≡ []
at_token t = ap bodies_in_piece (token_seen t)

pub at_node : (n : SyntaxNode) → bodies_in_piece (piece_of (NodePiece.Node n)) ≡ bodies_in (layout_of n)
at_node n = ap bodies_in_piece (node_seen n)

first_piece : (o : Single) (ys : List Single) → bodies_among (parts_from (o ∷ ys)) ≡ bodies_in_piece o ++ bodies_among (parts_from ys)
first_piece (a_token t) ys = refl
first_piece (a_node g) ys = refl

-- the bodies of some pieces: those of the first, and then those of the rest
pub among_at : (ps : List NodePiece) (i : ℕ) (p : NodePiece) → i < length ps → p ≡ get_or ps i p →
    bodies_among (parts_in (drop i ps)) ≡ bodies_in_piece (piece_of p) ++ bodies_among (parts_in (drop (i + 1) ps))
among_at ps i p h is =
    ap (λ z. bodies_among (parts_in z)) (drop-cons ps i p h)
    ∙ ap (λ z. bodies_among (parts_in (z ∷ drop (suc i) ps))) (sym is)
    ∙ first_piece (piece_of p) (map piece_of (drop (suc i) ps))
    ∙ ap (λ z. bodies_in_piece (piece_of p) ++ bodies_among (parts_in (drop z ps))) (sym (add-one i))

module _ (k : walk.Known) (owner : Option Word) where
  pub pieces_at : (c : walk.Count) (ps : List NodePiece) (i : ℕ) (p : NodePiece) (s : TypingState) → i < length ps → p ≡ get_or ps i p →
      body_sigs k owner c (bodies_among (parts_in (drop i ps))) s
      ≡ and_then (body_sigs k owner c (bodies_in_piece (piece_of p)) s) (λ d. body_sigs k owner d (bodies_among (parts_in (drop (i + 1) ps))))
  pieces_at c ps i p s h is =
      ap (λ z. body_sigs k owner c z s) (among_at ps i p h is)
      ∙ both_lists k owner c (bodies_in_piece (piece_of p)) (bodies_among (parts_in (drop (i + 1) ps))) s

  pub on_pieces : (whole : Result (walk.Count × TypingState) Broken) (c d : walk.Count) (ps : List NodePiece) (i : ℕ) (p : NodePiece) (s t : TypingState) →
      i < length ps → p ≡ get_or ps i p → whole ≡ body_sigs k owner c (bodies_among (parts_in (drop i ps))) s →
      body_sigs k owner c (bodies_in_piece (piece_of p)) s ≡ Ok (d, t) →
      whole ≡ body_sigs k owner d (bodies_among (parts_in (drop (i + 1) ps))) t
  on_pieces whole c d ps i p s t h is so here =
      so ∙ pieces_at c ps i p s h is
      ∙ ap (λ o. and_then o (λ d. body_sigs k owner d (bodies_among (parts_in (drop (i + 1) ps))))) here

  pub stopped_at : (whole : Result (walk.Count × TypingState) Broken) (c : walk.Count) (ps : List NodePiece) (i : ℕ) (p : NodePiece) (s : TypingState) (e : RuleError) →
      i < length ps → p ≡ get_or ps i p → whole ≡ body_sigs k owner c (bodies_among (parts_in (drop i ps))) s →
      Refuses (body_sigs k owner c (bodies_in_piece (piece_of p)) s) e → Refuses whole e
  stopped_at whole c ps i p s e h is so here =
      subst (λ o. Refuses o e) (sym (so ∙ pieces_at c ps i p s h is))
      (stopped (body_sigs k owner c (bodies_in_piece (piece_of p)) s) (λ d. body_sigs k owner d (bodies_among (parts_in (drop (i + 1) ps)))) e here)
