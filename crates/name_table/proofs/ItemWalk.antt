-- The items of a text, one part behind another.
use Rattle.std.proofs.Common.{◌≡◌, ℕ, Bool, true, false, if◌then◌else◌, suc, ◌+◌, ◌<◌, List, [], ◌∷◌, ◌++◌, drop, map, length, get_or, add-one, drop-cons, append_assoc, Option, Some, None, Result, Ok, Err, refl, ap, sym, subst, ◌∙◌}
use Rattle.std.specs.List.{filter_map}
use Rattle.mir_base.specs.declared.rule.RuleError.{RuleError}
use Rattle.src_token.specs.declared.token.Token.{Token}
use Rattle.src_tree.specs.declared.node.SyntaxNode.{SyntaxNode}
use Rattle.src_tree.specs.declared.node.NodePiece
use Rattle.src_tree.specs.declared.node.NodePiece.{NodePiece}
use Rattle.src_tree.specs.View.{parts_in, parts_from, piece_of, layout_of, Single, a_token, a_node}
use Rattle.src_tree.proofs.Pieces.{node_seen, token_seen, node_laid}
use Rattle.src_ast.specs.Seen.{syn_of}
use Rattle.src_ast.specs.Syntax.{Word, Syn}
use Rattle.src_tree.specs.Layout.{node}
use Rattle.src_ast.specs.View.{view}
use Rattle.typing_rules.specs.Check.{TypingState, Broken, and_then}
use Rattle.typing_rules.specs.Collected as walk
use Rattle.typing_rules.specs.Collected.{heads_collected, item_head, body_sigs}
use Rattle.typing_rules.specs.Items.{ItemSyn, items_of, item_syns, bodies_in, bodies_among, is_body_row, with_body, impl_owner, body_path, body_paths}
use Rattle.typeck_heads.specs.Answers.{Refuses}
use Rattle.typeck_heads.specs.Forms.{listed}
use Rattle.typeck_heads.specs.Forms.{bodies_in_piece}
use Rattle.typeck_heads.proofs.Sequences.{stopped}
use Rattle.typeck_heads.proofs.Walks.{among_at}
use Rattle.std.proofs.lemmas.List.{map-append}
use Rattle.name_table.specs.Forms.{told_by, piece_added, item_added, paths_in_piece, own_paths}

pub told_token : {A : Type 0} (f : Syn → Option A) (t : Token) → told_by f (piece_of (NodePiece.Token t)) ≡ None
told_token f t = ap (told_by f) (token_seen t)

pub told_node : {A : Type 0} (f : Syn → Option A) (n : SyntaxNode) → told_by f (piece_of (NodePiece.Node n)) ≡ f (syn_of n)
told_node f n = ap (told_by f) (node_seen n)

module _ {A : Type 0} (f : Syn → Option A) where
  abbrev told_in : List Single → List A
  told_in ps = filter_map f (item_syns (items_of (parts_from ps)))

  first_told : (x : Syn) (o : Option A) → f x ≡ o → (xs : List Syn) → filter_map f (x ∷ xs) ≡ listed o ++ filter_map f xs
  first_told x None is xs = rw is refl
  first_told x (Some b) is xs = rw is refl

  first_piece : (o : Single) (ys : List Single) → told_in (o ∷ ys) ≡ listed (told_by f o) ++ told_in ys
  first_piece (a_token t) ys = refl
  first_piece (a_node g) ys = first_told (view g) (f (view g)) refl (item_syns (items_of (parts_from ys)))

  pub told_at : (ps : List NodePiece) (i : ℕ) (p : NodePiece) → i < length ps → p ≡ get_or ps i p →
      told_in (map piece_of (drop i ps)) ≡ listed (told_by f (piece_of p)) ++ told_in (map piece_of (drop (i + 1) ps))
  told_at ps i p h is =
      ap (λ z. told_in (map piece_of z)) (drop-cons ps i p h)
      ∙ ap (λ z. told_in (map piece_of (z ∷ drop (suc i) ps))) (sym is)
      ∙ first_piece (piece_of p) (map piece_of (drop (suc i) ps))
      ∙ ap (λ z. listed (told_by f (piece_of p)) ++ told_in (map piece_of (drop z ps))) (sym (add-one i))

  -- what is told so far, and then what the rest tells
  pub told_more : (whole earlier more : List A) (ps : List NodePiece) (i : ℕ) (p : NodePiece) (o : Option A) → i < length ps → p ≡ get_or ps i p →
      whole ≡ earlier ++ told_in (map piece_of (drop i ps)) → o ≡ told_by f (piece_of p) → more ≡ earlier ++ listed o →
      whole ≡ more ++ told_in (map piece_of (drop (i + 1) ps))
  told_more whole earlier more ps i p o h is so of_p pushed =
      so ∙ ap (λ z. earlier ++ z) (told_at ps i p h is)
      ∙ ap (λ z. earlier ++ (listed z ++ told_in (map piece_of (drop (i + 1) ps)))) (sym of_p)
      ∙ sym (append_assoc earlier (listed o) (told_in (map piece_of (drop (i + 1) ps))))
      ∙ ap (λ z. z ++ told_in (map piece_of (drop (i + 1) ps))) (sym pushed)

-- ---- paths of bodies

-- the paths of the bodies of an item
abbrev paths_of : ItemSyn → List Word
paths_of i = map (body_path i.item) i.bodies

abbrev paths_in : List Single → List Word
paths_in ps = body_paths (items_of (parts_from ps))

first_paths : (o : Single) (ys : List Single) → paths_in (o ∷ ys) ≡ paths_in_piece o ++ paths_in ys
first_paths (a_token t) ys = refl
first_paths (a_node g) ys = refl

pub paths_token : (t : Token) → paths_in_piece (piece_of (NodePiece.Token t)) ≡ []
paths_token t = ap paths_in_piece (token_seen t)

pub paths_node : (n : SyntaxNode) → paths_in_piece (piece_of (NodePiece.Node n)) ≡ map (body_path (syn_of n)) (bodies_in (layout_of n))
paths_node n = ap paths_in_piece (node_seen n)

pub more_paths : (whole earlier more : List Word) (ps : List NodePiece) (i : ℕ) (p : NodePiece) → i < length ps → p ≡ get_or ps i p →
    whole ≡ earlier ++ paths_in (map piece_of (drop i ps)) → more ≡ earlier ++ paths_in_piece (piece_of p) →
    whole ≡ more ++ paths_in (map piece_of (drop (i + 1) ps))
more_paths whole earlier more ps i p h is so pushed =
    so ∙ ap (λ z. earlier ++ paths_in (map piece_of z)) (drop-cons ps i p h)
    ∙ ap (λ z. earlier ++ paths_in (map piece_of (z ∷ drop (suc i) ps))) (sym is)
    ∙ ap (λ z. earlier ++ z) (first_paths (piece_of p) (map piece_of (drop (suc i) ps)))
    ∙ sym (append_assoc earlier (paths_in_piece (piece_of p)) (paths_in (map piece_of (drop (suc i) ps))))
    ∙ ap (λ z. z ++ paths_in (map piece_of (drop (suc i) ps))) (sym pushed)
    ∙ ap (λ z. more ++ paths_in (map piece_of (drop z ps))) (sym (add-one i))

-- ---- the bodies among the parts of a node

module _ (f : Syn → Word) where
  pub inner_token : (t : Token) → map f (bodies_in_piece (piece_of (NodePiece.Token t))) ≡ []
  inner_token t = ap (λ o. map f (bodies_in_piece o)) (token_seen t)

  pub inner_node : (n : SyntaxNode) → map f (bodies_in_piece (piece_of (NodePiece.Node n))) ≡ map f (bodies_in (layout_of n))
  inner_node n = ap (λ o. map f (bodies_in_piece o)) (node_seen n)

  pub inner_more : (whole earlier more : List Word) (ps : List NodePiece) (i : ℕ) (p : NodePiece) → i < length ps → p ≡ get_or ps i p →
      whole ≡ earlier ++ map f (bodies_among (parts_in (drop i ps))) →
      more ≡ earlier ++ map f (bodies_in_piece (piece_of p)) →
      whole ≡ more ++ map f (bodies_among (parts_in (drop (i + 1) ps)))
  inner_more whole earlier more ps i p h is so pushed =
      so ∙ ap (λ z. earlier ++ map f z) (among_at ps i p h is)
      ∙ ap (λ z. earlier ++ z) (map-append f (bodies_in_piece (piece_of p)) (bodies_among (parts_in (drop (i + 1) ps))))
      ∙ sym (append_assoc earlier (map f (bodies_in_piece (piece_of p))) (map f (bodies_among (parts_in (drop (i + 1) ps)))))
      ∙ ap (λ z. z ++ map f (bodies_among (parts_in (drop (i + 1) ps)))) (sym pushed)

  own_first : (b : Bool) (x : Syn) (xs : List Syn) → map f (with_body b x xs) ≡ (if b then f x ∷ [] else []) ++ map f xs
  own_first true x xs = refl
  own_first false x xs = refl

  -- a node by itself, and then the bodies in it
  pub node_paths : (n : SyntaxNode) →
      map f (bodies_in (layout_of n)) ≡ own_paths f n.row (syn_of n) ++ map f (bodies_among (parts_in n.parts))
  node_paths n =
      ap (λ z. map f (bodies_in z)) (node_laid n)
      ∙ own_first (is_body_row n.row) (view (node n.at n.row (parts_in n.parts))) (bodies_among (parts_in n.parts))
      ∙ ap (λ (x : Syn). own_paths f n.row x ++ map f (bodies_among (parts_in n.parts))) (sym (ap view (node_laid n)))

  pub node_found : (n : SyntaxNode) (table : List Word) →
      (table ++ own_paths f n.row (syn_of n)) ++ map f (bodies_among (parts_in n.parts)) ≡ table ++ map f (bodies_in (layout_of n))
  node_found n table =
      append_assoc table (own_paths f n.row (syn_of n)) (map f (bodies_among (parts_in n.parts)))
      ∙ ap (λ z. table ++ z) (sym (node_paths n))

-- ---- all heads

module _ (k : walk.Known) where
  pub added_token : (c : walk.Count) (t : Token) (s : TypingState) → piece_added k c (piece_of (NodePiece.Token t)) s ≡ Ok (c, s)
  added_token c t s = ap (λ o. piece_added k c o s) (token_seen t)

  pub added_node : (c : walk.Count) (n : SyntaxNode) (s : TypingState) →
      piece_added k c (piece_of (NodePiece.Node n)) s
      ≡ item_added k c (record { item = syn_of n; bodies = bodies_in (layout_of n) }) s
  added_node c n s = ap (λ o. piece_added k c o s) (node_seen n)

  then_rest : (o : Result (Unit {0} × TypingState) Broken) (i : ItemSyn) (c : walk.Count) (is : List ItemSyn) →
      and_then o (λ _. λ s. and_then (body_sigs k (impl_owner i.item) c i.bodies s) (λ d. heads_collected k d is))
      ≡ and_then (and_then o (λ _. body_sigs k (impl_owner i.item) c i.bodies)) (λ d. heads_collected k d is)
  then_rest (Ok a) i c is = refl
  then_rest (Err e) i c is = refl

  first_added : (o : Single) (c : walk.Count) (ys : List Single) (s : TypingState) →
      heads_collected k c (items_of (parts_from (o ∷ ys))) s
      ≡ and_then (piece_added k c o s) (λ d. heads_collected k d (items_of (parts_from ys)))
  first_added (a_token t) c ys s = refl
  first_added (a_node g) c ys s =
      then_rest (item_head k (view g) s) (record { item = view g; bodies = bodies_in g }) c (items_of (parts_from ys))

  added_at : (c : walk.Count) (ps : List NodePiece) (i : ℕ) (p : NodePiece) (s : TypingState) → i < length ps → p ≡ get_or ps i p →
      heads_collected k c (items_of (parts_in (drop i ps))) s
      ≡ and_then (piece_added k c (piece_of p) s) (λ d. heads_collected k d (items_of (parts_in (drop (i + 1) ps))))
  added_at c ps i p s h is =
      ap (λ z. heads_collected k c (items_of (parts_in z)) s) (drop-cons ps i p h)
      ∙ ap (λ z. heads_collected k c (items_of (parts_in (z ∷ drop (suc i) ps))) s) (sym is)
      ∙ first_added (piece_of p) c (map piece_of (drop (suc i) ps)) s
      ∙ ap (λ z. and_then (piece_added k c (piece_of p) s) (λ d. heads_collected k d (items_of (parts_in (drop z ps))))) (sym (add-one i))

  pub on_items : (whole : Result (Unit {0} × TypingState) Broken) (c d : walk.Count) (ps : List NodePiece) (i : ℕ) (p : NodePiece) (s t : TypingState) →
      i < length ps → p ≡ get_or ps i p → whole ≡ heads_collected k c (items_of (parts_in (drop i ps))) s →
      piece_added k c (piece_of p) s ≡ Ok (d, t) → whole ≡ heads_collected k d (items_of (parts_in (drop (i + 1) ps))) t
  on_items whole c d ps i p s t h is so here =
      so ∙ added_at c ps i p s h is
      ∙ ap (λ o. and_then o (λ d. heads_collected k d (items_of (parts_in (drop (i + 1) ps))))) here

  pub stopped_item : (whole : Result (Unit {0} × TypingState) Broken) (c : walk.Count) (ps : List NodePiece) (i : ℕ) (p : NodePiece) (s : TypingState) (e : RuleError) →
      i < length ps → p ≡ get_or ps i p → whole ≡ heads_collected k c (items_of (parts_in (drop i ps))) s →
      Refuses (piece_added k c (piece_of p) s) e → Refuses whole e
  stopped_item whole c ps i p s e h is so here =
      subst (λ o. Refuses o e) (sym (so ∙ added_at c ps i p s h is))
      (stopped (piece_added k c (piece_of p) s) (λ d. heads_collected k d (items_of (parts_in (drop (i + 1) ps)))) e here)
