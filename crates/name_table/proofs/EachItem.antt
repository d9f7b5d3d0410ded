-- What is done of each item, one part of a text behind another.
use Rattle.std.proofs.Common.{◌≡◌, ℕ, suc, Bool, true, false, ◌+◌, ◌<◌, List, [], ◌∷◌, ◌++◌, drop, map, length, get_or, slice_get, add-one, drop-cons, Option, Some, None, Result, Ok, Err, refl, ap, sym, subst, ◌∙◌}
use Rattle.std.specs.List.{filter_map}
use Rattle.mir_base.specs.declared.place_in_text.Pos.{Pos}
use Rattle.mir_base.specs.declared.rule.Rule.{Rule}
use Rattle.mir_base.specs.declared.rule.RuleError.{RuleError}
use Rattle.src_token.specs.declared.token.Token.{Token}
use Rattle.src_tree.specs.declared.node.SyntaxNode.{SyntaxNode}
use Rattle.src_tree.specs.declared.node.NodePiece
use Rattle.src_tree.specs.declared.node.NodePiece.{NodePiece}
use Rattle.src_tree.specs.View.{parts_in, parts_from, piece_of, Single, a_token, a_node}
use Rattle.src_tree.proofs.Pieces.{node_seen, token_seen}
use Rattle.src_ast.specs.Seen.{syn_of}
use Rattle.src_ast.specs.Syntax.{Word, Syn}
use Rattle.typing_rules.specs.Check.{Check, TypingState, Broken, and_then, obeys, pure, each_checked}
use Rattle.typing_rules.specs.Collected.{adt_item, all_derive, all_finite, is_finite, may_derive}
use Rattle.typing_rules.specs.Items.{items_of, item_syns}
use Rattle.typeck_heads.specs.Answers.{Refuses}
use Rattle.typeck_heads.specs.Forms.{listed}
use Rattle.typeck_heads.proofs.Sequences.{stopped}
use Rattle.name_table.specs.Forms.{each_done, done_in, told_by, derives_by, finite_by, Adt_}
use Rattle.name_table.proofs.ItemWalk.{told_at}

-- ---- for what it leaves

module _ {A B : Type 0} (f : A → Check (Unit {0})) (g : Check B) where
  done_rest : (o : Result (Unit {0} × TypingState) Broken) (xs : List A) →
      ((s : TypingState) → and_then (each_checked f xs s) (λ _. g) ≡ and_then (each_done f xs s) (λ _. g)) →
      and_then (and_then o (λ y. λ s. and_then (each_checked f xs s) (λ ys. pure (y ∷ ys)))) (λ _. g)
      ≡ and_then (and_then o (λ _. each_done f xs)) (λ _. g)
  done_rest (Ok a) xs on = dropped (each_checked f xs a.1) ∙ on a.1
    where
      dropped : {y : Unit {0}} (o : Result (List (Unit {0}) × TypingState) Broken) → and_then (and_then o (λ ys. pure (y ∷ ys))) (λ _. g) ≡ and_then o (λ _. g)
      dropped (Ok b) = refl
      dropped (Err e) = refl
  done_rest (Err e) xs on = refl

  pub done_then : (xs : List A) (s : TypingState) → and_then (each_checked f xs s) (λ _. g) ≡ and_then (each_done f xs s) (λ _. g)
  done_then [] s = refl
  done_then (x ∷ xs) s = done_rest (f x s) xs (λ t. done_then xs t)

-- ---- each item

module _ (f : Syn → Check (Unit {0})) where
  pub done_token : (t : Token) (s : TypingState) → done_in f (piece_of (NodePiece.Token t)) s ≡ Ok (tt, s)
  done_token t s = ap (λ o. done_in f o s) (token_seen t)

  pub done_node : (n : SyntaxNode) (s : TypingState) → done_in f (piece_of (NodePiece.Node n)) s ≡ f (syn_of n) s
  done_node n s = ap (λ o. done_in f o s) (node_seen n)

  abbrev all_done : List NodePiece → Check (Unit {0})
  all_done ps = each_done f (item_syns (items_of (parts_in ps)))

  first_done : (o : Single) (ys : List Single) (s : TypingState) →
      each_done f (item_syns (items_of (parts_from (o ∷ ys)))) s
      ≡ and_then (done_in f o s) (λ _. each_done f (item_syns (items_of (parts_from ys))))
  first_done (a_token t) ys s = refl
  first_done (a_node g) ys s = refl

  done_at : (ps : List NodePiece) (i : ℕ) (p : NodePiece) (s : TypingState) → i < length ps → p ≡ get_or ps i p →
      all_done (drop i ps) s ≡ and_then (done_in f (piece_of p) s) (λ _. all_done (drop (i + 1) ps))
  done_at ps i p s h is =
      ap (λ z. all_done z s) (drop-cons ps i p h)
      ∙ ap (λ z. all_done (z ∷ drop (suc i) ps) s) (sym is)
      ∙ first_done (piece_of p) (map piece_of (drop (suc i) ps)) s
      ∙ ap (λ z. and_then (done_in f (piece_of p) s) (λ _. all_done (drop z ps))) (sym (add-one i))

  pub on_done : (whole : Result (Unit {0} × TypingState) Broken) (ps : List NodePiece) (i : ℕ) (p : NodePiece) (s t : TypingState) (u : Unit {0}) →
      i < length ps → p ≡ get_or ps i p → whole ≡ all_done (drop i ps) s →
      done_in f (piece_of p) s ≡ Ok (u, t) → whole ≡ all_done (drop (i + 1) ps) t
  on_done whole ps i p s t u h is so here =
      so ∙ done_at ps i p s h is ∙ ap (λ o. and_then o (λ _. all_done (drop (i + 1) ps))) here

  pub stopped_done : (whole : Result (Unit {0} × TypingState) Broken) (ps : List NodePiece) (i : ℕ) (p : NodePiece) (s : TypingState) (e : RuleError) →
      i < length ps → p ≡ get_or ps i p → whole ≡ all_done (drop i ps) s →
      Refuses (done_in f (piece_of p) s) e → Refuses whole e
  stopped_done whole ps i p s e h is so here =
      subst (λ o. Refuses o e) (sym (so ∙ done_at ps i p s h is))
      (stopped (done_in f (piece_of p) s) (λ _. all_done (drop (i + 1) ps)) e here)

-- ---- each struct and enum with its number

-- a walk over structs and enums goes on behind each of them
pub record IsStep (all_ : ℕ → List Adt_ → Check (Unit {0})) (one : ℕ → Option Adt_ → Check ℕ) : Type 0 where
  pub on_none : (n : ℕ) (s : TypingState) → one n None s ≡ Ok (n, s)
  pub on_some : (n : ℕ) (a : Adt_) (as_ : List Adt_) (s : TypingState) → all_ n (a ∷ as_) s ≡ and_then (one n (Some a) s) (λ m. all_ m as_)

module _ (all_ : ℕ → List Adt_ → Check (Unit {0})) (one : ℕ → Option Adt_ → Check ℕ) (step : IsStep all_ one) where
  abbrev pub of_all : ℕ → List NodePiece → Check (Unit {0})
  of_all n ps = all_ n (filter_map adt_item (item_syns (items_of (parts_in ps))))

  one_first : (n : ℕ) (o : Option Adt_) (rest : List Adt_) (s : TypingState) → all_ n (listed o ++ rest) s ≡ and_then (one n o s) (λ m. all_ m rest)
  one_first n None rest s = ap (λ r. and_then r (λ m. all_ m rest)) (sym (step.on_none n s))
  one_first n (Some a) rest s = step.on_some n a rest s

  pub numbered_at : (n : ℕ) (ps : List NodePiece) (i : ℕ) (p : NodePiece) (s : TypingState) → i < length ps → p ≡ get_or ps i p →
      of_all n (drop i ps) s ≡ and_then (one n (told_by adt_item (piece_of p)) s) (λ m. of_all m (drop (i + 1) ps))
  numbered_at n ps i p s h is =
      ap (λ z. all_ n z s) (told_at adt_item ps i p h is)
      ∙ one_first n (told_by adt_item (piece_of p)) (filter_map adt_item (item_syns (items_of (parts_in (drop (i + 1) ps))))) s

  pub on_numbered : (whole : Result (Unit {0} × TypingState) Broken) (n m : ℕ) (ps : List NodePiece) (i : ℕ) (p : NodePiece) (s t : TypingState) →
      i < length ps → p ≡ get_or ps i p → whole ≡ of_all n (drop i ps) s →
      one n (told_by adt_item (piece_of p)) s ≡ Ok (m, t) → whole ≡ of_all m (drop (i + 1) ps) t
  on_numbered whole n m ps i p s t h is so here =
      so ∙ numbered_at n ps i p s h is ∙ ap (λ o. and_then o (λ m. of_all m (drop (i + 1) ps))) here

  pub stopped_numbered : (whole : Result (Unit {0} × TypingState) Broken) (n : ℕ) (ps : List NodePiece) (i : ℕ) (p : NodePiece) (s : TypingState) (e : RuleError) →
      i < length ps → p ≡ get_or ps i p → whole ≡ of_all n (drop i ps) s →
      Refuses (one n (told_by adt_item (piece_of p)) s) e → Refuses whole e
  stopped_numbered whole n ps i p s e h is so here =
      subst (λ o. Refuses o e) (sym (so ∙ numbered_at n ps i p s h is))
      (stopped (one n (told_by adt_item (piece_of p)) s) (λ m. of_all m (drop (i + 1) ps)) e here)

module _ (dropped : List Word) where
  derive_first : (b : Bool) (at : Pos) (n : ℕ) (as_ : List Adt_) (s : TypingState) →
      and_then (obeys Rule.T10 at b s) (λ _. all_derive dropped (suc n) as_)
      ≡ and_then (and_then (obeys Rule.T10 at b s) (λ _. pure (n + 1))) (λ m. all_derive dropped m as_)
  derive_first true at n as_ s = ap (λ z. all_derive dropped z as_ s) (sym (add-one n))
  derive_first false at n as_ s = refl

  pub derive_steps : IsStep (all_derive dropped) (derives_by dropped)
  derive_steps =
      record {
        on_none = λ n s. refl;
        on_some = λ n a as_ s. derive_first (may_derive s.items dropped a.1 (slice_get s.items.adts n)) a.0 n as_ s;
      }

  abbrev derived_from : ℕ → List NodePiece → Check (Unit {0})
  derived_from n ps = of_all (all_derive dropped) (derives_by dropped) derive_steps n ps

  pub on_derived : (whole : Result (Unit {0} × TypingState) Broken) (n m : ℕ) (ps : List NodePiece) (i : ℕ) (p : NodePiece) (o : Option Adt_) (s t : TypingState) →
      i < length ps → p ≡ get_or ps i p → whole ≡ derived_from n (drop i ps) s → o ≡ told_by adt_item (piece_of p) →
      derives_by dropped n o s ≡ Ok (m, t) → whole ≡ derived_from m (drop (i + 1) ps) t
  on_derived whole n m ps i p o s t h is so of_p here =
      on_numbered (all_derive dropped) (derives_by dropped) derive_steps whole n m ps i p s t h is so (ap (λ z. derives_by dropped n z s) (sym of_p) ∙ here)

  pub stopped_derived : (whole : Result (Unit {0} × TypingState) Broken) (n : ℕ) (ps : List NodePiece) (i : ℕ) (p : NodePiece) (o : Option Adt_) (s : TypingState) (e : RuleError) →
      i < length ps → p ≡ get_or ps i p → whole ≡ derived_from n (drop i ps) s → o ≡ told_by adt_item (piece_of p) →
      Refuses (derives_by dropped n o s) e → Refuses whole e
  stopped_derived whole n ps i p o s e h is so of_p here =
      stopped_numbered (all_derive dropped) (derives_by dropped) derive_steps whole n ps i p s e h is so (subst (λ z. Refuses (derives_by dropped n z s) e) of_p here)

-- ---- T09, one by one

finite_first : (o : Result (Unit {0} × TypingState) Broken) (n : ℕ) (as_ : List Adt_) →
    and_then o (λ _. all_finite (suc n) as_) ≡ and_then (and_then o (λ _. pure (n + 1))) (λ m. all_finite m as_)
finite_first (Ok a) n as_ = ap (λ z. all_finite z as_ a.1) (sym (add-one n))
finite_first (Err e) n as_ = refl

pub finite_steps : IsStep all_finite finite_by
finite_steps =
    record {
      on_none = λ n s. refl;
      on_some = λ n a as_ s. finite_first (is_finite n a.0 s) n as_;
    }

pub on_finite : (whole : Result (Unit {0} × TypingState) Broken) (n m : ℕ) (ps : List NodePiece) (i : ℕ) (p : NodePiece) (o : Option Adt_) (s t : TypingState) →
    i < length ps → p ≡ get_or ps i p → whole ≡ of_all all_finite finite_by finite_steps n (drop i ps) s → o ≡ told_by adt_item (piece_of p) →
    finite_by n o s ≡ Ok (m, t) → whole ≡ of_all all_finite finite_by finite_steps m (drop (i + 1) ps) t
on_finite whole n m ps i p o s t h is so of_p here =
    on_numbered all_finite finite_by finite_steps whole n m ps i p s t h is so (ap (λ z. finite_by n z s) (sym of_p) ∙ here)

pub stopped_finite : (whole : Result (Unit {0} × TypingState) Broken) (n : ℕ) (ps : List NodePiece) (i : ℕ) (p : NodePiece) (o : Option Adt_) (s : TypingState) (e : RuleError) →
    i < length ps → p ≡ get_or ps i p → whole ≡ of_all all_finite finite_by finite_steps n (drop i ps) s → o ≡ told_by adt_item (piece_of p) →
    Refuses (finite_by n o s) e → Refuses whole e
stopped_finite whole n ps i p o s e h is so of_p here =
    stopped_numbered all_finite finite_by finite_steps whole n ps i p s e h is so (subst (λ z. Refuses (finite_by n z s) e) of_p here)
