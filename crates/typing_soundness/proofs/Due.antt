-- What follows a point of a row, as a claim: whatever tokens and parts come, this is so of the row that they make.
use Rattle.std.proofs.Common.{◌≡◌, Bool, true, false, ◌&&◌, ◌⊎◌, Option, Some, None, IsTrue, refl, subst, if◌then◌else◌}
use Rattle.std.proofs.lemmas.Bool.{and_parts}
use Rattle.src_token.specs.declared.mark.Mark.{Mark}
use Rattle.src_token.specs.declared.token.Token.{Token}
use Rattle.src_tree.specs.declared.kind.TokenKind.{TokenKind}
use Rattle.src_tree.specs.declared.place.GrammarPart.{GrammarPart}
use Rattle.src_tree.specs.declared.place.GrammarPlace.{GrammarPlace}
use Rattle.src_tree.specs.declared.row.GrammarRow.{GrammarRow}
use Rattle.src_tree.specs.Grammar.{place_of, GrammarRest, ends, token, either, part, maybe, list, more, many, items, alternatives, statements, arms, arm_body, after_break, is, comma, move, behind, behind_statement, behind_arm, behind_body, behind_break, made}
use Rattle.src_tree.specs.Layout.{node, end, tok, sub, row_of, due_place, Levelled, Follows}
use Rattle.typing_soundness.proofs.Good.{Tree, Held, IsQuiet, IsExpr, IsLabel, IsItem, RowIs, Stands, Each, EachBut}
use Rattle.typing_soundness.proofs.Tokens.{IsPlain, TokenDue, token_due}

infixr 5 ◌⊕◌
abbrev pub ◌⊕◌ : Held → Held → Held
end ⊕ m = m
(tok t rest) ⊕ m = tok t (rest ⊕ m)
(sub g rest) ⊕ m = sub g (rest ⊕ m)

-- the tokens between the parts of a list
abbrev pub is_loose : Token → Bool
is_loose (Token.Mark Mark.Comma) = true
is_loose (Token.Mark Mark.DotDot) = true
is_loose _ = false

abbrev pub IsLoose : Held → Type 0
IsLoose end = Unit {0}
IsLoose (tok t rest) = IsTrue (is_loose t) × IsLoose rest
IsLoose (sub g rest) = IsLoose rest

abbrev pub Claims : Type 1
Claims = GrammarRow → Held → Type 0

abbrev pub DuePart : Bool → GrammarRest → (GrammarRow → Held → Type 0) → Type 0
DuePart head (ends r) C = C r end
DuePart head (token k after) C = TokenDue k (λ t. DuePart head after (λ r rest. C r (tok t rest)))
DuePart head (either k after other) C = TokenDue k (λ t. DuePart head after (λ r rest. C r (tok t rest))) × DuePart head other C
DuePart head (part p after) C = (g : Tree) → Stands (place_of head p) g → DuePart head after (λ r rest. C r (sub g rest))
DuePart head (maybe p after r) C =
    C r end × ((g : Tree) → Stands (place_of head p) g → DuePart head after (λ r rest. C r (sub g rest)))
DuePart head (list p later dots close after) C =
    (gs : Held) → EachBut (Stands (place_of head p)) (Stands (place_of head later)) gs → IsLoose gs → TokenDue close (λ
    t. DuePart head after (λ r rest. C r (gs ⊕ tok t rest)))
DuePart head (more p dots close after) C =
    (gs : Held) → Each (Stands (place_of head p)) gs → IsLoose gs → TokenDue close (λ t. DuePart head after (λ r rest. C r
    (gs ⊕ tok t rest)))
DuePart head (many p close after) C =
    (gs : Held) → Each (Stands (place_of head p)) gs → IsLoose gs → TokenDue close (λ t. DuePart head after (λ r rest. C r
    (gs ⊕ tok t rest)))
DuePart head items C = (gs : Held) → Each IsItem gs → C GrammarRow.File gs
DuePart head alternatives C = (gs : Held) → Each IsQuiet gs → C GrammarRow.OrPattern gs
DuePart head (statements o) C = (gs : Held) → Each IsExpr gs → C GrammarRow.Block gs
DuePart head (arms some) C = (gs : Held) → Each IsExpr gs → C GrammarRow.Match gs
DuePart head arm_body C =
    (g : Tree) → IsExpr g → (C GrammarRow.Arm (sub g end) × C GrammarRow.Arm (sub g (tok (Token.Mark Mark.Comma) end)))
    × C GrammarRow.LastArm (sub g end)
DuePart head after_break C =
    C GrammarRow.Break end × ((g : Tree) → IsExpr g ⊎ IsLabel g → C GrammarRow.Break (sub g end)) × ((g v : Tree) → IsLabel g → IsExpr
    v → C GrammarRow.Break (sub g (sub v end)))

-- ---- a part that is there

-- a node is what it is by its row, wherever it may stand
abbrev pub Fits : Tree → Type 0
Fits g = (c : GrammarPlace) → Levelled (Some c) g → Stands c g × RowIs c.head (row_of g) g

abbrev pub Subs : Held → Type 0
Subs end = Unit {0}
Subs (tok t rest) = IsPlain t × Subs rest
Subs (sub g rest) = Fits g × Subs rest

no_node : (g : Tree) → Levelled None g → ⊥
no_node (node at r parts) h = h

no_follow : (head : Bool) (r : GrammarRow) (parts : Held) → Follows head None r parts → ⊥
no_follow head r end h = h
no_follow head r (tok t rest) h = h
no_follow head r (sub g rest) h = h

choose : {X : Type 0} (P : X → Type 0) (b : Bool) (x : X) (o : Option X) (y : X) → (if b then Some x else o) ≡ Some y →
    (b ≡ true → P x) → (o ≡ Some y → P y) → P y
choose P true x o y e p q = let s : x ≡ y = cc in subst P s (p refl)
choose P false x o y e p q = q e

none_is : {X : Type 0} (P : Type 0) (y : X) → None ≡ Some y → P
none_is P y e = absurd (cc)

each_of_both : (F : Tree → Type 0) (gs : Held) → EachBut F F gs → Each F gs
each_of_both F end h = h
each_of_both F (tok t rest) h = each_of_both F rest h
each_of_both F (sub g rest) h = h

is_comma : (t : Token) → is comma t ≡ true → IsPlain t → IsTrue (is_loose t)
is_comma t e p = token_due comma t (λ t. IsTrue (is_loose t)) e p refl

is_dots : (t : Token) → is (TokenKind.Mark Mark.DotDot) t ≡ true → IsPlain t → IsTrue (is_loose t)
is_dots t e p = token_due (TokenKind.Mark Mark.DotDot) t (λ t. IsTrue (is_loose t)) e p refl

module _ (head : Bool) where
  due_end : (q : GrammarRest) (C : GrammarRow → Held → Type 0) → DuePart head q C → (r : GrammarRow) → made q ≡ Some r → C r end
  due_end (ends x) C d r e = let s : x ≡ r = cc in subst (λ x. C x end) s d
  due_end (either k after other) C d r e = due_end other C d.1 r e
  due_end (maybe p after x) C d r e = let s : x ≡ r = cc in subst (λ x. C x end) s d.0
  due_end items C d r e = let s : GrammarRow.File ≡ r = cc in subst (λ x. C x end) s (d end tt)
  due_end alternatives C d r e = let s : GrammarRow.OrPattern ≡ r = cc in subst (λ x. C x end) s (d end tt)
  due_end arm_body C d r e = none_is _ r e
  due_end after_break C d r e = let s : GrammarRow.Break ≡ r = cc in subst (λ x. C x end) s d.0
  due_end other C d r e = none_is _ r e

  -- behind a token
  abbrev Behind : (GrammarRow → Held → Type 0) → Token → GrammarRest → Type 0
  Behind C t q = DuePart head q (λ r rest. C r (tok t rest))

  due_tok : (q : GrammarRest) (C : GrammarRow → Held → Type 0) → DuePart head q C → (t : Token) → IsPlain t → (q1 : GrammarRest) → move q t ≡
      Some q1 → Behind C t q1
  due_tok (ends x) C d t p q1 e = none_is _ q1 e
  due_tok (token k after) C d t p q1 e =
      choose (Behind C t) (is k t) after None q1 e (λ i. token_due k t (λ t. Behind C t after) i p d) (none_is _ q1)
  due_tok (either k after other) C d t p q1 e =
      choose (Behind C t) (is k t) after (move other t) q1 e (λ i. token_due k t (λ t. Behind C t after) i p d.0)
      (due_tok other C d.1 t p q1)
  due_tok (part x after) C d t p q1 e = none_is _ q1 e
  due_tok (maybe x after r) C d t p q1 e = none_is _ q1 e
  due_tok (list x later dots close after) C d t p q1 e =
      choose (Behind C t) (is close t) after (if dots && is (TokenKind.Mark Mark.DotDot) t then Some (token close after) else
      None) q1 e (λ i. token_due close t (λ t. Behind C t after) i p (d end tt tt))
      (λ f. choose (Behind C t) (dots && is (TokenKind.Mark Mark.DotDot) t) (token close after) None q1 f (λ i. d (tok t end)
      tt (is_dots t (and_parts dots _ i).1 p, tt)) (none_is _ q1))
  due_tok (more x dots close after) C d t p q1 e =
      choose (Behind C t) (is close t) after (if is comma t then Some (list x x dots close after) else None) q1 e
      (λ i. token_due close t (λ t. Behind C t after) i p (d end tt tt))
      (λ f. choose (Behind C t) (is comma t) (list x x dots close after) None q1 f (λ i gs k l. d (tok t gs)
      (each_of_both _ gs k) (is_comma t i p, l)) (none_is _ q1))
  due_tok (many x close after) C d t p q1 e =
      choose (Behind C t) (is close t) after None q1 e (λ i. token_due close t (λ t. Behind C t after) i p (d end tt
      tt)) (none_is _ q1)
  due_tok items C d t p q1 e = none_is _ q1 e
  due_tok alternatives C d t p q1 e =
      choose (Behind C t) (is (TokenKind.Mark Mark.Or) t) _ None q1 e (λ i g k gs l. d (tok t (sub g gs)) (k, l)) (none_is _
      q1)
  due_tok (statements o) C d t p q1 e =
      choose (Behind C t) (is (TokenKind.Mark Mark.CloseBrace) t) _ None q1 e (λ i. d (tok t end) tt) (none_is _ q1)
  due_tok (arms some) C d t p q1 e =
      choose (Behind C t) (some && is (TokenKind.Mark Mark.CloseBrace) t) _ None q1 e (λ i. d (tok t end) tt) (none_is _ q1)
  due_tok arm_body C d t p q1 e = none_is _ q1 e
  due_tok after_break C d t p q1 e = none_is _ q1 e

  -- behind a part
  abbrev Beyond : (GrammarRow → Held → Type 0) → Tree → GrammarRest → Type 0
  Beyond C g q = DuePart head q (λ r rest. C r (sub g rest))

  statement_due : (C : GrammarRow → Held → Type 0) → ((gs : Held) → Each IsExpr gs → C GrammarRow.Block gs) → (g : Tree) → IsExpr g
      → (r : GrammarRow) → Beyond C g (behind_statement r)
  statement_due C d g k GrammarRow.Let = λ gs e. d (sub g gs) (k, e)
  statement_due C d g k GrammarRow.Semi = λ gs e. d (sub g gs) (k, e)
  statement_due C d g k GrammarRow.Empty = λ gs e. d (sub g gs) (k, e)
  statement_due C d g k GrammarRow.Block = λ gs e. d (sub g gs) (k, e)
  statement_due C d g k GrammarRow.If = λ gs e. d (sub g gs) (k, e)
  statement_due C d g k GrammarRow.Match = λ gs e. d (sub g gs) (k, e)
  statement_due C d g k GrammarRow.Loop = λ gs e. d (sub g gs) (k, e)
  statement_due C d g k GrammarRow.While = λ gs e. d (sub g gs) (k, e)
  statement_due C d g k _ = d (sub g (tok (Token.Mark Mark.CloseBrace) end)) (k, tt)

  arm_due : (C : GrammarRow → Held → Type 0) → ((gs : Held) → Each IsExpr gs → C GrammarRow.Match gs) → (g : Tree) → IsExpr g → (r :
      GrammarRow) → Beyond C g (behind_arm r)
  arm_due C d g k GrammarRow.Arm = λ gs e. d (sub g gs) (k, e)
  arm_due C d g k _ = d (sub g (tok (Token.Mark Mark.CloseBrace) end)) (k, tt)

  body_due : (C : GrammarRow → Held → Type 0) → DuePart head arm_body C → (g : Tree) → IsExpr g → (r : GrammarRow) → Beyond C g
      (behind_body r)
  body_due C d g k GrammarRow.Block = let a = (d g k).0 in (a.1, a.0)
  body_due C d g k _ = let a = d g k in (a.0.1, a.1)

  either_part : (head : Bool) (g : Tree) → Stands (place_of head GrammarPart.AfterBreak) g → IsExpr g ⊎ IsLabel g
  either_part true g k = k
  either_part false g k = k

  pub value_part : (head : Bool) (g : Tree) → Stands (place_of head GrammarPart.AfterReturn) g → IsExpr g
  value_part true g k = k
  value_part false g k = k

  break_due : (C : GrammarRow → Held → Type 0) → DuePart head after_break C → (g : Tree) → IsExpr g ⊎ IsLabel g → (r : GrammarRow) →
      RowIs head r g → Beyond C g (behind_break r)
  break_due C d g k GrammarRow.LabelName l = (d.1 g k, λ v e. d.2 g v l (value_part head v e))
  break_due C d g k _ l = d.1 g k

  due_sub : (q : GrammarRest) (C : GrammarRow → Held → Type 0) → DuePart head q C → (g : Tree) → Fits g → Levelled (due_place head q) g →
      Beyond C g (behind q (row_of g))
  due_sub (ends x) C d g f h = absurd (no_node g h)
  due_sub (token k after) C d g f h = absurd (no_node g h)
  due_sub (either k after other) C d g f h = due_sub other C d.1 g f h
  due_sub (part p after) C d g f h = d g (f _ h).0
  due_sub (maybe p after x) C d g f h = d.1 g (f _ h).0
  due_sub (list p later dots close after) C d g f h = λ gs e l. d (sub g gs) ((f _ h).0, e) l
  due_sub (more p dots close after) C d g f h = absurd (no_node g h)
  due_sub (many p close after) C d g f h = λ gs e l. d (sub g gs) ((f _ h).0, e) l
  due_sub items C d g f h = λ gs e. d (sub g gs) ((f _ h).0, e)
  due_sub alternatives C d g f h = absurd (no_node g h)
  due_sub (statements true) C d g f h = statement_due C d g (f _ h).0 (row_of g)
  due_sub (statements false) C d g f h = statement_due C d g (f _ h).0 (row_of g)
  due_sub (arms some) C d g f h = arm_due C d g (f _ h).0 (row_of g)
  due_sub arm_body C d g f h = body_due C d g (f _ h).0 (row_of g)
  due_sub after_break C d g f h = break_due C d g (either_part head g (f _ h).0) (row_of g) (f _ h).1

  on_token : (q : GrammarRest) (t : Token) (r : GrammarRow) (rest : Held) → Follows head (move q t) r rest → (X : Type 0) → ((q1 :
      GrammarRest) → move q t ≡ Some q1 → Follows head (Some q1) r rest → X) → X
  on_token q t r rest h X f = by (move q t) refl h
    where
      by : (o : Option GrammarRest) → move q t ≡ o → Follows head o r rest → X
      by None e k = absurd (no_follow head r rest k)
      by (Some q1) e k = f q1 e k

  pub due_ok : (q : GrammarRest) (C : GrammarRow → Held → Type 0) → DuePart head q C → (r : GrammarRow) (parts : Held) → Follows head (Some q) r
      parts → Subs parts → C r parts
  due_ok q C d r end h s = due_end q C d r h
  due_ok q C d r (tok t rest) h s =
      on_token q t r rest h (C r (tok t rest)) (λ q1 e k. due_ok q1 (λ r rest. C r (tok t rest)) (due_tok q C d t s.0 q1
      e) r rest k s.1)
  due_ok q C d r (sub g rest) h s =
      due_ok (behind q (row_of g)) (λ r rest. C r (sub g rest)) (due_sub q C d g s.0 h.0) r rest h.1 s.1
