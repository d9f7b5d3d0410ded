-- The rows of expressions: their closures are those of their parts, and their parts are shaped.
use Rattle.std.proofs.Common.{◌≡◌, Bool, true, false, ◌||◌, List, ◌⊎◌, inl, inr, Option, Some, None, IsTrue, refl, sym, ap, ◌∙◌, subst, if◌then◌else◌}
use Rattle.mir_base.specs.declared.place_in_text.Pos.{Pos}
use Rattle.src_token.specs.declared.mark.Mark.{Mark}
use Rattle.src_token.specs.declared.token.Token.{Token}
use Rattle.src_token.specs.declared.word.Word.{Word as Keyword}
use Rattle.src_tree.specs.declared.kind.TokenKind.{TokenKind}
use Rattle.src_tree.specs.declared.place.GrammarPart.{GrammarPart}
use Rattle.src_tree.specs.declared.place.Start.{Start}
use Rattle.src_tree.specs.declared.row.GrammarRow.{GrammarRow}
use Rattle.src_tree.specs.declared.row.Sort.{Sort}
use Rattle.src_tree.specs.declared.place.Seen.{Seen}
use Rattle.src_tree.specs.Grammar as grammar
use Rattle.src_tree.specs.Grammar.{NodeBeginning, Joined, GrammarRest, first}
use Rattle.src_tree.specs.Layout.{node, end, tok, sub}
use Rattle.src_ast.specs.Syntax.{Word, Syn, syn, AnExpression, Expression, Parens, TupleOf, Braces, Syns, no_syn, a_syn, MaybeSyn, nothing, just}
use Rattle.src_ast.specs.View.{view, tokens_in, views, has, has_mark, ident_name, first_of, rest_of, last_of, but_last, is_label, is_statement, block_by, round}
use Rattle.typing_rules.specs.Written.{WrittenScope}
use Rattle.well_typed.specs.Claim.{Holds}
use Rattle.typing_soundness.specs.Closures.{BodySyn, closures_of, closures_in_expression, closures_among, closures_if_any}
use Rattle.typing_soundness.specs.Shapes.{is_plain, is_block, shaped_expression, all_shaped, maybe_shaped}
use Rattle.typing_soundness.proofs.Due.{◌⊕◌, IsLoose, DuePart, value_part}
use Rattle.typing_soundness.proofs.Functions.{closure_due}
use Rattle.typing_soundness.proofs.Good.{Tree, Held, Tells, IsName, IsQuiet, IsExpr, IsLabel, IsBlock, RowIs, AtExpr, AtPattern, Stands, Each, EachBut}
use Rattle.typing_soundness.proofs.Telling.{quiet, expr, of_quiet, each_join, each_map, each_of, has_behind}
use Rattle.typing_soundness.proofs.Tokens.{IsPlain}
use Rattle.typing_soundness.proofs.Types.{EntryDue}

pub tells_list : (gs : Held) (close : Token) → EachBut IsExpr IsExpr gs → Each Tells (gs ⊕ tok close end)
tells_list gs close h = each_join Tells gs (tok close end) (each_map (λ g k. k.tells) gs (each_of IsExpr gs h)) tt

pub all_shape : (gs : Held) → Each IsExpr gs → Holds (all_shaped (views gs))
all_shape end h = refl
all_shape (tok t gs) h = all_shape gs h
all_shape (sub g gs) h = (h.0.shape, all_shape gs h.1)

pub shape_list : (gs : Held) (close : Token) → EachBut IsExpr IsExpr gs → Holds (all_shaped (views (gs ⊕ tok close end)))
shape_list gs close h = all_shape (gs ⊕ tok close end) (each_join IsExpr gs (tok close end) (each_of IsExpr gs h) tt)

pub name_plain : (g : Tree) → IsName g → IsTrue (is_plain (ident_name (just (view g))))
name_plain g k = subst (λ v. IsTrue (is_plain (ident_name (just v)))) (sym k.is) k.named.plain

-- ---- blocks

last_closures : (around : WrittenScope) (ss : Syns) (rest : List BodySyn) → closures_among around ss rest ≡ closures_among
    around (but_last ss) (closures_if_any around (last_of ss) rest)
last_closures around no_syn rest = refl
last_closures around (a_syn a no_syn) rest = refl
last_closures around (a_syn a (a_syn b ss)) rest =
    ap (closures_of around a) (last_closures around (a_syn b ss) rest)

last_shape : (ss : Syns) → Holds (all_shaped ss) → Holds (all_shaped (but_last ss)) × Holds (maybe_shaped (last_of ss))
last_shape no_syn h = (refl, refl)
last_shape (a_syn a no_syn) h = (refl, h.0)
last_shape (a_syn a (a_syn b ss)) h = let k = last_shape (a_syn b ss) h.1 in ((h.0, k.0), k.1)

block_closures : (around : WrittenScope) (ss : Syns) (last : MaybeSyn) → ((rest : List BodySyn) → closures_among around ss
    rest ≡ closures_among around (but_last ss) (closures_if_any around last rest)) → (rest : List BodySyn) →
    closures_among around ss rest ≡ closures_in_expression around (block_by ss last) rest
block_closures around ss nothing h rest = refl
block_closures around ss (just last) h rest = by (is_statement last)
  where
    by : (b : Bool) → closures_among around ss rest ≡ closures_in_expression around (if b then Braces ss nothing else Braces (but_last
        ss) (just last)) rest
    by true = refl
    by false = h rest

block_shape : (ss : Syns) (last : MaybeSyn) → Holds (all_shaped ss) → Holds (all_shaped (but_last ss)) × Holds
    (maybe_shaped last) → Holds (shaped_expression (block_by ss last))
block_shape ss nothing h k = (h, refl)
block_shape ss (just last) h k = by (is_statement last)
  where
    by : (b : Bool) → Holds (shaped_expression (if b then Braces ss nothing else Braces (but_last ss) (just last)))
    by true = (h, refl)
    by false = k

block_is : (P : Expression → Type 0) → ((as_ : Syns) (m : MaybeSyn) → P (Braces as_ m)) → (ss : Syns) (last : MaybeSyn) → P
    (block_by ss last)
block_is P h ss nothing = h ss nothing
block_is P h ss (just last) = by (is_statement last)
  where
    by : (b : Bool) → P (if b then Braces ss nothing else Braces (but_last ss) (just last))
    by true = h ss nothing
    by false = h (but_last ss) (just last)

block_row : (at : Pos) (parts : Held) → Each IsExpr parts → IsBlock (node at GrammarRow.Block parts)
block_row at parts e =
    let ss = views parts in
    let shapes = all_shape parts e in
    record {
      expr = expr refl (each_map (λ g k. k.tells) parts e) (λ a r. block_closures a ss (last_of ss) (last_closures a ss)
          r) (block_shape ss (last_of ss) shapes (last_shape ss shapes)) refl refl;
      block = block_is (λ x. IsTrue (is_block (syn at (AnExpression x)))) (λ a m. refl) ss (last_of ss);
    }

-- ---- parentheses

round_closures : (around : WrittenScope) (ts : List Token) (ss : Syns) (rest : List BodySyn) → closures_among around ss rest ≡
    closures_in_expression around (round Parens TupleOf ts ss) rest
round_closures around ts no_syn rest = refl
round_closures around ts (a_syn a no_syn) rest = by (has_mark Mark.Comma ts || has_mark Mark.DotDot ts)
  where
    by : (b : Bool) → closures_of around a rest ≡ closures_in_expression around (if b then TupleOf (a_syn a no_syn) else Parens a) rest
    by true = refl
    by false = refl
round_closures around ts (a_syn a (a_syn b ss)) rest = refl

round_shape : (ts : List Token) (ss : Syns) → Holds (all_shaped ss) → Holds (shaped_expression (round Parens TupleOf ts ss))
round_shape ts no_syn h = refl
round_shape ts (a_syn a no_syn) h = by (has_mark Mark.Comma ts || has_mark Mark.DotDot ts)
  where
    by : (b : Bool) → Holds (shaped_expression (if b then TupleOf (a_syn a no_syn) else Parens a))
    by true = h
    by false = h.0
round_shape ts (a_syn a (a_syn b ss)) h = h

round_row : (at : Pos) (gs : Held) → EachBut IsExpr IsExpr gs → IsExpr (node at GrammarRow.Round (tok (Token.Mark
    Mark.OpenParenthesis) (gs ⊕ tok (Token.Mark Mark.CloseParenthesis) end)))
round_row at gs e =
    let parts = tok (Token.Mark Mark.OpenParenthesis) (gs ⊕ tok (Token.Mark Mark.CloseParenthesis) end) in
    let ts = tokens_in parts in
    let ss = views parts in
    expr refl (tells_list gs _ e) (λ a r. round_closures a ts ss r) (round_shape ts ss (shape_list gs _ e))
    refl refl

-- ---- `break`

module _ (around : WrittenScope) (l v : Syn) (rest : List BodySyn) where
  if_label : (b : Bool) → is_label l ≡ b → (ss tt_ : Syns) → closures_if_any around (first_of (if is_label l then ss else
      tt_)) rest ≡ closures_if_any around (first_of (if b then ss else tt_)) rest
  if_label b e ss tt_ = ap (λ b. closures_if_any around (first_of (if b then ss else tt_)) rest) e

if_shape : (l : Syn) (b : Bool) → is_label l ≡ b → (ss tt_ : Syns) → Holds (maybe_shaped (first_of (if b then ss else
    tt_))) → Holds (maybe_shaped (first_of (if is_label l then ss else tt_)))
if_shape l b e ss tt_ h = subst (λ b. Holds (maybe_shaped (first_of (if b then ss else tt_)))) (sym e) h

break_row : (at : Pos) (g : Tree) → IsExpr g ⊎ IsLabel g → IsExpr (node at GrammarRow.Break (tok (Token.Word Keyword.Break)
    (sub g end)))
break_row at g (inl k) =
    expr refl (k.tells, tt) (λ a r. sym (if_label a (view g) (view g) r false k.no_label no_syn (a_syn (view g) no_syn)))
    (if_shape (view g) false k.no_label no_syn (a_syn (view g) no_syn) k.shape) refl refl
break_row at g (inr k) =
    expr refl (k.tells, tt) (λ a r. k.silent a r ∙ sym (if_label a (view g) (view g) r true k.is no_syn (a_syn (view g)
    no_syn))) (if_shape (view g) true k.is no_syn (a_syn (view g) no_syn) refl) refl refl

break_value : (at : Pos) (g v : Tree) → IsLabel g → IsExpr v → IsExpr (node at GrammarRow.Break (tok (Token.Word Keyword.Break)
    (sub g (sub v end))))
break_value at g v k e =
    let one = a_syn (view v) no_syn in
    expr refl (k.tells, (e.tells, tt)) (λ a r. k.silent a _ ∙ sym (if_label a (view g) (view g) r true k.is one (a_syn
    (view g) one))) (if_shape (view g) true k.is one (a_syn (view g) one) e.shape) refl refl

-- ---- struct expressions

module _ (around : WrittenScope) (rest : List BodySyn) (b : Bool) (e : b ≡ false) where
  inits_closures : (ss : Syns) → closures_among around ss rest ≡ closures_among around (if b then rest_of ss else ss) rest
  inits_closures ss = sym (ap (λ b. closures_among around (if b then rest_of ss else ss) rest) e)

inits_shape : (b : Bool) → b ≡ false → (ss : Syns) → Holds (all_shaped ss) → Holds (all_shaped (if b then rest_of ss
    else ss))
inits_shape b e ss h = subst (λ b. Holds (all_shaped (if b then rest_of ss else ss))) (sym e) h

struct_name : (at : Pos) (n : Word) → IsTrue (is_plain (Some n)) → (gs : Held) → EachBut IsExpr IsExpr gs → IsLoose gs → IsExpr (node at
    GrammarRow.StructExpr (tok (Token.Name n) (tok (Token.Mark Mark.OpenBrace) (gs ⊕ tok (Token.Mark Mark.CloseBrace) end))))
struct_name at n p gs e l =
    let rest = gs ⊕ tok (Token.Mark Mark.CloseBrace) end in
    let b : has (TokenKind.Mark Mark.PathSep) (tokens_in rest) ≡ false = has_behind (TokenKind.Mark Mark.PathSep) gs
    (tok (Token.Mark Mark.CloseBrace) end) refl refl l in
    expr refl (tells_list gs _ e) (λ a r. inits_closures a r _ b (views rest)) (inits_shape _ b (views rest) (shape_list gs _ e)) refl refl

path_name : (at : Pos) (self : Bool) (n : Word) → IsTrue (is_plain (Some n)) → DuePart self (grammar.path self) (λ r rest. RowIs self r (node at r (tok (Token.Name n) rest)))
path_name at true n p = (
  λ g k. expr refl (k.tells, tt) (λ a r. k.silent a r) (p, name_plain g k) refl refl,
  expr refl tt (λ a r. refl) (p, refl) refl refl,
)
path_name at false n p = (
  λ g k. (
    λ gs e l. expr refl (k.tells, tells_list gs _ e) (λ a r. k.silent a _) (shape_list gs _ e) refl refl,
    expr refl (k.tells, tt) (λ a r. k.silent a r) (p, name_plain g k) refl refl,
  ),
  (
    λ gs e l. struct_name at n p gs e l,
    expr refl tt (λ a r. refl) (p, refl) refl refl,
  ),
)

struct_self : (at : Pos) → (gs : Held) → EachBut IsExpr IsExpr gs → IsLoose gs → IsExpr (node at
    GrammarRow.StructExpr (tok (Token.Word Keyword.SelfType) (tok (Token.Mark Mark.OpenBrace) (gs ⊕ tok (Token.Mark Mark.CloseBrace) end))))
struct_self at gs e l =
    let rest = gs ⊕ tok (Token.Mark Mark.CloseBrace) end in
    let b : has (TokenKind.Mark Mark.PathSep) (tokens_in rest) ≡ false = has_behind (TokenKind.Mark Mark.PathSep) gs
    (tok (Token.Mark Mark.CloseBrace) end) refl refl l in
    expr refl (tells_list gs _ e) (λ a r. inits_closures a r _ b (views rest)) (inits_shape _ b (views rest) (shape_list gs _ e)) refl refl

path_self : (at : Pos) (self : Bool) → DuePart self (grammar.path self) (λ r rest. RowIs self r (node at r (tok (Token.Word Keyword.SelfType) rest)))
path_self at true = (
  λ g k. expr refl (k.tells, tt) (λ a r. k.silent a r) (refl, name_plain g k) refl refl,
  expr refl tt (λ a r. refl) (refl, refl) refl refl,
)
path_self at false = (
  λ g k. (
    λ gs e l. expr refl (k.tells, tells_list gs _ e) (λ a r. k.silent a _) (shape_list gs _ e) refl refl,
    expr refl (k.tells, tt) (λ a r. k.silent a r) (refl, name_plain g k) refl refl,
  ),
  (
    λ gs e l. struct_self at gs e l,
    expr refl tt (λ a r. refl) (refl, refl) refl refl,
  ),
)

-- ---- entries

let_value : (at : Pos) (p : Tree) → IsQuiet p → (self : Bool) → DuePart self (grammar.if_mark Mark.Eq (grammar.part
    grammar.any_expr (grammar.mark Mark.Semi (grammar.ends GrammarRow.Let))) (grammar.mark Mark.Semi (grammar.ends GrammarRow.Let)))
    (λ r rest. RowIs self r (node at r (tok (Token.Word Keyword.Let) (sub p rest))))
let_value at p k self = (
  λ v e. expr refl (k.tells, (e.tells, tt)) (λ a r. k.silent a _) e.shape refl refl,
  expr refl (k.tells, tt) (λ a r. k.silent a r) refl refl refl,
)

let_typed : (at : Pos) (p ty : Tree) → IsQuiet p → IsQuiet ty → (self : Bool) → DuePart self (grammar.if_mark Mark.Eq
    (grammar.part grammar.any_expr (grammar.mark Mark.Semi (grammar.ends GrammarRow.Let))) (grammar.mark Mark.Semi (grammar.ends
    GrammarRow.Let))) (λ r rest. RowIs self r (node at r (tok (Token.Word Keyword.Let) (sub p (tok (Token.Mark Mark.Colon) (sub
    ty rest))))))
let_typed at p ty k kt self = (
  λ v e. expr refl (k.tells, (kt.tells, (e.tells, tt))) (λ a r. k.silent a _ ∙ kt.silent a _) e.shape refl refl,
  expr refl (k.tells, (kt.tells, tt)) (λ a r. k.silent a _ ∙ kt.silent a r) refl refl refl,
)

if_let : (at : Pos) (p s b : Tree) → IsQuiet p → IsExpr s → IsBlock b → (self : Bool) → DuePart self (grammar.if_word
    Keyword.Else (grammar.part (GrammarPart.At (grammar.expr false Start.BlockOrIf)) (grammar.ends GrammarRow.If))
    (grammar.ends GrammarRow.If)) (λ r rest. RowIs self r (node at r (tok (Token.Word Keyword.If) (tok (Token.Word Keyword.Let)
    (sub p (tok (Token.Mark Mark.Eq) (sub s (sub b rest))))))))
if_let at p s b k ks kb self = (
  λ e ke. expr refl (k.tells, (ks.tells, (kb.expr.tells, (ke.tells, tt)))) (λ a r. k.silent a _) (
    ks.shape,
    (kb.expr.shape, ke.shape),
  ) refl refl,
  expr refl (k.tells, (ks.tells, (kb.expr.tells, tt))) (λ a r. k.silent a _) (ks.shape, (kb.expr.shape, refl)) refl refl,
)

pub expression_due : (at : Pos) (self : Bool) (t : Token) → IsPlain t → EntryDue at self t (grammar.expression self t)
expression_due at self (Token.Mark Mark.Semi) p = expr refl tt (λ a r. refl) refl refl refl
expression_due at self (Token.Word Keyword.Let) p =
    λ g k. (λ ty kt. let_typed at g ty k kt self, let_value at g k self)
expression_due at self (Token.Word Keyword.Return) p = (
  expr refl tt (λ a r. refl) refl refl refl,
  λ g k. let e = value_part self self g k in expr refl (e.tells, tt) (λ a r. refl) e.shape refl refl,
)
expression_due at self (Token.Word Keyword.Break) p = (
  expr refl tt (λ a r. refl) refl refl refl,
  λ g k. break_row at g k,
  λ g v k e. break_value at g v k e,
)
expression_due at self (Token.Word Keyword.Continue) p = (
  expr refl tt (λ a r. refl) refl refl refl,
  λ g k. expr refl (k.tells, tt) (λ a r. k.silent a r) refl refl refl,
)
expression_due at self (Token.Word Keyword.Move) p = closure_due at self
expression_due at self (Token.Mark Mark.Minus) p = λ g k. expr refl (k.tells, tt) (λ a r. refl) k.shape refl refl
expression_due at self (Token.Mark Mark.Not) p = λ g k. expr refl (k.tells, tt) (λ a r. refl) k.shape refl refl
expression_due at self (Token.Mark Mark.Star) p = λ g k. expr refl (k.tells, tt) (λ a r. refl) k.shape refl refl
expression_due at self (Token.Mark Mark.And) p = (
  λ g k. expr refl (k.tells, tt) (λ a r. refl) k.shape refl refl,
  λ g k. expr refl (k.tells, tt) (λ a r. refl) k.shape refl refl,
)
expression_due at self (Token.Number value suffix) p = expr refl tt (λ a r. refl) refl refl refl
expression_due at self (Token.Word Keyword.True) p = expr refl tt (λ a r. refl) refl refl refl
expression_due at self (Token.Word Keyword.False) p = expr refl tt (λ a r. refl) refl refl refl
expression_due at self (Token.Word Keyword.SelfValue) p = expr refl tt (λ a r. refl) (refl, refl) refl refl
expression_due at self (Token.Name n) p = by (grammar.is_panic n)
  where
    by : (b : Bool) → DuePart self (grammar.named b self) (λ r rest. RowIs self r (node at r (tok (Token.Name n) rest)))
    by true = (
      (λ text. expr refl tt (λ a r. refl) refl refl refl, expr refl tt (λ a r. refl) refl refl refl),
      path_name at self n p.plain,
    )
    by false = path_name at self n p.plain
expression_due at self (Token.Word Keyword.SelfType) p = path_self at self
expression_due at self (Token.Mark Mark.OpenParenthesis) p = λ gs e l. round_row at gs e
expression_due at self (Token.Mark Mark.OpenBracket) p =
    λ gs e l. expr refl (tells_list gs _ e) (λ a r. refl) (shape_list gs _ e) refl refl
expression_due at self (Token.Mark Mark.OpenBrace) p = λ gs e. block_row at (tok (Token.Mark Mark.OpenBrace) gs) e
expression_due at self (Token.Word Keyword.If) p = (
  λ g k s ks b kb. if_let at g s b k ks kb self,
  λ c kc b kb. (
    λ e ke. expr refl (kc.tells, (kb.expr.tells, (ke.tells, tt))) (λ a r. refl) (kc.shape, (kb.expr.shape, ke.shape))
        refl refl,
    expr refl (kc.tells, (kb.expr.tells, tt)) (λ a r. refl) (kc.shape, (kb.expr.shape, refl)) refl refl,
  ),
)
expression_due at self (Token.Word Keyword.Match) p =
    λ g k gs e. expr refl (k.tells, each_map (λ g k. k.tells) gs e) (λ a r. refl) (k.shape, all_shape gs e) refl refl
expression_due at self (Token.Word Keyword.Loop) p =
    λ b kb. expr refl (kb.expr.tells, tt) (λ a r. refl) kb.expr.shape refl refl
expression_due at self (Token.Word Keyword.While) p = (
  λ g k s ks b kb. expr refl (k.tells, (ks.tells, (kb.expr.tells, tt))) (λ a r. k.silent a _) (ks.shape, kb.expr.shape)
      refl refl,
  λ c kc b kb. expr refl (kc.tells, (kb.expr.tells, tt)) (λ a r. refl) (kc.shape, kb.expr.shape) refl refl,
)
expression_due at self (Token.Label n) p = (
  (
    λ b kb. expr refl (kb.expr.tells, tt) (λ a r. refl) kb.expr.shape refl refl,
    (
      λ g k s ks b kb. expr refl (k.tells, (ks.tells, (kb.expr.tells, tt))) (λ a r. k.silent a _) (ks.shape, kb.expr.shape)
          refl refl,
      λ c kc b kb. expr refl (kc.tells, (kb.expr.tells, tt)) (λ a r. refl) (kc.shape, kb.expr.shape) refl refl,
    ),
  ),
  record { tells = λ a r. refl; silent = λ a r. refl; is = refl },
)
expression_due at self _ p = tt

pub field_init_due : (at : Pos) (self : Bool) (t : Token) → IsPlain t → EntryDue at self t (grammar.field_init t)
field_init_due at self (Token.Name n) p =
    (λ g k. expr refl (k.tells, tt) (λ a r. refl) k.shape refl refl, expr refl tt (λ a r. refl) refl refl refl)
field_init_due at self _ p = tt

-- ---- nodes that begin with a part

abbrev pub JoinedDue : Pos → Bool → Token → Option Joined → Type 0
JoinedDue at self t None = Unit {0}
JoinedDue at self t (Some j) = (g : Tree) → Stands j.place g → DuePart self j.rest (λ r rest. RowIs self r (node at r (sub
    g (tok t rest))))

first_expr : (start : Start) (g : Tree) → AtExpr (first start) g → IsExpr g
first_expr Start.Statement g k = k
first_expr _ g k = k

first_pattern : (start : Start) (self : Bool) (g : Tree) → AtPattern (first start) self g → IsQuiet g
first_pattern Start.Statement self g k = k
first_pattern _ self g k = k

abbrev pub seen_in : Sort → Start → Bool → Seen
seen_in sort start self = record { sort = sort; head = self; start = first start }

pub infix_due : (at : Pos) (start : Start) (self : Bool) (t : Token) → IsPlain t → JoinedDue at self t (grammar.infix_expr
    (seen_in Sort.Expr start self) t)
infix_due at start self (Token.Mark Mark.Eq) p = λ g k h kh.
    let e = first_expr start g k in
    expr refl (e.tells, (kh.tells, tt)) (λ a r. refl) (e.shape, kh.shape) refl refl
infix_due at start self (Token.Mark Mark.OrOr) p = λ g k h kh.
    let e = first_expr start g k in
    expr refl (e.tells, (kh.tells, tt)) (λ a r. refl) (e.shape, kh.shape) refl refl
infix_due at start self (Token.Mark Mark.AndAnd) p = λ g k h kh.
    let e = first_expr start g k in
    expr refl (e.tells, (kh.tells, tt)) (λ a r. refl) (e.shape, kh.shape) refl refl
infix_due at start self (Token.Mark Mark.EqEq) p = λ g k h kh.
    let e = first_expr start g k in
    expr refl (e.tells, (kh.tells, tt)) (λ a r. refl) (e.shape, kh.shape) refl refl
infix_due at start self (Token.Mark Mark.Ne) p = λ g k h kh.
    let e = first_expr start g k in
    expr refl (e.tells, (kh.tells, tt)) (λ a r. refl) (e.shape, kh.shape) refl refl
infix_due at start self (Token.Mark Mark.Lt) p = λ g k h kh.
    let e = first_expr start g k in
    expr refl (e.tells, (kh.tells, tt)) (λ a r. refl) (e.shape, kh.shape) refl refl
infix_due at start self (Token.Mark Mark.Le) p = λ g k h kh.
    let e = first_expr start g k in
    expr refl (e.tells, (kh.tells, tt)) (λ a r. refl) (e.shape, kh.shape) refl refl
infix_due at start self (Token.Mark Mark.Gt) p = λ g k h kh.
    let e = first_expr start g k in
    expr refl (e.tells, (kh.tells, tt)) (λ a r. refl) (e.shape, kh.shape) refl refl
infix_due at start self (Token.Mark Mark.Ge) p = λ g k h kh.
    let e = first_expr start g k in
    expr refl (e.tells, (kh.tells, tt)) (λ a r. refl) (e.shape, kh.shape) refl refl
infix_due at start self (Token.Mark Mark.Plus) p = λ g k h kh.
    let e = first_expr start g k in
    expr refl (e.tells, (kh.tells, tt)) (λ a r. refl) (e.shape, kh.shape) refl refl
infix_due at start self (Token.Mark Mark.Minus) p = λ g k h kh.
    let e = first_expr start g k in
    expr refl (e.tells, (kh.tells, tt)) (λ a r. refl) (e.shape, kh.shape) refl refl
infix_due at start self (Token.Mark Mark.Star) p = λ g k h kh.
    let e = first_expr start g k in
    expr refl (e.tells, (kh.tells, tt)) (λ a r. refl) (e.shape, kh.shape) refl refl
infix_due at start self (Token.Mark Mark.Slash) p = λ g k h kh.
    let e = first_expr start g k in
    expr refl (e.tells, (kh.tells, tt)) (λ a r. refl) (e.shape, kh.shape) refl refl
infix_due at start self (Token.Mark Mark.Percent) p = λ g k h kh.
    let e = first_expr start g k in
    expr refl (e.tells, (kh.tells, tt)) (λ a r. refl) (e.shape, kh.shape) refl refl
infix_due at start self (Token.Mark Mark.OpenParenthesis) p = λ g k gs c l.
    let e = first_expr start g k in
    expr refl (e.tells, tells_list gs _ c) (λ a r. refl) (e.shape, shape_list gs _ c) refl refl
infix_due at start self (Token.Mark Mark.Dot) p = λ g k.
    let e = first_expr start g k in (
      λ n q. (
        λ gs c l. expr refl (e.tells, tells_list gs _ c) (λ a r. refl) (e.shape, shape_list gs _ c) refl refl,
        expr refl (e.tells, tt) (λ a r. refl) e.shape refl refl,
      ),
      λ value. expr refl (e.tells, tt) (λ a r. refl) e.shape refl refl,
    )
infix_due at start self (Token.Mark Mark.OpenBracket) p = λ g k h kh.
    let e = first_expr start g k in
    expr refl (e.tells, (kh.tells, tt)) (λ a r. refl) (e.shape, kh.shape) refl refl
infix_due at start self (Token.Mark Mark.Semi) p =
    λ g k. expr refl (k.tells, tt) (λ a r. refl) k.shape refl refl
infix_due at start self _ p = tt

pub infix_pattern_due : (at : Pos) (start : Start) (self : Bool) (t : Token) → IsPlain t → JoinedDue at self t
    (grammar.infix_pattern (seen_in Sort.Pattern start self) t)
infix_pattern_due at start self (Token.Mark Mark.Or) p = λ g k h kh gs e.
    let q = first_pattern start self g k in
    quiet refl (of_quiet q, (of_quiet kh, each_map (λ g k. of_quiet k) gs e)) (λ a r. refl) refl refl
infix_pattern_due at start self (Token.Mark Mark.Colon) p = λ g k ty kt.
    let q = first_pattern start self g k in
    record { quiet = quiet refl (of_quiet q, (of_quiet kt, tt)) (λ a r. refl) refl refl; other = λ e rest. refl }
infix_pattern_due at start self (Token.Mark Mark.FatArrow) p = λ g k b kb.
    let q = first_pattern start self g k in (
      (
        expr refl (q.tells, (kb.tells, tt)) (λ a r. q.silent a _) (refl, kb.shape) refl refl,
        expr refl (q.tells, (kb.tells, tt)) (λ a r. q.silent a _) (refl, kb.shape) refl refl,
      ),
      expr refl (q.tells, (kb.tells, tt)) (λ a r. q.silent a _) (refl, kb.shape) refl refl,
    )
infix_pattern_due at start self (Token.Word Keyword.If) p = λ g k c kc b kb.
    let q = first_pattern start self g k in (
      (
        expr refl (q.tells, (kc.tells, (kb.tells, tt))) (λ a r. q.silent a _) (kc.shape, kb.shape) refl refl,
        expr refl (q.tells, (kc.tells, (kb.tells, tt))) (λ a r. q.silent a _) (kc.shape, kb.shape) refl refl,
      ),
      expr refl (q.tells, (kc.tells, (kb.tells, tt))) (λ a r. q.silent a _) (kc.shape, kb.shape) refl refl,
    )
infix_pattern_due at start self _ p = tt
