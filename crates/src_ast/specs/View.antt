-- From the rows of the grammar to the forms: one line a row. A row is its tokens and its nodes, each in their order;
-- the tokens tell which of its parts are there.
use Rattle.std.specs.Prelude.{ℕ, Bool, true, false, ◌||◌, List, [], ◌∷◌, Option, Some, None, if◌then◌else◌, codes}
use Rattle.std.specs.List.{list_any}
use Rattle.std.specs.Option.{is_some}
use Rattle.mir_base.specs.declared.int_kind.IntKind.{IntKind}
use Rattle.mir_base.specs.declared.operator.Cmp.{Cmp}
use Rattle.mir_base.specs.declared.operator.Math.{Math}
use Rattle.mir_base.specs.declared.place_in_text.Pos.{Pos}
use Rattle.src_token.specs.declared.mark.Mark.{Mark}
use Rattle.src_token.specs.declared.token.Token.{Token}
use Rattle.src_token.specs.declared.word.Word.{Word as Keyword}
use Rattle.src_tree.specs.declared.kind.TokenKind.{TokenKind}
use Rattle.src_tree.specs.declared.row.GrammarRow.{GrammarRow}
use Rattle.src_tree.specs.Grammar.{is}
use Rattle.src_tree.specs.Layout as layout
use Rattle.src_tree.specs.Layout.{node, Parts, end, tok, sub}
use Rattle.src_ast.specs.Sorts.{statement_part}
use Rattle.src_ast.specs.Syntax.{Word, Named, FieldsKind, Unit_, Tuple_, Fields_, ByValue, ByShared, ByUnique, Syn, syn, Shape, AName, ALabel, AnExpression, AStatement, APattern, AType, AnItem, AParam, AField, AVariant, AnInit, AFieldPattern, AnArm, Odd, Expression, Literal, TruthLiteral, Path, Minus, Bang, Star, Ampersand, Calculate, Compare, Both, Either, Store, CallOf, MethodOf, FieldOf, PartOf, ElementOf, StructOf, Parens, TupleOf, ArrayOf, Braces, IfElse, IfLetElse, MatchOn, LoopOf, WhileOf, WhileLetOf, BreakOf, ContinueOf, ReturnOf, MoveOf, PanicOf, LetOf, Empty, Semi, AnyPattern, BindPattern, LiteralPattern, TruthPattern, PathPattern, PartsPattern, FieldsPattern, ParensPattern, TuplePattern, ArrayPattern, Alternatives, NamedType, GenericType, DynType, SelfType, ParensType, TupleType, ArrayType, NeverType, RefType, StructItem, EnumItem, TraitItem, ImplItem, FnItem, Param, ParamOf, SelfParam, Syns, no_syn, a_syn, MaybeSyn, nothing, just}

-- ---- tokens

abbrev pub tokens_in : {L : Type 0} → Parts L → List Token
tokens_in end = []
tokens_in (tok t rest) = t ∷ tokens_in rest
tokens_in (sub g rest) = tokens_in rest

abbrev pub has : TokenKind → List Token → Bool
has kind ts = list_any (is kind) ts

abbrev pub has_mark : Mark → List Token → Bool
has_mark m ts = has (TokenKind.Mark m) ts

abbrev pub has_word : Keyword → List Token → Bool
has_word w ts = has (TokenKind.Word w) ts

abbrev pub name_in : Token → Option Word
name_in (Token.Name n) = Some n
name_in _ = None

abbrev pub label_in : Token → Option Word
label_in (Token.Label n) = Some n
label_in _ = None

abbrev pub number_in : Token → Option (ℕ × Option IntKind)
number_in (Token.Number value suffix) = Some (value, suffix)
number_in _ = None

abbrev pub or_else : {A : Type 0} → Option A → Option A → Option A
or_else None other = other
or_else (Some a) other = Some a

-- the first of some tokens that tells something
abbrev pub first_that : {A : Type 0} → (Token → Option A) → List Token → Option A
first_that f [] = None
first_that f (t ∷ ts) = or_else (f t) (first_that f ts)

abbrev pub or_empty : Option Word → Word
or_empty None = []
or_empty (Some n) = n

abbrev pub or_zero : Option (ℕ × Option IntKind) → ℕ × Option IntKind
or_zero None = (0, None)
or_zero (Some n) = n

abbrev pub a_name : List Token → Word
a_name ts = or_empty (first_that name_in ts)

abbrev pub a_number : List Token → ℕ × Option IntKind
a_number ts = or_zero (first_that number_in ts)

abbrev pub a_label : List Token → Option Word
a_label ts = first_that label_in ts

abbrev pub math_in : Token → Option Math
math_in (Token.Mark Mark.Plus) = Some Math.Add
math_in (Token.Mark Mark.Minus) = Some Math.Sub
math_in (Token.Mark Mark.Star) = Some Math.Mul
math_in (Token.Mark Mark.Slash) = Some Math.Div
math_in (Token.Mark Mark.Percent) = Some Math.Rem
math_in _ = None

abbrev pub cmp_in : Token → Option Cmp
cmp_in (Token.Mark Mark.EqEq) = Some Cmp.Eq
cmp_in (Token.Mark Mark.Ne) = Some Cmp.Ne
cmp_in (Token.Mark Mark.Lt) = Some Cmp.Lt
cmp_in (Token.Mark Mark.Le) = Some Cmp.Le
cmp_in (Token.Mark Mark.Gt) = Some Cmp.Gt
cmp_in (Token.Mark Mark.Ge) = Some Cmp.Ge
cmp_in _ = None

-- the tokens behind a word
abbrev pub behind_word : Keyword → List Token → List Token
behind_word w [] = []
behind_word w (t ∷ ts) = if is (TokenKind.Word w) t then ts else behind_word w ts

-- ---- nodes

abbrev pub rest_of : Syns → Syns
rest_of no_syn = no_syn
rest_of (a_syn first rest) = rest

abbrev pub first_of : Syns → MaybeSyn
first_of no_syn = nothing
first_of (a_syn first rest) = just first

-- the last of some nodes, and the others
abbrev pub last_of : Syns → MaybeSyn
last_of no_syn = nothing
last_of (a_syn first no_syn) = just first
last_of (a_syn first (a_syn second rest)) = last_of (a_syn second rest)

abbrev pub but_last : Syns → Syns
but_last no_syn = no_syn
but_last (a_syn first no_syn) = no_syn
but_last (a_syn first (a_syn second rest)) = a_syn first (but_last (a_syn second rest))

-- what stands at the head of a list, and what is made of the rest
abbrev pub with_first : (Syn → Syns → Shape) → Syns → Shape
with_first f no_syn = Odd
with_first f (a_syn first rest) = f first rest

abbrev pub with_two : (Syn → Syn → Syns → Shape) → Syns → Shape
with_two f ss = with_first (λ a. with_first (f a)) ss

abbrev pub with_three : (Syn → Syn → Syn → Syns → Shape) → Syns → Shape
with_three f ss = with_first (λ a. with_two (f a)) ss

abbrev pub made_by : {A : Type 0} → (A → Shape) → Option A → Shape
made_by f None = Odd
made_by f (Some a) = f a

abbrev pub from_just : (Syn → Shape) → MaybeSyn → Shape
from_just f nothing = Odd
from_just f (just s) = f s

-- names that stand first in a list, and what is behind them
abbrev pub ident_in : Shape → Option Word
ident_in (AName name) = Some name
ident_in _ = None

abbrev pub is_ident : Syn → Bool
is_ident (syn at form) = is_some (ident_in form)

abbrev pub named : Syn → Named
named (syn at form) = (at, or_empty (ident_in form))

abbrev pub idents : Syns → List Named
idents no_syn = []
idents (a_syn first rest) = if is_ident first then named first ∷ idents rest else []

abbrev pub behind_idents : Syns → Syns
behind_idents no_syn = no_syn
behind_idents (a_syn first rest) = if is_ident first then behind_idents rest else a_syn first rest

-- the last of some names, and the others
abbrev pub with_last_name : (List Named → Named → Shape) → List Named → Shape
with_last_name f [] = Odd
with_last_name f (n ∷ []) = f [] n
with_last_name f (n ∷ m ∷ ns) = with_last_name (λ earlier. f (n ∷ earlier)) (m ∷ ns)

-- a path: a name or `Self`, and the name behind `::`
abbrev pub path_head : List Token → Option Word
path_head [] = None
path_head (t ∷ ts) = name_in t

abbrev pub ident_name : MaybeSyn → Option Word
ident_name nothing = None
ident_name (just (syn at form)) = ident_in form

abbrev pub path_tail : List Token → Syns → Option Word
path_tail ts ss = if has_mark Mark.PathSep ts then ident_name (first_of ss) else None

abbrev pub behind_path : List Token → Syns → Syns
behind_path ts ss = if has_mark Mark.PathSep ts then rest_of ss else ss

abbrev pub is_true : Token → Bool
is_true (Token.Word Keyword.True) = true
is_true _ = false

abbrev pub has_true : List Token → Bool
has_true ts = list_any is_true ts

-- `self` is a variable by this name, which no other can have
abbrev pub self_name : Word
self_name = codes "self"

abbrev pub is_statement : Syn → Bool
is_statement (syn at form) = is_some (statement_part form)

-- an expression that stands last in a block is its tail
abbrev pub block_by : Syns → MaybeSyn → Expression
block_by ss nothing = Braces ss nothing
block_by ss (just last) = if is_statement last then Braces ss nothing else Braces (but_last ss) (just last)

-- ---- rows

-- one part without a comma is the part in parentheses
abbrev pub round : {A : Type 0} → (Syn → A) → (Syns → A) → List Token → Syns → A
round one many ts (a_syn first no_syn) =
    if has_mark Mark.Comma ts || has_mark Mark.DotDot ts then many (a_syn first no_syn) else one first
round one many ts ss = many ss

abbrev pub prefix : List Token → Syn → Shape
prefix [] operand = Odd
prefix (t ∷ ts) operand =
    if is (TokenKind.Mark Mark.Minus) t then AnExpression (Minus operand)
    else (if is (TokenKind.Mark Mark.Not) t then AnExpression (Bang operand)
    else (if is (TokenKind.Mark Mark.Star) t then AnExpression (Star operand)
    else AnExpression (Ampersand (has_word Keyword.Mut ts) operand)))

abbrev pub if_row : Bool → Syns → Shape
if_row true ss = with_three (λ p s b rest. AnExpression (IfLetElse p s b (first_of rest))) ss
if_row false ss = with_two (λ c b rest. AnExpression (IfElse c b (first_of rest))) ss

abbrev pub while_row : Bool → Option Word → Syns → Shape
while_row true label ss = with_three (λ p s b rest. AnExpression (WhileLetOf label p s b)) ss
while_row false label ss = with_two (λ c b rest. AnExpression (WhileOf label c b)) ss

abbrev pub arm_row : Bool → Syns → Shape
arm_row true ss = with_three (λ p g b rest. AnArm p (just g) b) ss
arm_row false ss = with_two (λ p b rest. AnArm p nothing b) ss

-- a label before it stands as a node, where it is gone to
abbrev pub label_name : Shape → Option Word
label_name (ALabel name) = Some name
label_name _ = None

abbrev pub is_label : Syn → Bool
is_label (syn at form) = is_some (label_name form)

abbrev pub label_of : MaybeSyn → Option Word
label_of nothing = None
label_of (just (syn at form)) = label_name form

abbrev pub behind_label : Syns → Syns
behind_label no_syn = no_syn
behind_label (a_syn first rest) = if is_label first then rest else a_syn first rest

abbrev pub let_row : Bool → Bool → Syn → Syns → Shape
let_row true has_value p ss = with_first (λ ty rest. AStatement (LetOf p (just ty) (first_of rest))) ss
let_row false has_value p ss = AStatement (LetOf p nothing (first_of ss))

-- what stands behind the parameters: a type where there is an arrow, and a block
abbrev pub behind_params : Bool → (Syns → MaybeSyn → Syn → Shape) → Syns → Shape
behind_params has_answer f ss =
    from_just (λ block. if has_answer then f (but_last (but_last ss)) (last_of (but_last ss)) block else f (but_last
    ss) nothing block) (last_of ss)

abbrev pub fn_row : Bool → Bool → Syns → Shape
fn_row has_answer true ss =
    with_first (λ name rest. behind_params has_answer (λ params answer block. AnItem (FnItem (named name) params answer
    (just block))) rest) ss
fn_row true false ss = with_first (λ name rest. AnItem (FnItem (named name) (but_last rest) (last_of rest) nothing)) ss
fn_row false false ss = with_first (λ name rest. AnItem (FnItem (named name) rest nothing nothing)) ss

-- captures stand first
abbrev pub syns_of : List Named → Syns
syns_of [] = no_syn
syns_of (n ∷ ns) = a_syn (syn n.0 (AName n.1)) (syns_of ns)

abbrev pub closure_row : Bool → Syns → Shape
closure_row has_answer ss =
    behind_params has_answer (λ params answer block. AnExpression (MoveOf (syns_of (idents ss)) params answer block))
    (behind_idents ss)

abbrev pub kind_by : Bool → Bool → FieldsKind
kind_by true parens = Fields_
kind_by false true = Tuple_
kind_by false false = Unit_

abbrev pub kind_of : List Token → FieldsKind
kind_of ts = kind_by (has_mark Mark.OpenBrace ts) (has_mark Mark.OpenParenthesis ts)

abbrev pub impl_row : Bool → List Named → Syns → Shape
impl_row true (trait_ ∷ name ∷ []) methods = AnItem (ImplItem (Some trait_) name methods)
impl_row false (name ∷ []) methods = AnItem (ImplItem None name methods)
impl_row _ _ methods = Odd

abbrev pub self_row : List Token → Param
self_row ts =
    if has_mark Mark.And ts then SelfParam (if has_word Keyword.Mut ts then ByUnique else ByShared) else SelfParam
    ByValue

abbrev pub number_row : (ℕ × Option IntKind → Shape) → List Token → Shape
number_row f ts = f (a_number ts)

abbrev pub made : GrammarRow → List Token → Syns → Shape
made GrammarRow.Struct ts ss =
    with_last_name (λ derives name. AnItem (StructItem derives name (kind_of (behind_word Keyword.Struct ts))
    (behind_idents ss))) (idents ss)
made GrammarRow.Enum ts ss =
    with_last_name (λ derives name. AnItem (EnumItem derives name (behind_idents ss))) (idents ss)
made GrammarRow.Trait ts ss = with_first (λ name heads. AnItem (TraitItem (named name) heads)) ss
made GrammarRow.Impl ts ss = impl_row (has_word Keyword.For ts) (idents ss) (behind_idents ss)
made GrammarRow.Fn ts ss = fn_row (has_mark Mark.RArrow ts) true ss
made GrammarRow.Method ts ss = fn_row (has_mark Mark.RArrow ts) true ss
made GrammarRow.Head ts ss = fn_row (has_mark Mark.RArrow ts) false ss
made GrammarRow.Field ts ss = with_first (λ ty rest. AField (a_name ts) ty) ss
made GrammarRow.Variant ts ss = AVariant (a_name ts) (kind_of ts) ss
made GrammarRow.Ident ts ss = AName (a_name ts)
made GrammarRow.NamedType ts ss = AType (NamedType (a_name ts))
made GrammarRow.GenericType ts ss = with_first (λ ty rest. AType (GenericType (a_name ts) ty)) ss
made GrammarRow.DynType ts ss = with_first (λ name rest. AType (DynType (a_name ts) (named name))) ss
made GrammarRow.SelfType ts ss = AType SelfType
made GrammarRow.TupleType ts ss = AType (round ParensType TupleType ts ss)
made GrammarRow.ArrayType ts ss = with_first (λ ty rest. number_row (λ n. AType (ArrayType ty n.0 n.1)) ts) ss
made GrammarRow.NeverType ts ss = AType NeverType
made GrammarRow.RefType ts ss = with_first (λ ty rest. AType (RefType (has_word Keyword.Mut ts) ty)) ss
made GrammarRow.WildPattern ts ss = APattern AnyPattern
made GrammarRow.BindPattern ts ss = APattern (BindPattern (a_name ts))
made GrammarRow.NumberPattern ts ss = number_row (λ n. APattern (LiteralPattern (has_mark Mark.Minus ts) n.0 n.1)) ts
made GrammarRow.BoolPattern ts ss = APattern (TruthPattern (has_true ts))
made GrammarRow.PathPattern ts ss = APattern (PathPattern (path_head ts) (path_tail ts ss))
made GrammarRow.CallPattern ts ss =
    APattern (PartsPattern (path_head ts) (path_tail ts ss) (behind_path ts ss) (has_mark Mark.DotDot ts))
made GrammarRow.StructPattern ts ss =
    APattern (FieldsPattern (path_head ts) (path_tail ts ss) (behind_path ts ss) (has_mark Mark.DotDot ts))
made GrammarRow.FieldPattern ts ss = AFieldPattern (a_name ts) (first_of ss)
made GrammarRow.TuplePattern ts ss =
    APattern (round ParensPattern (λ ps. TuplePattern ps (has_mark Mark.DotDot ts)) ts ss)
made GrammarRow.ArrayPattern ts ss = APattern (ArrayPattern ss (has_mark Mark.DotDot ts))
made GrammarRow.OrPattern ts ss = APattern (Alternatives ss)
made GrammarRow.Param ts ss = with_two (λ p ty rest. AParam (ParamOf p ty)) ss
made GrammarRow.SelfParam ts ss = AParam (self_row ts)
made GrammarRow.Let ts ss = with_first (let_row (has_mark Mark.Colon ts) (has_mark Mark.Eq ts)) ss
made GrammarRow.Empty ts ss = AStatement Empty
made GrammarRow.Semi ts ss = with_first (λ e rest. AStatement (Semi e)) ss
made GrammarRow.Block ts ss = AnExpression (block_by ss (last_of ss))
made GrammarRow.If ts ss = if_row (has_word Keyword.Let ts) ss
made GrammarRow.Match ts ss = with_first (λ s arms. AnExpression (MatchOn s arms)) ss
made GrammarRow.Arm ts ss = arm_row (has_word Keyword.If ts) ss
made GrammarRow.LastArm ts ss = arm_row (has_word Keyword.If ts) ss
made GrammarRow.Loop ts ss = with_first (λ b rest. AnExpression (LoopOf (a_label ts) b)) ss
made GrammarRow.While ts ss = while_row (has_word Keyword.Let ts) (a_label ts) ss
made GrammarRow.Return ts ss = AnExpression (ReturnOf (first_of ss))
made GrammarRow.Break ts ss = AnExpression (BreakOf (label_of (first_of ss)) (first_of (behind_label ss)))
made GrammarRow.Continue ts ss = AnExpression (ContinueOf (label_of (first_of ss)))
made GrammarRow.LabelName ts ss = ALabel (or_empty (a_label ts))
made GrammarRow.Closure ts ss = closure_row (has_mark Mark.RArrow ts) ss
made GrammarRow.Panic ts ss = AnExpression PanicOf
made GrammarRow.Assign ts ss = with_two (λ a b rest. AnExpression (Store a b)) ss
made GrammarRow.Or ts ss = with_two (λ a b rest. AnExpression (Either a b)) ss
made GrammarRow.And ts ss = with_two (λ a b rest. AnExpression (Both a b)) ss
made GrammarRow.Compare ts ss =
    made_by (λ op. with_two (λ a b rest. AnExpression (Compare op a b)) ss) (first_that cmp_in ts)
made GrammarRow.Sum ts ss =
    made_by (λ op. with_two (λ a b rest. AnExpression (Calculate op a b)) ss) (first_that math_in ts)
made GrammarRow.Product ts ss =
    made_by (λ op. with_two (λ a b rest. AnExpression (Calculate op a b)) ss) (first_that math_in ts)
made GrammarRow.Prefix ts ss = with_first (λ e rest. prefix ts e) ss
made GrammarRow.FieldAccess ts ss = with_first (λ e rest. AnExpression (FieldOf e (a_name ts))) ss
made GrammarRow.MethodCall ts ss = with_first (λ e args. AnExpression (MethodOf e (a_name ts) args)) ss
made GrammarRow.TupleField ts ss = with_first (λ e rest. number_row (λ n. AnExpression (PartOf e n.0)) ts) ss
made GrammarRow.Call ts ss = with_first (λ e args. AnExpression (CallOf e args)) ss
made GrammarRow.Index ts ss = with_two (λ a b rest. AnExpression (ElementOf a b)) ss
made GrammarRow.Number ts ss = number_row (λ n. AnExpression (Literal n.0 n.1)) ts
made GrammarRow.Truth ts ss = AnExpression (TruthLiteral (has_true ts))
made GrammarRow.SelfValue ts ss = AnExpression (Path (Some self_name) None)
made GrammarRow.Path ts ss = AnExpression (Path (path_head ts) (path_tail ts ss))
made GrammarRow.StructExpr ts ss = AnExpression (StructOf (path_head ts) (path_tail ts ss) (behind_path ts ss))
made GrammarRow.FieldInit ts ss = AnInit (a_name ts) (first_of ss)
made GrammarRow.Round ts ss = AnExpression (round Parens TupleOf ts ss)
made GrammarRow.Square ts ss = AnExpression (ArrayOf ss)
made GrammarRow.File ts ss = Odd

-- the form of a node
abbrev mutual
  pub view : layout.SyntaxNode Pos → Syn
  view (node at row parts) = syn at (made row (tokens_in parts) (views parts))

  pub views : Parts Pos → Syns
  views end = no_syn
  views (tok t rest) = views rest
  views (sub g rest) = a_syn (view g) (views rest)
