-- The grammar: which tokens and parts make a node. A row is followed token by token and part by part (`GrammarRest`);
-- `entry` says how a node begins that begins with a token, `joined` how one begins that begins with a part, as `a + b`
-- does.
use Rattle.std.specs.Prelude.{ℕ, Bool, true, false, ◌&&◌, ◌||◌, not, nat_le, nat_eq, Option, Some, None, if◌then◌else◌, List, [], ◌∷◌}
use Rattle.src_token.specs.declared.token.Token.{Token}
use Rattle.src_tree.specs.declared.row.GrammarRow.{GrammarRow}
use Rattle.src_tree.specs.declared.row.Sort.{Sort}
use Rattle.src_tree.specs.declared.place.Start.{Start}
use Rattle.src_tree.specs.declared.place.GrammarPlace.{GrammarPlace}
use Rattle.src_tree.specs.declared.place.Seen.{Seen}
use Rattle.src_tree.specs.declared.place.GrammarPart.{GrammarPart}
use Rattle.src_tree.specs.declared.kind.TokenKind.{TokenKind}
use Rattle.src_token.specs.declared.word.Word.{Word}
use Rattle.src_token.specs.declared.mark.Mark.{Mark}

abbrev pub sort_of : GrammarRow → Sort
sort_of GrammarRow.File = Sort.File
sort_of GrammarRow.Struct = Sort.Item
sort_of GrammarRow.Enum = Sort.Item
sort_of GrammarRow.Trait = Sort.Item
sort_of GrammarRow.Impl = Sort.Item
sort_of GrammarRow.Fn = Sort.Item
sort_of GrammarRow.Method = Sort.Method
sort_of GrammarRow.Head = Sort.Head
sort_of GrammarRow.Field = Sort.Field
sort_of GrammarRow.Variant = Sort.Variant
sort_of GrammarRow.Ident = Sort.Name
sort_of GrammarRow.NamedType = Sort.Type_
sort_of GrammarRow.GenericType = Sort.Type_
sort_of GrammarRow.DynType = Sort.Type_
sort_of GrammarRow.SelfType = Sort.Type_
sort_of GrammarRow.TupleType = Sort.Type_
sort_of GrammarRow.ArrayType = Sort.Type_
sort_of GrammarRow.NeverType = Sort.Type_
sort_of GrammarRow.RefType = Sort.Type_
sort_of GrammarRow.WildPattern = Sort.Pattern
sort_of GrammarRow.BindPattern = Sort.Pattern
sort_of GrammarRow.NumberPattern = Sort.Pattern
sort_of GrammarRow.BoolPattern = Sort.Pattern
sort_of GrammarRow.PathPattern = Sort.Pattern
sort_of GrammarRow.CallPattern = Sort.Pattern
sort_of GrammarRow.StructPattern = Sort.Pattern
sort_of GrammarRow.TuplePattern = Sort.Pattern
sort_of GrammarRow.ArrayPattern = Sort.Pattern
sort_of GrammarRow.OrPattern = Sort.Pattern
sort_of GrammarRow.Param = Sort.Pattern
sort_of GrammarRow.SelfParam = Sort.Pattern
sort_of GrammarRow.Arm = Sort.Pattern
sort_of GrammarRow.LastArm = Sort.Pattern
sort_of GrammarRow.FieldPattern = Sort.FieldPattern
sort_of GrammarRow.FieldInit = Sort.FieldInit
sort_of GrammarRow.LabelName = Sort.Label
sort_of _ = Sort.Expr

-- Levels, from the loosest. The levels of patterns are theirs alone: 0 for alternatives, 1 for one pattern.
-- A field has a level of its own, since no call has it as callee.
abbrev pub level : GrammarRow → ℕ
level GrammarRow.Return = 0
level GrammarRow.Break = 0
level GrammarRow.Closure = 0
level GrammarRow.Let = 0
level GrammarRow.Empty = 0
level GrammarRow.Semi = 0
level GrammarRow.LabelName = 0
level GrammarRow.Arm = 0
level GrammarRow.LastArm = 0
level GrammarRow.OrPattern = 0
level GrammarRow.Assign = 1
level GrammarRow.Or = 2
level GrammarRow.And = 3
level GrammarRow.Compare = 4
level GrammarRow.Sum = 5
level GrammarRow.Product = 6
level GrammarRow.Prefix = 7
level GrammarRow.FieldAccess = 8
level GrammarRow.MethodCall = 9
level GrammarRow.TupleField = 9
level GrammarRow.Call = 9
level GrammarRow.Index = 9
level _ = 10

-- a node counts for the nesting
abbrev pub counts : GrammarRow → ℕ
counts GrammarRow.File = 0
counts GrammarRow.Method = 0
counts GrammarRow.Head = 0
counts GrammarRow.Field = 0
counts GrammarRow.Variant = 0
counts GrammarRow.Ident = 0
counts GrammarRow.FieldPattern = 0
counts GrammarRow.Param = 0
counts GrammarRow.SelfParam = 0
counts GrammarRow.Let = 0
counts GrammarRow.Empty = 0
counts GrammarRow.Semi = 0
counts GrammarRow.LabelName = 0
counts GrammarRow.FieldInit = 0
counts _ = 1

abbrev pub is_block : GrammarRow → Bool
is_block GrammarRow.Block = true
is_block _ = false

abbrev pub is_blocklike : GrammarRow → Bool
is_blocklike GrammarRow.Block = true
is_blocklike GrammarRow.If = true
is_blocklike GrammarRow.Match = true
is_blocklike GrammarRow.Loop = true
is_blocklike GrammarRow.While = true
is_blocklike _ = false

-- a node that stands only where its list has it: statements, labels, parameters, arms
abbrev pub is_plain : GrammarRow → Bool
is_plain GrammarRow.Let = false
is_plain GrammarRow.Empty = false
is_plain GrammarRow.Semi = false
is_plain GrammarRow.LabelName = false
is_plain GrammarRow.Param = false
is_plain GrammarRow.SelfParam = false
is_plain GrammarRow.Arm = false
is_plain GrammarRow.LastArm = false
is_plain _ = true

abbrev pub is_statement : GrammarRow → Bool
is_statement GrammarRow.Let = true
is_statement GrammarRow.Semi = true
is_statement r = is_plain r

abbrev pub is_label : GrammarRow → Bool
is_label GrammarRow.LabelName = true
is_label _ = false

abbrev pub is_empty : GrammarRow → Bool
is_empty GrammarRow.Empty = true
is_empty _ = false

abbrev pub may_be : Start → GrammarRow → Bool
may_be Start.Anything r = is_plain r
may_be Start.Statement r = is_statement r || is_empty r
may_be Start.NextStatement r = is_statement r
may_be Start.Value r = is_plain r
may_be Start.NotBlocklike r = is_plain r && not (is_blocklike r)
may_be Start.ArmBody r = is_plain r
may_be Start.NotBlock r = is_plain r && not (is_block r)
may_be Start.Jump r = is_plain r || is_label r
may_be Start.JumpInHead r = (is_plain r && not (is_block r)) || is_label r
may_be Start.OnlyLabel r = is_label r
may_be Start.OnlyBlock GrammarRow.Block = true
may_be Start.OnlyBlock _ = false
may_be Start.BlockOrIf GrammarRow.Block = true
may_be Start.BlockOrIf GrammarRow.If = true
may_be Start.BlockOrIf _ = false
may_be Start.IsArm GrammarRow.Arm = true
may_be Start.IsArm GrammarRow.LastArm = true
may_be Start.IsArm _ = false
may_be Start.IsParam GrammarRow.Param = true
may_be Start.IsParam GrammarRow.SelfParam = true
may_be Start.IsParam _ = false

-- what an operand that stands first may begin with
abbrev pub first : Start → Start
first Start.Statement = Start.NotBlocklike
first Start.NextStatement = Start.NotBlocklike
first Start.Value = Start.NotBlocklike
first Start.NotBlocklike = Start.NotBlocklike
first Start.ArmBody = Start.NotBlock
first Start.NotBlock = Start.NotBlock
first Start.JumpInHead = Start.NotBlock
first _ = Start.Anything

-- Where a node stands: what it is, the least level that it has, whether no struct expression may stand in it outside
-- brackets (and, for a pattern, whether it may be `self`), and what it may begin with.
abbrev pub seen : GrammarPlace → Seen
seen c = record { sort = c.sort; head = c.head; start = first c.start }

abbrev pub sort_number : Sort → ℕ
sort_number Sort.File = 0
sort_number Sort.Item = 1
sort_number Sort.Method = 2
sort_number Sort.Head = 3
sort_number Sort.Field = 4
sort_number Sort.Variant = 5
sort_number Sort.Name = 6
sort_number Sort.Type_ = 7
sort_number Sort.Pattern = 8
sort_number Sort.FieldPattern = 9
sort_number Sort.Expr = 10
sort_number Sort.FieldInit = 11
sort_number Sort.Label = 12

-- a label stands behind `continue`, and where an operand of `break` may stand
abbrev pub belongs : Sort → GrammarRow → Bool
belongs Sort.Expr GrammarRow.LabelName = true
belongs s r = nat_eq (sort_number s) (sort_number (sort_of r))

abbrev pub allowed : GrammarPlace → GrammarRow → Bool
allowed c r = belongs c.sort r && (nat_le c.least (level r) && may_be c.start r)

-- a row begins there, perhaps to be a part of what stands there
abbrev pub begins_by : Start → GrammarRow → Bool
begins_by Start.IsArm r = may_be Start.IsArm r || is_plain r
begins_by Start.IsParam r = may_be Start.IsParam r || is_plain r
begins_by s r = may_be s r

abbrev pub may_begin : GrammarPlace → GrammarRow → Bool
may_begin c r = belongs c.sort r && (nat_le c.least (level r) && begins_by c.start r)

-- The part that is due: at a place of its own, or at one that goes by where the node stands.
abbrev pub expr : Bool → Start → GrammarPlace
expr head start = record { sort = Sort.Expr; least = 0; head = head; start = start }

abbrev pub place_of : Bool → GrammarPart → GrammarPlace
place_of head (GrammarPart.At c) = c
place_of head (GrammarPart.Operand least) = record {
  sort = Sort.Expr;
  least = least;
  head = head;
  start = Start.Anything;
}
place_of head GrammarPart.AfterBreak = expr head (if head then Start.JumpInHead else Start.Jump)
place_of head GrammarPart.AfterReturn = expr head (if head then Start.NotBlock else Start.Anything)

abbrev pub of_sort : Sort → GrammarPart
of_sort s = GrammarPart.At record { sort = s; least = 0; head = false; start = Start.Anything }

abbrev pub any_expr : GrammarPart
any_expr = GrammarPart.At (expr false Start.Anything)

abbrev pub head_expr : GrammarPart
head_expr = GrammarPart.At (expr true Start.Anything)

abbrev pub block : GrammarPart
block = GrammarPart.At (expr false Start.OnlyBlock)

abbrev pub a_pattern : GrammarPart
a_pattern = of_sort Sort.Pattern

abbrev pub pattern1 : GrammarPart
pattern1 = GrammarPart.At record { sort = Sort.Pattern; least = 1; head = false; start = Start.Anything }

abbrev pub a_param : Bool → GrammarPart
a_param self = GrammarPart.At record { sort = Sort.Pattern; least = 1; head = self; start = Start.IsParam }

abbrev pub a_type : GrammarPart
a_type = of_sort Sort.Type_

abbrev pub a_label : GrammarPart
a_label = GrammarPart.At record { sort = Sort.Label; least = 0; head = false; start = Start.OnlyLabel }

abbrev pub a_name : GrammarPart
a_name = of_sort Sort.Name

abbrev pub mark_number : Mark → ℕ
mark_number Mark.OpenBrace = 0
mark_number Mark.CloseBrace = 1
mark_number Mark.OpenParenthesis = 2
mark_number Mark.CloseParenthesis = 3
mark_number Mark.OpenBracket = 4
mark_number Mark.CloseBracket = 5
mark_number Mark.Comma = 6
mark_number Mark.Semi = 7
mark_number Mark.Colon = 8
mark_number Mark.PathSep = 9
mark_number Mark.Dot = 10
mark_number Mark.DotDot = 11
mark_number Mark.RArrow = 12
mark_number Mark.FatArrow = 13
mark_number Mark.Eq = 14
mark_number Mark.EqEq = 15
mark_number Mark.Ne = 16
mark_number Mark.Lt = 17
mark_number Mark.Le = 18
mark_number Mark.Gt = 19
mark_number Mark.Ge = 20
mark_number Mark.Plus = 21
mark_number Mark.Minus = 22
mark_number Mark.Star = 23
mark_number Mark.Slash = 24
mark_number Mark.Percent = 25
mark_number Mark.Not = 26
mark_number Mark.AndAnd = 27
mark_number Mark.OrOr = 28
mark_number Mark.And = 29
mark_number Mark.Or = 30
mark_number Mark.Pound = 31
mark_number Mark.Underscore = 32

-- the words that rows name behind their first token
abbrev pub word_number : Word → ℕ
word_number Word.Struct = 1
word_number Word.Enum = 2
word_number Word.For = 3
word_number Word.Dyn = 4
word_number Word.Mut = 5
word_number Word.SelfValue = 6
word_number Word.Let = 7
word_number Word.If = 8
word_number Word.Else = 9
word_number Word.Loop = 10
word_number Word.While = 11
word_number Word.Fn = 12
word_number _ = 0

abbrev pub is_text : List ℕ → List ℕ → Bool
is_text [] [] = true
is_text (a ∷ as_) (b ∷ bs) = nat_eq a b && is_text as_ bs
is_text _ _ = false

abbrev pub is : TokenKind → Token → Bool
is (TokenKind.Mark m) (Token.Mark n) = nat_eq (mark_number m) (mark_number n)
is (TokenKind.Word w) (Token.Word v) = nat_eq (word_number w) (word_number v)
is TokenKind.Name (Token.Name n) = true
is TokenKind.Number (Token.Number value suffix) = true
is TokenKind.Digits (Token.Number value None) = true
is TokenKind.Label (Token.Label n) = true
is TokenKind.Text (Token.Text n) = true
is TokenKind.Derive (Token.Name n) = is_text n (100 ∷ 101 ∷ 114 ∷ 105 ∷ 118 ∷ 101 ∷ [])
is _ _ = false

-- What a node still has to have.
pub data GrammarRest : Type 0 where
  -- it ends
  ends : (r : GrammarRow) → GrammarRest
  -- a token of a kind; one of a kind, or else what else is
  token : (k : TokenKind) (after : GrammarRest) → GrammarRest
  either : (k : TokenKind) (after other : GrammarRest) → GrammarRest
  -- a part; a part, or else its end
  part : (p : GrammarPart) (after : GrammarRest) → GrammarRest
  maybe : (p : GrammarPart) (after : GrammarRest) (r : GrammarRow) → GrammarRest
  -- parts, each but the last with a comma behind it, up to a closing token; `dots` says whether `..` may stand last
  list : (p later : GrammarPart) (dots : Bool) (close : TokenKind) (after : GrammarRest) → GrammarRest
  more : (p : GrammarPart) (dots : Bool) (close : TokenKind) (after : GrammarRest) → GrammarRest
  -- parts without commas, up to a closing token, or to the end of the text
  many : (p : GrammarPart) (close : TokenKind) (after : GrammarRest) → GrammarRest
  items : GrammarRest
  -- alternatives
  alternatives : GrammarRest
  -- statements; behind one that ended by its brace
  statements : (open_ : Bool) → GrammarRest
  -- arms, of which there is one at least
  arms : (some : Bool) → GrammarRest
  arm_body : GrammarRest
  after_break : GrammarRest

abbrev pub comma : TokenKind
comma = TokenKind.Mark Mark.Comma

abbrev pub listed : GrammarPart → TokenKind → GrammarRest → GrammarRest
listed p close after = list p p false close after

-- the rest behind a token; `None` where the token is none of it
abbrev pub move : GrammarRest → Token → Option GrammarRest
move (ends r) t = None
move (token k after) t = if is k t then Some after else None
move (either k after other) t = if is k t then Some after else move other t
move (part p after) t = None
move (maybe p after r) t = None
move (list p later dots close after) t =
    if is close t then Some after else (if dots && is (TokenKind.Mark Mark.DotDot) t then Some (token close after) else
    None)
move (more p dots close after) t =
    if is close t then Some after else (if is comma t then Some (list p p dots close after) else None)
move (many p close after) t = if is close t then Some after else None
move items t = None
move alternatives t = if is (TokenKind.Mark Mark.Or) t then Some (part pattern1 alternatives) else None
move (statements open_) t = if is (TokenKind.Mark Mark.CloseBrace) t then Some (ends GrammarRow.Block) else None
move (arms some) t = if some && is (TokenKind.Mark Mark.CloseBrace) t then Some (ends GrammarRow.Match) else None
move arm_body t = None
move after_break t = None

-- the part that may come next
abbrev pub due : GrammarRest → Option GrammarPart
due (ends r) = None
due (token k after) = None
due (either k after other) = due other
due (part p after) = Some p
due (maybe p after r) = Some p
due (list p later dots close after) = Some p
due (more p dots close after) = None
due (many p close after) = Some p
due items = Some (of_sort Sort.Item)
due alternatives = None
due (statements open_) = Some (GrammarPart.At (expr false (if open_ then Start.NextStatement else Start.Statement)))
due (arms some) = Some (GrammarPart.At record { sort = Sort.Pattern; least = 0; head = false; start = Start.IsArm })
due arm_body = Some (GrammarPart.At (expr false Start.ArmBody))
due after_break = Some GrammarPart.AfterBreak

abbrev pub close_block : GrammarRest
close_block = token (TokenKind.Mark Mark.CloseBrace) (ends GrammarRow.Block)

-- behind a statement, an arm, the body of an arm, and what stands behind `break`
abbrev pub behind_statement : GrammarRow → GrammarRest
behind_statement GrammarRow.Let = statements false
behind_statement GrammarRow.Semi = statements false
behind_statement GrammarRow.Empty = statements false
behind_statement r = if is_blocklike r then statements true else close_block

abbrev pub behind_arm : GrammarRow → GrammarRest
behind_arm GrammarRow.Arm = arms true
behind_arm _ = token (TokenKind.Mark Mark.CloseBrace) (ends GrammarRow.Match)

abbrev pub behind_body : GrammarRow → GrammarRest
behind_body GrammarRow.Block = either comma (ends GrammarRow.Arm) (ends GrammarRow.Arm)
behind_body _ = either comma (ends GrammarRow.Arm) (ends GrammarRow.LastArm)

abbrev pub behind_break : GrammarRow → GrammarRest
behind_break GrammarRow.LabelName = maybe GrammarPart.AfterReturn (ends GrammarRow.Break) GrammarRow.Break
behind_break _ = ends GrammarRow.Break

-- the rest behind a part
abbrev pub behind : GrammarRest → GrammarRow → GrammarRest
behind (part p after) r = after
behind (maybe p after end) r = after
behind (either k after other) r = behind other r
behind (list p later dots close after) r = more later dots close after
behind (many p close after) r = many p close after
behind items r = items
behind (statements open_) r = behind_statement r
behind (arms some) r = behind_arm r
behind arm_body r = behind_body r
behind after_break r = behind_break r
behind q r = q

-- the node that it is where it ends here
abbrev pub made : GrammarRest → Option GrammarRow
made (ends r) = Some r
made (either k after other) = made other
made (maybe p after r) = Some r
made items = Some GrammarRow.File
made alternatives = Some GrammarRow.OrPattern
made after_break = Some GrammarRow.Break
made _ = None

-- How a node begins: the first row that it can be, and what follows its first token.
pub record NodeBeginning : Type 0 where
  pub row : GrammarRow
  pub rest : GrammarRest

abbrev pub by_row : GrammarRow → GrammarRest → Option NodeBeginning
by_row r q = Some record { row = r; rest = q }

abbrev pub mark : Mark → GrammarRest → GrammarRest
mark m after = token (TokenKind.Mark m) after

abbrev pub word : Word → GrammarRest → GrammarRest
word w after = token (TokenKind.Word w) after

abbrev pub if_mark : Mark → GrammarRest → GrammarRest → GrammarRest
if_mark m after other = either (TokenKind.Mark m) after other

abbrev pub if_word : Word → GrammarRest → GrammarRest → GrammarRest
if_word w after other = either (TokenKind.Word w) after other

-- Items.

abbrev pub fields : GrammarRest → GrammarRest
fields after = listed (of_sort Sort.Field) (TokenKind.Mark Mark.CloseBrace) after

abbrev pub types : GrammarRest → GrammarRest
types after = listed a_type (TokenKind.Mark Mark.CloseParenthesis) after

abbrev pub struct_rest : GrammarRest
struct_rest =
    part a_name (if_mark Mark.Semi (ends GrammarRow.Struct)
    (if_mark Mark.OpenParenthesis (types (mark Mark.Semi (ends GrammarRow.Struct)))
    (mark Mark.OpenBrace (fields (ends GrammarRow.Struct)))))

abbrev pub enum_rest : GrammarRest
enum_rest =
    part a_name (mark Mark.OpenBrace (listed (of_sort Sort.Variant) (TokenKind.Mark Mark.CloseBrace)
    (ends GrammarRow.Enum)))

abbrev pub derived : GrammarRest
derived =
    mark Mark.OpenBracket (token TokenKind.Derive
    (mark Mark.OpenParenthesis (listed a_name (TokenKind.Mark Mark.CloseParenthesis)
    (mark Mark.CloseBracket (if_word Word.Struct struct_rest (word Word.Enum enum_rest))))))

-- a head, with what stands first among its parameters and what follows it
abbrev pub head_rest : Bool → GrammarRest → GrammarRest
head_rest self after =
    part a_name (mark Mark.OpenParenthesis (list (a_param self) (a_param false) false
    (TokenKind.Mark Mark.CloseParenthesis)
    (if_mark Mark.RArrow (part a_type after) after)))

abbrev pub impl_rest : GrammarRest
impl_rest = mark Mark.OpenBrace (many (of_sort Sort.Method) (TokenKind.Mark Mark.CloseBrace) (ends GrammarRow.Impl))

abbrev pub item : Token → Option NodeBeginning
item (Token.Mark Mark.Pound) = by_row GrammarRow.Struct derived
item (Token.Word Word.Struct) = by_row GrammarRow.Struct struct_rest
item (Token.Word Word.Enum) = by_row GrammarRow.Enum enum_rest
item (Token.Word Word.Trait) = by_row GrammarRow.Trait
    (part a_name (mark Mark.OpenBrace (many (of_sort Sort.Head) (TokenKind.Mark Mark.CloseBrace)
    (ends GrammarRow.Trait))))
item (Token.Word Word.Impl) = by_row GrammarRow.Impl (part a_name (if_word Word.For (part a_name impl_rest) impl_rest))
item (Token.Word Word.Fn) = by_row GrammarRow.Fn (head_rest false (part block (ends GrammarRow.Fn)))
item _ = None

abbrev pub method : Token → Option NodeBeginning
method (Token.Word Word.Fn) = by_row GrammarRow.Method (head_rest true (part block (ends GrammarRow.Method)))
method _ = None

abbrev pub head : Token → Option NodeBeginning
head (Token.Word Word.Fn) = by_row GrammarRow.Head (head_rest true (mark Mark.Semi (ends GrammarRow.Head)))
head _ = None

abbrev pub named_field : Token → Option NodeBeginning
named_field (Token.Name n) = by_row GrammarRow.Field (mark Mark.Colon (part a_type (ends GrammarRow.Field)))
named_field _ = None

abbrev pub variant : Token → Option NodeBeginning
variant (Token.Name n) =
    by_row GrammarRow.Variant (if_mark Mark.OpenParenthesis (types (ends GrammarRow.Variant))
    (if_mark Mark.OpenBrace (fields (ends GrammarRow.Variant)) (ends GrammarRow.Variant)))
variant _ = None

abbrev pub name : Token → Option NodeBeginning
name (Token.Name n) = by_row GrammarRow.Ident (ends GrammarRow.Ident)
name _ = None

abbrev pub label : Token → Option NodeBeginning
label (Token.Label n) = by_row GrammarRow.LabelName (ends GrammarRow.LabelName)
label _ = None

-- Types.

abbrev pub type_ : Token → Option NodeBeginning
type_ (Token.Name n) =
    by_row GrammarRow.NamedType (if_mark Mark.Lt
    (if_word Word.Dyn (part a_name (mark Mark.Gt (ends GrammarRow.DynType)))
    (part a_type (mark Mark.Gt (ends GrammarRow.GenericType)))) (ends GrammarRow.NamedType))
type_ (Token.Word Word.SelfType) = by_row GrammarRow.SelfType (ends GrammarRow.SelfType)
type_ (Token.Mark Mark.OpenParenthesis) = by_row GrammarRow.TupleType (types (ends GrammarRow.TupleType))
type_ (Token.Mark Mark.OpenBracket) =
    by_row GrammarRow.ArrayType (part a_type (mark Mark.Semi
    (token TokenKind.Number (mark Mark.CloseBracket (ends GrammarRow.ArrayType)))))
type_ (Token.Mark Mark.Not) = by_row GrammarRow.NeverType (ends GrammarRow.NeverType)
type_ (Token.Mark Mark.And) =
    by_row GrammarRow.RefType (if_word Word.Mut (part a_type (ends GrammarRow.RefType))
    (part a_type (ends GrammarRow.RefType)))
type_ _ = None

-- Patterns.

abbrev pub patterns : TokenKind → GrammarRest → GrammarRest
patterns close after = list a_pattern a_pattern true close after

-- behind a path, which is this row where it stands alone
abbrev pub behind_path : GrammarRow → GrammarRest
behind_path r =
    if_mark Mark.OpenParenthesis (patterns (TokenKind.Mark Mark.CloseParenthesis) (ends GrammarRow.CallPattern))
    (if_mark Mark.OpenBrace (list (of_sort Sort.FieldPattern) (of_sort Sort.FieldPattern) true
    (TokenKind.Mark Mark.CloseBrace) (ends GrammarRow.StructPattern)) (ends r))

abbrev pub path_pattern : GrammarRow → GrammarRest
path_pattern r = if_mark Mark.PathSep (part a_name (behind_path GrammarRow.PathPattern)) (behind_path r)

abbrev pub bind_or_self : Bool → GrammarRest
bind_or_self false = token TokenKind.Name (ends GrammarRow.BindPattern)
bind_or_self true = if_word Word.SelfValue (ends GrammarRow.SelfParam)
    (token TokenKind.Name (ends GrammarRow.BindPattern))

abbrev pub only : Bool → Option NodeBeginning → Option NodeBeginning
only false e = None
only true e = e

abbrev pub pattern : Bool → Token → Option NodeBeginning
pattern self (Token.Mark Mark.Underscore) = by_row GrammarRow.WildPattern (ends GrammarRow.WildPattern)
pattern self (Token.Word Word.Mut) = by_row GrammarRow.BindPattern (bind_or_self self)
pattern self (Token.Name n) = by_row GrammarRow.BindPattern (path_pattern GrammarRow.BindPattern)
pattern self (Token.Word Word.SelfType) = by_row GrammarRow.PathPattern (path_pattern GrammarRow.PathPattern)
pattern self (Token.Number value suffix) = by_row GrammarRow.NumberPattern (ends GrammarRow.NumberPattern)
pattern self (Token.Mark Mark.Minus) = by_row GrammarRow.NumberPattern
    (token TokenKind.Number (ends GrammarRow.NumberPattern))
pattern self (Token.Word Word.True) = by_row GrammarRow.BoolPattern (ends GrammarRow.BoolPattern)
pattern self (Token.Word Word.False) = by_row GrammarRow.BoolPattern (ends GrammarRow.BoolPattern)
pattern self (Token.Mark Mark.OpenParenthesis) =
    by_row GrammarRow.TuplePattern (patterns (TokenKind.Mark Mark.CloseParenthesis) (ends GrammarRow.TuplePattern))
pattern self (Token.Mark Mark.OpenBracket) =
    by_row GrammarRow.ArrayPattern (patterns (TokenKind.Mark Mark.CloseBracket) (ends GrammarRow.ArrayPattern))
pattern self (Token.Word Word.SelfValue) = only self (by_row GrammarRow.SelfParam (ends GrammarRow.SelfParam))
pattern self (Token.Mark Mark.And) =
    only self (by_row GrammarRow.SelfParam (if_word Word.Mut (word Word.SelfValue (ends GrammarRow.SelfParam))
    (word Word.SelfValue (ends GrammarRow.SelfParam))))
pattern self _ = None

abbrev pub field_pattern : Token → Option NodeBeginning
field_pattern (Token.Name n) =
    by_row GrammarRow.FieldPattern (if_mark Mark.Colon (part a_pattern (ends GrammarRow.FieldPattern))
    (ends GrammarRow.FieldPattern))
field_pattern (Token.Word Word.Mut) = by_row GrammarRow.FieldPattern
    (token TokenKind.Name (ends GrammarRow.FieldPattern))
field_pattern _ = None

-- Expressions.

abbrev pub exprs : Mark → GrammarRest → GrammarRest
exprs close after = listed any_expr (TokenKind.Mark close) after

abbrev pub struct_or_path : Bool → GrammarRest
struct_or_path true = ends GrammarRow.Path
struct_or_path false = if_mark Mark.OpenBrace
    (listed (of_sort Sort.FieldInit) (TokenKind.Mark Mark.CloseBrace) (ends GrammarRow.StructExpr))
    (ends GrammarRow.Path)

abbrev pub path : Bool → GrammarRest
path in_head = if_mark Mark.PathSep (part a_name (struct_or_path in_head)) (struct_or_path in_head)

abbrev pub panic_rest : GrammarRest
panic_rest = mark Mark.OpenParenthesis
    (either TokenKind.Text (mark Mark.CloseParenthesis (ends GrammarRow.Panic))
    (mark Mark.CloseParenthesis (ends GrammarRow.Panic)))

abbrev pub is_panic : List ℕ → Bool
is_panic n = is_text n (112 ∷ 97 ∷ 110 ∷ 105 ∷ 99 ∷ [])

abbrev pub named : Bool → Bool → GrammarRest
named true in_head = if_mark Mark.Not panic_rest (path in_head)
named false in_head = path in_head

-- a condition and a block, and what follows the block
abbrev pub headed : GrammarRest → GrammarRest
headed after =
    if_word Word.Let (part a_pattern (mark Mark.Eq (part head_expr (part block after))))
    (part head_expr (part block after))

abbrev pub if_rest : GrammarRest
if_rest = headed (if_word Word.Else (part (GrammarPart.At (expr false Start.BlockOrIf)) (ends GrammarRow.If))
    (ends GrammarRow.If))

abbrev pub loop_rest : GrammarRest
loop_rest = part block (ends GrammarRow.Loop)

abbrev pub while_rest : GrammarRest
while_rest = headed (ends GrammarRow.While)

abbrev pub labelled : GrammarRest
labelled = if_mark Mark.Colon (if_word Word.Loop loop_rest (word Word.While while_rest)) (ends GrammarRow.LabelName)

abbrev pub behind_params : GrammarRest
behind_params = if_mark Mark.RArrow (part a_type (part block (ends GrammarRow.Closure)))
    (part block (ends GrammarRow.Closure))

abbrev pub closure : GrammarRest
closure =
    mark Mark.OpenBracket (listed a_name (TokenKind.Mark Mark.CloseBracket) (if_mark Mark.OrOr behind_params
    (mark Mark.Or (listed (a_param false) (TokenKind.Mark Mark.Or) behind_params))))

abbrev pub let_rest : GrammarRest
let_rest =
    let value = if_mark Mark.Eq (part any_expr (mark Mark.Semi (ends GrammarRow.Let)))
    (mark Mark.Semi (ends GrammarRow.Let)) in
    part pattern1 (if_mark Mark.Colon (part a_type value) value)

abbrev pub operand : GrammarRest
operand = part (GrammarPart.Operand 7) (ends GrammarRow.Prefix)

abbrev pub expression : Bool → Token → Option NodeBeginning
expression h (Token.Mark Mark.Semi) = by_row GrammarRow.Empty (ends GrammarRow.Empty)
expression h (Token.Word Word.Let) = by_row GrammarRow.Let let_rest
expression h (Token.Word Word.Return) = by_row GrammarRow.Return
    (maybe GrammarPart.AfterReturn (ends GrammarRow.Return) GrammarRow.Return)
expression h (Token.Word Word.Break) = by_row GrammarRow.Break after_break
expression h (Token.Word Word.Continue) = by_row GrammarRow.Continue
    (maybe a_label (ends GrammarRow.Continue) GrammarRow.Continue)
expression h (Token.Word Word.Move) = by_row GrammarRow.Closure closure
expression h (Token.Mark Mark.Minus) = by_row GrammarRow.Prefix operand
expression h (Token.Mark Mark.Not) = by_row GrammarRow.Prefix operand
expression h (Token.Mark Mark.Star) = by_row GrammarRow.Prefix operand
expression h (Token.Mark Mark.And) = by_row GrammarRow.Prefix (if_word Word.Mut operand operand)
expression h (Token.Number value suffix) = by_row GrammarRow.Number (ends GrammarRow.Number)
expression h (Token.Word Word.True) = by_row GrammarRow.Truth (ends GrammarRow.Truth)
expression h (Token.Word Word.False) = by_row GrammarRow.Truth (ends GrammarRow.Truth)
expression h (Token.Word Word.SelfValue) = by_row GrammarRow.SelfValue (ends GrammarRow.SelfValue)
expression h (Token.Name n) = by_row GrammarRow.Path (named (is_panic n) h)
expression h (Token.Word Word.SelfType) = by_row GrammarRow.Path (path h)
expression h (Token.Mark Mark.OpenParenthesis) =
    by_row GrammarRow.Round (exprs Mark.CloseParenthesis (ends GrammarRow.Round))
expression h (Token.Mark Mark.OpenBracket) = by_row GrammarRow.Square (exprs Mark.CloseBracket (ends GrammarRow.Square))
expression h (Token.Mark Mark.OpenBrace) = by_row GrammarRow.Block (statements false)
expression h (Token.Word Word.If) = by_row GrammarRow.If if_rest
expression h (Token.Word Word.Match) = by_row GrammarRow.Match (part head_expr (mark Mark.OpenBrace (arms false)))
expression h (Token.Word Word.Loop) = by_row GrammarRow.Loop loop_rest
expression h (Token.Word Word.While) = by_row GrammarRow.While while_rest
expression h (Token.Label n) = by_row GrammarRow.Loop labelled
expression h _ = None

abbrev pub field_init : Token → Option NodeBeginning
field_init (Token.Name n) =
    by_row GrammarRow.FieldInit (if_mark Mark.Colon (part any_expr (ends GrammarRow.FieldInit))
    (ends GrammarRow.FieldInit))
field_init _ = None

abbrev pub entry : Seen → Token → Option NodeBeginning
entry s t = elim s.sort [
  | Sort.File ↦ None
  | Sort.Item ↦ item t
  | Sort.Method ↦ method t
  | Sort.Head ↦ head t
  | Sort.Field ↦ named_field t
  | Sort.Variant ↦ variant t
  | Sort.Name ↦ name t
  | Sort.Type_ ↦ type_ t
  | Sort.Pattern ↦ pattern s.head t
  | Sort.FieldPattern ↦ field_pattern t
  | Sort.Expr ↦ expression s.head t
  | Sort.FieldInit ↦ field_init t
  | Sort.Label ↦ label t
]

-- How a node begins that begins with a part: its row, where the part stands, and what follows the token behind it.
pub record Joined : Type 0 where
  pub row : GrammarRow
  pub place : GrammarPlace
  pub rest : GrammarRest

abbrev pub joined_by : Seen → GrammarRow → ℕ → GrammarRest → Option Joined
joined_by s r least q =
    Some record { row = r; place = record { sort = s.sort; least = least; head = s.head; start = s.start }; rest = q }

-- an operator with the least levels of its operands
abbrev pub infix_ : Seen → GrammarRow → ℕ → ℕ → Option Joined
infix_ s r left right = joined_by s r left (part (GrammarPart.Operand right) (ends r))

abbrev pub dot : GrammarRest
dot =
    either TokenKind.Name (if_mark Mark.OpenParenthesis (exprs Mark.CloseParenthesis (ends GrammarRow.MethodCall))
    (ends GrammarRow.FieldAccess))
    (token TokenKind.Digits (ends GrammarRow.TupleField))

abbrev pub infix_expr : Seen → Token → Option Joined
infix_expr s (Token.Mark Mark.Eq) = infix_ s GrammarRow.Assign 2 0
infix_expr s (Token.Mark Mark.OrOr) = infix_ s GrammarRow.Or 2 3
infix_expr s (Token.Mark Mark.AndAnd) = infix_ s GrammarRow.And 3 4
infix_expr s (Token.Mark Mark.EqEq) = infix_ s GrammarRow.Compare 5 5
infix_expr s (Token.Mark Mark.Ne) = infix_ s GrammarRow.Compare 5 5
infix_expr s (Token.Mark Mark.Lt) = infix_ s GrammarRow.Compare 5 5
infix_expr s (Token.Mark Mark.Le) = infix_ s GrammarRow.Compare 5 5
infix_expr s (Token.Mark Mark.Gt) = infix_ s GrammarRow.Compare 5 5
infix_expr s (Token.Mark Mark.Ge) = infix_ s GrammarRow.Compare 5 5
infix_expr s (Token.Mark Mark.Plus) = infix_ s GrammarRow.Sum 5 6
infix_expr s (Token.Mark Mark.Minus) = infix_ s GrammarRow.Sum 5 6
infix_expr s (Token.Mark Mark.Star) = infix_ s GrammarRow.Product 6 7
infix_expr s (Token.Mark Mark.Slash) = infix_ s GrammarRow.Product 6 7
infix_expr s (Token.Mark Mark.Percent) = infix_ s GrammarRow.Product 6 7
infix_expr s (Token.Mark Mark.OpenParenthesis) =
    joined_by s GrammarRow.Call 9 (exprs Mark.CloseParenthesis (ends GrammarRow.Call))
infix_expr s (Token.Mark Mark.Dot) = joined_by s GrammarRow.TupleField 8 dot
infix_expr s (Token.Mark Mark.OpenBracket) =
    joined_by s GrammarRow.Index 8 (part any_expr (mark Mark.CloseBracket (ends GrammarRow.Index)))
infix_expr s (Token.Mark Mark.Semi) =
    Some record { row = GrammarRow.Semi; place = expr s.head Start.Value; rest = ends GrammarRow.Semi }
infix_expr s _ = None

abbrev pub infix_pattern : Seen → Token → Option Joined
infix_pattern s (Token.Mark Mark.Or) = joined_by s GrammarRow.OrPattern 1 (part pattern1 alternatives)
infix_pattern s (Token.Mark Mark.Colon) = joined_by s GrammarRow.Param 1 (part a_type (ends GrammarRow.Param))
infix_pattern s (Token.Mark Mark.FatArrow) = joined_by s GrammarRow.Arm 0 arm_body
infix_pattern s (Token.Word Word.If) = joined_by s GrammarRow.Arm 0 (part any_expr (mark Mark.FatArrow arm_body))
infix_pattern s _ = None

abbrev pub joined : Seen → Token → Option Joined
joined s t = elim s.sort [ Sort.Expr ↦ infix_expr s t | Sort.Pattern ↦ infix_pattern s t | _ ↦ None ]
