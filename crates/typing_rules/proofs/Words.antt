-- Texts typed by the definitions. Their tokens, with places, are found by a small lexer of the examples' own, and
-- read by
-- the parser's definition.
use Rattle.std.specs.Prelude.{ℕ, suc, ◌+◌, ◌*◌, ◌-◌, ◌==◌, nat_le, Bool, false, ◌&&◌, ◌||◌, not, List, [], ◌∷◌, ◌++◌, reverse, Option, Some, None, Result, Ok, Err, if◌then◌else◌, codes}
use Rattle.std.specs.List.{list_any}
use Rattle.std.specs.Str.{bytes_eq}
use Rattle.mir_base.specs.declared.int_kind.IntKind.{IntKind}
use Rattle.mir_base.specs.declared.place_in_text.Pos.{Pos}
use Rattle.mir_base.specs.declared.rule.Rule.{Rule}
use Rattle.src_token.specs.declared.mark.Mark.{Mark}
use Rattle.src_token.specs.declared.token.Token.{Token}
use Rattle.src_token.specs.declared.word.Word.{Word as Keyword}
use Rattle.src_tree.specs.Layout.{SyntaxNode, node}
use Rattle.src_tree.specs.Reading.{and_then, ParserState, step, whole, start}
use Rattle.typed_tree.specs.Tree.{ProgramTree}
use Rattle.well_typed.specs.Program.{is_well_typed}
use Rattle.typing_rules.specs.Check.{Broken}
use Rattle.typing_rules.specs.Borrows.{read_typed}

abbrev pub place : ℕ → ℕ → Pos
place line col = record { line = line; col = col }

abbrev Spelled : Type 0
Spelled = Token × Pos

abbrev m : Mark → Token
m x = Token.Mark x

abbrev w : Keyword → Token
w x = Token.Word x

-- ---- tokens of a text of the examples, which has no comments and no texts in quotes

abbrev is_between : ℕ → ℕ → ℕ → Bool
is_between low high c = nat_le low c && nat_le c high

abbrev is_digit : ℕ → Bool
is_digit = is_between 48 57

-- letters, digits, `_` and `'`
abbrev is_word_char : ℕ → Bool
is_word_char c = is_digit c || (is_between 97 122 c || (is_between 65 90 c || (c == 95 || c == 39)))

abbrev is_blank : ℕ → Bool
is_blank c = nat_le c 32

abbrev next_place : ℕ → Pos → Pos
next_place c p = if c == 10 then place (suc p.line) 1 else place p.line (suc p.col)

-- what stands together, its characters from the last to the first
abbrev Run : Type 0
Run = Option (List ℕ × Pos)

-- the marks of two characters
abbrev is_pair : ℕ → ℕ → Bool
is_pair a b =
    list_any (λ (p : ℕ × ℕ). p.0 == a && p.1 == b) ((58, 58) ∷ (46, 46) ∷ (45, 62) ∷ (61, 62) ∷ (61, 61) ∷ (33, 61) ∷
    (60, 61) ∷ (62, 61) ∷ (38, 38) ∷ (124, 124) ∷ [])

abbrev goes_with : List ℕ → ℕ → Bool
goes_with [] c = false
goes_with (a ∷ []) c = if is_word_char a then is_word_char c else is_pair a c
goes_with (a ∷ b ∷ cs) c = is_word_char a && is_word_char c

abbrev joins : ℕ → Run → Bool
joins c None = false
joins c (Some r) = goes_with r.0 c

abbrev with_char : ℕ → Pos → Run → Run
with_char c p None = Some (c ∷ [], p)
with_char c p (Some r) = Some (c ∷ r.0, r.1)

abbrev after : ℕ → Pos → Run → Run
after c p r = if is_blank c then None else (if joins c r then with_char c p r else Some (c ∷ [], p))

-- keywords and marks that the examples have
abbrev keywords : List (List ℕ × Token)
keywords =
    (codes "break", w Keyword.Break) ∷ (codes "continue", w Keyword.Continue) ∷ (codes "dyn", w Keyword.Dyn) ∷
    (codes "else", w Keyword.Else) ∷ (codes "enum", w Keyword.Enum) ∷ (codes "false", w Keyword.False) ∷
    (codes "fn", w Keyword.Fn) ∷ (codes "for", w Keyword.For) ∷ (codes "if", w Keyword.If) ∷
    (codes "impl", w Keyword.Impl) ∷ (codes "in", w Keyword.In) ∷ (codes "let", w Keyword.Let) ∷
    (codes "loop", w Keyword.Loop) ∷ (codes "match", w Keyword.Match) ∷ (codes "move", w Keyword.Move) ∷
    (codes "mut", w Keyword.Mut) ∷ (codes "return", w Keyword.Return) ∷ (codes "self", w Keyword.SelfValue) ∷
    (codes "Self", w Keyword.SelfType) ∷ (codes "struct", w Keyword.Struct) ∷
    (codes "trait", w Keyword.Trait) ∷ (codes "true", w Keyword.True) ∷ (codes "while", w Keyword.While) ∷ []

abbrev marks : List (List ℕ × Token)
marks =
    (codes "{", m Mark.OpenBrace) ∷ (codes "}", m Mark.CloseBrace) ∷ (codes "(", m Mark.OpenParenthesis) ∷
    (codes ")", m Mark.CloseParenthesis) ∷ (codes "[", m Mark.OpenBracket) ∷ (codes "]", m Mark.CloseBracket) ∷
    (codes ",", m Mark.Comma) ∷ (codes ";", m Mark.Semi) ∷ (codes ":", m Mark.Colon) ∷
    (codes "::", m Mark.PathSep) ∷ (codes ".", m Mark.Dot) ∷ (codes "..", m Mark.DotDot) ∷
    (codes "->", m Mark.RArrow) ∷ (codes "=>", m Mark.FatArrow) ∷ (codes "=", m Mark.Eq) ∷
    (codes "==", m Mark.EqEq) ∷ (codes "!=", m Mark.Ne) ∷ (codes "<", m Mark.Lt) ∷ (codes "<=", m Mark.Le) ∷
    (codes ">", m Mark.Gt) ∷ (codes ">=", m Mark.Ge) ∷ (codes "+", m Mark.Plus) ∷ (codes "-", m Mark.Minus) ∷
    (codes "*", m Mark.Star) ∷ (codes "/", m Mark.Slash) ∷ (codes "%", m Mark.Percent) ∷
    (codes "!", m Mark.Not) ∷ (codes "&&", m Mark.AndAnd) ∷ (codes "||", m Mark.OrOr) ∷
    (codes "&", m Mark.And) ∷ (codes "|", m Mark.Or) ∷ (codes "#", m Mark.Pound) ∷
    (codes "_", m Mark.Underscore) ∷ []

abbrev suffixes : List (List ℕ × IntKind)
suffixes = (codes "i32", IntKind.I32) ∷ (codes "i64", IntKind.I64) ∷ (codes "u32", IntKind.U32) ∷
    (codes "u64", IntKind.U64) ∷ (codes "usize", IntKind.Usize) ∷ []

abbrev or_else : {A : Type 0} → Option A → Option A → Option A
or_else None other = other
or_else (Some a) other = Some a

abbrev looked_up : {A : Type 0} → List (List ℕ × A) → List ℕ → Option A
looked_up [] cs = None
looked_up (x ∷ xs) cs = or_else (if bytes_eq x.0 cs then Some x.1 else None) (looked_up xs cs)

-- digits, and behind them `_` and a suffix
abbrev value_in : ℕ → Bool → List ℕ → ℕ
value_in v behind [] = v
value_in v behind (c ∷ cs) =
    value_in (if is_digit c && not behind then 10 * v + (c - 48) else v) (behind || is_between 97 122 c) cs

abbrev suffix_in : List ℕ → List ℕ
suffix_in [] = []
suffix_in (c ∷ cs) = if is_digit c || c == 95 then suffix_in cs else c ∷ cs

abbrev or_name : List ℕ → Option Token → Token
or_name cs None = Token.Name cs
or_name cs (Some t) = t

abbrev or_mark : Option Token → Token
or_mark None = m Mark.Pound
or_mark (Some t) = t

abbrev word_token : ℕ → List ℕ → Token
word_token c cs =
    if is_digit c then Token.Number (value_in 0 false (c ∷ cs)) (looked_up suffixes (suffix_in (c ∷ cs)))
    else (if c == 39 then Token.Label cs else or_name (c ∷ cs) (looked_up keywords (c ∷ cs)))

abbrev token_of : List ℕ → Token
token_of [] = m Mark.Pound
token_of (c ∷ cs) =
    if is_word_char c && not (bytes_eq (c ∷ cs) (codes "_")) then word_token c cs else or_mark (looked_up marks (c ∷
    cs))

abbrev with_run : Run → List Spelled → List Spelled
with_run None ts = ts
with_run (Some r) ts = (token_of (reverse r.0), r.1) ∷ ts

-- a run ends before a character that does not go with it
abbrev ended : ℕ → Run → List Spelled → List Spelled
ended c r ts = if joins c r then ts else with_run r ts

abbrev tokens : List ℕ → Pos → Run → List Spelled
tokens [] p r = with_run r []
tokens (c ∷ cs) p r = ended c r (tokens cs (next_place c p) (after c p r))

abbrev end_of : List ℕ → Pos → Pos
end_of [] p = p
end_of (c ∷ cs) p = end_of cs (next_place c p)

-- lines with a line feed between them
abbrev pub text : List (List ℕ) → List ℕ
text [] = []
text (l ∷ []) = l
text (l ∷ k ∷ ls) = l ++ 10 ∷ text (k ∷ ls)

-- lines, each ended by a line feed
abbrev pub lines : List (List ℕ) → List ℕ
lines [] = []
lines (l ∷ ls) = l ++ 10 ∷ lines ls

abbrev read : List Spelled → Option (ParserState Pos) → Option (ParserState Pos)
read [] o = o
read (t ∷ ts) o = read ts (and_then o (λ s. step s t.0 t.1))

pub data Outcome : Type 0 where
  NoTree : Outcome
  Refused : (rule : Rule) (at : Pos) → Outcome
  Typed : (program : ProgramTree) → Outcome

abbrev outcome_of : Result ProgramTree Broken → Outcome
outcome_of (Ok p) = Typed p
outcome_of (Err e) = Refused e.rule e.at

abbrev of_tree : Pos → Option (SyntaxNode Pos) → Outcome
of_tree end None = NoTree
of_tree end (Some (node at row parts)) = outcome_of (read_typed parts end)

abbrev tree_of : List ℕ → Option (SyntaxNode Pos)
tree_of text = and_then (read (tokens text (place 1 1) None) (Some (start (place 1 1)))) (λ s. whole s)

-- what comes of a text
abbrev pub outcome : List ℕ → Outcome
outcome text = of_tree (end_of text (place 1 1)) (tree_of text)

-- typed, and well typed
abbrev is_good : Outcome → Bool
is_good (Typed p) = is_well_typed p
is_good _ = false

abbrev pub stands : List ℕ → Bool
stands text = is_good (outcome text)
