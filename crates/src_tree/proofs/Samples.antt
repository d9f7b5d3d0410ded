-- One token of each kind, and all rows: what holds of these holds of every token and every row.
use Rattle.std.proofs.Common.{◌≡◌, ℕ, zero, suc, Bool, true, false, ◌&&◌, Option, Some, None, List, [], ◌∷◌, refl, ap, ◌∙◌, sym}
use Rattle.mir_base.specs.declared.int_kind.IntKind.{IntKind}
use Rattle.src_token.specs.declared.token.Token.{Token}
use Rattle.src_token.specs.declared.word.Word.{Word}
use Rattle.src_token.specs.declared.mark.Mark.{Mark}
use Rattle.src_tree.specs.declared.row.GrammarRow.{GrammarRow}
use Rattle.src_tree.specs.Grammar.{is_text}

abbrev pub derive_text : List ℕ
derive_text = 100 ∷ 101 ∷ 114 ∷ 105 ∷ 118 ∷ 101 ∷ []

abbrev pub panic_text : List ℕ
panic_text = 112 ∷ 97 ∷ 110 ∷ 105 ∷ 99 ∷ []

-- the name that is alike
abbrev pub like_name : Bool → Bool → List ℕ
like_name true d = panic_text
like_name false true = derive_text
like_name false false = []

abbrev pub like : Token → Token
like (Token.Name n) = Token.Name (like_name (is_text n panic_text) (is_text n derive_text))
like (Token.Word w) = Token.Word w
like (Token.Number v None) = Token.Number 0 None
like (Token.Number v (Some k)) = Token.Number 0 (Some IntKind.I32)
like (Token.Label n) = Token.Label []
like (Token.Text n) = Token.Text []
like (Token.Mark m) = Token.Mark m

abbrev pub samples : List Token
samples =
    Token.Name [] ∷ Token.Name derive_text ∷ Token.Name panic_text ∷ Token.Number 0 None ∷ Token.Number 0 (Some IntKind.I32) ∷ Token.Label [] ∷ Token.Text []
    ∷ Token.Mark Mark.OpenBrace
    ∷ Token.Mark Mark.CloseBrace
    ∷ Token.Mark Mark.OpenParenthesis
    ∷ Token.Mark Mark.CloseParenthesis
    ∷ Token.Mark Mark.OpenBracket
    ∷ Token.Mark Mark.CloseBracket
    ∷ Token.Mark Mark.Comma
    ∷ Token.Mark Mark.Semi
    ∷ Token.Mark Mark.Colon
    ∷ Token.Mark Mark.PathSep
    ∷ Token.Mark Mark.Dot
    ∷ Token.Mark Mark.DotDot
    ∷ Token.Mark Mark.RArrow
    ∷ Token.Mark Mark.FatArrow
    ∷ Token.Mark Mark.Eq
    ∷ Token.Mark Mark.EqEq
    ∷ Token.Mark Mark.Ne
    ∷ Token.Mark Mark.Lt
    ∷ Token.Mark Mark.Le
    ∷ Token.Mark Mark.Gt
    ∷ Token.Mark Mark.Ge
    ∷ Token.Mark Mark.Plus
    ∷ Token.Mark Mark.Minus
    ∷ Token.Mark Mark.Star
    ∷ Token.Mark Mark.Slash
    ∷ Token.Mark Mark.Percent
    ∷ Token.Mark Mark.Not
    ∷ Token.Mark Mark.AndAnd
    ∷ Token.Mark Mark.OrOr
    ∷ Token.Mark Mark.And
    ∷ Token.Mark Mark.Or
    ∷ Token.Mark Mark.Pound
    ∷ Token.Mark Mark.Underscore
    ∷ Token.Word Word.As
    ∷ Token.Word Word.Async
    ∷ Token.Word Word.Await
    ∷ Token.Word Word.Break
    ∷ Token.Word Word.Const
    ∷ Token.Word Word.Continue
    ∷ Token.Word Word.Crate
    ∷ Token.Word Word.Dyn
    ∷ Token.Word Word.Else
    ∷ Token.Word Word.Enum
    ∷ Token.Word Word.Extern
    ∷ Token.Word Word.False
    ∷ Token.Word Word.Fn
    ∷ Token.Word Word.For
    ∷ Token.Word Word.Gen
    ∷ Token.Word Word.If
    ∷ Token.Word Word.Impl
    ∷ Token.Word Word.In
    ∷ Token.Word Word.Let
    ∷ Token.Word Word.Loop
    ∷ Token.Word Word.Match
    ∷ Token.Word Word.Mod
    ∷ Token.Word Word.Move
    ∷ Token.Word Word.Mut
    ∷ Token.Word Word.Pub
    ∷ Token.Word Word.Ref
    ∷ Token.Word Word.Return
    ∷ Token.Word Word.SelfValue
    ∷ Token.Word Word.SelfType
    ∷ Token.Word Word.Static
    ∷ Token.Word Word.Struct
    ∷ Token.Word Word.Super
    ∷ Token.Word Word.Trait
    ∷ Token.Word Word.True
    ∷ Token.Word Word.Type_
    ∷ Token.Word Word.Unsafe
    ∷ Token.Word Word.Use
    ∷ Token.Word Word.Where
    ∷ Token.Word Word.While
    ∷ Token.Word Word.Abstract
    ∷ Token.Word Word.Become
    ∷ Token.Word Word.Box
    ∷ Token.Word Word.Do
    ∷ Token.Word Word.Final
    ∷ Token.Word Word.Macro
    ∷ Token.Word Word.Override
    ∷ Token.Word Word.Priv
    ∷ Token.Word Word.Try
    ∷ Token.Word Word.Typeof
    ∷ Token.Word Word.Unsized
    ∷ Token.Word Word.Virtual
    ∷ Token.Word Word.Yield
    ∷ []

abbrev mark_at : Mark → ℕ
mark_at Mark.OpenBrace = 7
mark_at Mark.CloseBrace = 8
mark_at Mark.OpenParenthesis = 9
mark_at Mark.CloseParenthesis = 10
mark_at Mark.OpenBracket = 11
mark_at Mark.CloseBracket = 12
mark_at Mark.Comma = 13
mark_at Mark.Semi = 14
mark_at Mark.Colon = 15
mark_at Mark.PathSep = 16
mark_at Mark.Dot = 17
mark_at Mark.DotDot = 18
mark_at Mark.RArrow = 19
mark_at Mark.FatArrow = 20
mark_at Mark.Eq = 21
mark_at Mark.EqEq = 22
mark_at Mark.Ne = 23
mark_at Mark.Lt = 24
mark_at Mark.Le = 25
mark_at Mark.Gt = 26
mark_at Mark.Ge = 27
mark_at Mark.Plus = 28
mark_at Mark.Minus = 29
mark_at Mark.Star = 30
mark_at Mark.Slash = 31
mark_at Mark.Percent = 32
mark_at Mark.Not = 33
mark_at Mark.AndAnd = 34
mark_at Mark.OrOr = 35
mark_at Mark.And = 36
mark_at Mark.Or = 37
mark_at Mark.Pound = 38
mark_at Mark.Underscore = 39

abbrev word_at : Word → ℕ
word_at Word.As = 40
word_at Word.Async = 41
word_at Word.Await = 42
word_at Word.Break = 43
word_at Word.Const = 44
word_at Word.Continue = 45
word_at Word.Crate = 46
word_at Word.Dyn = 47
word_at Word.Else = 48
word_at Word.Enum = 49
word_at Word.Extern = 50
word_at Word.False = 51
word_at Word.Fn = 52
word_at Word.For = 53
word_at Word.Gen = 54
word_at Word.If = 55
word_at Word.Impl = 56
word_at Word.In = 57
word_at Word.Let = 58
word_at Word.Loop = 59
word_at Word.Match = 60
word_at Word.Mod = 61
word_at Word.Move = 62
word_at Word.Mut = 63
word_at Word.Pub = 64
word_at Word.Ref = 65
word_at Word.Return = 66
word_at Word.SelfValue = 67
word_at Word.SelfType = 68
word_at Word.Static = 69
word_at Word.Struct = 70
word_at Word.Super = 71
word_at Word.Trait = 72
word_at Word.True = 73
word_at Word.Type_ = 74
word_at Word.Unsafe = 75
word_at Word.Use = 76
word_at Word.Where = 77
word_at Word.While = 78
word_at Word.Abstract = 79
word_at Word.Become = 80
word_at Word.Box = 81
word_at Word.Do = 82
word_at Word.Final = 83
word_at Word.Macro = 84
word_at Word.Override = 85
word_at Word.Priv = 86
word_at Word.Try = 87
word_at Word.Typeof = 88
word_at Word.Unsized = 89
word_at Word.Virtual = 90
word_at Word.Yield = 91

abbrev pub nth : {X : Type 0} → ℕ → List X → Option X
nth n [] = None
nth zero (x ∷ xs) = Some x
nth (suc n) (x ∷ xs) = nth n xs

abbrev pub every : {X : Type 0} → (X → Bool) → List X → Bool
every f [] = true
every f (x ∷ xs) = f x && every f xs

and_first : (a b : Bool) → (a && b) ≡ true → a ≡ true
and_first true b h = refl
and_first false b h = h

and_second : (a b : Bool) → (a && b) ≡ true → b ≡ true
and_second true b h = h
and_second false b h = absurd (cc)

pub every_nth : {X : Type 0} (f : X → Bool) (n : ℕ) (xs : List X) (x : X) → nth n xs ≡ Some x → every f xs ≡ true → f x ≡ true
every_nth f n [] x e h = absurd (cc)
every_nth f zero (y ∷ xs) x e h = let p : y ≡ x = cc in ap f (sym p) ∙ and_first (f y) (every f xs) h
every_nth f (suc n) (y ∷ xs) x e h = every_nth f n xs x e (and_second (f y) (every f xs) h)

mark_is_there : (m : Mark) → nth (mark_at m) samples ≡ Some (Token.Mark m)
mark_is_there Mark.OpenBrace = refl
mark_is_there _ = refl

word_is_there : (w : Word) → nth (word_at w) samples ≡ Some (Token.Word w)
word_is_there Word.As = refl
word_is_there _ = refl

-- what holds of the samples holds of a token that is alike
pub of_samples : (f : Token → Bool) → every f samples ≡ true → (t : Token) → f (like t) ≡ true
of_samples f h (Token.Name n) = go (is_text n panic_text) (is_text n derive_text)
  where
    go : (p d : Bool) → f (Token.Name (like_name p d)) ≡ true
    go true d = every_nth f 2 samples _ refl h
    go false true = every_nth f 1 samples _ refl h
    go false false = every_nth f 0 samples _ refl h
of_samples f h (Token.Word w) = every_nth f (word_at w) samples _ (word_is_there w) h
of_samples f h (Token.Number v None) = every_nth f 3 samples _ refl h
of_samples f h (Token.Number v (Some k)) = every_nth f 4 samples _ refl h
of_samples f h (Token.Label n) = every_nth f 5 samples _ refl h
of_samples f h (Token.Text n) = every_nth f 6 samples _ refl h
of_samples f h (Token.Mark m) = every_nth f (mark_at m) samples _ (mark_is_there m) h

abbrev pub rows : List GrammarRow
rows =
    GrammarRow.File ∷ GrammarRow.Struct ∷ GrammarRow.Enum ∷ GrammarRow.Trait ∷ GrammarRow.Impl ∷ GrammarRow.Fn ∷ GrammarRow.Method ∷ GrammarRow.Head ∷ GrammarRow.Field ∷ GrammarRow.Variant ∷ GrammarRow.Ident ∷ GrammarRow.NamedType ∷ GrammarRow.GenericType ∷ GrammarRow.DynType ∷ GrammarRow.SelfType ∷ GrammarRow.TupleType ∷ GrammarRow.ArrayType ∷ GrammarRow.NeverType ∷ GrammarRow.RefType ∷ GrammarRow.WildPattern ∷ GrammarRow.BindPattern ∷ GrammarRow.NumberPattern ∷ GrammarRow.BoolPattern ∷ GrammarRow.PathPattern ∷ GrammarRow.CallPattern ∷ GrammarRow.StructPattern ∷ GrammarRow.TuplePattern ∷ GrammarRow.ArrayPattern ∷ GrammarRow.OrPattern ∷ GrammarRow.FieldPattern ∷ GrammarRow.Param ∷ GrammarRow.SelfParam ∷ GrammarRow.Let ∷ GrammarRow.Empty ∷ GrammarRow.Semi ∷ GrammarRow.Block ∷ GrammarRow.If ∷ GrammarRow.Match ∷ GrammarRow.Arm ∷ GrammarRow.LastArm ∷ GrammarRow.Loop ∷ GrammarRow.While ∷ GrammarRow.Return ∷ GrammarRow.Break ∷ GrammarRow.Continue ∷ GrammarRow.LabelName ∷ GrammarRow.Closure ∷ GrammarRow.Panic ∷ GrammarRow.Assign ∷ GrammarRow.Or ∷ GrammarRow.And ∷ GrammarRow.Compare ∷ GrammarRow.Sum ∷ GrammarRow.Product ∷ GrammarRow.Prefix ∷ GrammarRow.FieldAccess ∷ GrammarRow.MethodCall ∷ GrammarRow.TupleField ∷ GrammarRow.Call ∷ GrammarRow.Index ∷ GrammarRow.Number ∷ GrammarRow.Truth ∷ GrammarRow.SelfValue ∷ GrammarRow.Path ∷ GrammarRow.StructExpr ∷ GrammarRow.FieldInit ∷ GrammarRow.Round ∷ GrammarRow.Square ∷ []

abbrev row_at : GrammarRow → ℕ
row_at GrammarRow.File = 0
row_at GrammarRow.Struct = 1
row_at GrammarRow.Enum = 2
row_at GrammarRow.Trait = 3
row_at GrammarRow.Impl = 4
row_at GrammarRow.Fn = 5
row_at GrammarRow.Method = 6
row_at GrammarRow.Head = 7
row_at GrammarRow.Field = 8
row_at GrammarRow.Variant = 9
row_at GrammarRow.Ident = 10
row_at GrammarRow.NamedType = 11
row_at GrammarRow.GenericType = 12
row_at GrammarRow.DynType = 13
row_at GrammarRow.SelfType = 14
row_at GrammarRow.TupleType = 15
row_at GrammarRow.ArrayType = 16
row_at GrammarRow.NeverType = 17
row_at GrammarRow.RefType = 18
row_at GrammarRow.WildPattern = 19
row_at GrammarRow.BindPattern = 20
row_at GrammarRow.NumberPattern = 21
row_at GrammarRow.BoolPattern = 22
row_at GrammarRow.PathPattern = 23
row_at GrammarRow.CallPattern = 24
row_at GrammarRow.StructPattern = 25
row_at GrammarRow.TuplePattern = 26
row_at GrammarRow.ArrayPattern = 27
row_at GrammarRow.OrPattern = 28
row_at GrammarRow.FieldPattern = 29
row_at GrammarRow.Param = 30
row_at GrammarRow.SelfParam = 31
row_at GrammarRow.Let = 32
row_at GrammarRow.Empty = 33
row_at GrammarRow.Semi = 34
row_at GrammarRow.Block = 35
row_at GrammarRow.If = 36
row_at GrammarRow.Match = 37
row_at GrammarRow.Arm = 38
row_at GrammarRow.LastArm = 39
row_at GrammarRow.Loop = 40
row_at GrammarRow.While = 41
row_at GrammarRow.Return = 42
row_at GrammarRow.Break = 43
row_at GrammarRow.Continue = 44
row_at GrammarRow.LabelName = 45
row_at GrammarRow.Closure = 46
row_at GrammarRow.Panic = 47
row_at GrammarRow.Assign = 48
row_at GrammarRow.Or = 49
row_at GrammarRow.And = 50
row_at GrammarRow.Compare = 51
row_at GrammarRow.Sum = 52
row_at GrammarRow.Product = 53
row_at GrammarRow.Prefix = 54
row_at GrammarRow.FieldAccess = 55
row_at GrammarRow.MethodCall = 56
row_at GrammarRow.TupleField = 57
row_at GrammarRow.Call = 58
row_at GrammarRow.Index = 59
row_at GrammarRow.Number = 60
row_at GrammarRow.Truth = 61
row_at GrammarRow.SelfValue = 62
row_at GrammarRow.Path = 63
row_at GrammarRow.StructExpr = 64
row_at GrammarRow.FieldInit = 65
row_at GrammarRow.Round = 66
row_at GrammarRow.Square = 67

row_is_there : (r : GrammarRow) → nth (row_at r) rows ≡ Some r
row_is_there GrammarRow.File = refl
row_is_there _ = refl

pub of_rows : (f : GrammarRow → Bool) → every f rows ≡ true → (r : GrammarRow) → f r ≡ true
of_rows f h r = every_nth f (row_at r) rows r (row_is_there r) h
