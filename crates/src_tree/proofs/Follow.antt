-- Which tokens may stand behind a tree, and that the grammar lets a token do one thing only: checked by computation.
use Rattle.std.proofs.Common.{ℕ, Bool, true, false, ◌&&◌, ◌||◌, not, nat_le, nat_eq, Option, Some, None, List, [], ◌∷◌}
use Rattle.src_token.specs.declared.token.Token.{Token}
use Rattle.src_token.specs.declared.word.Word.{Word}
use Rattle.src_token.specs.declared.mark.Mark.{Mark}
use Rattle.src_tree.specs.declared.row.GrammarRow.{GrammarRow}
use Rattle.src_tree.specs.declared.row.Sort.{Sort}
use Rattle.src_tree.specs.declared.place.Start.{Start}
use Rattle.src_tree.specs.declared.place.GrammarPlace.{GrammarPlace}
use Rattle.src_tree.specs.declared.place.Seen.{Seen}
use Rattle.src_tree.specs.declared.place.GrammarPart.{GrammarPart}
use Rattle.src_tree.specs.declared.kind.TokenKind.{TokenKind}
use Rattle.src_tree.specs.Grammar.{sort_number, seen, allowed, may_begin, place_of, GrammarRest, ends, token, either, part, maybe, list, more, many, items, alternatives, statements, arms, arm_body, after_break, is, comma, pattern1, move, due, behind, made, NodeBeginning, entry, Joined, joined}
use Rattle.src_tree.specs.Reading.{opens, joins}
use Rattle.src_tree.proofs.Samples.{samples, rows, every}

abbrev pub among : List TokenKind → Token → Bool
among [] t = false
among (k ∷ ks) t = is k t || among ks t

abbrev pub none_of : List TokenKind → Token → Bool
none_of ks t = not (among ks t)

-- a token that lets an expression be whose last operand has this least level
abbrev pub quiet : ℕ → Bool → Token → Bool
quiet right head (Token.Mark Mark.Comma) = true
quiet right head (Token.Mark Mark.Semi) = true
quiet right head (Token.Mark Mark.CloseBrace) = true
quiet right head (Token.Mark Mark.CloseBracket) = true
quiet right head (Token.Mark Mark.CloseParenthesis) = true
quiet right head (Token.Mark Mark.FatArrow) = true
quiet right head (Token.Mark Mark.OpenBrace) = head
quiet right head (Token.Mark Mark.Eq) = nat_le 2 right
quiet right head (Token.Mark Mark.OrOr) = nat_le 3 right
quiet right head (Token.Mark Mark.AndAnd) = nat_le 4 right
quiet right head (Token.Mark Mark.EqEq) = nat_le 5 right
quiet right head (Token.Mark Mark.Ne) = nat_le 5 right
quiet right head (Token.Mark Mark.Lt) = nat_le 5 right
quiet right head (Token.Mark Mark.Le) = nat_le 5 right
quiet right head (Token.Mark Mark.Gt) = nat_le 5 right
quiet right head (Token.Mark Mark.Ge) = nat_le 5 right
quiet right head (Token.Mark Mark.Plus) = nat_le 6 right
quiet right head (Token.Mark Mark.Minus) = nat_le 6 right
quiet right head (Token.Mark Mark.Star) = nat_le 7 right
quiet right head (Token.Mark Mark.Slash) = nat_le 7 right
quiet right head (Token.Mark Mark.Percent) = nat_le 7 right
quiet right head _ = false

abbrev open_brace : TokenKind
open_brace = TokenKind.Mark Mark.OpenBrace

abbrev separators : List TokenKind
separators = comma ∷ TokenKind.Mark Mark.CloseBrace ∷ []

abbrev behind_patterns : List TokenKind
behind_patterns =
    comma ∷ TokenKind.Mark Mark.CloseParenthesis ∷ TokenKind.Mark Mark.CloseBracket ∷ TokenKind.Mark Mark.CloseBrace ∷ TokenKind.Mark Mark.FatArrow ∷ TokenKind.Word Word.If ∷ TokenKind.Mark Mark.Eq ∷ []

-- it goes on with no node inside a node of this row
abbrev pub calm : Bool → GrammarRow → Token → Bool
calm h GrammarRow.File t = false
calm h GrammarRow.Field t = none_of (TokenKind.Mark Mark.Lt ∷ []) t
calm h GrammarRow.Variant t = among separators t
calm h GrammarRow.NamedType t = none_of (TokenKind.Mark Mark.Lt ∷ []) t
calm h GrammarRow.RefType t = none_of (TokenKind.Mark Mark.Lt ∷ []) t
calm h GrammarRow.Param t = none_of (TokenKind.Mark Mark.Lt ∷ []) t
calm h GrammarRow.BindPattern t = none_of (TokenKind.Mark Mark.PathSep ∷ TokenKind.Mark Mark.OpenParenthesis ∷ open_brace ∷ []) t
calm h GrammarRow.PathPattern t = none_of (TokenKind.Mark Mark.PathSep ∷ TokenKind.Mark Mark.OpenParenthesis ∷ open_brace ∷ []) t
calm h GrammarRow.OrPattern t = among behind_patterns t
calm h GrammarRow.FieldPattern t = among separators t
calm h GrammarRow.FieldInit t = among separators t
calm h GrammarRow.If t = none_of (TokenKind.Word Word.Else ∷ []) t
calm h GrammarRow.Arm t = none_of (comma ∷ []) t
calm h GrammarRow.LastArm t = is (TokenKind.Mark Mark.CloseBrace) t
calm h GrammarRow.Return t = quiet 0 h t
calm h GrammarRow.Break t = quiet 0 h t
calm h GrammarRow.Continue t = none_of (TokenKind.Label ∷ TokenKind.Mark Mark.Colon ∷ []) t
calm h GrammarRow.LabelName t = none_of (TokenKind.Mark Mark.Colon ∷ []) t
calm h GrammarRow.Assign t = quiet 0 h t
calm h GrammarRow.Or t = quiet 3 h t
calm h GrammarRow.And t = quiet 4 h t
calm h GrammarRow.Compare t = quiet 5 h t
calm h GrammarRow.Sum t = quiet 6 h t
calm h GrammarRow.Product t = quiet 7 h t
calm h GrammarRow.Prefix t = quiet 7 h t
calm h GrammarRow.FieldAccess t = none_of (TokenKind.Mark Mark.OpenParenthesis ∷ []) t
calm false GrammarRow.Path t = none_of (TokenKind.Mark Mark.PathSep ∷ TokenKind.Mark Mark.Not ∷ open_brace ∷ []) t
calm true GrammarRow.Path t = none_of (TokenKind.Mark Mark.PathSep ∷ TokenKind.Mark Mark.Not ∷ []) t
calm h _ t = true

-- rows behind which the same may stand
pub data Shape : Type 0 where
  Ended Brace Braced Labelled OneArm OneLastArm Open : Shape

abbrev pub shape : GrammarRow → Shape
shape GrammarRow.Let = Ended
shape GrammarRow.Semi = Ended
shape GrammarRow.Empty = Ended
shape GrammarRow.Block = Brace
shape GrammarRow.If = Braced
shape GrammarRow.Match = Braced
shape GrammarRow.Loop = Braced
shape GrammarRow.While = Braced
shape GrammarRow.LabelName = Labelled
shape GrammarRow.Arm = OneArm
shape GrammarRow.LastArm = OneLastArm
shape _ = Open

abbrev pub example : Shape → GrammarRow
example Ended = GrammarRow.Semi
example Brace = GrammarRow.Block
example Braced = GrammarRow.If
example Labelled = GrammarRow.LabelName
example OneArm = GrammarRow.Arm
example OneLastArm = GrammarRow.LastArm
example Open = GrammarRow.Path

abbrev behind_a_statement : Shape → Token → Bool
behind_a_statement Ended t = true
behind_a_statement Brace t = none_of (TokenKind.Mark Mark.Semi ∷ TokenKind.Word Word.Else ∷ []) t
behind_a_statement Braced t = none_of (TokenKind.Mark Mark.Semi ∷ TokenKind.Word Word.Else ∷ []) t
behind_a_statement _ t = is (TokenKind.Mark Mark.CloseBrace) t

abbrev behind_a_body : Shape → Token → Bool
behind_a_body Brace t = true
behind_a_body _ t = among separators t

abbrev behind_a_jump : ℕ → Bool → Shape → Token → Bool
behind_a_jump least head Labelled t = none_of (TokenKind.Mark Mark.Colon ∷ []) t
behind_a_jump least head _ t = quiet least head t

abbrev behind_an_arm : Shape → Token → Bool
behind_an_arm OneArm t = none_of (comma ∷ []) t
behind_an_arm _ t = is (TokenKind.Mark Mark.CloseBrace) t

abbrev behind_an_expr : GrammarPlace → Start → Shape → Token → Bool
behind_an_expr c Start.Statement y t = behind_a_statement y t
behind_an_expr c Start.NextStatement y t = behind_a_statement y t
behind_an_expr c Start.ArmBody y t = behind_a_body y t
behind_an_expr c Start.OnlyBlock y t = true
behind_an_expr c Start.BlockOrIf y t = none_of (TokenKind.Word Word.Else ∷ []) t
behind_an_expr c Start.Jump y t = behind_a_jump c.least c.head y t
behind_an_expr c Start.JumpInHead y t = behind_a_jump c.least c.head y t
behind_an_expr c _ y t = quiet c.least c.head t

abbrev behind_a_pattern : GrammarPlace → Start → Shape → Token → Bool
behind_a_pattern c Start.IsArm y t = behind_an_arm y t
behind_a_pattern c Start.IsParam y t = among (comma ∷ TokenKind.Mark Mark.CloseParenthesis ∷ TokenKind.Mark Mark.Or ∷ []) t
behind_a_pattern c _ y t =
    among behind_patterns t || (nat_le 1 c.least && among (TokenKind.Mark Mark.Or ∷ TokenKind.Mark Mark.Colon ∷ TokenKind.Mark Mark.Semi ∷ []) t)

-- it may stand behind a tree there
abbrev pub follow : GrammarPlace → Shape → Token → Bool
follow c y t = elim c.sort [
  | Sort.File ↦ false
  | Sort.Item ↦ true
  | Sort.Method ↦ true
  | Sort.Head ↦ true
  | Sort.Field ↦ among separators t
  | Sort.Variant ↦ among separators t
  | Sort.Name ↦ true
  | Sort.Type_ ↦ none_of (TokenKind.Mark Mark.Lt ∷ []) t
  | Sort.Pattern ↦ behind_a_pattern c c.start y t
  | Sort.FieldPattern ↦ among separators t
  | Sort.Expr ↦ behind_an_expr c c.start y t
  | Sort.FieldInit ↦ among separators t
  | Sort.Label ↦ none_of (TokenKind.Mark Mark.Colon ∷ []) t
]

abbrev pub implies : Bool → Bool → Bool
implies a b = not a || b

abbrev pub is_none : {X : Type 0} → Option X → Bool
is_none None = true
is_none (Some x) = false

-- it does nothing there, and it does something there or lets what ends there be
abbrev pub idle : Bool → GrammarRest → Token → Bool
idle h q t = is_none (move q t) && is_none (opens h q t)

abbrev pub calm_at : Bool → Option GrammarRow → Token → Bool
calm_at h None t = false
calm_at h (Some x) t = calm h x t

abbrev pub acts : Bool → GrammarRest → Token → Bool
acts h q t = not (idle h q t) || calm_at h (made q) t

abbrev pub shapes : List Shape
shapes = Ended ∷ Brace ∷ Braced ∷ Labelled ∷ OneArm ∷ OneLastArm ∷ Open ∷ []

-- whether what may stand behind a tree hangs on its shape, where the tree begins so
abbrev pub hangs_on_shape : Start → Bool
hangs_on_shape Start.Statement = true
hangs_on_shape Start.NextStatement = true
hangs_on_shape Start.ArmBody = true
hangs_on_shape Start.Jump = true
hangs_on_shape Start.JumpInHead = true
hangs_on_shape Start.IsArm = true
hangs_on_shape _ = false

-- the shapes to be tried there
abbrev pub tried : Bool → List Shape
tried true = shapes
tried false = Open ∷ []

-- Places where a part may stand.

abbrev in_place : Sort → ℕ → Bool → Start → GrammarPlace
in_place s n h b = record { sort = s; least = n; head = h; start = b }

abbrev pub places : List GrammarPlace
places =
    in_place Sort.Item 0 false Start.Anything ∷ in_place Sort.Method 0 false Start.Anything ∷ in_place Sort.Head 0 false Start.Anything ∷ in_place Sort.Field 0 false Start.Anything
    ∷ in_place Sort.Variant 0 false Start.Anything ∷ in_place Sort.Name 0 false Start.Anything ∷ in_place Sort.Type_ 0 false Start.Anything ∷ in_place Sort.Pattern 0 false Start.Anything
    ∷ in_place Sort.Pattern 1 false Start.Anything ∷ in_place Sort.Pattern 1 false Start.IsParam ∷ in_place Sort.Pattern 1 true Start.IsParam ∷ in_place Sort.Pattern 0 false Start.IsArm
    ∷ in_place Sort.FieldPattern 0 false Start.Anything ∷ in_place Sort.FieldInit 0 false Start.Anything ∷ in_place Sort.Label 0 false Start.OnlyLabel
    ∷ in_place Sort.Expr 0 false Start.Anything ∷ in_place Sort.Expr 0 true Start.Anything ∷ in_place Sort.Expr 0 false Start.Statement ∷ in_place Sort.Expr 0 false Start.NextStatement
    ∷ in_place Sort.Expr 0 false Start.ArmBody ∷ in_place Sort.Expr 0 true Start.NotBlock ∷ in_place Sort.Expr 0 false Start.Jump ∷ in_place Sort.Expr 0 true Start.JumpInHead
    ∷ in_place Sort.Expr 0 false Start.OnlyBlock ∷ in_place Sort.Expr 0 false Start.BlockOrIf
    ∷ in_place Sort.Expr 3 false Start.Anything ∷ in_place Sort.Expr 4 false Start.Anything ∷ in_place Sort.Expr 5 false Start.Anything ∷ in_place Sort.Expr 6 false Start.Anything
    ∷ in_place Sort.Expr 7 false Start.Anything ∷ in_place Sort.Expr 3 true Start.Anything ∷ in_place Sort.Expr 4 true Start.Anything ∷ in_place Sort.Expr 5 true Start.Anything
    ∷ in_place Sort.Expr 6 true Start.Anything ∷ in_place Sort.Expr 7 true Start.Anything ∷ []

abbrev pub start_number : Start → ℕ
start_number Start.Anything = 0
start_number Start.Statement = 1
start_number Start.NextStatement = 2
start_number Start.Value = 3
start_number Start.NotBlocklike = 4
start_number Start.ArmBody = 5
start_number Start.NotBlock = 6
start_number Start.Jump = 7
start_number Start.JumpInHead = 8
start_number Start.OnlyBlock = 9
start_number Start.BlockOrIf = 10
start_number Start.OnlyLabel = 11
start_number Start.IsArm = 12
start_number Start.IsParam = 13

abbrev pub same_bool : Bool → Bool → Bool
same_bool true b = b
same_bool false b = not b

abbrev pub same_place : GrammarPlace → GrammarPlace → Bool
same_place c d =
    nat_eq (sort_number c.sort) (sort_number d.sort) && (nat_eq c.least d.least && (same_bool c.head d.head && nat_eq (start_number c.start) (start_number d.start)))

abbrev pub is_known : List GrammarPlace → GrammarPlace → Bool
is_known [] c = false
is_known (d ∷ ds) c = same_place d c || is_known ds c

-- One rest: what ends there is left alone by a calm token; a token that begins a part goes on with nothing else; and
-- what follows the part may stand behind it.

abbrev pub ends_well : Bool → GrammarRest → Bool
ends_well h q = every (λ t. implies (calm_at h (made q) t) (idle h q t)) samples

abbrev pub part_well : Bool → GrammarRest → GrammarPart → Bool
part_well h q p =
    is_known places (place_of h p)
    && (every (λ t. implies (not (is_none (opens h q t))) (is_none (move q t))) samples
    && every (λ y. every (λ t. implies (acts h (behind q (example y)) t) (follow (place_of h p) y t)) samples) (tried (hangs_on_shape (place_of h p).start)))

abbrev pub parts_well : Bool → GrammarRest → Option GrammarPart → Bool
parts_well h q None = true
parts_well h q (Some p) = part_well h q p

abbrev pub here : Bool → GrammarRest → Bool
here h q = ends_well h q && parts_well h q (due q)

-- a rest and all that comes of it
abbrev pub ok : Bool → GrammarRest → Bool
ok h (ends r) = true
ok h (token k after) = ok h after
ok h (either k after other) = here h (either k after other) && (ok h after && ok h other)
ok h (part p after) = here h (part p after) && ok h after
ok h (maybe p after r) = here h (maybe p after r) && ok h after
ok h (list p later dots close after) =
    here h (list p later dots close after) && (here h (more later dots close after) && (here h (list later later dots close after) && ok h after))
ok h (more p dots close after) = here h (more p dots close after) && (here h (list p p dots close after) && ok h after)
ok h (many p close after) = here h (many p close after) && ok h after
ok h items = here h items
ok h alternatives = here h alternatives && here h (part pattern1 alternatives)
ok h (statements o) = here h (statements false) && here h (statements true)
ok h (arms s) = here h (arms false) && here h (arms true)
ok h arm_body = here h arm_body && (here h (either comma (ends GrammarRow.Arm) (ends GrammarRow.Arm)) && here h (either comma (ends GrammarRow.Arm) (ends GrammarRow.LastArm)))
ok h after_break = here h after_break && here h (maybe GrammarPart.AfterReturn (ends GrammarRow.Break) GrammarRow.Break)

-- all rows that it may end as
abbrev pub all_ends : (GrammarRow → Bool) → GrammarRest → Bool
all_ends f (ends r) = f r
all_ends f (token k after) = all_ends f after
all_ends f (either k after other) = all_ends f after && all_ends f other
all_ends f (part p after) = all_ends f after
all_ends f (maybe p after r) = f r && all_ends f after
all_ends f (list p later dots close after) = all_ends f after
all_ends f (more p dots close after) = all_ends f after
all_ends f (many p close after) = all_ends f after
all_ends f items = f GrammarRow.File
all_ends f alternatives = f GrammarRow.OrPattern
all_ends f (statements o) = f GrammarRow.Block
all_ends f (arms s) = f GrammarRow.Match
all_ends f arm_body = f GrammarRow.Arm && f GrammarRow.LastArm
all_ends f after_break = f GrammarRow.Break

-- One place: what may stand behind a tree there lets its inside be, and joins it to nothing; a token that joins it to
-- something lets its inside be; and a row that begins there may begin by its first name.

abbrev pub stands : GrammarPlace → GrammarRow → Token → Bool
stands c y t = implies (follow c (shape y) t) (calm c.head y t && is_none (joins c y t))

abbrev pub same_seen : Seen → Seen → Bool
same_seen a b = nat_eq (sort_number a.sort) (sort_number b.sort) && (same_bool a.head b.head && nat_eq (start_number a.start) (start_number b.start))

abbrev pub joins_well : GrammarPlace → Token → Option Joined → Bool
joins_well c t None = true
joins_well c t (Some j) =
    implies (may_begin c j.row)
    (same_seen (seen j.place) (seen c) && every (λ y. implies (allowed j.place y) (may_begin c y && calm c.head y t)) rows)
    && all_ends (λ x. implies (may_begin c x) (may_begin c j.row)) j.rest

abbrev pub begins_well : GrammarPlace → Option NodeBeginning → Bool
begins_well c None = true
begins_well c (Some e) = all_ends (λ x. implies (may_begin c x) (may_begin c e.row)) e.rest

abbrev pub good : GrammarPlace → Bool
good c =
    every (λ y. implies (allowed c y) (every (stands c y) samples)) rows
    && every (λ t. joins_well c t (joined (seen c) t) && begins_well c (entry (seen c) t)) samples

abbrev pub entry_ok : Bool → Option NodeBeginning → Bool
entry_ok h None = true
entry_ok h (Some e) = ok h e.rest

abbrev pub joined_ok : Bool → Option Joined → Bool
joined_ok h None = true
joined_ok h (Some j) = ok h j.rest
