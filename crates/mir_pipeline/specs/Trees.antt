-- The tree of a text, and why a text has none.
use Rattle.std.specs.Prelude.{◌≡◌, ℕ, List}
use Rattle.std.specs.Str.{chars}
use Rattle.mir_base.specs.declared.place_in_text.Pos.{Pos}
use Rattle.mir_base.specs.declared.rule.RuleError.{RuleError}
use Rattle.src_token.specs.declared.token.Spanned.{Spanned}
use Rattle.src_token.specs.declared.token.LexError.{LexError}
use Rattle.src_token.specs.Places.{place_after}
use Rattle.src_token.specs.Tokens.{Tokens, Refused}
use Rattle.src_tree.specs.declared.node.Tree.{Tree}
use Rattle.src_parse.specs.declared.error.ParseError.{ParseError}
use Rattle.src_parse.specs.Answers.{IsTree, IsRefused as IsBadToken}
use Rattle.mir_pipeline.specs.declared.refusal.Refusal.{Refusal}
use Rattle.mir_pipeline.specs.declared.refusal.Refusal.TheVariants.{Lex, Syntax, TooDeep, Broken, Memory}

-- the place behind the last character
abbrev pub end_place : List ℕ → Pos
end_place text = place_after (chars text)

-- the text has these tokens, and they have this tree
abbrev pub IsTreeOf : List ℕ → Tree → Type 0
IsTreeOf text tree = (tokens : List Spanned) × Tokens text tokens × IsTree tokens (end_place text) tree

abbrev pub refusal_of : LexError → Refusal
refusal_of (LexError.BadChar at) = Lex 1 at
refusal_of (LexError.BadNumber at) = Lex 2 at
refusal_of (LexError.OpenComment at) = Lex 3 at
refusal_of (LexError.OpenText at) = Lex 4 at
refusal_of (LexError.NotUtf8 at) = Lex 5 at
refusal_of LexError.Memory = Memory

abbrev pub of_tokens : ParseError → Refusal
of_tokens (ParseError.Syntax at pos) = Syntax at pos
of_tokens (ParseError.TooDeep at pos) = TooDeep at pos
of_tokens ParseError.Memory = Memory

abbrev pub of_rule : RuleError → Refusal
of_rule (RuleError.Broken rule at) = Broken rule at
of_rule RuleError.Memory = Memory

-- the text has no tokens, for this reason
abbrev HasNoTokens : List ℕ → Refusal → Type 0
HasNoTokens text refusal = (error : LexError) × Refused text error × (refusal ≡ refusal_of error)

-- it has tokens, and for this reason they have no tree
abbrev HasNoTree : List ℕ → Refusal → Type 0
HasNoTree text refusal =
    (tokens : List Spanned) × (error : ParseError) × Tokens text tokens × IsBadToken tokens (end_place text) error
    × (refusal ≡ of_tokens error)

-- the text has no tree, for this reason, which is no rule of typing; want of memory says nothing of it
abbrev pub IsRefused : List ℕ → Refusal → Type 0
IsRefused text (Lex code at) = HasNoTokens text (Lex code at)
IsRefused text (Syntax at pos) = HasNoTree text (Syntax at pos)
IsRefused text (TooDeep at pos) = HasNoTree text (TooDeep at pos)
IsRefused text Memory = Unit {0}
IsRefused text other = ⊥
