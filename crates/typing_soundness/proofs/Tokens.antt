-- A token of a kind that the grammar names.
use Rattle.std.proofs.Common.{◌≡◌, ℕ, true, not, nat_eq, List, [], ◌∷◌, Option, Some, None, IsTrue, refl, sym, ap, ◌∙◌, subst}
use Rattle.std.proofs.lemmas.Bool.{eqb-true, false≢true}
use Rattle.mir_base.specs.declared.int_kind.IntKind.{IntKind}
use Rattle.src_token.specs.declared.mark.Mark.{Mark}
use Rattle.src_token.specs.declared.token.Token.{Token}
use Rattle.src_token.specs.declared.word.Word.{Word as Keyword}
use Rattle.src_tree.specs.declared.kind.TokenKind.{TokenKind}
use Rattle.src_tree.specs.Grammar.{is, mark_number, word_number}
use Rattle.src_tree.proofs.Samples.{nth}
use Rattle.src_ast.specs.Syntax.{Word}
use Rattle.typing_rules.specs.Promises.{is_plain_name}
use Rattle.typing_soundness.specs.Named.{is_type_name, is_own_name, begins_with_digit}
use Rattle.well_typed.specs.Names.{is_word}

-- a name in a text is a word, without the marks of methods' and closures' names, and no keyword, and no digit begins it
pub record IsTextName (n : Word) : Type 0 where
  pub plain : IsTrue (is_plain_name n)
  pub is_word : IsTrue (is_word n)
  pub is_type : IsTrue (is_type_name n)
  pub is_own : IsTrue (is_own_name n)
  pub is_field : IsTrue (not (begins_with_digit n))

abbrev pub IsPlain : Token → Type 0
IsPlain (Token.Name n) = IsTextName n
IsPlain _ = Unit {0}

abbrev marks : List Mark
marks = Mark.OpenBrace ∷ Mark.CloseBrace ∷ Mark.OpenParenthesis ∷ Mark.CloseParenthesis ∷ Mark.OpenBracket ∷ Mark.CloseBracket ∷ Mark.Comma ∷ Mark.Semi ∷ Mark.Colon ∷ Mark.PathSep ∷ Mark.Dot ∷ Mark.DotDot ∷ Mark.RArrow ∷ Mark.FatArrow ∷ Mark.Eq ∷ Mark.EqEq ∷ Mark.Ne ∷ Mark.Lt ∷ Mark.Le ∷ Mark.Gt ∷ Mark.Ge ∷ Mark.Plus ∷ Mark.Minus ∷ Mark.Star ∷ Mark.Slash ∷ Mark.Percent ∷ Mark.Not ∷ Mark.AndAnd ∷ Mark.OrOr ∷ Mark.And ∷ Mark.Or ∷ Mark.Pound ∷ Mark.Underscore ∷ []

mark_is_there : (m : Mark) → nth (mark_number m) marks ≡ Some m
mark_is_there Mark.OpenBrace = refl
mark_is_there _ = refl

pub same_mark : (a b : Mark) → nat_eq (mark_number a) (mark_number b) ≡ true → a ≡ b
same_mark a b h =
    let e = eqb-true (mark_number a) (mark_number b) h in
    let f : Some a ≡ Some b = sym (mark_is_there a) ∙ ap (λ n. nth n marks) e ∙ mark_is_there b in
    cc

-- what is so of each word of a kind
abbrev pub WordDue : Keyword → (Token → Type 0) → Type 0
WordDue Keyword.Struct C = C (Token.Word Keyword.Struct)
WordDue Keyword.Enum C = C (Token.Word Keyword.Enum)
WordDue Keyword.For C = C (Token.Word Keyword.For)
WordDue Keyword.Dyn C = C (Token.Word Keyword.Dyn)
WordDue Keyword.Mut C = C (Token.Word Keyword.Mut)
WordDue Keyword.SelfValue C = C (Token.Word Keyword.SelfValue)
WordDue Keyword.Let C = C (Token.Word Keyword.Let)
WordDue Keyword.If C = C (Token.Word Keyword.If)
WordDue Keyword.Else C = C (Token.Word Keyword.Else)
WordDue Keyword.Loop C = C (Token.Word Keyword.Loop)
WordDue Keyword.While C = C (Token.Word Keyword.While)
WordDue Keyword.Fn C = C (Token.Word Keyword.Fn)
WordDue _ C = (v : Keyword) → C (Token.Word v)

word_due : (w v : Keyword) (C : Token → Type 0) → nat_eq (word_number w) (word_number v) ≡ true → WordDue w C → C (Token.Word v)
word_due Keyword.Struct Keyword.Struct C e d = d
word_due Keyword.Struct _ C e d = absurd (false≢true e)
word_due Keyword.Enum Keyword.Enum C e d = d
word_due Keyword.Enum _ C e d = absurd (false≢true e)
word_due Keyword.For Keyword.For C e d = d
word_due Keyword.For _ C e d = absurd (false≢true e)
word_due Keyword.Dyn Keyword.Dyn C e d = d
word_due Keyword.Dyn _ C e d = absurd (false≢true e)
word_due Keyword.Mut Keyword.Mut C e d = d
word_due Keyword.Mut _ C e d = absurd (false≢true e)
word_due Keyword.SelfValue Keyword.SelfValue C e d = d
word_due Keyword.SelfValue _ C e d = absurd (false≢true e)
word_due Keyword.Let Keyword.Let C e d = d
word_due Keyword.Let _ C e d = absurd (false≢true e)
word_due Keyword.If Keyword.If C e d = d
word_due Keyword.If _ C e d = absurd (false≢true e)
word_due Keyword.Else Keyword.Else C e d = d
word_due Keyword.Else _ C e d = absurd (false≢true e)
word_due Keyword.Loop Keyword.Loop C e d = d
word_due Keyword.Loop _ C e d = absurd (false≢true e)
word_due Keyword.While Keyword.While C e d = d
word_due Keyword.While _ C e d = absurd (false≢true e)
word_due Keyword.Fn Keyword.Fn C e d = d
word_due Keyword.Fn _ C e d = absurd (false≢true e)
word_due _ v C e d = d v

-- what is so of each token of a kind
abbrev pub TokenDue : TokenKind → (Token → Type 0) → Type 0
TokenDue (TokenKind.Mark m) C = C (Token.Mark m)
TokenDue (TokenKind.Word w) C = WordDue w C
TokenDue TokenKind.Name C = (n : Word) → IsTrue (is_plain_name n) → C (Token.Name n)
TokenDue TokenKind.Number C = (value : ℕ) (suffix : Option IntKind) → C (Token.Number value suffix)
TokenDue TokenKind.Digits C = (value : ℕ) → C (Token.Number value None)
TokenDue TokenKind.Label C = (n : Word) → C (Token.Label n)
TokenDue TokenKind.Text C = (n : Word) → C (Token.Text n)
TokenDue TokenKind.Derive C = (n : Word) → C (Token.Name n)

pub token_due : (k : TokenKind) (t : Token) (C : Token → Type 0) → is k t ≡ true → IsPlain t → TokenDue k C → C t
token_due (TokenKind.Mark m) (Token.Mark n) C e p d = subst (λ x. C (Token.Mark x)) (same_mark m n e) d
token_due (TokenKind.Word w) (Token.Word v) C e p d = word_due w v C e d
token_due TokenKind.Name (Token.Name n) C e p d = d n p.plain
token_due TokenKind.Number (Token.Number value suffix) C e p d = d value suffix
token_due TokenKind.Digits (Token.Number value None) C e p d = d value
token_due TokenKind.Label (Token.Label n) C e p d = d n
token_due TokenKind.Text (Token.Text n) C e p d = d n
token_due TokenKind.Derive (Token.Name n) C e p d = d n
token_due _ _ C e p d = absurd (false≢true e)
