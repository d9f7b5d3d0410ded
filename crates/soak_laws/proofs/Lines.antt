-- The lines of the program that `soak` runs, piece by piece.
use Rattle.std.proofs.Common.{◌≡◌, ℕ, zero, suc, List, [], ◌∷◌, ◌++◌, refl}
use Rattle.std.specs.Prelude.{codes}
use Rattle.std.specs.Fmt.{decimal}
use Rattle.src_token.specs.declared.mark.Mark.{Mark}
use Rattle.src_token.specs.declared.word.Word.{Word as Keyword}
use Rattle.soak_text.specs.Text.{struct_line, impl_line, function_line}
use Rattle.soak_laws.proofs.Lexemes.{Lexeme, gap, sign, pair, a_word, numeral, spelled}
use Rattle.soak_laws.proofs.Trees.{word, name, f_word}

abbrev pub a_name : List ℕ → Lexeme
a_name w = a_word w (name w)

abbrev pub f_name : ℕ → Lexeme
f_name i = a_name (f_word i)

abbrev pub struct_lexemes : List Lexeme
struct_lexemes =
    a_word (codes "struct") (word Keyword.Struct) ∷ gap 32 ∷ a_name (codes "D") ∷
    sign 40 Mark.OpenParenthesis ∷ a_name (codes "i32") ∷ sign 41 Mark.CloseParenthesis ∷ sign 59 Mark.Semi ∷
    gap 10 ∷ []

abbrev pub impl_lexemes : List Lexeme
impl_lexemes =
    a_word (codes "impl") (word Keyword.Impl) ∷ gap 32 ∷ a_name (codes "Drop") ∷ gap 32 ∷
    a_word (codes "for") (word Keyword.For) ∷ gap 32 ∷ a_name (codes "D") ∷ gap 32 ∷ sign 123 Mark.OpenBrace ∷
    gap 32 ∷ a_word (codes "fn") (word Keyword.Fn) ∷ gap 32 ∷ a_name (codes "drop") ∷
    sign 40 Mark.OpenParenthesis ∷ sign 38 Mark.And ∷ a_word (codes "mut") (word Keyword.Mut) ∷ gap 32 ∷
    a_word (codes "self") (word Keyword.SelfValue) ∷ sign 41 Mark.CloseParenthesis ∷ gap 32 ∷
    sign 123 Mark.OpenBrace ∷ gap 32 ∷ a_name (codes "print") ∷ sign 40 Mark.OpenParenthesis ∷
    a_word (codes "self") (word Keyword.SelfValue) ∷ sign 46 Mark.Dot ∷ numeral (codes "0") 0 ∷
    sign 41 Mark.CloseParenthesis ∷ sign 59 Mark.Semi ∷ gap 32 ∷ sign 125 Mark.CloseBrace ∷ gap 32 ∷
    sign 125 Mark.CloseBrace ∷ gap 10 ∷ []

-- what stands before the name of a function, behind it, behind the number of its value, and behind what it calls
abbrev pub fn_lexemes : List Lexeme
fn_lexemes = a_word (codes "fn") (word Keyword.Fn) ∷ gap 32 ∷ []

abbrev pub head_lexemes : List Lexeme
head_lexemes =
    sign 40 Mark.OpenParenthesis ∷ a_name (codes "x") ∷ sign 58 Mark.Colon ∷ gap 32 ∷ a_name (codes "D") ∷
    sign 41 Mark.CloseParenthesis ∷ gap 32 ∷ sign 123 Mark.OpenBrace ∷ gap 32 ∷
    a_word (codes "let") (word Keyword.Let) ∷ gap 32 ∷ a_name (codes "y") ∷ gap 32 ∷ sign 61 Mark.Eq ∷ gap 32 ∷
    a_name (codes "D") ∷ sign 40 Mark.OpenParenthesis ∷ []

abbrev pub ask_lexemes : List Lexeme
ask_lexemes =
    sign 41 Mark.CloseParenthesis ∷ sign 59 Mark.Semi ∷ gap 32 ∷ a_word (codes "if") (word Keyword.If) ∷ gap 32 ∷
    a_name (codes "ask") ∷ sign 40 Mark.OpenParenthesis ∷ sign 41 Mark.CloseParenthesis ∷ gap 32 ∷
    pair 61 61 Mark.EqEq ∷ gap 32 ∷ numeral (codes "0") 0 ∷ gap 32 ∷ sign 123 Mark.OpenBrace ∷ gap 32 ∷ []

abbrev pub tail_lexemes : List Lexeme
tail_lexemes =
    sign 40 Mark.OpenParenthesis ∷ a_name (codes "x") ∷ sign 41 Mark.CloseParenthesis ∷ sign 59 Mark.Semi ∷ gap 32 ∷
    sign 125 Mark.CloseBrace ∷ gap 32 ∷ sign 125 Mark.CloseBrace ∷ gap 10 ∷ []

abbrev pub line_with : (own number callee : Lexeme) → List Lexeme
line_with own number callee =
    fn_lexemes ++ own ∷ (head_lexemes ++ number ∷ (ask_lexemes ++ callee ∷ tail_lexemes))

abbrev pub function_lexemes : ℕ → List Lexeme
function_lexemes zero = line_with (a_name (codes "f0")) (numeral (codes "0") 0) (a_name (codes "drop"))
function_lexemes (suc i) = line_with (f_name (suc i)) (numeral (decimal (suc i)) (suc i)) (f_name i)

-- the same of `main`
abbrev pub main_front : List Lexeme
main_front =
    a_word (codes "fn") (word Keyword.Fn) ∷ gap 32 ∷ a_name (codes "main") ∷ sign 40 Mark.OpenParenthesis ∷
    sign 41 Mark.CloseParenthesis ∷ gap 32 ∷ sign 123 Mark.OpenBrace ∷ gap 32 ∷ []

abbrev pub main_middle : List Lexeme
main_middle = sign 40 Mark.OpenParenthesis ∷ a_name (codes "D") ∷ sign 40 Mark.OpenParenthesis ∷ []

abbrev pub main_back : List Lexeme
main_back =
    sign 41 Mark.CloseParenthesis ∷ sign 41 Mark.CloseParenthesis ∷ sign 59 Mark.Semi ∷ gap 32 ∷
    sign 125 Mark.CloseBrace ∷ gap 10 ∷ []

abbrev pub main_lexemes : ℕ → List Lexeme
main_lexemes last =
    main_front ++ f_name last ∷ (main_middle ++ numeral (decimal (suc last)) (suc last) ∷ main_back)

pub struct_spelled : spelled struct_lexemes [] ≡ struct_line
struct_spelled = refl

pub impl_spelled : spelled impl_lexemes [] ≡ impl_line
impl_spelled = refl

pub function_spelled : (i : ℕ) → spelled (function_lexemes i) [] ≡ function_line i
function_spelled zero = refl
function_spelled (suc i) = refl
