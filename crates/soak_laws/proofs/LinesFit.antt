-- The pieces of each line are cut off, whatever follows the line.
use Rattle.std.proofs.Common.{ℕ, zero, suc, ◌<◌, ◌^◌, List, ◌∷◌, ◌++◌, refl, arith}
use Rattle.std.specs.Prelude.{codes}
use Rattle.std.specs.Fmt.{decimal}
use Rattle.src_token.specs.Numbers.{number_reading}
use Rattle.src_token.specs.Words.{keyword_of}
use Rattle.soak_laws.proofs.Lexemes.{AllFit, Fits, Lexeme, numeral, spelled, fit_both}
use Rattle.soak_laws.proofs.Lines.{a_name, f_name, struct_lexemes, impl_lexemes, fn_lexemes, head_lexemes, ask_lexemes, tail_lexemes, line_with, function_lexemes, main_front, main_middle, main_back, main_lexemes}
use Rattle.soak_laws.proofs.NumberWords.{number_fits, name_goes_on, name_token}

pub struct_fit : (rest : List ℕ) → AllFit struct_lexemes rest
unfolding keyword_of number_reading lib.Utf8.encode
struct_fit rest = search

pub impl_fit : (rest : List ℕ) → AllFit impl_lexemes rest
unfolding keyword_of number_reading lib.Utf8.encode
impl_fit rest = search

-- ---- parts of lines, whatever stands between them

fn_fit : (rest : List ℕ) → AllFit fn_lexemes rest
unfolding keyword_of number_reading lib.Utf8.encode
fn_fit rest = search

head_fit : (rest : List ℕ) → AllFit head_lexemes rest
unfolding keyword_of number_reading lib.Utf8.encode
head_fit rest = search

ask_fit : (rest : List ℕ) → AllFit ask_lexemes rest
unfolding keyword_of number_reading lib.Utf8.encode
ask_fit rest = search

tail_fit : (rest : List ℕ) → AllFit tail_lexemes rest
unfolding keyword_of number_reading lib.Utf8.encode
tail_fit rest = search

front_fit : (rest : List ℕ) → AllFit main_front rest
unfolding keyword_of number_reading lib.Utf8.encode
front_fit rest = search

middle_fit : (rest : List ℕ) → AllFit main_middle rest
unfolding keyword_of number_reading lib.Utf8.encode
middle_fit rest = search

back_fit : (rest : List ℕ) → AllFit main_back rest
unfolding keyword_of number_reading lib.Utf8.encode
back_fit rest = search

-- ---- functions

module _ (own number callee : Lexeme) (rest : List ℕ) where
  abbrev behind_callee : List Lexeme
  behind_callee = callee ∷ tail_lexemes

  abbrev behind_number : List Lexeme
  behind_number = number ∷ (ask_lexemes ++ behind_callee)

  abbrev behind_own : List Lexeme
  behind_own = own ∷ (head_lexemes ++ behind_number)

  line_fit :
      Fits own (spelled (head_lexemes ++ behind_number) rest) →
      Fits number (spelled (ask_lexemes ++ behind_callee) rest) →
      Fits callee (spelled tail_lexemes rest) → AllFit (line_with own number callee) rest
  line_fit name value call =
      fit_both fn_lexemes behind_own rest (fn_fit (spelled behind_own rest)) (
        name,
        fit_both head_lexemes behind_number rest (head_fit (spelled behind_number rest)) (
          value,
          fit_both ask_lexemes behind_callee rest (ask_fit (spelled behind_callee rest))
              (call, tail_fit rest),
        ),
      )

first_fit : (rest : List ℕ) → AllFit (function_lexemes 0) rest
unfolding keyword_of number_reading lib.Utf8.encode
first_fit rest =
    line_fit (a_name (codes "f0")) (numeral (codes "0") 0) (a_name (codes "drop")) rest (search) (search) (search)

later_fit : (i : ℕ) → i < 2 ^ 32 → (rest : List ℕ) → AllFit (function_lexemes (suc i)) rest
later_fit i small rest =
    let before : i < 2 ^ 64 = omega (arith, small) in
    let own : suc i < 2 ^ 64 = omega (arith, small) in
    line_fit (f_name (suc i)) (numeral (decimal (suc i)) (suc i)) (f_name i) rest
    ((refl, refl), name_goes_on (suc i) own, refl, name_token (suc i) own) (number_fits (suc i) own _ refl)
    ((refl, refl), name_goes_on i before, refl, name_token i before)

pub function_fit : (i : ℕ) → i < 2 ^ 32 → (rest : List ℕ) → AllFit (function_lexemes i) rest
function_fit zero small rest = first_fit rest
function_fit (suc i) small rest = later_fit i (omega (arith, small)) rest

-- ---- `main`

pub main_fit : (last : ℕ) → last < 2 ^ 32 → (rest : List ℕ) → AllFit (main_lexemes last) rest
main_fit last small rest =
    let before : last < 2 ^ 64 = omega (arith, small) in
    let own : suc last < 2 ^ 64 = omega (arith, small) in
    let valued = numeral (decimal (suc last)) (suc last) ∷ main_back in
    let called = f_name last ∷ (main_middle ++ valued) in
    fit_both main_front called rest (front_fit (spelled called rest)) (
      ((refl, refl), name_goes_on last before, refl, name_token last before),
      fit_both main_middle valued rest (middle_fit (spelled valued rest))
          (number_fits (suc last) own _ refl, back_fit rest),
    )
