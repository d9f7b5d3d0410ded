-- The tokens of the text: those that its tree spells.
use Rattle.std.proofs.Common.{◌≡◌, ℕ, zero, suc, ◌-◌, ◌<◌, ◌≤◌, ◌^◌, Bool, true, false, List, [], ◌∷◌, ◌++◌, None, refl, ap, sym, subst, ◌∙◌, append_assoc, arith}
use Rattle.std.specs.List.{list_all}
use Rattle.std.specs.Fmt.{digits}
use Rattle.std.proofs.lemmas.Bool.{and_parts}
use Rattle.src_token.specs.declared.piece.Reading.{Reading}
use Rattle.src_token.specs.declared.piece.Reading.TheVariants.{Skipped, Reads, Fails}
use Rattle.src_token.specs.declared.token.Token.{Token}
use Rattle.src_token.specs.Tokens.{Cut, Cutting, first_error, tokens_of, token_of}
use Rattle.src_tree.specs.Layout.{spell_parts, sub, end}
use Rattle.src_parse.specs.Answers.{tokens_in}
use Rattle.soak_text.specs.Text.{soak_text, struct_line, impl_line, function_line, function_lines, main_line}
use Rattle.soak_laws.proofs.Lexemes.{AllFit, Lexeme, cut_all, cut_before, spelled, spelled_on}
use Rattle.soak_laws.proofs.Lines.{struct_lexemes, impl_lexemes, function_lexemes, main_lexemes, struct_spelled, impl_spelled, function_spelled}
use Rattle.soak_laws.proofs.LinesFit.{struct_fit, impl_fit, function_fit, main_fit}
use Rattle.soak_laws.proofs.Trees.{Items, soak_items, function_node, main_node, functions_before, f_word, callee_word}

-- ---- the pieces

line_cut : (ls : List Lexeme) (line : List ℕ) → spelled ls [] ≡ line → (rest : List ℕ) (cuts : List Cut) →
    AllFit ls rest →
    Cutting rest cuts → Cutting (line ++ rest) (cut_before ls cuts)
line_cut ls line same rest cuts fit cutting =
    subst (λ w. Cutting w (cut_before ls cuts)) (spelled_on ls rest ∙ ap (λ w. w ++ rest) same)
    (cut_all ls rest cuts fit cutting)

abbrev pub functions_cut : ℕ → List Cut → List Cut
functions_cut zero cuts = cuts
functions_cut (suc i) cuts = functions_cut i (cut_before (function_lexemes i) cuts)

cut_functions : (k : ℕ) → k ≤ 2 ^ 32 → (rest : List ℕ) (cuts : List Cut) → Cutting rest cuts →
    Cutting (function_lines k ++ rest) (functions_cut k cuts)
cut_functions zero small rest cuts cutting = cutting
cut_functions (suc i) small rest cuts cutting =
    subst (λ w. Cutting w (functions_cut (suc i) cuts)) (sym (append_assoc (function_lines i) (function_line i) rest))
    (cut_functions i (omega (arith, small)) (function_line i ++ rest) (cut_before (function_lexemes i) cuts)
    (line_cut (function_lexemes i) (function_line i) (function_spelled i) rest cuts
    (function_fit i (omega (arith, small)) rest) cutting))

main_spelled : (last : ℕ) → spelled (main_lexemes last) [] ≡ main_line (suc last)
main_spelled last = let before : suc last - 1 ≡ last = omega arith in rw before refl

abbrev pub soak_cuts : ℕ → List Cut
soak_cuts last =
    cut_before struct_lexemes (cut_before impl_lexemes (functions_cut (suc last) (cut_before (main_lexemes last) [])))

main_cut : (last : ℕ) → last < 2 ^ 32 → Cutting (main_line (suc last)) (cut_before (main_lexemes last) [])
main_cut last small =
    subst (λ w. Cutting w (cut_before (main_lexemes last) [])) (main_spelled last)
    (cut_all (main_lexemes last) [] [] (main_fit last small []) refl)

pub soak_cutting : (last : ℕ) → last < 2 ^ 32 → Cutting (soak_text (suc last)) (soak_cuts last)
unfolding soak_text
soak_cutting last small =
    let main = cut_before (main_lexemes last) [] in
    let text : List ℕ = function_lines (suc last) ++ main_line (suc last) in
    let functions = cut_functions (suc last) (omega (arith, small)) (main_line (suc last)) main (main_cut last small) in
    let behind =
    line_cut impl_lexemes impl_line impl_spelled text (functions_cut (suc last) main) (impl_fit text) functions
    in
    line_cut struct_lexemes struct_line struct_spelled (impl_line ++ text)
    (cut_before impl_lexemes (functions_cut (suc last) main)) (struct_fit (impl_line ++ text)) behind

-- ---- none of them is an error

abbrev is_fine : Reading → Bool
is_fine Skipped = true
is_fine (Reads token) = true
is_fine (Fails fault passed) = false

abbrev are_fine : List Cut → Bool
are_fine cuts = list_all (λ cut. is_fine cut.reading) cuts

none_first : (before : List ℕ) (cuts : List Cut) → are_fine cuts ≡ true → first_error before cuts ≡ None
none_first before [] fine = refl
none_first before (cut ∷ cuts) fine = by cut.reading (and_parts (is_fine cut.reading) _ fine).0
    (none_first (before ++ cut.piece) cuts (and_parts (is_fine cut.reading) _ fine).1)
  where
    by : (r : Reading) → is_fine r ≡ true → first_error (before ++ cut.piece) cuts ≡ None →
        first_error before (record { piece = cut.piece; reading = r } ∷ cuts) ≡ None
    by Skipped h rest = rest
    by (Reads token) h rest = rest
    by (Fails fault passed) h rest = absurd (cc)

fine_function : (i : ℕ) (cuts : List Cut) → are_fine cuts ≡ true → are_fine (cut_before (function_lexemes i) cuts)
    ≡ true
fine_function zero cuts fine = fine
fine_function (suc i) cuts fine = fine

fine_functions : (k : ℕ) (cuts : List Cut) → are_fine cuts ≡ true → are_fine (functions_cut k cuts) ≡ true
fine_functions zero cuts fine = fine
fine_functions (suc i) cuts fine = fine_functions i _ (fine_function i cuts fine)

pub soak_fine : (last : ℕ) → first_error [] (soak_cuts last) ≡ None
soak_fine last = none_first [] (soak_cuts last) (fine_functions (suc last) _ refl)

-- ---- their tokens

abbrev kind_before : Reading → List Token → List Token
kind_before Skipped ts = ts
kind_before (Reads t) ts = t ∷ ts
kind_before (Fails fault passed) ts = ts

abbrev pub kinds : List Cut → List Token
kinds [] = []
kinds (cut ∷ cuts) = kind_before cut.reading (kinds cuts)

pub tokens_are : (before : List ℕ) (cuts : List Cut) → tokens_in (tokens_of before cuts) ≡ kinds cuts
tokens_are before [] = refl
tokens_are before (cut ∷ cuts) = by cut.reading (tokens_are (before ++ cut.piece) cuts)
  where
    by : (r : Reading) → tokens_in (tokens_of (before ++ cut.piece) cuts) ≡ kinds cuts →
        tokens_in (token_of before cut.piece r ++ tokens_of (before ++ cut.piece) cuts) ≡ kind_before r (kinds cuts)
    by Skipped rest = rest
    by (Reads t) rest = ap (λ ts. t ∷ ts) rest
    by (Fails fault passed) rest = rest

spell_function : (i : ℕ) (rest : Items) (cuts : List Cut) → spell_parts rest [] ≡ kinds cuts →
    spell_parts (sub (function_node (f_word i) i (callee_word i)) rest) []
    ≡ kinds (cut_before (function_lexemes i) cuts)
unfolding digits
spell_function zero rest cuts same = rw same refl
spell_function (suc i) rest cuts same = rw same refl

spell_functions : (k : ℕ) (rest : Items) (cuts : List Cut) → spell_parts rest [] ≡ kinds cuts →
    spell_parts (functions_before k rest) [] ≡ kinds (functions_cut k cuts)
spell_functions zero rest cuts same = same
spell_functions (suc i) rest cuts same = spell_functions i _ _ (spell_function i rest cuts same)

pub soak_spelled : (last : ℕ) → spell_parts (soak_items last) [] ≡ kinds (soak_cuts last)
soak_spelled last =
    let functions =
    spell_functions (suc last) (sub (main_node (f_word last) (suc last)) end) (cut_before (main_lexemes last) []) refl
    in
    rw functions refl
