-- What is read of the rows that `clap` found.
use Rattle.std.proofs.Common.{◌≡◌, ℕ, ◌<◌, Bool, true, false, refl, sym, ◌∙◌, ap, List, [], ◌∷◌, Option, Some, None, map, length, get_or, codes, Bor, arith}
use Rattle.std.specs.Prelude.{option_map, option_and_then}
use Rattle.std.specs.List.{list_all}
use Rattle.std.proofs.lemmas.List.Folds.{list_all-map, list_all_at}
use Rattle.clap.specs.Words.{Text, first_value, matched_of, raw_values, rows_of}
use Rattle.clap.specs.declared.parser.matches.Found.{Found}
use Rattle.clap.proofs.WalkLemmas.{first_value-rows, raw_values-rows}
use Rattle.mirdrop_program.specs.Words.{asked_number, count_of, functions_of, given, is_up_to, numbers_of, request_in, request_named}

abbrev texts_in : Option (Bor (List (Bor Text))) → Option (List Text)
texts_in = option_map (λ texts. map (λ text. text.now) texts.now)

abbrev text_in : Option (Bor Text) → Option Text
text_in = option_map (λ text. text.now)

pub is_read : (f : Found) (word ticks : Option Text) (numbers : Option (List Text)) →
    word ≡ first_value f (codes "command") →
    numbers ≡ option_map raw_values (matched_of f (codes "numbers")) →
    ticks ≡ first_value f (codes "ticks") →
    request_in (rows_of f) ≡ option_and_then (request_named (given numbers) ticks) word
is_read f word ticks numbers w n t =
    rw (w, n, t, first_value-rows f (codes "command"), raw_values-rows f (codes "numbers"), first_value-rows f (codes "ticks")) refl

pub no_word : (f : Found) → None ≡ first_value f (codes "command") → None ≡ request_in (rows_of f)
no_word f w =
    sym (is_read f None (first_value f (codes "ticks")) (option_map raw_values (matched_of f (codes "numbers"))) w refl refl)

pub with_word : (f : Found) (word : Text) (ticks : Option Text) (numbers : Option (List Text)) →
    Some word ≡ first_value f (codes "command") →
    numbers ≡ option_map raw_values (matched_of f (codes "numbers")) →
    ticks ≡ first_value f (codes "ticks") →
    request_named (given numbers) ticks word ≡ request_in (rows_of f)
with_word f word ticks numbers w n t = sym (is_read f (Some word) ticks numbers w n t)

-- ---- numbers

asked_texts : (texts : List (Bor Text)) → map (λ text. asked_number text.now) texts ≡ map asked_number (map (λ text. text.now) texts)
asked_texts [] = refl
asked_texts (text ∷ texts) = ap (λ rest. asked_number text.now ∷ rest) (asked_texts texts)

abbrev passes : Bor Text → Bool
passes text = is_up_to 2147483647 text.now

pub all_asked : (texts : List (Bor Text)) → list_all passes texts ≡ true →
    Some (map (λ text. asked_number text.now) texts) ≡ numbers_of (map (λ text. text.now) texts)
all_asked texts all =
    rw (list_all-map (is_up_to 2147483647) (λ (text : Bor Text). text.now) texts, all, asked_texts texts) refl

abbrev texts_of : List (Bor Text) → List Text
texts_of = map (λ text. text.now)

pub one_refused : (texts : List (Bor Text)) (i : ℕ) (d : Bor Text) (bytes : List ℕ) → i < length texts → bytes ≡ (get_or texts i d).now →
    is_up_to 2147483647 bytes ≡ false → None ≡ numbers_of (texts_of texts)
one_refused texts i d bytes within is refused =
    rw (list_all-map (is_up_to 2147483647) (λ (text : Bor Text). text.now) texts, list_all_at passes texts i d within (ap (is_up_to 2147483647) (sym is) ∙ refused)) refl

-- ---- the number of `soak`

pub one_text : (texts : List (Bor Text)) (d : Bor Text) → length texts ≡ 1 →
    count_of (get_or texts 0 d).now ≡ functions_of (texts_of texts)
one_text [] d one = absurd (omega (arith, one))
one_text (text ∷ []) d one = refl
one_text (text ∷ other ∷ texts) d one = absurd (omega (arith, one))

pub not_one : (texts : List (Bor Text)) → (length texts ≡ 1 → ⊥) → None ≡ functions_of (texts_of texts)
not_one [] other_count = refl
not_one (text ∷ []) other_count = absurd (other_count refl)
not_one (text ∷ other ∷ texts) other_count = refl
