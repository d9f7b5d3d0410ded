-- The place after the bytes of a text is that after its characters.
use Rattle.std.proofs.Common.{◌≡◌, ℕ, ◌+◌, ◌/◌, ◌%◌, ◌<◌, ◌≤◌, true, false, List, [], ◌∷◌, ◌++◌, refl, ap, sym, ◌∙◌, arith, eqb, ltb, leb, append_assoc}
use Rattle.std.specs.Prelude.{fold}
use Rattle.std.specs.Char.{encode_utf8}
use Rattle.std.specs.Str.{encode_utf8_all, IsUtf8, chars}
use Rattle.std.proofs.lemmas.Bool.{lt-ltb, le-ltb, le-leb, lt-leb, ltb-true, ltb-false, eqb-true}
use Rattle.std.proofs.lemmas.List.Sums.{fold-append}
use Rattle.std.proofs.lemmas.List.{append-nil}
use Rattle.std.proofs.lemmas.Str.{encodes-chars}
use Rattle.mir_base.specs.declared.place_in_text.Pos.{Pos}
use Rattle.src_token.specs.Cursors.{place_past, place_past_byte}
use Rattle.src_token.specs.Places.{place_after}
use Rattle.src_token.proofs.Advancing.{place_more}
use Rattle.src_token.proofs.Comments.{by_test}

not_line_feed : (b : ℕ) → 128 ≤ b → eqb b 10 ≡ false
not_line_feed b h = by_test (eqb b 10) (λ e. let same : b ≡ 10 = eqb-true b 10 e in absurd (omega arith)) (λ e. e)

goes_on : (at : Pos) (b : ℕ) → 128 ≤ b → b < 192 → place_past_byte at b ≡ at
goes_on at b h k = let e = not_line_feed b h in let f : leb 128 b ≡ true = le-leb 128 b h in let g : ltb b 192 ≡ true = lt-ltb b 192 k in rw (e, f, g) refl

leads : (at : Pos) (b : ℕ) → 192 ≤ b → place_past_byte at b ≡ record { line = at.line; col = at.col + 1 }
leads at b h =
    let wide : 128 ≤ b = omega arith in
    let e = not_line_feed b wide in let f : leb 128 b ≡ true = le-leb 128 b wide in let g : ltb b 192 ≡ false = le-ltb b 192 h in rw (e, f, g) refl

next_goes_on : (at : Pos) (x : ℕ) → place_past_byte at (128 + x % 64) ≡ at
next_goes_on at x = goes_on at (128 + x % 64) (omega arith) (omega arith)

wide_past : (at : Pos) (c : ℕ) → 128 ≤ c → place_past at c ≡ record { line = at.line; col = at.col + 1 }
wide_past at c h = let e = not_line_feed c h in rw e refl

-- a byte of ASCII is its character
ascii_past : (at : Pos) (c : ℕ) → c < 128 → place_past_byte at c ≡ place_past at c
ascii_past at c h = let f : leb 128 c ≡ false = lt-leb 128 c h in rw f refl

abbrev step : Pos → ℕ → Pos
step at b = place_past_byte at b

two : (at : Pos) (a x : ℕ) → 192 ≤ a → step (step at a) (128 + x % 64) ≡ record { line = at.line; col = at.col + 1 }
two at a x h = next_goes_on (step at a) x ∙ leads at a h

three : (at : Pos) (a x y : ℕ) → 192 ≤ a → step (step (step at a) (128 + x % 64)) (128 + y % 64) ≡ record { line = at.line; col = at.col + 1 }
three at a x y h = next_goes_on (step (step at a) (128 + x % 64)) y ∙ two at a x h

four : (at : Pos) (a x y z : ℕ) → 192 ≤ a → step (step (step (step at a) (128 + x % 64)) (128 + y % 64)) (128 + z % 64) ≡ record { line = at.line; col = at.col + 1 }
four at a x y z h = next_goes_on (step (step (step at a) (128 + x % 64)) (128 + y % 64)) z ∙ three at a x y h

pub one_character : (at : Pos) (c : ℕ) → fold place_past_byte at (encode_utf8 c) ≡ place_past at c
unfolding encode_utf8
one_character at c =
    by_test (ltb c 128) (λ h. rw h (ascii_past at c (ltb-true c 128 h)))
    (λ h.
    let wide : 128 ≤ c = ltb-false c 128 h in
    by_test (ltb c 2048)
    (λ k. rw (h, k) (two at (192 + c / 64) c (omega arith) ∙ sym (wide_past at c wide)))
    (λ k. by_test (ltb c 65536)
    (λ l. rw (h, k, l) (three at (224 + c / 4096) (c / 64) c (omega arith) ∙ sym (wide_past at c wide)))
    (λ l. rw (h, k, l) (four at (240 + c / 262144) (c / 4096) (c / 64) c (omega arith) ∙ sym (wide_past at c wide)))))

-- from the place after some characters on
all_characters : (before cs : List ℕ) → fold place_past_byte (place_after before) (encode_utf8_all cs) ≡ place_after (before ++ cs)
all_characters before [] = ap place_after (sym (append-nil before))
all_characters before (c ∷ cs) =
    fold-append place_past_byte (place_after before) (encode_utf8 c) (encode_utf8_all cs)
    ∙ ap (λ (at : Pos). fold place_past_byte at (encode_utf8_all cs)) (one_character (place_after before) c ∙ sym (place_more before c))
    ∙ all_characters (before ++ c ∷ []) cs ∙ ap place_after (append_assoc before (c ∷ []) cs)

start_is : place_after [] ≡ record { line = 1; col = 1 }
unfolding place_after
start_is = refl

pub all_bytes : (bytes : List ℕ) → IsUtf8 bytes → fold place_past_byte (record { line = 1; col = 1 }) bytes ≡ place_after (chars bytes)
all_bytes bytes text =
    ap (λ (at : Pos). fold place_past_byte at bytes) (sym start_is)
    ∙ ap (fold place_past_byte (place_after [])) (sym (encodes-chars bytes text)) ∙ all_characters [] (chars bytes)
