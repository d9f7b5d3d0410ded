-- The place behind one more character, and that places stay within 32 bits.
use Rattle.std.proofs.Common.{◌≡◌, ℕ, ◌+◌, ◌-◌, ◌<◌, ◌≤◌, ◌^◌, Bool, cond, List, [], ◌∷◌, ◌++◌, length, take, drop, get_or, refl, ap, sym, ◌∙◌, arith, length-append, length-take}
use Rattle.std.specs.Char.{len_utf8}
use Rattle.std.specs.List.{suffix_len}
use Rattle.std.specs.Str.{encode_utf8_all}
use Rattle.std.proofs.lemmas.List.{take_more, append-nil, reverse-append, take-append-drop}
use Rattle.std.proofs.lemmas.List.Sums.{sum_by_push, count_by-le-length, suffix_len-le-length}
use Rattle.std.proofs.lemmas.Str.{encodes-append, length-encode, length-le-encodes}
use Rattle.mir_base.specs.declared.place_in_text.Pos.{Pos}
use Rattle.src_token.specs.declared.cursor.Cursor.{Cursor}
use Rattle.src_token.specs.Cursors.{cursor_after, past_char, place_past}
use Rattle.src_token.specs.Places.{place_after, is_line_feed, is_in_line}
use Rattle.src_token.proofs.Comments.{by_test}

suffix_push : (p : ℕ → Bool) (xs : List ℕ) (x : ℕ) → suffix_len p (xs ++ x ∷ []) ≡ cond (p x) (1 + suffix_len p xs) 0
suffix_push p xs x = rw (reverse-append xs (x ∷ [])) refl

same_pos : (l m c d : ℕ) → l ≡ m → c ≡ d → ◌≡◌ {A = Pos} (record { line = l; col = c }) (record { line = m; col = d })
same_pos l m c d e f = cc

pub place_more : (before : List ℕ) (c : ℕ) → place_after (before ++ c ∷ []) ≡ place_past (place_after before) c
unfolding place_after
place_more before c =
    by_test (is_line_feed c)
    (λ h. rw (suffix_push is_in_line before c, sum_by_push (λ (x : ℕ). cond (is_line_feed x) 1 0) before c, h) (same_pos _ _ _ _ (omega arith) refl))
    (λ h. rw (suffix_push is_in_line before c, sum_by_push (λ (x : ℕ). cond (is_line_feed x) 1 0) before c, h) (same_pos _ _ _ _ (omega arith) (omega arith)))

bytes_more : (before : List ℕ) (c : ℕ) → length (encode_utf8_all (before ++ c ∷ [])) ≡ length (encode_utf8_all before) + len_utf8 c
bytes_more before c = rw (encodes-append, length-append, append-nil, length-encode) refl

same_cursor : (p q : Pos) (n m : ℕ) → p ≡ q → n ≡ m → ◌≡◌ {A = Cursor} (record { at = p; bytes = n }) (record { at = q; bytes = m })
same_cursor p q n m e f = cc

pub cursor_more : (before : List ℕ) (c : ℕ) → past_char (cursor_after before) c ≡ cursor_after (before ++ c ∷ [])
unfolding cursor_after
cursor_more before c = same_cursor _ _ _ _ (sym (place_more before c)) (sym (bytes_more before c))

pub bytes_front : (xs : List ℕ) (n : ℕ) → length (encode_utf8_all (take n xs)) ≤ length (encode_utf8_all xs)
bytes_front xs n =
    let parts : length (encode_utf8_all xs) ≡ length (encode_utf8_all (take n xs)) + length (encode_utf8_all (drop n xs)) =
    ap (λ (w : List ℕ). length (encode_utf8_all w)) (sym (take-append-drop n xs)) ∙ (rw (encodes-append, length-append) refl) in
    omega arith

pub record Fits (cursor : Cursor) (c : ℕ) : Type 0 where
  pub line : cursor.at.line < 2 ^ 32 - 1
  pub col : cursor.at.col < 2 ^ 32 - 1
  pub bytes : cursor.bytes + len_utf8 c < 2 ^ 32

module _ (xs : List ℕ) (i c : ℕ) (within : i < length xs) (read : c ≡ get_or xs i 0) where
  pub step : past_char (cursor_after (take i xs)) c ≡ cursor_after (take (i + 1) xs)
  step = rw (take_more xs i 0 within, ← read) (cursor_more (take i xs) c)

  pub fits : length (encode_utf8_all xs) < 2 ^ 32 - 1 → Fits (cursor_after (take i xs)) c
  unfolding cursor_after place_after
  fits short =
      let few = length-le-encodes xs in
      let taken : length (take i xs) ≤ i = rw length-take (omega arith) in
      let lines = count_by-le-length is_line_feed (take i xs) in
      let columns = suffix_len-le-length is_in_line (take i xs) in
      let front = bytes_front xs (i + 1) in
      let more : length (encode_utf8_all (take (i + 1) xs)) ≡ length (encode_utf8_all (take i xs)) + len_utf8 c =
      rw (take_more xs i 0 within, ← read) (bytes_more (take i xs) c) in
      record { line = omega arith; col = omega arith; bytes = omega arith }
