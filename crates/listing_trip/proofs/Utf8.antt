-- Text in UTF-8 is cut at a byte of ASCII: what is before it and what is behind it are in UTF-8 too.
use Rattle.std.proofs.Common.{◌≡◌, ℕ, zero, suc, ◌+◌, ◌<◌, List, [], ◌∷◌, ◌++◌, length, take, drop, get_or, codes, refl, ap, subst, ◌∙◌, arith, append-nil, append_assoc, length-append}
use Rattle.std.specs.Str.{IsAscii, IsUtf8}
use Rattle.std.proofs.lemmas.Str.{IsCharBoundary-after_ascii, IsCharBoundary-at_seam, IsUtf8-append, IsUtf8-drop, IsUtf8-from_ascii, IsUtf8-take}
use Rattle.listing_write.specs.Lists.{behind_commas, in_braces, in_parentheses, joined}
use Rattle.listing_write.proofs.Reading.Basics.{Every}

drop_past : (xs ys : List ℕ) (b : ℕ) → drop (suc (length xs)) (xs ++ b ∷ ys) ≡ ys
drop_past [] ys b = refl
drop_past (x ∷ xs) ys b = drop_past xs ys b

take_before : (xs ys : List ℕ) → take (length xs) (xs ++ ys) ≡ xs
take_before [] ys = refl
take_before (x ∷ xs) ys = ap (λ (w : List ℕ). x ∷ w) (take_before xs ys)

byte_at : (xs ys : List ℕ) (b : ℕ) → get_or (xs ++ b ∷ ys) (length xs) 0 ≡ b
byte_at [] ys b = refl
byte_at (x ∷ xs) ys b = byte_at xs ys b

pub behind : (xs ys : List ℕ) (b : ℕ) → b < 128 → IsUtf8 (xs ++ b ∷ ys) → IsUtf8 ys
behind xs ys b small h =
    let bs : List ℕ = xs ++ b ∷ ys in
    let sum = length-append xs (b ∷ ys) in
    let is = byte_at xs ys b in
    let at = IsCharBoundary-after_ascii bs (length xs) h (omega (arith, sum)) (omega (arith, is, small)) in
    let next : length xs + 1 ≡ suc (length xs) = omega arith in
    subst IsUtf8 (ap (λ (n : ℕ). drop n bs) next ∙ drop_past xs ys b) (IsUtf8-drop bs (length xs + 1) h at)

one_ascii : (b : ℕ) → b < 128 → IsAscii (b ∷ [])
one_ascii b small zero = small
one_ascii b small (suc i) = omega arith

pub before : (xs ys : List ℕ) (b : ℕ) → b < 128 → IsUtf8 (xs ++ b ∷ ys) → IsUtf8 xs
before xs ys b small h =
    let bs : List ℕ = xs ++ b ∷ ys in
    let byte = IsUtf8-from_ascii (b ∷ []) (one_ascii b small) in
    let rest = IsUtf8-append (b ∷ []) ys byte (behind xs ys b small h) in
    subst IsUtf8 (take_before xs (b ∷ ys)) (IsUtf8-take bs (length xs) h
    (IsCharBoundary-at_seam bs xs (b ∷ ys) refl rest))

-- words with commas between them
pub joined_cut : (words : List (List ℕ)) → IsUtf8 (joined words) → Every IsUtf8 words
joined_cut [] h = tt
joined_cut (word ∷ []) h = (subst IsUtf8 (append-nil word) h, tt)
joined_cut (word ∷ next ∷ words) h = (
  before word (32 ∷ (next ++ behind_commas words)) 44 (omega arith) h,
  joined_cut (next ∷ words) (behind [] (next ++ behind_commas words) 32 (omega arith)
      (behind word (32 ∷ (next ++ behind_commas words)) 44 (omega arith) h)),
)

-- what stands before words in parentheses, and before words in braces, and those words
pub before_row : (w : List ℕ) (words : List (List ℕ)) → IsUtf8 (w ++ in_parentheses words) → IsUtf8 w
before_row w words h = before w (joined words ++ codes ")") 40 (omega arith) h

pub before_braces : (w : List ℕ) (words : List (List ℕ)) → IsUtf8 (w ++ in_braces words) → IsUtf8 w × Every IsUtf8 words
before_braces w [] h = (before w (codes " }") 123 (omega arith) h, tt)
before_braces w (word ∷ words) h =
    let inside : List ℕ = joined (word ∷ words) ++ codes " }" in
    let rest = behind [] inside 32 (omega arith) (behind w (32 ∷ inside) 123 (omega arith) h) in (
      before w (32 ∷ inside) 123 (omega arith) h,
      joined_cut (word ∷ words)
          (before (joined (word ∷ words)) (codes "}") 32 (omega arith) rest),
    )

-- before a blank, and before one with words behind it
pub before_blank : (w : List ℕ) → IsUtf8 (w ++ codes " ") → IsUtf8 w
before_blank w h = before w [] 32 (omega arith) h

pub at_blank : (w more : List ℕ) → IsUtf8 ((w ++ codes " ") ++ more) → IsUtf8 w × IsUtf8 more
at_blank w more h =
    let whole = subst IsUtf8 (append_assoc w (codes " ") more) h in
    (before w more 32 (omega arith) whole, behind w more 32 (omega arith) whole)
