-- Masks that are kept as rows only where a path has others below it.
use Rattle.std.proofs.Common.{◌≡◌, ◌≢◌, ◌⊎◌, inl, inr, ℕ, zero, suc, ◌+◌, ◌<◌, Bool, true, false, not, ◌&&◌, ◌||◌, if◌then◌else◌, nat_eq, List, [], ◌∷◌, length, replicate, Option, Some, None, slice_get, refl, sym, ap, ◌∙◌, arith}
use Rattle.std.specs.Prelude.{slice_index_or, slice_set, ◌==◌}
use Rattle.std.specs.Option.{option_map}
use Rattle.std.proofs.lemmas.Bool.{cases_eq, eq-eqb, ne_eqb}
use Rattle.std.proofs.lemmas.Option.{slice_get-get_or}
use Rattle.std.proofs.lemmas.List.{get_or_default, get_or-set_same, get_or-set_other, length-set, length-replicate}
use Rattle.bit_rows.specs.Words.{any_both, union, difference}
use Rattle.init_flow.specs.Carried.{Bits}
use Rattle.init_flow.specs.Marks.{cell, marked, mask_by, masks_from, single}
use Rattle.init_flow.specs.Switches.{by_mask, switched}

or-false : (x : Bool) → (x || false) ≡ x
or-false true = refl
or-false false = refl

-- one bit

union-none : (row : Bits) → union (replicate (length row) false) row ≡ row
union-none [] = refl
union-none (x ∷ row) = ap (λ (z : Bits). x ∷ z) (union-none row)

difference-none : (row : Bits) → difference (replicate (length row) false) row ≡ row
difference-none [] = refl
difference-none (x ∷ row) = ap (λ (z : Bits). x ∷ z) (difference-none row)

both-none : (row : Bits) → any_both (replicate (length row) false) row ≡ false
both-none [] = refl
both-none (x ∷ row) = both-none row

pub union-single : (n : ℕ) (row : Bits) → n < length row → union (single (length row) n) row ≡ slice_set row n true
union-single n [] h = absurd (omega (h, arith))
union-single zero (x ∷ row) h = ap (λ (z : Bits). true ∷ z) (union-none row)
union-single (suc n) (x ∷ row) h = ap (λ (z : Bits). x ∷ z) (union-single n row (omega (h, arith)))

pub difference-single : (n : ℕ) (row : Bits) → n < length row → difference (single (length row) n) row ≡ slice_set row n false
difference-single n [] h = absurd (omega (h, arith))
difference-single zero (x ∷ row) h = ap (λ (z : Bits). false ∷ z) (difference-none row)
difference-single (suc n) (x ∷ row) h = ap (λ (z : Bits). x ∷ z) (difference-single n row (omega (h, arith)))

pub both-single : (n : ℕ) (row : Bits) → n < length row → any_both (single (length row) n) row ≡ slice_index_or row n false
both-single n [] h = absurd (omega (h, arith))
both-single zero (x ∷ row) h = ap (λ (z : Bool). x || z) (both-none row) ∙ or-false x
both-single (suc n) (x ∷ row) h = both-single n row (omega (h, arith))

pub length-single : (bits n : ℕ) → length (single bits n) ≡ bits
length-single bits n = length-set (replicate bits false) n true ∙ length-replicate bits false

pub switched-single : (bits n : ℕ) (on : Bool) (row : Bits) → n < bits → length row ≡ bits → switched (single bits n) on row ≡ slice_set row n on
switched-single bits n on row inside long =
    ap (λ (b : Bool). if b then (if on then union (single bits n) row else difference (single bits n) row) else row)
    (eq-eqb (length (single bits n)) (length row) (length-single bits n ∙ sym long))
    ∙ ap (λ (k : ℕ). if on then union (single k n) row else difference (single k n) row) (sym long) ∙ by on
  where
    by : (on : Bool) → (if on then union (single (length row) n) row else difference (single (length row) n) row) ≡ slice_set row n on
    by true = union-single n row (omega (inside, long, arith))
    by false = difference-single n row (omega (inside, long, arith))

pub set-twice : (bits n : ℕ) → slice_set (single bits n) n true ≡ single bits n
set-twice zero n = refl
set-twice (suc bits) zero = refl
set-twice (suc bits) (suc n) = ap (λ (z : Bits). false ∷ z) (set-twice bits n)

-- the masks of rows

pub length-masks : (bits n : ℕ) (rows : List (Option Bits)) → length (masks_from bits n rows) ≡ length rows
length-masks bits n [] = refl
length-masks bits n (row ∷ rows) = ap suc (length-masks bits (suc n) rows)

pub mask-get : (bits n k : ℕ) (rows : List (Option Bits)) → slice_get (masks_from bits n rows) k ≡ option_map (mask_by bits (n + k)) (slice_get rows k)
mask-get bits n k [] = refl
mask-get bits n zero (row ∷ rows) = ap (λ (m : ℕ). Some (mask_by bits m row)) (let e : n ≡ n + 0 = omega arith in e)
mask-get bits n (suc k) (row ∷ rows) =
    mask-get bits (suc n) k rows ∙ ap (λ (m : ℕ). option_map (mask_by bits m) (slice_get rows k)) (let e : suc n + k ≡ n + suc k = omega arith in e)

pub mask-at : (bits n k : ℕ) (rows : List (Option Bits)) (d : Bits) → k < length rows → slice_index_or (masks_from bits n rows) k d ≡ mask_by bits (n + k) (slice_index_or rows k None)
mask-at bits n k [] d h = absurd (omega (h, arith))
mask-at bits n zero (row ∷ rows) d h = ap (λ (m : ℕ). mask_by bits m row) (let e : n ≡ n + 0 = omega arith in e)
mask-at bits n (suc k) (row ∷ rows) d h =
    mask-at bits (suc n) k rows d (omega (h, arith)) ∙ ap (λ (m : ℕ). mask_by bits m (slice_index_or rows k None)) (let e : suc n + k ≡ n + suc k = omega arith in e)

pub mask-set : (bits n k : ℕ) (rows : List (Option Bits)) (row : Option Bits) → masks_from bits n (slice_set rows k row) ≡ slice_set (masks_from bits n rows) k (mask_by bits (n + k) row)
mask-set bits n k [] row = refl
mask-set bits n zero (old ∷ rows) row = ap (λ (m : ℕ). mask_by bits m row ∷ masks_from bits (suc n) rows) (let e : n ≡ n + 0 = omega arith in e)
mask-set bits n (suc k) (old ∷ rows) row =
    ap (λ (z : List Bits). mask_by bits n old ∷ z)
    (mask-set bits (suc n) k rows row ∙ ap (λ (m : ℕ). slice_set (masks_from bits (suc n) rows) k (mask_by bits m row)) (let e : suc n + k ≡ n + suc k = omega arith in e))

zero-plus : (k : ℕ) → 0 + k ≡ k
zero-plus k = omega arith

pub mask-here : (bits k : ℕ) (rows : List (Option Bits)) (d : Bits) → k < length rows → slice_index_or (masks_from bits 0 rows) k d ≡ mask_by bits k (slice_index_or rows k None)
mask-here bits k rows d h = mask-at bits 0 k rows d h ∙ ap (λ (m : ℕ). mask_by bits m (slice_index_or rows k None)) (zero-plus k)

pub mask-got : (bits k : ℕ) (rows : List (Option Bits)) → slice_get (masks_from bits 0 rows) k ≡ option_map (mask_by bits k) (slice_get rows k)
mask-got bits k rows = mask-get bits 0 k rows ∙ ap (λ (m : ℕ). option_map (mask_by bits m) (slice_get rows k)) (zero-plus k)

pub mask-put : (bits k : ℕ) (rows : List (Option Bits)) (row : Option Bits) → masks_from bits 0 (slice_set rows k row) ≡ slice_set (masks_from bits 0 rows) k (mask_by bits k row)
mask-put bits k rows row = mask-set bits 0 k rows row ∙ ap (λ (m : ℕ). slice_set (masks_from bits 0 rows) k (mask_by bits m row)) (zero-plus k)

set-same : {X : Type 0} (xs : List X) (k : ℕ) (d : X) → k < length xs → slice_set xs k (slice_index_or xs k d) ≡ xs
set-same [] k d h = absurd (omega (h, arith))
set-same (x ∷ xs) zero d h = refl
set-same {X} (x ∷ xs) (suc k) d h = ap (λ (z : List X). x ∷ z) (set-same xs k d (omega (h, arith)))

module _ (bits : ℕ) (rows : List (Option Bits)) (of path : ℕ) (long : length rows ≡ bits) (inside : of < bits) where
  within : of < length rows
  within = omega (long, inside, arith)

  -- a path is marked in the row of another one
  pub marks-row : (row : Bits) → slice_index_or rows of None ≡ Some row
      → masks_from bits 0 (slice_set rows of (Some (slice_set row path true))) ≡ marked (masks_from bits 0 rows) of path
  marks-row row is =
      mask-put bits of rows (Some (slice_set row path true))
      ∙ ap (λ (z : Bits). slice_set (masks_from bits 0 rows) of (slice_set z path true)) (sym (mask-here bits of rows [] within ∙ ap (mask_by bits of) is))

  -- the first path below another one gives it a row
  pub marks-first : (row : Bits) → slice_index_or rows of None ≡ None → row ≡ slice_set (single bits of) path true
      → masks_from bits 0 (slice_set rows of (Some row)) ≡ marked (masks_from bits 0 rows) of path
  marks-first row is made =
      mask-put bits of rows (Some row)
      ∙ ap (λ (z : Bits). slice_set (masks_from bits 0 rows) of z) made
      ∙ ap (λ (z : Bits). slice_set (masks_from bits 0 rows) of (slice_set z path true)) (sym (mask-here bits of rows [] within ∙ ap (mask_by bits of) is))

  -- a path alone has its mark
  pub marks-none : slice_index_or rows of None ≡ None → of ≡ path → masks_from bits 0 rows ≡ marked (masks_from bits 0 rows) of path
  marks-none is same =
      sym (ap (λ (z : ℕ). marked (masks_from bits 0 rows) of z) (sym same)
      ∙ ap (λ (z : Bits). slice_set (masks_from bits 0 rows) of (slice_set z of true)) here
      ∙ ap (slice_set (masks_from bits 0 rows) of) (set-twice bits of ∙ sym here)
      ∙ set-same (masks_from bits 0 rows) of [] (let e = length-masks bits 0 rows in omega (e, within, arith)))
    where
      here : slice_index_or (masks_from bits 0 rows) of [] ≡ single bits of
      here = mask-here bits of rows [] within ∙ ap (mask_by bits of) is

  -- a row that is marked is as long as there are paths
  pub row-long : (row : Bits) → slice_index_or rows of None ≡ Some row → length (slice_index_or (masks_from bits 0 rows) of []) ≡ length (masks_from bits 0 rows) → length row ≡ bits
  row-long row is square =
      sym (ap length (mask-here bits of rows [] within ∙ ap (mask_by bits of) is)) ∙ square ∙ length-masks bits 0 rows ∙ long

-- where no path has a row, each is alone

pub alone-long : (bits n count : ℕ) → length (masks_from bits n (replicate count None)) ≡ count
alone-long bits n count = length-masks bits n (replicate count None) ∙ length-replicate count None

pub alone-at : (bits n count k : ℕ) → k < count → slice_index_or (masks_from bits n (replicate count None)) k [] ≡ single bits (n + k)
alone-at bits n zero k h = absurd (omega (h, arith))
alone-at bits n (suc count) zero h = ap (single bits) (let e : n ≡ n + 0 = omega arith in e)
alone-at bits n (suc count) (suc k) h = alone-at bits (suc n) count k (omega (h, arith)) ∙ ap (single bits) (let e : suc n + k ≡ n + suc k = omega arith in e)

none-on : (n k : ℕ) → slice_index_or (replicate n false) k false ≡ false
none-on zero k = refl
none-on (suc n) zero = refl
none-on (suc n) (suc k) = none-on n k

pub single-at : (bits n k : ℕ) → n < bits → slice_index_or (single bits n) k false ≡ (n == k)
single-at bits n k inside = by (cases_eq k n)
  where
    by : (k ≡ n) ⊎ (k ≢ n) → slice_index_or (single bits n) k false ≡ (n == k)
    by (inl same) =
        ap (λ (z : ℕ). slice_index_or (single bits n) z false) same
        ∙ get_or-set_same (replicate bits false) n true false (let e = length-replicate bits false in omega (e, inside, arith))
        ∙ sym (eq-eqb n k (sym same))
    by (inr other) = get_or-set_other (replicate bits false) n k true false other ∙ none-on bits k ∙ sym (ne_eqb n k (λ e. other (sym e)))

-- the mask of a path, by what is kept of it
module _ (bits path : ℕ) (rows slice : List (Option Bits)) (masks : List Bits) (view : masks_from bits 0 rows ≡ masks) (same : slice ≡ rows) (within : path < length rows) where
  pub mask-is : (o d : Option Bits) → o ≡ slice_index_or slice path d → slice_index_or masks path [] ≡ mask_by bits path o
  mask-is o d is =
      ap (λ (z : List Bits). slice_index_or z path []) (sym view) ∙ mask-here bits path rows [] within
      ∙ ap (mask_by bits path) (get_or_default rows path None d within ∙ ap (λ (z : List (Option Bits)). slice_index_or z path d) (sym same) ∙ sym is)

  pub mask-there : (o d : Option Bits) → o ≡ slice_index_or slice path d → slice_get masks path ≡ Some (mask_by bits path o)
  mask-there o d is =
      slice_get-get_or masks path [] (let count = length-masks bits 0 rows in let long = ap length view in omega (within, count, long, arith)) ∙ ap Some (mask-is o d is)
