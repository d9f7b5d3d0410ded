-- Names that have to differ.
use Rattle.std.specs.Prelude.{ℕ, nat_eq, nat_lt, Bool, true, false, ◌&&◌, not, List, [], ◌∷◌, codes}
use Rattle.std.specs.List.{list_any, list_all}
use Rattle.std.specs.Str.{bytes_eq}

-- one of some names is this one
abbrev pub is_among : List ℕ → List (List ℕ) → Bool
is_among name names = list_any (bytes_eq name) names

abbrev pub are_distinct : List (List ℕ) → Bool
are_distinct [] = true
are_distinct (name ∷ names) = not (is_among name names) && are_distinct names

-- numbers that differ, and numbers that rise
abbrev pub is_number_among : ℕ → List ℕ → Bool
is_number_among n ns = list_any (nat_eq n) ns

abbrev pub are_distinct_numbers : List ℕ → Bool
are_distinct_numbers [] = true
are_distinct_numbers (n ∷ ns) = not (is_number_among n ns) && are_distinct_numbers ns

abbrev is_below_first : ℕ → List ℕ → Bool
is_below_first n [] = true
is_below_first n (m ∷ ns) = nat_lt n m

abbrev pub do_rise : List ℕ → Bool
do_rise [] = true
do_rise (n ∷ ns) = is_below_first n ns && do_rise ns

-- the names of built-in types, traits and functions, which no item may have
abbrev pub built_in : List (List ℕ)
built_in = codes "i32" ∷ codes "i64" ∷ codes "u32" ∷ codes "u64" ∷ codes "usize" ∷ codes "bool" ∷ codes "Box" ∷
    codes "Drop" ∷ codes "Copy" ∷ codes "Clone" ∷ codes "Debug" ∷ codes "print" ∷ codes "ask" ∷ codes "forget" ∷
    codes "drop" ∷ codes "panic" ∷ []

-- the marks that stand between names in a listing
abbrev marks : List ℕ
marks = codes "()[]{}<>,;&!"

abbrev is_letter : ℕ → Bool
is_letter byte = nat_lt 32 byte && not (is_number_among byte marks)

abbrev is_empty : List ℕ → Bool
is_empty [] = true
is_empty (byte ∷ bytes) = false

-- a word without blanks and without marks
abbrev pub is_word : List ℕ → Bool
is_word name = not (is_empty name) && list_all is_letter name
