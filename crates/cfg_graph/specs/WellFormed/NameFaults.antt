-- Which names can stand in a listing, and which repeat an earlier one. A name is seen as its bytes in UTF-8.
use Rattle.std.specs.Prelude.{ℕ, ◌==◌, Bool, not, ◌&&◌, List, [], ◌∷◌, take, length, nat_lt, codes, nat_eq}
use Rattle.std.specs.List.{list_any, list_all, starts_with}
use Rattle.std.specs.Cmp.Lexicographic.{pointwise}
use Rattle.mir_ty.specs.declared.def.ImplDef.{ImplDef}

abbrev pub same_name : List ℕ → List ℕ → Bool
same_name = pointwise nat_eq

abbrev pub is_among : List (List ℕ) → List ℕ → Bool
is_among names name = list_any (same_name name) names

-- the marks that end a name; each byte of a longer character is above them and the space
abbrev pub marks : List ℕ
marks = codes "()[]{}<>,;&!"

abbrev pub stands_in_names : ℕ → Bool
stands_in_names byte = nat_lt 32 byte && not (list_any (nat_eq byte) marks)

-- one or more characters above the space, and no mark
abbrev pub is_name : List ℕ → Bool
is_name name = nat_lt 0 (length name) && list_all stands_in_names name

-- the words that begin another type
abbrev pub type_words : List (List ℕ)
type_words =
    codes "i32" ∷ codes "i64" ∷ codes "u32" ∷ codes "u64" ∷ codes "usize" ∷ codes "bool" ∷ codes "Box" ∷ codes "dyn"
    ∷ []

-- the name of a struct or an enum is no such word and does not begin as the type of a closure
abbrev pub is_adt_name : List ℕ → Bool
is_adt_name name = is_name name && not (is_among type_words name) && not (starts_with nat_eq name (codes "closure#"))

-- a name is that of one before it
abbrev pub is_repeated : List (List ℕ) → ℕ → List ℕ → Bool
is_repeated names n name = is_among (take n names) name

abbrev pub same_impl : ImplDef → ImplDef → Bool
same_impl a b = (a.trait_no == b.trait_no) && (a.adt == b.adt)

-- an impl before this one is of the same trait for the same type
abbrev pub is_repeated_impl : List ImplDef → ℕ → ImplDef → Bool
is_repeated_impl impls n impl = list_any (same_impl impl) (take n impls)
