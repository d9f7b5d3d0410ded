-- Words in a row, and lines.
use Rattle.std.specs.Prelude.{ℕ, List, [], ◌∷◌, ◌++◌, flat_map, codes}

-- each of them behind a comma
abbrev pub behind_commas : List (List ℕ) → List ℕ
behind_commas words = flat_map (λ word. codes ", " ++ word) words

-- with commas between them
abbrev pub joined : List (List ℕ) → List ℕ
joined [] = []
joined (word ∷ words) = word ++ behind_commas words

abbrev pub in_parentheses : List (List ℕ) → List ℕ
in_parentheses words = codes "(" ++ joined words ++ codes ")"

-- in braces, with a blank inside each of them, and one where there is nothing between
abbrev pub in_braces : List (List ℕ) → List ℕ
in_braces [] = codes "{ }"
in_braces (word ∷ words) = codes "{ " ++ joined (word ∷ words) ++ codes " }"

abbrev pub line : List ℕ → List ℕ
line words = words ++ 10 ∷ []
