-- Things that stand one behind the other, and those with commas between them.
use Rattle.std.specs.Prelude.{ℕ, zero, suc, List, [], ◌∷◌, length, codes, None, Some}
use Rattle.listing_write.specs.Reading.Words.{FoundInText, bind, strip}

abbrev pub after : {X : Type 0} → FoundInText X → (List ℕ → List X × List ℕ) → List ℕ → List X × List ℕ
after None go t = ([], t)
after (Some found) go t = (found.0 ∷ (go found.1).0, (go found.1).1)

abbrev pub many_within : {X : Type 0} → ℕ → (List ℕ → FoundInText X) → List ℕ → List X × List ℕ
many_within zero read t = ([], t)
many_within (suc k) read t = after (read t) (many_within k read) t

-- as many as there are: each has a byte, so no more than bytes
abbrev pub many : {X : Type 0} → (List ℕ → FoundInText X) → List ℕ → List X × List ℕ
many read t = many_within (length t) read t

-- one more behind a comma
abbrev pub comma : {Z : Type 0} → (List ℕ → FoundInText Z) → List ℕ → FoundInText Z
comma read t = bind (strip (codes ", ") t) read

abbrev pub row_from : {Z : Type 0} → (List ℕ → FoundInText Z) → FoundInText Z → List ℕ → List Z × List ℕ
row_from read None t = ([], t)
row_from read (Some found) t = (found.0 ∷ (many (comma read) found.1).0, (many (comma read) found.1).1)

-- a row of things with commas between them, maybe of none
abbrev pub row : {Z : Type 0} → (List ℕ → FoundInText Z) → List ℕ → List Z × List ℕ
row read t = row_from read (read t) t

abbrev pub closed_row : {Z : Type 0} → List Z × List ℕ → FoundInText (List Z)
closed_row q = bind (strip (codes ")") q.1) (λ r. Some (q.0, r))

-- things in parentheses
abbrev pub in_row : {Z : Type 0} → (List ℕ → FoundInText Z) → List ℕ → FoundInText (List Z)
in_row read t = bind (strip (codes "(") t) (λ t. closed_row (row read t))
