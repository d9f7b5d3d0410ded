-- What reads do to the bytes that a source has left, where it tells them.
use Rattle.std.specs.Prelude.{◌≡◌, ◌↔◌, ℕ, ◌≤◌, List, [], ◌++◌, length, take, drop, Option, Some, Result, MatchResult}
use Rattle.mir_edge.specs.Told.{WhereTold}

-- the first n bytes left are at the front of the piece, and the others are left; n is 0 exactly at
-- the end
pub record MovesFirst (left : List ℕ) (now : Option (List ℕ)) (piece : List ℕ) (n : ℕ) : Type 0 where
  pub moved : take n piece ≡ take n left
  pub rest : now ≡ Some (drop n left)
  pub end : (n ≡ 0) ↔ (left ≡ [])

-- a read gave n bytes, or it failed and took no byte
abbrev pub IsRead : {E : Type 0} → Option (List ℕ) → Option (List ℕ) → List ℕ → Result ℕ E → Type 0
IsRead old new piece result =
    WhereTold old (λ left. MatchResult result (λ n. MovesFirst left new piece n) (λ _. new ≡ Some left))

-- at most so many of the first bytes were taken, and the others are left
abbrev pub LeavesRest : ℕ → List ℕ → Option (List ℕ) → Type 0
LeavesRest most left now = (n : ℕ) × (n ≤ most) × (n ≤ length left) × (now ≡ Some (drop n left))

-- the first n bytes left were put behind those that were there before, and the others are left; n is
-- 0 exactly at the end
pub record AppendsFirst (left : List ℕ) (now : Option (List ℕ)) (before after : List ℕ) (n : ℕ) :
    Type 0 where
  pub within : n ≤ length left
  pub appended : after ≡ before ++ take n left
  pub rest : now ≡ Some (drop n left)
  pub end : (n ≡ 0) ↔ (left ≡ [])
