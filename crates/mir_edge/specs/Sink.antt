-- What writes do to the bytes that a sink has taken, where it tells them.
use Rattle.std.specs.Prelude.{◌≡◌, ℕ, List, ◌++◌, take, Option, Some, Result, MatchResult}
use Rattle.mir_edge.specs.Told.{WhereTold}

-- a write took the first n bytes of the piece; or it failed and took no byte
abbrev pub IsWrite : {E : Type 0} → Option (List ℕ) → Option (List ℕ) → List ℕ → Result ℕ E → Type 0
IsWrite old new piece result =
    WhereTold old (λ taken.
    MatchResult result (λ n. new ≡ Some (taken ++ take n piece)) (λ _. new ≡ Some taken))
