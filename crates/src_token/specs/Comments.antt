-- Comments between `/*` and `*/`, which nest.
use Rattle.std.specs.Prelude.{◌≡◌, ℕ, Bool, false, ◌==◌, ◌||◌, ◌&&◌, List, [], ◌∷◌, ◌++◌}
use Rattle.std.specs.Str.{byte}

abbrev pub opens : ℕ → ℕ → Bool
opens c d = c == byte "/" && d == byte "*"

abbrev pub closes : ℕ → ℕ → Bool
closes c d = c == byte "*" && d == byte "/"

-- a mark of a comment stands at the beginning
abbrev pub is_at_mark : List ℕ → Bool
is_at_mark [] = false
is_at_mark (c ∷ []) = false
is_at_mark (c ∷ d ∷ cs) = opens c d || closes c d

-- what follows a `/*`, up to and with the `*/` that ends it
pub data EndsComment : List ℕ → Type 0 where
  at_once : EndsComment (byte "*" ∷ byte "/" ∷ [])
  past : (c : ℕ) (cs : List ℕ) → is_at_mark (c ∷ cs) ≡ false → EndsComment cs → EndsComment (c ∷ cs)
  past_inner : (inner cs : List ℕ) → EndsComment inner → EndsComment cs →
      EndsComment (byte "/" ∷ byte "*" ∷ (inner ++ cs))
