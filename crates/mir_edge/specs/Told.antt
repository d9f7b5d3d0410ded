-- What a source or a sink tells of its contents.
use Rattle.std.specs.Prelude.{ℕ, List, Option}
use Rattle.std.specs.Option.{ForSome}

-- P of the bytes that are told, and nothing where none are
abbrev pub WhereTold : Option (List ℕ) → (List ℕ → Type 0) → Type 0
WhereTold told P = ForSome told P
