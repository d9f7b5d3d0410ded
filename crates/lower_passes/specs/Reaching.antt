-- How many of the innermost scopes code may change: all others are behind it as they were before.
use Rattle.std.specs.Prelude.{ℕ, ◌≡◌, ⊤, List, Option, Some, None, drop, slice_get, unwrap_or}
use Rattle.lower_rules.specs.Build.{LoweringFrame}
use Rattle.lower_rules.specs.Codes.{lowers}
use Rattle.lower_passes.specs.Spans.{Stands}
use Rattle.lower_passes.specs.declared.marks.CodeMark.{CodeMark}
use Rattle.lower_code.specs.Code.{Code}
use Rattle.lower_code.specs.Ops.{CodeWord}
use Rattle.src_meaning.specs.Scopes.{Scopes}

-- all scopes stay as they are but so many of the innermost; `None` tells nothing
abbrev pub Keeps : Option ℕ → (Scopes → Scopes) → Type 0
Keeps None change = ⊤
Keeps (Some count) change = (S : Scopes) → drop count (change S) ≡ drop count S

-- what is noted at a word
abbrev pub reach_at : List (Option ℕ) → ℕ → Option ℕ
reach_at reaches end = unwrap_or (slice_get reaches end) None

-- what is noted at each word holds of the code that ends there
abbrev pub AreReaches : LoweringFrame → List CodeWord → List CodeMark → List (Option ℕ) → Type 0
AreReaches f words marks reaches =
    (c : Code) (start end : ℕ) → Stands f words marks c start end → Keeps (reach_at reaches end) (lowers f c).after
