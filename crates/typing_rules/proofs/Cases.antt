-- Texts with what comes of each: it breaks a rule at a place, or it stands. Each carries its proof, by computation.
use Prim.Native.String.{String}
use Rattle.std.specs.Prelude.{◌≡◌, ℕ, true, List, map, codes}
use Rattle.mir_base.specs.declared.rule.Rule.{Rule}
use Rattle.typing_rules.proofs.Words.{text, place, outcome, Refused, stands}

-- a text, in one piece or by its lines, that is refused by the rule at a line and a column; or one that is typed, and
-- well typed
pub data Case (rule : Rule) : Type 0 where
  at : (line col : ℕ) (whole : String) → outcome (codes whole) ≡ Refused rule (place line col) → Case rule
  at_in : (line col : ℕ) (lines : List String) → outcome (text (map codes lines)) ≡ Refused rule (place line col) → Case
      rule
  fine : (whole : String) → stands (codes whole) ≡ true → Case rule
  fine_in : (lines : List String) → stands (text (map codes lines)) ≡ true → Case rule
