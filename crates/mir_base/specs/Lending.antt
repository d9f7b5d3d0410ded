-- What becomes of a list whose element is lent to be changed.
use Rattle.std.specs.Prelude.{ℕ, List as Listed, slice_set}
use Rattle.std.specs.Borrow.{Lends, MutBor, Fml}
use denote.RattleType.{RattleType}
use Rattle.mir_base.specs.contracts.list.List.{the_row}

-- the list ends with the last value behind the reference at the index
abbrev pub LendsElement : (R : RattleType) → MutBor (Listed R.Denot) → ℕ → MutBor R.Denot → Fml
LendsElement R list index lent = Lends (the_row R) R list lent (slice_set list.now index)
