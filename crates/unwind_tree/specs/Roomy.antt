-- Entries with room for more, which then come without taking memory.
use Rattle.std.specs.Prelude.{ℕ, List}
use Rattle.unwind_tree.specs.declared.scheduled.Scheduled.{Scheduled}

pub record Roomy : Type 0 where
  pub items : List Scheduled
  pub room : ℕ
