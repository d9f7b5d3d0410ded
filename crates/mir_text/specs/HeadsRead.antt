-- What the readers of heads answer, as definitions see it.
use Rattle.std.specs.Prelude.{◌≡◌, ℕ, List, Result, IfOk}
use Rattle.std.specs.Borrow.{Bor}
use Rattle.mir_base.specs.declared.memory.NoMemory.{NoMemory}
use Rattle.mir_ty.specs.ItemTable.{ItemTable}

-- the heads that were found, and the text behind them
abbrev pub FindsHeads : ItemTable → Result (Bor (List ℕ)) NoMemory → ItemTable × List ℕ → Type 0
FindsHeads new result found = IfOk result (λ rest. (new ≡ found.0) × (rest.now ≡ found.1))
