-- What `exec` owes to what `build` wrote.
use Rattle.std.specs.Prelude.{ℕ, ℤ, List}
use Rattle.mirdrop_program.specs.Owed.{OwedByBuild, OwedByExec, OwedByRun}

-- To the listing that is owed to a text by `build`, `exec` owes what `run` owes to that text: the trace of the program,
-- with the status of its end. So it does not refuse it, and is not stuck.
abbrev pub BuiltIsExecuted : Type 0
BuiltIsExecuted = (text built : List ℕ) (asks : List ℤ) (ticks status : ℕ) (written : List ℕ) → OwedByBuild text 0 built →
    OwedByExec built asks ticks status written → OwedByRun text asks ticks status written
