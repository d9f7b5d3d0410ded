use Rattle.std.proofs.Common.{◌≡◌, replicate, false}
use Rattle.move_errors.proofs.search.empty_rows.Given as goal

abbrev pub invariant-loop : goal.invariant-loop
invariant-loop l = l.rows ≡ replicate l.counter (replicate l.bits false)
