use Rattle.std.proofs.Common.{◌≡◌, replicate, None}
use Rattle.init_flow.proofs.masks.no_rows.Given as goal

abbrev pub invariant-loop : goal.invariant-loop
invariant-loop l = l.rows ≡ replicate l.counter None
