use Rattle.std.proofs.Common.{◌≡◌}
use Rattle.drop_flags.proofs.Nearby.{SpansTo}
use Rattle.drop_flags.proofs.paths.spans_of.Given as goal

abbrev pub invariant-loop-path : goal.invariant-loop-path
invariant-loop-path l = (l.number ≡ l.path-index) × SpansTo l.paths l.path-index l.spans
