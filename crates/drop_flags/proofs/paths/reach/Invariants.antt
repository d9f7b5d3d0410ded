use Rattle.std.proofs.Common.{◌≡◌, ℕ, suc, ◌-◌, length}
use Rattle.drop_flags.specs.Spans.{span_of}
use Rattle.drop_flags.proofs.paths.reach.Given as goal

abbrev pub invariant-loop-spans : goal.invariant-loop-spans
invariant-loop-spans l = (other : ℕ) → span_of l.spans other ≡ span_of l.initial.spans other

abbrev pub decreases-loop-spans : goal.decreases-loop-spans
decreases-loop-spans l = suc l.local - length l.spans
