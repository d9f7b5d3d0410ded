use Rattle.std.proofs.Common.{◌≡◌, length, count_by, not}
use Rattle.mir_ty.specs.Known.{rule_of, IsShown}
use Rattle.mir_ty.proofs.facts.settle.Given as goal

abbrev pub invariant-loop-fact : goal.invariant-loop-fact
invariant-loop-fact l = record {
  long : length l.known ≡ length l.types;
  shown : IsShown l.types (rule_of l.fact l.adts l.closures) l.known;
}

abbrev pub decreases-loop-fact : goal.decreases-loop-fact
decreases-loop-fact l = count_by not l.known
