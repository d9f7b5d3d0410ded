use Rattle.std.proofs.Common.{◌≡◌, length, count_by, not}
use Rattle.mir_ty.specs.Known.{IsShown}
use Rattle.cfg_graph.specs.WellFormed.Questions.{rule_for}
use Rattle.cfg_graph.proofs.type_faults.settle.Given as goal

abbrev pub invariant-loop-question : goal.invariant-loop-question
invariant-loop-question l = record {
  long : length l.known ≡ length l.items.types;
  shown : IsShown l.items.types (rule_for l.items l.question) l.known;
}

abbrev pub decreases-loop-question : goal.decreases-loop-question
decreases-loop-question l = count_by not l.known
