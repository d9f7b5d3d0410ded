use Rattle.cfg_graph.specs.WellFormed.Questions.{rule_for}
use Rattle.cfg_graph.proofs.Noting.{IsNoting}
use Rattle.cfg_graph.proofs.type_faults.note.Given as goal

abbrev pub invariant-loop-n : goal.invariant-loop-n
invariant-loop-n l = IsNoting l.items.types (rule_for l.items l.question) l.initial.known l.known l.noted l.n
