use Rattle.mir_ty.proofs.KnownLemmas.{IsNoting}
use Rattle.name_table.specs.Holding.{hold_rule}
use Rattle.name_table.proofs.containment.note.Given as goal

abbrev pub invariant-loop-n : goal.invariant-loop-n
invariant-loop-n l = IsNoting l.items.types (hold_rule l.items l.part) l.initial.known l.known l.noted l.n
