use Rattle.mir_ty.specs.Known.{rule_of}
use Rattle.mir_ty.proofs.KnownLemmas.{IsNoting}
use Rattle.mir_ty.proofs.facts.note_shown.Given as goal

abbrev pub invariant-loop-n : goal.invariant-loop-n
invariant-loop-n l = IsNoting l.types (rule_of l.fact l.adts l.closures) l.initial.known l.known l.noted l.n
