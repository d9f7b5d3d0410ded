use Rattle.std.proofs.Common.{◌-◌, length}
use Rattle.mir_text.specs.SectionReading.{one_impl}
use Rattle.mir_text.proofs.Growing.{SoFar}
use Rattle.mir_text.proofs.items.read_impls.Given as goal

abbrev pub invariant-loop : goal.invariant-loop
invariant-loop l = SoFar l.heads (one_impl l.heads) l.initial.items l.items (length l.text - l.counter) l.text l.rest
