use Rattle.std.proofs.Common.{◌≡◌, ◌-◌, length}
use Rattle.mir_text.specs.SectionReading.{one_closure}
use Rattle.mir_text.proofs.Growing.{SoFar}
use Rattle.mir_text.proofs.items.read_closures.Given as goal

abbrev pub invariant-loop-n : goal.invariant-loop-n
invariant-loop-n l = record {
  so : SoFar l.heads (one_closure l.heads) l.initial.items l.items (length l.text - l.n) l.text l.rest;
  due : l.n ≡ length l.items.closures;
}
