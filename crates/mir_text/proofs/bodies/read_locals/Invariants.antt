use Rattle.std.proofs.Common.{◌-◌, length}
use Rattle.mir_text.proofs.Locals.{SoFar}
use Rattle.mir_text.proofs.bodies.read_locals.Given as goal

abbrev pub invariant-loop-n : goal.invariant-loop-n
invariant-loop-n l = SoFar l.heads l.initial.items l.items l.n (length l.text - l.n) l.locals l.text l.rest
