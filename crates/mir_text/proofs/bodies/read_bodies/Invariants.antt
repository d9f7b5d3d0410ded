use Rattle.std.proofs.Common.{◌-◌, length}
use Rattle.mir_text.proofs.BodyByBody.{SoFar}
use Rattle.mir_text.proofs.bodies.read_bodies.Given as goal

abbrev pub invariant-loop-n : goal.invariant-loop-n
invariant-loop-n l = SoFar l.heads l.initial.items l.items l.n (length l.text - l.n) l.bodies l.text l.rest
