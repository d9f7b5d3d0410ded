use Rattle.std.proofs.Common.{◌≡◌, ◌++◌}
use Rattle.look_marked.specs.Marked.{marked_bodies, behind_bodies}
use Rattle.look_marked.proofs.marked.add_bodies.Given as goal

abbrev pub invariant-loop-body : goal.invariant-loop-body
invariant-loop-body l = (l.out ≡ l.fn.out ++ marked_bodies l.fn.n l.yielded) × (l.n ≡ behind_bodies l.fn.n l.yielded)
