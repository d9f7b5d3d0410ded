use Rattle.std.proofs.Common.{◌≡◌, take}
use Rattle.drop_graphs.proofs.copies.copy_bodies.Given as goal

abbrev pub invariant-loop-body : goal.invariant-loop-body
invariant-loop-body l = l.copies ≡ take l.body-index l.bodies
