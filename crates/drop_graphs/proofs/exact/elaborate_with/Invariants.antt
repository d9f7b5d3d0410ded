use Rattle.std.proofs.Common.{◌≡◌, length}
use Rattle.drop_bodies.specs.Counts.{totals_of}
use Rattle.drop_graphs.proofs.Bodies.{AreFirst}
use Rattle.drop_graphs.proofs.exact.elaborate_with.Given as goal

abbrev pub invariant-loop-body : goal.invariant-loop-body
invariant-loop-body l =
    (l.number ≡ length l.yielded) × AreFirst l.fn.raw (length l.yielded) l.bodies (totals_of l.counts)
