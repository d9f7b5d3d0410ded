use Rattle.std.proofs.Common.{length, ◌-◌, ◌≡◌, ◌≤◌, ◌++◌, take, Some}
use Rattle.mir_edge.specs.Told.{WhereTold}
use Rattle.mir_edge.proofs.sink.write_whole.Given as goal

abbrev pub invariant-loop-written : goal.invariant-loop-written
invariant-loop-written g l =
    (l.written ≤ length l.text)
    × (g.K.Sink.faults l.initial.sink ≤ g.K.Sink.faults l.sink)
    × WhereTold (g.K.Sink.taken l.initial.sink) (λ taken. g.K.Sink.taken l.sink ≡ Some (taken ++ take l.written l.text))

abbrev pub decreases-loop-written : goal.decreases-loop-written
decreases-loop-written g l = length l.text - l.written
