use Rattle.std.proofs.Common.{◌+◌, ◌-◌, ◌≤◌, vec_len}
use Rattle.mir_edge.specs.Told.{WhereTold}
use Rattle.mir_edge.proofs.SourceLemmas.{HasRead}
use Rattle.mir_edge.proofs.source.read_all.Given as goal

abbrev pub invariant-reading : goal.invariant-reading
invariant-reading g l =
    (vec_len l.bytes ≤ l.limit + 1)
    × (g.S.Source.faults l.initial.source ≤ g.S.Source.faults l.source)
    × WhereTold (g.S.Source.left l.initial.source) (λ left.
    HasRead (vec_len l.bytes) l.bytes.items left (g.S.Source.left l.source))

abbrev pub decreases-reading : goal.decreases-reading
decreases-reading g l = l.limit + 1 - vec_len l.bytes
