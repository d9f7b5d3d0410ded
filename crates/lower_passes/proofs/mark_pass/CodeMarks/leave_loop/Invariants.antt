use Rattle.std.proofs.Common.{◌≡◌, ◌++◌, drop}
use Rattle.lower_passes.proofs.mark_pass.CodeMarks.leave_loop.Given as goal

abbrev pub invariant-loop-exit : goal.invariant-loop-exit
invariant-loop-exit l =
    (l.self.marks ≡ l.initial.self.marks)
    × (l.self.jumps ++ drop l.exit-index l.exit-items ≡ l.initial.self.jumps ++ l.exit-items)
