use Rattle.std.proofs.Common.{◌≡◌, ◌+◌, ◌++◌, length}
use Rattle.look_marked.specs.Marked.{marked_stmts}
use Rattle.look_marked.proofs.marked.add_lines.Given as goal

abbrev pub invariant-loop-stmt : goal.invariant-loop-stmt
invariant-loop-stmt l = (l.out ≡ l.fn.out ++ marked_stmts l.fn.n l.yielded) × (l.n ≡ l.fn.n + length l.yielded)
