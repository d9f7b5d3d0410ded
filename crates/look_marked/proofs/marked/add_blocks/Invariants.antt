use Rattle.std.proofs.Common.{◌≡◌, ◌++◌}
use Rattle.look_marked.specs.Marked.{marked_blocks, behind_blocks}
use Rattle.look_marked.proofs.marked.add_blocks.Given as goal

abbrev pub invariant-loop-block : goal.invariant-loop-block
invariant-loop-block l = (l.out ≡ l.fn.out ++ marked_blocks l.fn.n l.yielded) × (l.n ≡ behind_blocks l.fn.n l.yielded)
