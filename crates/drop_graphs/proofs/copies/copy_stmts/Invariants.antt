use Rattle.std.proofs.Common.{◌≡◌, take}
use Rattle.drop_graphs.proofs.copies.copy_stmts.Given as goal

abbrev pub invariant-loop-stmt : goal.invariant-loop-stmt
invariant-loop-stmt l = l.copies ≡ take l.stmt-index l.stmts
