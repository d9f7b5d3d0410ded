use Rattle.std.proofs.Common.{◌≡◌, ◌++◌, take, flat_map}
use Rattle.cfg_graph.specs.Uses.{stmt_uses}
use Rattle.move_paths.specs.Uses.{listed}
use Rattle.move_paths.proofs.uses.add_inner_uses.Given as goal

abbrev pub invariant-loop-stmt : goal.invariant-loop-stmt
invariant-loop-stmt l = listed l.uses ≡ listed l.initial.uses ++ flat_map stmt_uses (take l.stmt-index l.block.stmts)
