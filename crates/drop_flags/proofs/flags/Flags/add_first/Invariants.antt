use Rattle.std.proofs.Common.{◌≡◌, ◌+◌, ◌++◌, drop, map}
use Rattle.cfg_graph.specs.Places.{named}
use Rattle.drop_flags.specs.Flags.{first_stores}
use Rattle.drop_flags.proofs.flags.Flags.add_first.Given as goal

abbrev pub invariant-loop-path : goal.invariant-loop-path
invariant-loop-path l =
    (l.flag ≡ l.self.first + l.path-index)
    × (l.stmts ++ first_stores l.self.params (map named (drop l.path-index l.self.paths)) l.flag
    ≡ l.initial.stmts ++ first_stores l.self.params (map named l.self.paths) l.self.first)
