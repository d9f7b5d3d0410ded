use Rattle.std.proofs.Common.{◌≡◌, ◌+◌, ◌++◌, drop, map}
use Rattle.cfg_graph.specs.Places.{named}
use Rattle.drop_flags.specs.Flags.{stores_below}
use Rattle.drop_flags.proofs.flags.Flags.add_below.Given as goal

abbrev pub invariant-loop-path : goal.invariant-loop-path
invariant-loop-path l =
    (l.flag ≡ l.initial.flag + l.path-index)
    × (l.stmts ++ stores_below (named l.place) l.present (map named (drop l.path-index l.path-items)) l.flag
    ≡ l.initial.stmts ++ stores_below (named l.place) l.present (map named l.path-items) l.initial.flag)
