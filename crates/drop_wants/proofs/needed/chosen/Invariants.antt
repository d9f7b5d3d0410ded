use Rattle.std.proofs.Common.{◌≡◌, ◌++◌, drop, map}
use Rattle.cfg_graph.specs.Places.{named}
use Rattle.drop_wants.specs.Marks as marks
use Rattle.drop_wants.proofs.needed.chosen.Given as goal

abbrev pub invariant-loop-n : goal.invariant-loop-n
invariant-loop-n l =
    map named l.some ++ marks.chosen (drop l.n l.row) (drop l.n l.forest.paths) ≡ marks.chosen l.row l.forest.paths
