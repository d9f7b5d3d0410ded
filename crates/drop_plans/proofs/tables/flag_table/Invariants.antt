use Rattle.std.proofs.Common.{◌≡◌, ◌+◌, map, take}
use Rattle.cfg_graph.specs.Places.{named}
use Rattle.drop_plans.specs.Tables.{AreTable}
use Rattle.drop_plans.proofs.tables.flag_table.Given as goal

abbrev pub invariant-loop-place : goal.invariant-loop-place
invariant-loop-place l =
    (l.flag ≡ l.first + l.place-index)
    × AreTable l.forest.paths (take l.place-index (map named l.flagged)) l.first l.table
