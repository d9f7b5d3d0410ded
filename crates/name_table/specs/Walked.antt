-- How far a walk over items has come.
use Rattle.name_table.specs.declared.item_walk.Walked.{Walked}
use Rattle.typeck_heads.specs.Counts.{count_of}
use Rattle.typing_rules.specs.Collected as walk

abbrev pub count_in : Walked → walk.Count
count_in w = count_of w.count
