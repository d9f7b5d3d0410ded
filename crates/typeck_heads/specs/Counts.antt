-- How many closures there have been.
use Rattle.typeck_heads.specs.declared.bodies.Count.{Count}
use Rattle.typing_rules.specs.Collected as walk

abbrev pub count_of : Count → walk.Count
count_of c = record { outer = c.outer; in_outer = c.in_outer; closures = c.closures }
