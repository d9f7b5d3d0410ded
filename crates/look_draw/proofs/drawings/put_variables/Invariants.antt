use Rattle.std.proofs.Common.{◌≡◌, ◌++◌, take}
use Rattle.std.specs.Prelude.{flat_map}
use Rattle.look_draw.specs.Drawings.{variable_line}
use Rattle.look_draw.proofs.drawings.put_variables.Given as goal

abbrev pub invariant-loop-variable : goal.invariant-loop-variable
invariant-loop-variable l =
    l.out.items ≡ l.initial.out.items ++ flat_map variable_line (take l.variable-index l.variables)
