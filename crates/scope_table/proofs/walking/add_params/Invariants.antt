use Rattle.std.proofs.Common.{◌≡◌, ◌++◌, map, drop}
use Rattle.scope_table.specs.Table.{rows_of_params}
use Rattle.typed_tree.specs.View.{param_tree}
use Rattle.scope_table.proofs.walking.add_params.Given as goal

abbrev pub invariant-loop-param : goal.invariant-loop-param
invariant-loop-param l =
    l.rows ++ rows_of_params l.scope (map param_tree (drop l.param-index l.params))
    ≡ l.fn.rows ++ rows_of_params l.scope (map param_tree l.params)
