use Rattle.std.proofs.Common.{◌≡◌, ◌++◌, map, drop}
use Rattle.typed_tree.specs.View.{param_tree}
use Rattle.lower_locals.specs.View.{entry_of, param_entry}
use Rattle.lower_locals.proofs.body.add_params.Given as goal

abbrev pub invariant-loop-param : goal.invariant-loop-param
invariant-loop-param l =
    map entry_of l.found ++ map param_entry (map param_tree (drop l.param-index l.params)) ≡ map entry_of l.fn.found ++ map param_entry (map param_tree l.params)
