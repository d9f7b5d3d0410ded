use Rattle.std.proofs.Common.{◌≡◌, map, drop}
use Rattle.typed_tree.specs.View.{param_tree}
use Rattle.lower_code.specs.View.{ops_of}
use Rattle.lower_forms.proofs.Params.{names_onto}
use Rattle.lower_forms.proofs.bodies.params_entered.Given as goal

abbrev pub invariant-loop-param : goal.invariant-loop-param
invariant-loop-param l =
    names_onto l.items (map param_tree (drop l.param-index l.params)) (ops_of l.code)
    ≡ names_onto l.items (map param_tree l.params) (ops_of l.fn.code)
