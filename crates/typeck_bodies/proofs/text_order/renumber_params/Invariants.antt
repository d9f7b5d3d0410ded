use Rattle.typeck_bodies.specs.Places.{placed}
use Rattle.typed_tree.specs.View.{param_tree}
use Rattle.typing_rules.specs.Numbered.{param_renumbered}
use Rattle.typeck_bodies.proofs.Lists.{Written}
use Rattle.typeck_bodies.proofs.text_order.renumber_params.Given as goal

abbrev pub invariant-loop-param : goal.invariant-loop-param
invariant-loop-param l =
    Written param_tree (param_renumbered (placed l.places)) l.param-index l.param-items l.initial.param-items
