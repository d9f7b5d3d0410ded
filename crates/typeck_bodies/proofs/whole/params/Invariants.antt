use Rattle.std.proofs.Common.{◌≡◌, length, map}
use Rattle.typed_tree.specs.View.{nodes_from, param_tree, tree_of}
use Rattle.typeck_bodies.specs.Whole.{params_from}
use Rattle.typeck_bodies.proofs.whole.params.Given as goal

abbrev pub invariant-loop-pattern : goal.invariant-loop-pattern
invariant-loop-pattern l =
    (l.k ≡ length l.yielded)
    × (map param_tree l.params ≡ params_from (nodes_from (map tree_of l.yielded)) l.tys)
