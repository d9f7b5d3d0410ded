use Rattle.std.proofs.Common.{◌≡◌, ◌-◌, map, reverse}
use Rattle.typeck_checker.specs.Lists.{below_all, nodes_on}
use Rattle.typeck_checker.specs.Stand.{Stays, stack, state}
use Rattle.typed_tree.specs.View.{nodes_from, tree_of}
use Rattle.typeck_checker.proofs.lists.take_each.Given as goal

abbrev pub invariant-loop-n : goal.invariant-loop-n
invariant-loop-n l =
    record {
      made : nodes_on (l.count - l._n) (stack l.checker) (nodes_from (map tree_of (reverse l.taken))) ≡
          nodes_on l.count (stack l.initial.checker) (nodes_from (map tree_of (reverse l.initial.taken)));
      left : below_all (l.count - l._n) (stack l.checker) ≡ below_all l.count (stack l.initial.checker);
      state : state l.checker ≡ state l.initial.checker;
      place : Stays l.initial.checker l.checker;
    }
