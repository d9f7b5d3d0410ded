use Rattle.std.proofs.Common.{◌≡◌, length, map, reverse}
use Rattle.typed_tree.specs.View.{field_of, fields_from}
use Rattle.typeck_checker.specs.Stand.{Stays, stack, state}
use Rattle.typeck_patterns.specs.Fields.{below_given, below_on, fields_on}
use Rattle.typeck_patterns.proofs.fields.take_each.Given as goal

abbrev pub invariant-loop-number : goal.invariant-loop-number
invariant-loop-number l =
    record {
      made : fields_on (reverse l.given) (stack l.checker) (fields_from (map field_of (reverse l.taken))) ≡
          fields_on (reverse l.initial.given) (stack l.initial.checker) (fields_from (map field_of (reverse l.initial.taken)));
      left : below_on (reverse l.given) (stack l.checker) ≡ below_given l.initial.given (stack l.initial.checker);
      state : state l.checker ≡ state l.initial.checker;
      place : Stays l.initial.checker l.checker;
    }

abbrev pub decreases-loop-number : goal.decreases-loop-number
decreases-loop-number l = length l.given
