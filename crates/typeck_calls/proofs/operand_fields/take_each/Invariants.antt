use Rattle.std.proofs.Common.{◌≡◌, ◌-◌, drop, map, reverse}
use Rattle.typeck_checker.specs.Lists.{below_all, last_nodes}
use Rattle.typeck_calls.specs.StructFields.{numbered_by}
use Rattle.typeck_checker.specs.Stand.{Stays, stack, state}
use Rattle.typed_tree.specs.View.{field_of, fields_from}
use Rattle.typeck_calls.proofs.operand_fields.take_each.Given as goal

abbrev pub invariant-loop-back : goal.invariant-loop-back
invariant-loop-back l =
    record {
      made : fields_from (map field_of (reverse l.taken)) ≡ numbered_by (drop (l.count - l.back) l.given) (last_nodes l.back (stack l.initial.checker));
      left : stack l.checker ≡ below_all l.back (stack l.initial.checker);
      state : state l.checker ≡ state l.initial.checker;
      place : Stays l.initial.checker l.checker;
    }
