use Rattle.std.proofs.Common.{◌≡◌, length, count_by, not}
use Rattle.mir_ty.specs.Known.{IsShown}
use Rattle.name_table.specs.Holding.{hold_rule}
use Rattle.name_table.proofs.containment.settle.Given as goal

abbrev pub invariant-loop-part : goal.invariant-loop-part
invariant-loop-part l =
    record {
      long : length l.known ≡ length l.items.types;
      shown : IsShown l.items.types (hold_rule l.items l.part) l.known;
    }

abbrev pub decreases-loop-part : goal.decreases-loop-part
decreases-loop-part l = count_by not l.known
