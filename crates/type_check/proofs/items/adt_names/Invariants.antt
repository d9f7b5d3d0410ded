use Rattle.std.proofs.Common.{◌≡◌, ◌≤◌, ◌-◌, length, map, take}
use Rattle.mir_ty.specs.declared.adt.Adt.{Adt}
use Rattle.type_check.proofs.items.adt_names.Given as goal

abbrev pub invariant-loop-adt : goal.invariant-loop-adt
invariant-loop-adt l =
    record {
      within : l.n ≤ length l.items.adts;
      names : l.names ≡ map (λ (adt : Adt). adt.name) (take l.n l.items.adts);
    }

abbrev pub decreases-loop-adt : goal.decreases-loop-adt
decreases-loop-adt l = length l.items.adts - l.n
