use Rattle.std.proofs.Common.{◌≡◌, ◌≤◌, ◌-◌, length, map, take}
use Rattle.mir_ty.specs.declared.def.Sig.{Sig}
use Rattle.type_check.proofs.items.body_names.Given as goal

abbrev pub invariant-loop-sig : goal.invariant-loop-sig
invariant-loop-sig l =
    record {
      within : l.n ≤ length l.items.bodies;
      names : l.names ≡ map (λ (sig : Sig). sig.name) (take l.n l.items.bodies);
    }

abbrev pub decreases-loop-sig : goal.decreases-loop-sig
decreases-loop-sig l = length l.items.bodies - l.n
