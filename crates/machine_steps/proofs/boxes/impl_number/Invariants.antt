use Rattle.std.proofs.Common.{◌≡◌, ◌<◌, ◌-◌, ◌^◌}
use Rattle.machine_steps.proofs.BoxesDone.{impl_from}
use Rattle.store_model.specs.Concrete.Effects.{impl_of}
use Rattle.machine_steps.proofs.boxes.impl_number.Given as goal

abbrev pub invariant-loop-n : goal.invariant-loop-n
invariant-loop-n l =
    record {
      found : impl_of l.items l.trait_no l.adt ≡ impl_from l.trait_no l.adt l.items.impls l.n;
      short : l.n < 2 ^ 32 - 1;
    }
