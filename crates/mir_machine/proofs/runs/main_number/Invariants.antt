use Rattle.std.proofs.Common.{◌≡◌, ◌<◌, ◌-◌, ◌^◌}
use Rattle.mir_machine.proofs.RunsTold.{main_from}
use Rattle.store_model.specs.Concrete.Bodies.{main_of}
use Rattle.mir_machine.proofs.runs.main_number.Given as goal

abbrev pub invariant-loop-n : goal.invariant-loop-n
invariant-loop-n l =
    record {
      found : main_of l.items ≡ main_from l.items.bodies l.n;
      short : l.n < 2 ^ 32 - 1;
    }
