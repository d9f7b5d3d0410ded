use Rattle.std.proofs.Common.{◌≡◌, length, map}
use Rattle.cfg_meaning.specs.Programs.{arguments_from}
use Rattle.machine_store.specs.Frames.{cells_of}
use Rattle.store_model.specs.Values.Datum.{datum_of}
use Rattle.machine_store.proofs.store.frame_with.Given as goal

abbrev pub invariant-loop-arg : goal.invariant-loop-arg
invariant-loop-arg l =
    record {
      body : l.frame.0 ≡ l.fn.body;
      key : l.key ≡ length l.yielded;
      cells : cells_of l.frame.1 ≡ arguments_from 1 (map datum_of l.yielded);
    }
