-- What would store a value of the type `!` does not go on.
use Rattle.std.proofs.Common.{◌≡◌, Bool, true, false}
use Rattle.store_model.specs.Concrete.Effects as values
use Rattle.store_model.specs.Effects.{Halt, Stuck, Unreachable, Out, Go, Unwind, Halts, stores_where, halting_if, DoesNotGoOn}
use Rattle.store_model.specs.Abstract.Effects as free
use Rattle.store_model.specs.Laws.{RunsStoreNoNever, FreeRunsStoreNoNever}

halted : {W : Type 0} (b : Bool) (halt : Halt) (out : Out W) → b ≡ true → DoesNotGoOn (halting_if b halt out)
halted true halt (Go w) e = tt
halted true halt (Unwind w) e = tt
halted true halt (Halts other w) e = tt
halted false halt out e = absurd (let never : false ≡ true = e in cc)

pub runs_store_no_never : RunsStoreNoNever
runs_store_no_never setting run fuel action w e =
    halted (stores_where (values.never_at setting w) action) Stuck (values.acted setting run action w) e

pub free_runs_store_no_never : FreeRunsStoreNoNever
free_runs_store_no_never table local_ty action w e =
    halted (stores_where (free.never_at table local_ty) action) Unreachable (free.acted_on table local_ty action w) e
