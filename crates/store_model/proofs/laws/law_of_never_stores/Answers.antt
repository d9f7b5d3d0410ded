use Rattle.store_model.proofs.Effects.NeverStores.{runs_store_no_never, free_runs_store_no_never}
use Rattle.store_model.proofs.laws.law_of_never_stores.Goals as goal

pub returns : goal.returns
returns c = record { runs = runs_store_no_never; free_runs = free_runs_store_no_never }
