use Rattle.listing_runs.proofs.Law.{runs_alike, raw_runs_alike, texts_alike, one_run_a_listing}
use Rattle.listing_runs.proofs.laws.law_of_equal_graphs.Goals as goal

pub returns : goal.returns
returns c = record { runs = runs_alike; raw_runs = raw_runs_alike; texts = texts_alike; listed = one_run_a_listing }
