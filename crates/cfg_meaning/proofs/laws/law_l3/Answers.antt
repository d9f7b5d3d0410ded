use Rattle.cfg_meaning.proofs.Ticks.{graph_run_goes_on, raw_graph_run_goes_on}
use Rattle.cfg_meaning.proofs.laws.law_l3.Goals as goal

pub returns : goal.returns
returns c = record { strict = graph_run_goes_on; raw = raw_graph_run_goes_on }
