use Rattle.cfg_graph.proofs.Ranked.{well_formed-ranked}
use Rattle.cfg_graph.proofs.laws.law_of_ranks.Goals as goal

pub returns : goal.returns
returns c = record {
  ranked = well_formed-ranked;
}
