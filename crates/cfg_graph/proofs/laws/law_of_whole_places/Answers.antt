use Rattle.cfg_graph.proofs.WholePlaces.{wholeness_is_tested}
use Rattle.cfg_graph.proofs.laws.law_of_whole_places.Goals as goal

pub returns : goal.returns
returns c = record {
  tested = wholeness_is_tested;
}
