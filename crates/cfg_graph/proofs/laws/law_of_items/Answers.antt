use Rattle.cfg_graph.proofs.FiniteSize.{well_formed-holds_nothing}
use Rattle.cfg_graph.proofs.laws.law_of_items.Goals as goal

pub returns : goal.returns
returns c = record {
  nothing_held = well_formed-holds_nothing;
}
