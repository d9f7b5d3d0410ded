use Rattle.cfg_graph.proofs.InfiniteSize.{adt_holding-tested, closure_holding-tested}
use Rattle.cfg_graph.proofs.laws.law_of_holding.Goals as goal

pub returns : goal.returns
returns c = record {
  adts = adt_holding-tested;
  closures = closure_holding-tested;
}
