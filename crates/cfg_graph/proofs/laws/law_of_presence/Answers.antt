use Rattle.cfg_graph.proofs.AllPresent.{whole_is_all_present}
use Rattle.cfg_graph.proofs.Present.{gone_is_not_present}
use Rattle.cfg_graph.proofs.laws.law_of_presence.Goals as goal

pub returns : goal.returns
returns c = record {
  gone = gone_is_not_present;
  whole = whole_is_all_present;
}
