use Rattle.lower_laws.proofs.Order.{order_is_tested, interned_stands_last}
use Rattle.lower_laws.proofs.Whole.{test_tells, items_have_no_fault, heads_have_no_fault, no_local_has_a_fault, no_line_has_a_fault, main_is_there, graphs_are_well_formed}
use Rattle.lower_laws.proofs.laws.law_of_lowered_graphs.Goals as goal

pub returns : goal.returns
returns c = record {
  test = test_tells;
  order = order_is_tested;
  interned = interned_stands_last;
  items = items_have_no_fault;
  heads = heads_have_no_fault;
  locals = no_local_has_a_fault;
  lines = no_line_has_a_fault;
  main = main_is_there;
  graphs = graphs_are_well_formed;
}
