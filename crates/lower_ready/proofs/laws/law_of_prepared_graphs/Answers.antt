use Rattle.lower_ready.proofs.Alone.{types_have_bool, references_are_alone}
use Rattle.lower_ready.proofs.Prepared.{they_free_nothing, they_begin_once, they_move_well, drops_are_refilled, they_hold_references_well, what_they_name_stays, graphs_are_prepared}
use Rattle.lower_ready.proofs.laws.law_of_prepared_graphs.Goals as goal

pub returns : goal.returns
returns c = record {
  has_bool = types_have_bool;
  alone = references_are_alone;
  no_free = they_free_nothing;
  one_beginning = they_begin_once;
  moves = they_move_well;
  drops = drops_are_refilled;
  references = they_hold_references_well;
  named_stays = what_they_name_stays;
  graphs = graphs_are_prepared;
}
