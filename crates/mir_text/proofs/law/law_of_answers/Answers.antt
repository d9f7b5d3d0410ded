-- One first wrong line, and none in the listing of a well formed graph; and one graph that is read of that.
use Rattle.mir_text.proofs.Alike.Lines.{one_graph_is_read, one_graph_was_read}
use Rattle.mir_text.proofs.Listed.{well_formed_is_listed, well_formed_is_not_wrong}
use Rattle.mir_text.proofs.Unique.{one_first_wrong}
use Rattle.mir_text.proofs.law.law_of_answers.Goals as goal

pub returns : goal.returns
returns c = record {
  one_line = one_first_wrong;
  listed = well_formed_is_listed;
  never_wrong = well_formed_is_not_wrong;
  one_graph = one_graph_is_read;
  one_read = one_graph_was_read;
}
