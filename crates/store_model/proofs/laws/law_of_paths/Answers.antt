use Rattle.store_model.proofs.Values.Access.{value_at-append, IsCutOff-from_none, none_from-IsCutOff, paths_compare}
use Rattle.store_model.proofs.Values.Serials.{steps_to_parts-lead}
use Rattle.store_model.proofs.laws.law_of_paths.Goals as goal

pub returns : goal.returns
returns c = record {
  along = value_at-append;
  cut_off = λ path root. (IsCutOff-from_none path root, none_from-IsCutOff path root);
  compare = paths_compare;
  steps = steps_to_parts-lead;
}
