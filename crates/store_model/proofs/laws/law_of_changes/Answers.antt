use Rattle.store_model.proofs.Values.Access.{replaced-replaced, replaced-replaced_below, replaced-value_at, replaced_back, replaced-append, replaced-swap}
use Rattle.store_model.proofs.laws.law_of_changes.Goals as goal

pub returns : goal.returns
returns c = record {
  later = replaced-replaced;
  container = replaced-replaced_below;
  same = replaced-value_at;
  back = replaced_back;
  within = replaced-append;
  apart = replaced-swap;
}
