use Rattle.store_model.proofs.Values.Access.{replaced-nowhere, value_at-replaced, value_at-replaced_above, value_at-replaced_below, value_at-replaced_apart, value_at-below_Gone}
use Rattle.store_model.proofs.laws.law_of_what_stands.Goals as goal

pub returns : goal.returns
returns c = record {
  nowhere = replaced-nowhere;
  at_place = value_at-replaced;
  below = value_at-replaced_above;
  above = value_at-replaced_below;
  apart = value_at-replaced_apart;
  gone = value_at-below_Gone;
}
