use Rattle.store_model.proofs.Values.Serials.{IsNumbered-iff_serial, serials-split, serials-exchange, serials-taken, serials-along_steps}
use Rattle.store_model.proofs.laws.law_of_serials.Goals as goal

pub returns : goal.returns
returns c = record {
  numbered = IsNumbered-iff_serial;
  split = serials-split;
  exchange = serials-exchange;
  taken = serials-taken;
  along_steps = serials-along_steps;
}
