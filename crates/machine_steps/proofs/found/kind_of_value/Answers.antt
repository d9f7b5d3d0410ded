use Rattle.std.proofs.Common.{map, ap, sym, ◌∙◌}
use Rattle.std.proofs.lemmas.List.{length-map}
use Rattle.store_model.specs.Values.Datum.{datum_of, data_from}
use Rattle.store_model.proofs.Values.Datum.{datum_of-Parts}
use Rattle.store_model.proofs.Values.OnePart.{count-data_from}
use Rattle.machine_steps.proofs.found.kind_of_value.Goals as goal

pub returns-in-Parts : goal.returns-in-Parts
returns-in-Parts c = record {
  parts = data_from (map datum_of c.in-Parts.parts);
  is = ap datum_of c.in-Parts.is ∙ datum_of-Parts c.in-Parts.variant c.in-Parts.serial c.in-Parts.parts;
  counted = count-data_from (map datum_of c.in-Parts.parts) ∙ length-map c.in-Parts.parts datum_of ∙ sym c.len.ensures;
}
