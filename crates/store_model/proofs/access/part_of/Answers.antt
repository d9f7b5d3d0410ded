use Rattle.std.proofs.Common.{ap, sym, ◌∙◌}
use Rattle.std.specs.Prelude.{option_map}
use Rattle.store_model.specs.Values.Datum.{datum_of}
use Rattle.store_model.proofs.Values.AccessOneStep.{part-Parts}
use Rattle.store_model.proofs.access.part_of.Goals as goal

pub returns-in-Parts-Part : goal.returns-in-Parts-Part
returns-in-Parts-Part c =
    ap (option_map datum_of) c.get.ensures ∙ sym (part-Parts _ _ _ _ _ _ c.in-Parts-Part.is-1 c.in-Parts-Part.is-0)
