use Rattle.std.proofs.Common.{◌≡◌, Some, None, ap, sym, ◌∙◌, arith}
use Rattle.std.specs.Option.{option_map_or}
use Rattle.std.proofs.lemmas.Grind.{common_steps}
use Rattle.machine_store.specs.Frames.{entry_of}
use Rattle.machine_store.proofs.Frames.{cell_by_entry}
use Rattle.store_model.specs.Values.Datum.{Gone, datum_of}
use Rattle.machine_store.proofs.location.local_value.Goals as goal

pub returns-in-Some : goal.returns-in-Some
returns-in-Some c =
    let entry : entry_of c.args.key c.args.frame.now.1 ≡ Some c.in-Some.cell.now = grind (arith, common_steps) in
    c.value.ensures ∙ sym (cell_by_entry c.args.key c.args.frame.now.1 ∙ ap (λ o. option_map_or datum_of o Gone) entry)

pub returns-in-None : goal.returns-in-None
returns-in-None c =
    let entry : entry_of c.args.key c.args.frame.now.1 ≡ None = grind (arith, common_steps) in
    sym (cell_by_entry c.args.key c.args.frame.now.1 ∙ ap (λ o. option_map_or datum_of o Gone) entry)
