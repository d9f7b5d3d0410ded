use Rattle.std.proofs.Common.{sym, ◌∙◌}
use Rattle.machine_store.proofs.Locations.{parts_counted}
use Rattle.machine_store.proofs.location.count_in.Goals as goal

pub returns-in-Parts : goal.returns-in-Parts
returns-in-Parts c =
    let a = c.in-Parts in
    c.len.ensures ∙ sym (parts_counted c.args.value.now _ _ a.parts a.is)
