use Rattle.std.proofs.Common.{◌≡◌, IfOk, sym, subst}
use Rattle.store_model.specs.Values.Datum.{datum_of}
use Rattle.machine_store.proofs.Marks.{put_in_gone}
use Rattle.machine_store.proofs.frame.new_cell.Goals as goal

pub returns : goal.returns
returns c =
    subst (λ d. IfOk c.vacant.result (λ cell. datum_of cell ≡ d)) (sym (put_in_gone c.args.place.now (datum_of c.args.value) (sym c.if-is_empty.ensures))) c.vacant.ensures
