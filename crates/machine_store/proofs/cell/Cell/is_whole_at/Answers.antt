use Rattle.std.proofs.Common.{ap, ◌∙◌}
use Rattle.std.specs.Prelude.{not}
use Rattle.store_model.specs.Values.Datum.{datum_of}
use Rattle.store_model.specs.Values.Access.{value_at}
use Rattle.machine_store.proofs.Marks.{whole_by_marks}
use Rattle.machine_store.proofs.cell.Cell.is_whole_at.Goals as goal

pub returns : goal.returns
returns c = λ inner stands.
    ap not c.one_leads_to.ensures
    ∙ whole_by_marks (datum_of c.self.inside.value) inner c.self.inside.gone.items c.args.place.now c.self.invariant
    (ap (λ v. value_at c.args.place.now (datum_of v)) c.self.view_is ∙ stands)
