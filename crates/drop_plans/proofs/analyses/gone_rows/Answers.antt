use Rattle.std.proofs.Common.{◌≡◌, List, Some, slice_get, get_or, true, ap, subst, sym, ◌∙◌}
use Rattle.std.proofs.lemmas.Option.{get_or_from_slice_get}
use Rattle.cfg_graph.specs.declared.graph.Body.{Body}
use Rattle.init_flow.specs.Fits.{AreSwitches}
use Rattle.init_flow.specs.Switches.{passed_by}
use Rattle.init_flow.specs.declared.switches.Switches.{Switches}
use Rattle.drop_plans.specs.Known.{RowsSay}
use Rattle.drop_plans.proofs.Solved.{rows-say}
use Rattle.drop_plans.proofs.analyses.gone_rows.Goals as goal

pub returns-clause-rows : goal.returns-clause-rows
returns-clause-rows c found at =
    let items = c.args.graph.now.items in
    let body : Body = c.index-as_slice-body.result in
    let maybe = c.in_ok-maybe.maybe in
    let same : body ≡ found =
    c.index-as_slice-body.is ∙ ap (λ (z : List Body). get_or z c.args.body body) c.as_slice.ensures ∙ get_or_from_slice_get c.args.graph.now.bodies c.args.body found body at in
    subst (λ (z : Body). RowsSay items z c.args.forest.now.paths true c.in_ok-rows.rows) same
    (rows-say items body c.args.forest.now.paths true (λ block way row. passed_by maybe.switches true block way row) maybe.switches.first c.in_ok-rows.rows
    (c.in_ok-maybe.ensures.says body (subst (λ (z : Body). slice_get c.args.graph.now.bodies c.args.body ≡ Some z) (sym same) at))
    c.in_ok-rows.ensures.carried c.in_ok-rows.ensures.blocks c.in_ok-rows.ensures.widths)

pub returns-clause-switches : goal.returns-clause-switches
returns-clause-switches c found at =
    subst (λ (s : Switches). AreSwitches c.args.forest.now.paths s found) (sym c.into_switches.ensures) (c.in_ok-maybe.ensures.switches found at)
