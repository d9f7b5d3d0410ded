use Rattle.std.proofs.Common.{◌≡◌, List, get_or, ap, ◌∙◌, subst}
use Rattle.std.proofs.lemmas.Option.{get_or_from_slice_get}
use Rattle.std.proofs.lemmas.Result.{IfOk-weaker}
use Rattle.cfg_graph.specs.declared.graph.Body.{Body}
use Rattle.init_flow.specs.Fits.{AreSwitches}
use Rattle.init_flow.proofs.maybe.switches_in.Goals as goal

pub returns : goal.returns
returns c =
    let body : Body = c.index-as_slice-body.result in
    IfOk-weaker c.switches_of.result _ _
    (λ switches h found at.
    let same : body ≡ found =
    c.index-as_slice-body.is ∙ ap (λ (z : List Body). get_or z c.args.body body) c.as_slice.ensures ∙ get_or_from_slice_get c.args.graph.now.bodies c.args.body found body at in
    subst (AreSwitches c.args.forest.now.paths switches) same h)
    c.switches_of.ensures
