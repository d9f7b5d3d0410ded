use Rattle.std.proofs.Common.{◌≡◌, List, false, get_or, ap, ◌∙◌}
use Rattle.std.proofs.lemmas.Option.{get_or_from_slice_get}
use Rattle.cfg_graph.specs.declared.graph.Body.{Body}
use Rattle.init_flow.specs.Fits.{start_row}
use Rattle.init_flow.proofs.Carrying.{says-all}
use Rattle.init_flow.proofs.Inside.{inside}
use Rattle.init_flow.proofs.maybe.MaybeInit.of.Goals as goal

pub returns-clause-is_for : goal.returns-clause-is_for
returns-clause-is_for c found at = (c.requires.switches found at).ways.long

pub returns-clause-says : goal.returns-clause-says
returns-clause-says c found at =
    let items = c.args.graph.now.items in
    let forest = c.args.forest.now in
    let body : Body = c.index-as_slice-body.result in
    let same : body ≡ found =
    c.index-as_slice-body.is ∙ ap (λ (z : List Body). get_or z c.args.body body) c.as_slice.ensures ∙ get_or_from_slice_get c.args.graph.now.bodies c.args.body found body at in
    let is = c.requires.forest found at in
    says-all items found forest is (λ n way block small here. inside items found forest is n way block here) false c.args.switches (c.requires.switches found at) c.in_ok-first.first
    (c.in_ok-first.ensures ∙ ap (λ (z : Body). start_row forest.paths z false) same)
