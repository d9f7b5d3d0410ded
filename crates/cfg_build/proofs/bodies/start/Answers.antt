use Rattle.std.proofs.Common.{◌≡◌, ◌∙◌, ap}
use Rattle.cfg_graph.specs.declared.graph.Kind.{Kind}
use Rattle.cfg_graph.specs.declared.terminator.Term.{Term}
use Rattle.lower_rules.specs.Build.{BlockRest, Building, closed, ending, next_number, reserved}
use Rattle.lower_blocks.specs.Building.{built_of, building_of}
use Rattle.cfg_build.specs.Lowered.{begun, unbuilt}
use Rattle.cfg_build.proofs.bodies.start.Goals as goal

pub returns : goal.returns
returns c = λ none.
    let id = c.args.id.0 in
    let first : built_of c.reserve.new.self ≡ ((unbuilt id).0, reserved (unbuilt id).1) =
    c.in_ok-reserve.ensures.1 ∙ ap (λ (r : BlockRest × Building). (r.0, reserved r.1)) none in
    let closes : building_of c.close.new.self ≡ (begun id).1 =
    ap (λ (r : BlockRest × Building). r.1) c.in_ok-returns.ensures.1 ∙ ap (λ (r : BlockRest × Building). closed Kind.Plain r.0 r.1) first in
    let number : c.in_ok-returns.returns ≡ 1 =
    c.in_ok-returns.ensures.0 ∙ ap (λ (r : BlockRest × Building). next_number r.1) first in
    c.end.ensures ∙ (λ i. (ending (Term.Goto (number i)) 0, closes i))
