use Rattle.std.proofs.Common.{◌≡◌, ℕ, List, ap, ap₂, length, map, ◌∙◌}
use Rattle.typeck_checker.specs.Lists.{last_nodes}
use Rattle.typeck_checker.specs.Stand.{below, stack}
use Rattle.typed_tree.specs.Tree.{BodyTree, Node, Nodes, ParamTree}
use Rattle.typed_tree.specs.View.{param_tree}
use Rattle.typeck_bodies.specs.Whole.{params_from}
use Rattle.typeck_bodies.proofs.whole.take_block_and_params.Goals as goal

pub returns-clause-made : goal.returns-clause-made
returns-clause-made c =
    let tys = c.args.tys.now in
    let behind = stack c.part.new.self in
    let under = below (stack c.args.checker.now) in
    let patterns : map param_tree c.in_ok-params.params ≡ params_from (last_nodes (length tys) under) tys =
    c.in_ok-params.ensures.params
    ∙ ap (λ (ns : Nodes). params_from ns tys)
    (c.in_ok-patterns.ensures.taken ∙ ap (λ (n : ℕ). last_nodes n behind) c.len.ensures ∙ ap (last_nodes (length tys)) c.in_ok-block.ensures.made) in
    let body : List ParamTree → Node → BodyTree = λ ps block. record { number = c.args.number; params = ps; answer = c.args.answer; block = block } in
    c.body_of_parts.ensures ∙ ap₂ body patterns c.in_ok-block.ensures.taken
