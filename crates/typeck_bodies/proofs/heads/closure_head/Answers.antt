use Rattle.std.proofs.Common.{ap, reverse, sym, ◌∙◌}
use Rattle.src_ast.specs.Seen.{maybe_of, nodes_of}
use Rattle.typeck_checker.specs.Stand.{env, stack, state}
use Rattle.typed_tree.specs.Tree.{BodyTree}
use Rattle.typing_rules.specs.Bodies.{closure_body, inside_closure}
use Rattle.typing_rules.specs.Check.{Check}
use Rattle.typing_rules.specs.Scope.{Env, with_variables}
use Rattle.typeck_bodies.specs.Heads.{closed, closure_inside, unvalued}
use Rattle.typeck_bodies.proofs.Bodies.{closed_by, within_captures}
use Rattle.typeck_bodies.proofs.Answered.{head_kept, self_outer, whole}
use Rattle.typeck_bodies.proofs.heads.closure_head.Goals as goal

pub returns-clause-gives : goal.returns-clause-gives
returns-clause-gives c =
    let before = c.args.checker.now in
    let first = c.begin-begun.new.checker in
    let second = c.enter_bound.new.checker in
    let e = env before in
    let captures = reverse c.args.captures.now in
    let ps = nodes_of c.args.params in
    let a = maybe_of c.args.answer in
    let n = c.args.number in
    let ty = c.args.ty in
    let outer = c.begin-begun.result.outer in
    whole (closure_body e c.args.too_many c.args.at n ty captures ps a) (closure_inside c.args.too_many c.args.at n ty (env second) ps a) outer (state before) (state second) c.closure_params.result c.closure_params.new.checker
    (λ block.
    ap (λ (body : Check BodyTree). unvalued body (state before)) (within_captures c.args.too_many c.args.at n ty e captures ps a block)
    ∙ closed_by outer (state before) (state first) (closure_inside c.args.too_many c.args.at n ty (inside_closure e captures) ps a block) c.begin-begun.ensures.outer c.begin-begun.ensures.state
    ∙ ap (λ (z : Env). closed outer (closure_inside c.args.too_many c.args.at n ty z ps a block (state first))) (sym (c.in_ok-enter_bound.ensures.entered ∙ ap (with_variables captures) c.begin-begun.ensures.alone))
    ∙ ap (λ s. closed outer (closure_inside c.args.too_many c.args.at n ty (env second) ps a block s)) (sym c.in_ok-enter_bound.ensures.others.1))
    (self_outer c.begin-begun.result second c.closure_params.new.checker c.closure_params.result c.closure_params.ensures.kept) c.closure_params.ensures.gives

pub returns-clause-kept : goal.returns-clause-kept
returns-clause-kept c =
    let before = c.args.checker.now in
    let captures = reverse c.args.captures.now in
    let second = c.enter_bound.new.checker in
    head_kept c.begin-begun.result before second c.closure_params.new.checker c.closure_params.result
    (c.in_ok-enter_bound.ensures.others.0 ∙ c.begin-begun.ensures.stack) (c.in_ok-enter_bound.ensures.others.2 ∙ c.begin-begun.ensures.tables)
    (ap (λ (e : Env). e.loops) (c.in_ok-enter_bound.ensures.entered ∙ ap (with_variables captures) c.begin-begun.ensures.alone))
    c.begin-begun.ensures.aside c.closure_params.ensures.kept
