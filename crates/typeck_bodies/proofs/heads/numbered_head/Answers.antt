use Rattle.std.proofs.Common.{rules, ◌≡◌, true, List, [], Result, Ok, Err, ap, reverse, subst, sym, ◌∙◌}
use Rattle.mir_base.specs.declared.rule.Rule.{Rule}
use Rattle.mir_base.specs.declared.rule.RuleError.{RuleError}
use Rattle.typed_tree.specs.Tree.{BodyTree}
use Rattle.typing_rules.specs.Bodies.{params_of}
use Rattle.typing_rules.specs.Rows.{Typer}
use Rattle.typeck_heads.specs.Answers.{Refuses}
use Rattle.src_ast.specs.Seen.{maybe_of, nodes_of}
use Rattle.typeck_checker.specs.Stand.{env, stack, state}
use Rattle.typing_rules.specs.Check.{Broken, Check, TypingState}
use Rattle.typing_rules.specs.Scope.{NamedEntry, Env}
use Rattle.typeck_bodies.specs.ParamForms.{type_by}
use Rattle.typeck_bodies.specs.ParamAnswers.{last_params}
use Rattle.typeck_bodies.specs.Aside.{alone}
use Rattle.typeck_bodies.specs.Heads.{GivesHead, answered, closed, fn_inside, numbered_fn}
use Rattle.typeck_bodies.specs.declared.scopes.BodyHead.{BodyHead}
use Rattle.typeck_bodies.proofs.Bodies.{closed_by, params_given, params_refused, refused_closed}
use Rattle.typeck_bodies.proofs.Answered.{block_outer, head_kept, self_kept, whole}
use Rattle.typeck_bodies.proofs.heads.numbered_head.Goals as goal

pub returns-clause-gives : goal.returns-clause-gives
returns-clause-gives c =
    let before = c.args.checker.now in
    let first = c.begin-begun.new.checker in
    let second = c.params_of.new.checker in
    let ps = nodes_of c.args.params in
    let a = maybe_of c.args.answer in
    let here : params_of (env first) (type_by (env first) true) ps [] (state first) ≡ Ok ((last_params c.in_ok-tys.tys (stack second), reverse c.params_of.new.bound), state second) =
    ap (λ (xs : List NamedEntry). params_of (env first) (type_by (env first) true) ps (reverse xs) (state first)) (sym c.new-bound.ensures) ∙ c.in_ok-tys.ensures.gives in
    whole (numbered_fn c.args.at c.args.number (alone (env before)) ps a)
    (answered Rule.T19 c.args.at c.args.number (last_params c.in_ok-tys.tys (stack second)) (env second) a (reverse c.params_of.new.bound))
    c.begin-begun.result.outer (state before) (state second) c.block_scope.result c.block_scope.new.checker
    (λ block.
    closed_by c.begin-begun.result.outer (state before) (state first) (fn_inside c.args.at c.args.number (alone (env before)) ps a block) c.begin-begun.ensures.outer c.begin-begun.ensures.state
    ∙ ap (closed c.begin-begun.result.outer) (ap (λ (e : Env). fn_inside c.args.at c.args.number e ps a block (state first)) (sym c.begin-begun.ensures.alone)
    ∙ params_given c.args.at c.args.number (env first) (env second) ps a block _ _ (state first) (state second) here c.in_ok-tys.ensures.kept.1.0))
    (block_outer c.begin-begun.result c.in_ok-tys.tys second c.block_scope.new.checker c.block_scope.result c.block_scope.ensures.kept) c.block_scope.ensures.gives

pub returns-clause-kept : goal.returns-clause-kept
returns-clause-kept c =
    let before = c.args.checker.now in
    let first = c.begin-begun.new.checker in
    let second = c.params_of.new.checker in
    head_kept c.begin-begun.result before first c.block_scope.new.checker c.block_scope.result
    c.begin-begun.ensures.stack c.begin-begun.ensures.tables (ap (λ (e : Env). e.loops) c.begin-begun.ensures.alone) c.begin-begun.ensures.aside
    (self_kept c.begin-begun.result c.in_ok-tys.tys first second c.block_scope.new.checker c.block_scope.result c.in_ok-tys.ensures.kept.0 c.in_ok-tys.ensures.kept.1 c.block_scope.ensures.kept)

pub returns-in_err-tys-clause-gives : goal.returns-in_err-tys-clause-gives
returns-in_err-tys-clause-gives c =
    let before = c.args.checker.now in
    let first = c.begin-begun.new.checker in
    let outer = c.begin-begun.result.outer in
    let err = c.in_err-tys.field-0.0 in
    let ps = nodes_of c.args.params in
    let a = maybe_of c.args.answer in
    let check : (Env → Typer) → Check BodyTree = numbered_fn c.args.at c.args.number (alone (env before)) ps a in
    let is : ◌≡◌ {A = Result BodyHead RuleError} c.from_residual.result (Err err) = search rules in
    let here : Refuses (params_of (env first) (type_by (env first) true) ps [] (state first)) err =
    subst (λ (xs : List NamedEntry). Refuses (params_of (env first) (type_by (env first) true) ps (reverse xs) (state first)) err) c.new-bound.ensures c.in_err-tys.ensures.gives in
    subst (λ (r : Result BodyHead RuleError). GivesHead check (state before) r c.params_of.new.checker) (sym is)
    (λ block.
    subst (λ (o : Result (Unit {0} × TypingState) Broken). Refuses o err)
    (sym (closed_by outer (state before) (state first) (fn_inside c.args.at c.args.number (alone (env before)) ps a block) c.begin-begun.ensures.outer c.begin-begun.ensures.state
    ∙ ap (λ (e : Env). closed outer (fn_inside c.args.at c.args.number e ps a block (state first))) (sym c.begin-begun.ensures.alone)))
    (refused_closed outer _ err (params_refused c.args.at c.args.number (env first) ps a block (state first) err here)))
