use Rattle.std.proofs.Common.{rules, ◌≡◌, false, List, [], Result, Ok, Err, ap, reverse, subst, sym, ◌∙◌}
use Rattle.typeck_heads.specs.Answers.{Refuses}
use Rattle.mir_base.specs.declared.rule.RuleError.{RuleError}
use Rattle.src_ast.specs.Seen.{maybe_of, nodes_of}
use Rattle.typeck_checker.specs.Stand.{env, stack, state}
use Rattle.typed_tree.specs.Tree.{BodyTree, ParamTree}
use Rattle.typing_rules.specs.Bodies.{params_of}
use Rattle.typing_rules.specs.Check.{Check}
use Rattle.typing_rules.specs.Rows.{Typer}
use Rattle.typing_rules.specs.Scope.{NamedEntry, Env}
use Rattle.typeck_bodies.specs.ParamAnswers.{last_param, last_params}
use Rattle.typeck_bodies.specs.ParamForms.{type_by}
use Rattle.typeck_bodies.specs.Heads.{GivesBlock, answered, closure_inside}
use Rattle.typeck_bodies.specs.declared.scopes.BodyHead.{BodyHead}
use Rattle.typeck_bodies.proofs.Bodies.{below_first, first_param, self_given, self_params_refused, self_refused}
use Rattle.typeck_bodies.proofs.Answered.{self_kept, through}
use Rattle.typeck_bodies.proofs.heads.closure_params.Goals as goal

pub returns-clause-gives : goal.returns-clause-gives
returns-clause-gives c =
    let before = c.args.checker.now in
    let first = c.name_param.new.checker in
    let second = c.params_of.new.checker in
    let e = env before in
    let ps = nodes_of c.args.params in
    let a = maybe_of c.args.answer in
    let n = c.args.number in
    let later = c.in_ok-later.later in
    let tys = c.in_ok-tys.tys in
    let entries = reverse c.params_of.new.bound in
    let self = last_param c.args.ty (stack first) in
    let here : params_of (env first) (type_by (env first) false) ps [] (state first) ≡ Ok ((last_params later (stack second), entries), state second) =
    ap (λ (xs : List NamedEntry). params_of (env first) (type_by (env first) false) ps (reverse xs) (state first)) (sym c.new-bound.ensures) ∙ c.in_ok-later.ensures.gives in
    through (closure_inside c.args.too_many c.args.at n c.args.ty e ps a) (answered c.args.too_many c.args.at n (last_params tys (stack second)) (env second) a entries) (state before) (state second) c.block_scope.result c.block_scope.new.checker
    (λ block.
    self_given c.args.too_many c.args.at n c.args.ty e (env first) (env second) ps a block self _ (last_params later (stack second)) entries (state before) (state first) (state second)
    c.in_ok-name_param.ensures.gives c.in_ok-name_param.ensures.kept.1.0 here c.in_ok-later.ensures.kept.1.0
    ∙ ap (λ (params : List ParamTree). answered c.args.too_many c.args.at n params (env second) a entries block (state second)) (sym (first_param c.args.ty later tys (stack first) (stack second) c.in_ok-later.ensures.kept.0 c.in_ok-tys.ensures.all)))
    c.block_scope.ensures.gives

pub returns-clause-kept : goal.returns-clause-kept
returns-clause-kept c =
    let before = c.args.checker.now in
    let first = c.name_param.new.checker in
    let second = c.params_of.new.checker in
    self_kept c.args.begun c.in_ok-tys.tys before second c.block_scope.new.checker c.block_scope.result
    (below_first c.args.ty c.in_ok-later.later c.in_ok-tys.tys (stack first) (stack second) (stack before) c.in_ok-later.ensures.kept.0 c.in_ok-name_param.ensures.kept.0 c.in_ok-tys.ensures.all)
    (c.in_ok-later.ensures.kept.1.0 ∙ c.in_ok-name_param.ensures.kept.1.0, c.in_ok-later.ensures.kept.1.1 ∙ c.in_ok-name_param.ensures.kept.1.1)
    c.block_scope.ensures.kept

pub returns-in_err-name_param-clause-gives : goal.returns-in_err-name_param-clause-gives
returns-in_err-name_param-clause-gives c =
    let before = c.args.checker.now in
    let err = c.in_err-name_param.field-0.0 in
    let ps = nodes_of c.args.params in
    let a = maybe_of c.args.answer in
    let check : (Env → Typer) → Check BodyTree = closure_inside c.args.too_many c.args.at c.args.number c.args.ty (env before) ps a in
    let is : ◌≡◌ {A = Result BodyHead RuleError} c.from_residual.result (Err err) = search rules in
    subst (λ (r : Result BodyHead RuleError). GivesBlock check (state before) r c.name_param.new.checker) (sym is)
    (λ block. self_refused c.args.too_many c.args.at c.args.number c.args.ty (env before) ps a block (state before) err c.in_err-name_param.ensures.gives)

pub returns-in_err-later-clause-gives : goal.returns-in_err-later-clause-gives
returns-in_err-later-clause-gives c =
    let before = c.args.checker.now in
    let first = c.name_param.new.checker in
    let err = c.in_err-later.field-0.0 in
    let ps = nodes_of c.args.params in
    let a = maybe_of c.args.answer in
    let check : (Env → Typer) → Check BodyTree = closure_inside c.args.too_many c.args.at c.args.number c.args.ty (env before) ps a in
    let is : ◌≡◌ {A = Result BodyHead RuleError} c.from_residual-in_err-later.result (Err err) = search rules in
    let here : Refuses (params_of (env first) (type_by (env first) false) ps [] (state first)) err =
    subst (λ (xs : List NamedEntry). Refuses (params_of (env first) (type_by (env first) false) ps (reverse xs) (state first)) err) c.new-bound.ensures c.in_err-later.ensures.gives in
    subst (λ (r : Result BodyHead RuleError). GivesBlock check (state before) r c.params_of.new.checker) (sym is)
    (λ block. self_params_refused c.args.too_many c.args.at c.args.number c.args.ty (env before) (env first) ps a block (last_param c.args.ty (stack first)) _ (state before) (state first) err
    c.in_ok-name_param.ensures.gives c.in_ok-name_param.ensures.kept.1.0 here)
