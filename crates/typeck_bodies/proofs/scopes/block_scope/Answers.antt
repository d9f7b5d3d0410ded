use Rattle.std.proofs.Common.{rules, ◌≡◌, List, Result, Err, ap, reverse, subst, sym, ◌∙◌}
use Rattle.mir_base.specs.declared.rule.RuleError.{RuleError}
use Rattle.src_ast.specs.Seen.{maybe_of}
use Rattle.typeck_checker.specs.Stand.{env, stack, state}
use Rattle.typed_tree.specs.Tree.{BodyTree, Node}
use Rattle.typing_rules.specs.Check.{Check}
use Rattle.typing_rules.specs.Rows.{Typer}
use Rattle.typing_rules.specs.Scope.{Env}
use Rattle.typeck_bodies.specs.ParamAnswers.{last_params}
use Rattle.typeck_bodies.specs.Heads.{GivesBlock, answered, block_rest}
use Rattle.typeck_bodies.specs.declared.scopes.BodyHead.{BodyHead}
use Rattle.typeck_bodies.proofs.Bodies.{scope_given, scope_refused}
use Rattle.typeck_bodies.proofs.scopes.block_scope.Goals as goal

pub returns-clause-gives : goal.returns-clause-gives
returns-clause-gives c =
    λ block.
    let before = c.args.checker.now in
    let first = c.answer_of.new.checker in
    let second = c.begin_block-around.new.checker in
    let third = c.enter_bound.new.checker in
    let ty = c.in_ok-ty.ty in
    scope_given c.args.too_many c.args.at c.args.number (last_params c.args.params (stack before)) (env before) (env first) (env second) (env third) (maybe_of c.args.answer) (reverse c.args.bound.now) block ty (state before) (state first) (state third)
    c.in_ok-ty.ensures.gives c.in_ok-ty.ensures.same.1.0 c.begin_block-around.ensures.block c.in_ok-enter_bound.ensures.entered (c.in_ok-enter_bound.ensures.others.1 ∙ c.begin_block-around.ensures.others.1)
    ∙ ap (λ (ns : List Node). block_rest c.args.too_many c.args.at c.args.number (last_params c.args.params ns) ty block (env third) (state third)) (sym (c.in_ok-enter_bound.ensures.others.0 ∙ (c.begin_block-around.ensures.others.0 ∙ c.in_ok-ty.ensures.same.0)))

pub returns-in_err-ty-clause-gives : goal.returns-in_err-ty-clause-gives
returns-in_err-ty-clause-gives c =
    let before = c.args.checker.now in
    let err = c.in_err-ty.field-0.0 in
    let params = last_params c.args.params (stack before) in
    let check : (Env → Typer) → Check BodyTree = answered c.args.too_many c.args.at c.args.number params (env before) (maybe_of c.args.answer) (reverse c.args.bound.now) in
    let is : ◌≡◌ {A = Result BodyHead RuleError} c.from_residual.result (Err err) = search rules in
    subst (λ (r : Result BodyHead RuleError). GivesBlock check (state before) r c.answer_of.new.checker) (sym is)
    (λ block. scope_refused c.args.too_many c.args.at c.args.number params (env before) (maybe_of c.args.answer) (reverse c.args.bound.now) block (state before) err c.in_err-ty.ensures.gives)
