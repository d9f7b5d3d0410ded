use Rattle.std.proofs.Common.{Option, Result, arith, subst, sym}
use Rattle.typeck_heads.specs.Answers.{Refuses}
use Rattle.mir_ty.specs.declared.ty.TyId.{TyId}
use Rattle.src_ast.specs.Seen.{maybe_of, nodes_of}
use Rattle.typeck_checker.specs.Stand.{GivesValue, env, stack, state}
use Rattle.typed_tree.specs.Tree.{Node}
use Rattle.typing_rules.specs.Bodies.{fn_body}
use Rattle.typing_rules.specs.Check.{Broken, Check, TypingState}
use Rattle.typing_rules.specs.Program.{block_of}
use Rattle.typing_rules.specs.Scope.{Env}
use Rattle.typeck_bodies.specs.Aside.{alone}
use Rattle.typeck_bodies.specs.Heads.{unvalued}
use Rattle.typeck_bodies.proofs.Bodies.{block_given, block_refused, returned_if}
use Rattle.type_check.proofs.functions.fn_body.Goals as goal

pub returns-clause-gives : goal.returns-clause-gives
returns-clause-gives c =
    let middle = c.fn_head.new.checker in
    let after = c.block_of.new.checker in
    let head = c.in_ok-head.head in
    let block : Env → Option TyId → Check Node = block_of (maybe_of c.args.block) c.args.at in
    subst (λ (o : Result (Unit {0} × TypingState) Broken). GivesValue (λ u. u) o c.body_end.result c.body_end.new.checker)
    (sym (block_given head _ block (env middle) (stack middle) (stack after) (state middle) (state after) (c.in_ok-head.ensures.gives block) c.in_ok-block_of.ensures.gives c.in_ok-block_of.ensures.kept.0))
    c.body_end.ensures.gives

pub returns-clause-same : goal.returns-clause-same
returns-clause-same c =
    returned_if c.in_ok-head.head c.args.checker.now c.fn_head.new.checker c.block_of.new.checker c.body_end.new.checker c.body_end.result c.in_ok-head.ensures.kept c.in_ok-block_of.ensures.kept.0 c.in_ok-block_of.ensures.kept.1 c.body_end.ensures.kept

pub returns-in_err-head-clause-gives : goal.returns-in_err-head-clause-gives
returns-in_err-head-clause-gives c =
    let before = c.args.checker.now in
    let block : Env → Option TyId → Check Node = block_of (maybe_of c.args.block) c.args.at in
    let refused : Refuses (unvalued (fn_body (alone (env before)) c.args.at (nodes_of c.args.params) (maybe_of c.args.answer) block) (state before)) c.in_err-head.field-0.0 =
    c.in_err-head.ensures.gives block in
    grind (arith, refused)
