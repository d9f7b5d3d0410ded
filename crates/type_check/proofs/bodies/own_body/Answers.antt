use Rattle.std.proofs.Common.{subst}
use Rattle.src_ast.specs.Seen.{maybe_of, nodes_of}
use Rattle.typeck_checker.specs.Stand.{GivesValue, env, state}
use Rattle.typing_rules.specs.Scope.{Env}
use Rattle.type_check.specs.Forms.{fn_check}
use Rattle.type_check.proofs.Outside.{alone_is}
use Rattle.type_check.proofs.bodies.own_body.Goals as goal

pub returns-clause-gives : goal.returns-clause-gives
returns-clause-gives c =
    let f = c.args.function in
    subst (λ (z : Env). GivesValue (λ u. u) (fn_check z c.args.at (nodes_of f.params) (maybe_of f.answer) (maybe_of f.block) (state c.args.checker.now)) c.fn_body.result c.fn_body.new.checker)
    (alone_is (env c.args.checker.now) c.requires) c.fn_body.ensures.gives
