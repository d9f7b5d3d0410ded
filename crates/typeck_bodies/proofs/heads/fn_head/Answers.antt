use Rattle.src_ast.specs.Seen.{maybe_of, nodes_of}
use Rattle.typeck_checker.specs.Stand.{env, state}
use Rattle.typing_rules.specs.Bodies.{fn_body}
use Rattle.typeck_bodies.specs.Aside.{alone}
use Rattle.typeck_bodies.specs.Heads.{numbered_fn}
use Rattle.typeck_bodies.proofs.Bodies.{fn_numbered}
use Rattle.typeck_bodies.proofs.Answered.{numbered_kept, through_head}
use Rattle.typeck_bodies.proofs.heads.fn_head.Goals as goal

pub returns-clause-gives : goal.returns-clause-gives
returns-clause-gives c =
    let before = c.args.checker.now in
    let first = c.body_number.new.checker in
    let ps = nodes_of c.args.params in
    let a = maybe_of c.args.answer in
    through_head (fn_body (alone (env before)) c.args.at ps a) (numbered_fn c.args.at c.in_ok-number.number (alone (env first)) ps a) (state before) (state first) c.numbered_head.result c.numbered_head.new.checker
    (λ block. fn_numbered c.args.at c.in_ok-number.number (env before) (env first) ps a block (state before) (state first) c.in_ok-number.ensures.gives c.in_ok-number.ensures.same.1.0)
    c.numbered_head.ensures.gives

pub returns-clause-kept : goal.returns-clause-kept
returns-clause-kept c =
    numbered_kept c.args.checker.now c.body_number.new.checker c.numbered_head.new.checker c.numbered_head.result c.in_ok-number.ensures.same c.numbered_head.ensures.kept
