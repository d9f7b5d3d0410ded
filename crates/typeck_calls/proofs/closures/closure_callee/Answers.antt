use Rattle.std.proofs.Common.{ap, ◌∙◌}
use Rattle.typeck_calls.proofs.CalledClosures.{closure_given, closure_none}
use Rattle.typeck_calls.specs.Closures.{body_seen}
use Rattle.typeck_checker.specs.Stand.{stack, state, top}
use Rattle.typeck_calls.proofs.closures.closure_callee.Goals as goal

pub returns-in_ok-callee-in-Some : goal.returns-in_ok-callee-in-Some
returns-in_ok-callee-in-Some c =
    let now = c.args.checker.now in
    record {
      gives = λ id at expected count args.
          closure_given id at expected (top (stack now)) count args (state now) c.in-Some.body c.in_ok-callee-in-Some.callee
          (c.in-Some.ensures ∙ ap (body_seen now.walk.items) c.last_ty.ensures) c.in_ok-callee-in-Some.ensures.callee;
    }

pub returns-in-None : goal.returns-in-None
returns-in-None c =
    let now = c.args.checker.now in
    record {
      gives = λ id at expected count args.
          closure_none id at expected (top (stack now)) count args (state now) c.no_closure.result
          (c.in-None.ensures ∙ ap (body_seen now.walk.items) c.last_ty.ensures) (c.no_closure.ensures 0);
    }
