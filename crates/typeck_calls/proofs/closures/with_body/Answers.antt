use Rattle.std.proofs.Common.{ap, ◌∙◌}
use Rattle.typeck_calls.specs.Closures.{closure_seen}
use Rattle.typeck_calls.proofs.closures.with_body.Goals as goal

pub returns-in-None-clause-callee : goal.returns-in-None-clause-callee
returns-in-None-clause-callee c = c.no_closure.ensures c.args.body ∙ ap (closure_seen c.args.body) c.in-None.ensures.value
