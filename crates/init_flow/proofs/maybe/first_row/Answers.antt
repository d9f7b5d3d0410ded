use Rattle.std.proofs.Common.{arith}
use Rattle.init_flow.proofs.Starting.{start-all}
use Rattle.init_flow.proofs.maybe.first_row.Goals as goal

pub returns : goal.returns
returns c =
    start-all c.args.forest.now.paths c.args.body.now c.args.gone c.loop-path.row c.loop-path.path c.loop-path.invariant.0
    (let far = c.loop-path-test.false in let count = c.len-count.ensures.len in omega (far, count, arith))
    c.loop-path.invariant.1
