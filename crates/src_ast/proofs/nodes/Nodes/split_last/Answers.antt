use Rattle.std.proofs.Common.{◌≤◌, length, arith}
use Rattle.src_ast.proofs.Ends.{last_at, earlier_at, token_at}
use Rattle.src_ast.proofs.nodes.Nodes.split_last.Goals as goal

pub returns-in-Node-clause-last : goal.returns-in-Node-clause-last
returns-in-Node-clause-last c =
    last_at c.args.self.pieces.now c.loop-left.left c.index-pieces-left.result c.loop-left-test.true c.loop-left.invariant.1 c.index-pieces-left.is c.loop-left.invariant.0
    c.in-Node.last c.in-Node.is

pub returns-in-Node-clause-earlier : goal.returns-in-Node-clause-earlier
returns-in-Node-clause-earlier c =
    earlier_at c.args.self.pieces.now c.loop-left.left c.index-pieces-left.result c.loop-left-test.true c.loop-left.invariant.1 c.index-pieces-left.is c.loop-left.invariant.0
    c.in-Node.last c.in-Node.is

pub loop-left-preserved : goal.loop-left-preserved
loop-left-preserved c =
    let within : c.loop-left.left ≤ length c.args.self.pieces.now = c.loop-left.invariant.1 in (
      token_at c.args.self.pieces.now c.loop-left.left c.index-pieces-left.result c.loop-left-test.true c.loop-left.invariant.1 c.index-pieces-left.is c.loop-left.invariant.0
          c.in_default.field-0 c.in_default.is,
      omega arith,
    )
