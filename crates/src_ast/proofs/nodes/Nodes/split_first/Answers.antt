use Rattle.src_ast.proofs.Walked.{node_first, past_token}
use Rattle.src_ast.proofs.nodes.Nodes.split_first.Goals as goal

pub returns-in-Node : goal.returns-in-Node
returns-in-Node c = node_first c.args.self.pieces.now c.loop-i.i c.piece-item.result c.loop-i-test.true c.piece-item.is c.in-Node.first c.in-Node.is c.loop-i.invariant

pub loop-i-preserved : goal.loop-i-preserved
loop-i-preserved c = past_token c.args.self.pieces.now c.loop-i.i c.piece-item.result c.loop-i-test.true c.piece-item.is c.in_default.field-0 c.in_default.is c.loop-i.invariant
