use Rattle.src_ast.proofs.Walked.{has_here}
use Rattle.src_ast.proofs.tokens.has.Goals as goal

pub returns-in-loop-piece : goal.returns-in-loop-piece
returns-in-loop-piece c = has_here c.args.pieces.now c.loop-piece.piece-index c.piece-item.result c.loop-piece-test.true c.piece-item.is c.args.kind c.in-Token.token c.in-Token.is c.if-is.ensures c.loop-piece.invariant
