use Rattle.src_ast.proofs.Walked.{word_here, no_word}
use Rattle.src_ast.proofs.item.behind.Goals as goal

pub returns-in-loop-i : goal.returns-in-loop-i
returns-in-loop-i c = word_here c.args.pieces.now c.loop-i.i c.index-pieces-i.result c.loop-i-test.true c.index-pieces-i.is c.args.word c.in-Token.token c.in-Token.is c.if-is.ensures c.loop-i.invariant

pub returns : goal.returns
returns c = no_word c.args.pieces.now c.loop-i.i c.args.word c.loop-i-test.false c.loop-i.invariant
