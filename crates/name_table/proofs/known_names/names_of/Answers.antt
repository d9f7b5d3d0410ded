use Rattle.src_ast.specs.Seen.{word_of}
use Rattle.name_table.specs.Forms.{sought}
use Rattle.name_table.proofs.ItemWalk.{told_more}
use Rattle.name_table.proofs.known_names.names_of.Goals as goal

pub loop-piece-preserved : goal.loop-piece-preserved
loop-piece-preserved c =
    told_more (sought c.args.sort) _ _ _ c.args.pieces.now c.loop-piece.piece-index c.piece-item.result (word_of c.sought_at.result)
    c.loop-piece-test.true c.piece-item.is c.loop-piece.invariant c.sought_at.ensures c.in_ok-names.ensures.named
