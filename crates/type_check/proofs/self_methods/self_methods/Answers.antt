use Rattle.type_check.proofs.SelfForms.{one_piece}
use Rattle.type_check.proofs.self_methods.self_methods.Goals as goal

pub loop-piece-preserved : goal.loop-piece-preserved
loop-piece-preserved c =
    one_piece _ _ _ c.args.pieces.now c.loop-piece.piece-index c.piece-item.result
    c.loop-piece-test.true c.piece-item.is c.loop-piece.invariant c.in_ok-names.ensures
