use Rattle.name_table.proofs.ItemWalk.{more_paths}
use Rattle.name_table.proofs.known_names.body_paths.Goals as goal

pub loop-piece-preserved : goal.loop-piece-preserved
loop-piece-preserved c =
    more_paths _ _ _ c.args.pieces.now c.loop-piece.piece-index c.piece-item.result
    c.loop-piece-test.true c.piece-item.is c.loop-piece.invariant c.in_ok-add_item_at.ensures.found
