use Rattle.listing_write.proofs.Counting.{told_more}
use Rattle.look_draw.specs.Drawings.{stmt_line}
use Rattle.look_draw.proofs.drawings.put_stmt_lines.Goals as goal

pub loop-at-preserved : goal.loop-at-preserved
loop-at-preserved c =
    told_more (stmt_line c.args.items.now c.args.sites.now c.args.body c.args.block) _ _ _ c.args.stmts.now c.loop-at.at c.index-stmts-at.result c.loop-at-test.true c.index-stmts-at.is c.loop-at.invariant c.in_ok-put_stmt_line.ensures
