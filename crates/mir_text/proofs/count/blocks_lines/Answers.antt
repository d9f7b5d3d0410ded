-- One block more.
use Rattle.std.proofs.Common.{rules, ◌≡◌, ◌+◌, length, arith}
use Rattle.mir_text.proofs.Counting.{one_block}
use Rattle.mir_text.proofs.count.blocks_lines.Goals as goal

pub loop-block-preserved : goal.loop-block-preserved
loop-block-preserved c =
    let one = one_block c.args.blocks.now c.loop-block.block-index c.block-item.result c.loop-block-test.true c.block-item.is in
    let stmts : c.in_ok-stmts.stmts ≡ length c.block-item.result.stmts = search rules in
    let two : c.in_ok-checked_add.field-0 ≡ c.loop-block.lines + 2 = search rules in
    let all : c.in_ok-lines.lines ≡ c.in_ok-checked_add.field-0 + c.in_ok-stmts.stmts = search rules in
    let before = c.loop-block.invariant in
    omega (arith, one, stmts, two, all, before)
