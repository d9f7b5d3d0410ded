use Rattle.look_marked.proofs.MarkedMore.{blocks_go_on}
use Rattle.look_marked.proofs.marked.add_blocks.Goals as goal

pub loop-block-preserved : goal.loop-block-preserved
loop-block-preserved c =
    blocks_go_on c.args.out.now c.loop-block.out c.add_block.new.out c.args.n.now c.loop-block.n c.add_block.new.n c.loop-block.yielded
    c.in-Some.block c.loop-block.invariant c.in_ok-add_block.ensures
