use Rattle.drop_blocks.proofs.Begins.{added}
use Rattle.drop_blocks.proofs.blocks.NewBlocks.add.Goals as goal

pub returns : goal.returns
returns c =
    added c.args.self.now.first c.in_ok-number.number c.args.self.now.made c.push.new.self c.args.kind c.args.stmts
    c.args.term c.in_ok-number.ensures c.in_ok-push.ensures.pushed
