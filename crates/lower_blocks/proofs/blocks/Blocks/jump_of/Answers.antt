use Rattle.std.proofs.Common.{rules}
use Rattle.lower_blocks.proofs.Jumps.{behind_lines, for_a_node}
use Rattle.lower_blocks.proofs.blocks.Blocks.jump_of.Goals as goal
use Rattle.lower_blocks.proofs.blocks.Blocks.jump_of.Goals.{then-self-ne0-via-then-self-ne0, then-self-ne0-via-else-self-ne0+then-not-is_empty}

pub returns-then-self-ne0 : goal.returns-then-self-ne0
returns-then-self-ne0 c =
    elim c.then-self-ne0.branch [
      | then-self-ne0-via-then-self-ne0 w ↦ for_a_node c.args.self.now.rest w.if-self-ne0.true
      | then-self-ne0-via-else-self-ne0+then-not-is_empty w ↦ behind_lines c.args.self.now.rest (search rules)
    ]
