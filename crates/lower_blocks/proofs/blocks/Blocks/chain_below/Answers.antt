use Rattle.std.proofs.Common.{◌∙◌}
use Rattle.std.proofs.lemmas.Result.{MatchResult-weaker}
use Rattle.lower_passes.specs.Framed.{frame_of}
use Rattle.lower_blocks.specs.Building.{building_of}
use Rattle.lower_blocks.proofs.KnownDown.{chain_at, chain_resumed}
use Rattle.lower_blocks.proofs.blocks.Blocks.chain_below.Goals as goal

pub returns-in-Block : goal.returns-in-Block
returns-in-Block c = λ es known.
    chain_at (frame_of c.args.frame) es (building_of c.args.self.now) c.args.unwind c.in-Block.block c.in-Block.is known

pub returns-in-Resume : goal.returns-in-Resume
returns-in-Resume c =
    MatchResult-weaker c.share.result c.share.ensures
    (λ number made es known.
    made ∙ chain_resumed (frame_of c.args.frame) es (building_of c.args.self.now) c.args.unwind c.in-Resume.is known)
    (λ error is. is)
