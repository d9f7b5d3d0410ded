use Rattle.std.proofs.Common.{◌∙◌, ℕ, sym, ap}
use Rattle.cfg_graph.specs.declared.terminator.Unwind.{Unwind}
use Rattle.lower_rules.specs.Build as build
use Rattle.lower_rules.specs.Build.{LoweringFrame, Building}
use Rattle.lower_passes.specs.Framed.{frame_of}
use Rattle.lower_blocks.specs.Building.{building_of}
use Rattle.lower_blocks.proofs.KnownDown.{unwound_above}
use Rattle.lower_blocks.proofs.blocks.Blocks.unwind_above.Goals as goal

pub returns : goal.returns
returns c = λ e es is_key known.
    let f : LoweringFrame = frame_of c.args.frame in
    let mid : Building = building_of c.chain_below.new.self in
    unwound_above f e es c.in_ok-onward.onward (building_of c.args.self.now) mid
    (c.in_ok-block.block, building_of c.add_to_chain.new.self)
    (c.in_ok-onward.ensures es known)
    (c.in_ok-block.ensures ∙ ap (λ (k : ℕ). build.share f (build.DropsThen k c.in_ok-onward.onward Unwind.Abort) mid)
    (sym is_key))
