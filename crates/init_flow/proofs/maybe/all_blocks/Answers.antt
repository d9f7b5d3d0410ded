use Rattle.std.proofs.Common.{◌≡◌, ◌+◌, ◌<◌, ◌++◌, ◌∷◌, [], List, take, length, get_or, Some, ap, sym, ◌∙◌, subst, arith}
use Rattle.std.proofs.lemmas.List.{take_more}
use Rattle.cfg_graph.specs.declared.graph.Block.{Block}
use Rattle.move_paths.specs.declared.uses.Used.{Used}
use Rattle.move_paths.specs.Uses.{listed, inner_uses}
use Rattle.init_flow.specs.declared.switches.BlockSwitches.{BlockSwitches}
use Rattle.init_flow.specs.Fits.{AreWays, FitsBlock}
use Rattle.init_flow.proofs.Starting.{ways-more}
use Rattle.init_flow.proofs.maybe.all_blocks.Goals as goal

pub block_switches-requires : goal.block_switches-requires
block_switches-requires c =
    ap listed c.as_slice.ensures ∙ c.in_ok-add_inner_uses.ensures ∙ ap (λ (z : List Used). listed z ++ inner_uses c.block-item.result) c.truncate.ensures

pub loop-block-preserved : goal.loop-block-preserved
loop-block-preserved c =
    let paths = c.args.forest.now.paths in
    let body = c.args.body.now in
    let item : Block = c.block-item.result in
    let i = c.loop-block.block-index in
    let blocks = c.as_slice-block-items.ensures in
    let within : i < length body.blocks = (let k = ap length blocks in let t = c.loop-block-test.true in omega (k, t, arith)) in
    let more : take (i + 1) body.blocks ≡ take i body.blocks ++ item ∷ [] =
    take_more body.blocks i item within
    ∙ ap (λ (block : Block). take i body.blocks ++ block ∷ []) (ap (λ (z : List Block). get_or z i item) (sym blocks) ∙ sym c.block-item.is) in
    subst (AreWays paths c.push.new.self) (sym more)
    (subst (λ (z : List BlockSwitches). AreWays paths z (take i body.blocks ++ item ∷ [])) (sym c.in_ok-push.ensures.pushed)
    (ways-more paths c.loop-block.made (take i body.blocks) c.in_ok-block_switches.field-0 item c.loop-block.invariant c.in_ok-block_switches.ensures))
