use Rattle.std.proofs.Common.{◌∙◌, List, refl, sym, ap}
use Rattle.lower_rules.specs.Build.{LoweringFrame, BlockRest, Building, drops_before}
use Rattle.lower_passes.specs.Framed.{frame_of}
use Rattle.lower_passes.specs.Scoped.{held, scopes_of}
use Rattle.src_meaning.specs.Scopes.{Entry, Scopes, needing_drop}
use Rattle.lower_blocks.specs.Building.{building_of}
use Rattle.lower_blocks.proofs.blocks.Blocks.drops_before.Goals as goal

pub returns-then-drops_none : goal.returns-then-drops_none
returns-then-drops_none c =
    sym (ap (λ (es : List Entry). drops_before (frame_of c.args.frame) es (scopes_of c.args.around.now)
    (c.args.to, building_of c.args.self.now))
    (c.if-drops_none.ensures.0 refl))

pub returns : goal.returns
returns c =
    let f : LoweringFrame = frame_of c.args.frame in
    let S : Scopes = scopes_of c.args.around.now in
    let es : List Entry = needing_drop c.args.frame.items.now (held c.args.entries.now) in
    ap (λ (s : Building). (c.in_ok-number.number, s)) c.keep_room.ensures.building
    ∙ (c.in_ok-number.ensures S c.in_ok-below.ensures.below).0
    ∙ ap (λ (r : BlockRest × Building). drops_before f es S (c.args.to, r.1)) c.in_ok-below.ensures.built
