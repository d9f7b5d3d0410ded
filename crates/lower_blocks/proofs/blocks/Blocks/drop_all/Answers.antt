use Rattle.std.proofs.Common.{◌∙◌, List, refl, sym, ap}
use Rattle.lower_rules.specs.Build.{LoweringFrame, BlockRest, Building, drop_all}
use Rattle.lower_blocks.specs.Building.{rest_of, building_of}
use Rattle.lower_passes.specs.Framed.{frame_of}
use Rattle.lower_passes.specs.Scoped.{held, scopes_of}
use Rattle.src_meaning.specs.Scopes.{Entry, Scopes, needing_drop}
use Rattle.lower_blocks.proofs.blocks.Blocks.drop_all.Goals as goal

pub returns-then-drops_none : goal.returns-then-drops_none
returns-then-drops_none c =
    sym (ap (λ (es : List Entry). drop_all (frame_of c.args.frame) es (scopes_of c.args.around.now)
    (rest_of c.args.self.now.rest) (building_of c.args.self.now))
    (c.if-drops_none.ensures.0 refl))

pub returns : goal.returns
returns c =
    let f : LoweringFrame = frame_of c.args.frame in
    let S : Scopes = scopes_of c.args.around.now in
    let es : List Entry = needing_drop c.args.frame.items.now (held c.args.entries.now) in
    (λ i. (c.keep_room.ensures.rest i, c.keep_room.ensures.building i))
    ∙ (c.in_ok-drop_each.ensures S c.in_ok-below.ensures.below).0
    ∙ ap (λ (r : BlockRest × Building). drop_all f es S r.0 r.1) c.in_ok-below.ensures.built
