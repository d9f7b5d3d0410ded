use Rattle.std.proofs.Common.{◌∙◌, List, ap}
use Rattle.lower_rules.specs.Build.{LoweringFrame, BlockRest, Building, drops_to}
use Rattle.lower_passes.specs.Framed.{frame_of}
use Rattle.lower_passes.specs.Scoped.{held, scopes_of}
use Rattle.src_meaning.specs.Scopes.{Entry, Scopes, needing_drop}
use Rattle.lower_blocks.proofs.blocks.Blocks.drops_to.Goals as goal

pub returns : goal.returns
returns c = λ none some.
    let f : LoweringFrame = frame_of c.args.frame in
    let S : Scopes = scopes_of c.args.around.now in
    let es : List Entry = needing_drop c.args.frame.items.now (held c.args.entries.now) in
    (λ i. (c.keep_room.ensures.rest i, c.keep_room.ensures.building i))
    ∙ c.in_ok-youngest_to.ensures S none c.in_ok-below.ensures.below some
    ∙ ap (λ (r : BlockRest × Building). drops_to f es S (c.args.to, r.1) none) c.in_ok-below.ensures.built
