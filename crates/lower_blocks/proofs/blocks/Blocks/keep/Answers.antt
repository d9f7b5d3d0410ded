use Rattle.std.proofs.Common.{◌∙◌, List, ap}
use Rattle.std.proofs.lemmas.Result.{on_ok_weaker}
use Rattle.lower_blocks.specs.Building.{building_of}
use Rattle.lower_blocks.specs.declared.blocks.Blocks.{Blocks}
use Rattle.lower_blocks.specs.declared.blocks.SharedBlock.{SharedBlock}
use Rattle.lower_blocks.proofs.Places.{kept}
use Rattle.lower_blocks.proofs.blocks.Blocks.keep.Goals as goal

pub returns : goal.returns
returns c =
    let old : Blocks = c.args.self.now in
    let b : SharedBlock = record { end = c.args.end; block = c.args.block } in
    on_ok_weaker c.list_at.result
    (λ listed is.
    ap (λ (lists : List (List SharedBlock)). building_of (record old { shared = lists })) listed
    ∙ kept old c.list_up_to.new.lists c.args.place b c.in_ok-list_up_to.ensures.there c.in_ok-list_up_to.ensures.same
    is)
    c.list_at.ensures
