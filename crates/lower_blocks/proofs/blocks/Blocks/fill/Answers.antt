use Rattle.std.proofs.Common.{◌≡◌, ◌∙◌, List, Option, Some, map, slice_set, ap}
use Rattle.std.proofs.lemmas.List.{map-set}
use Rattle.std.specs.Prelude.{option_map}
use Rattle.lower_rules.specs.Build as build
use Rattle.lower_blocks.specs.Building.{rest_of, made_of, building_of}
use Rattle.lower_blocks.specs.declared.blocks.Blocks.{Blocks}
use Rattle.lower_blocks.specs.declared.blocks.MadeBlock.{MadeBlock}
use Rattle.lower_blocks.proofs.blocks.Blocks.fill.Goals as goal

pub returns-then-number-len : goal.returns-then-number-len
returns-then-number-len c =
    let old : Blocks = c.args.self.now in
    let m : MadeBlock = c.in_ok-made.made in
    let seen : List (Option build.MadeBlock) = map (option_map made_of) old.made in
    let filled : build.MadeBlock = build.made c.args.kind (build.next_number (building_of old)) (rest_of old.rest) in
    let is : made_of m ≡ filled =
    c.in_ok-made.ensures.0 ∙ ap (λ rank. build.made c.args.kind rank (rest_of old.rest)) c.in_ok-rank.ensures in
    let blocks : map (option_map made_of) c.set.new.self ≡ slice_set seen c.args.number (Some filled) =
    ap (map (option_map made_of)) c.set.ensures
    ∙ map-set (option_map made_of) old.made c.args.number (Some m)
    ∙ ap (λ (b : build.MadeBlock). slice_set seen c.args.number (Some b)) is in
    (λ i. (c.in_ok-made.ensures.1 i, record { blocks = blocks i; shared = (building_of old).shared }))
