use Rattle.std.proofs.Common.{sym, ap}
use Rattle.lower_rules.specs.Build.{LoweringFrame, BlockRest, Building}
use Rattle.lower_passes.specs.Framed.{frame_of}
use Rattle.lower_blocks.specs.Building.{building_of, end_of, rest_of}
use Rattle.lower_blocks.proofs.Sharing.{is_found, is_made}
use Rattle.lower_blocks.proofs.blocks.Blocks.share.Goals as goal

pub returns-in-Some : goal.returns-in-Some
returns-in-Some c =
    let s : Building = building_of c.args.self.now in
    is_found (frame_of c.args.frame) (end_of c.args.end) c.listed_at-place.result s c.listed_at-place.ensures
    c.in-Some.number (sym c.in-Some.ensures)

pub returns : goal.returns
returns c =
    let f : LoweringFrame = frame_of c.args.frame in
    let s : Building = building_of c.args.self.now in
    let opened = c.open_end.new.self in
    is_made f (end_of c.args.end) c.listed_at-place.result s c.listed_at-place.ensures c.in_ok-number.number
    c.kind_of.result (rest_of opened.rest)
    (building_of opened) (building_of c.close.new.self) (building_of c.keep.new.self) (sym c.in_default.ensures)
    c.in_ok-open_end.ensures.building c.in_ok-open_end.ensures.rest (c.kind_of.ensures f) c.in_ok-number.ensures.0
    (ap (λ (r : BlockRest × Building). r.1) c.in_ok-number.ensures.1) (c.in_ok-keep.ensures c.listed_at-place.ensures)
