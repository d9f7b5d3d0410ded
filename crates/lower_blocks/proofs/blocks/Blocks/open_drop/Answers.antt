use Rattle.std.proofs.Common.{◌≡◌, ◌∙◌, refl, ap}
use Rattle.cfg_graph.specs.declared.terminator.Term.{Term}
use Rattle.lower_rules.specs.Build as build
use Rattle.lower_rules.specs.Build.{LoweringFrame, BlockRest, Building}
use Rattle.lower_passes.specs.Framed.{frame_of}
use Rattle.src_meaning.specs.Forms.{site_of_key}
use Rattle.lower_blocks.specs.Building.{building_of, built_of}
use Rattle.lower_blocks.proofs.Dropping.{dropping}
use Rattle.lower_blocks.proofs.KnownDown.{asked_again}
use Rattle.lower_blocks.proofs.blocks.Blocks.open_drop.Goals as goal

pub returns : goal.returns
returns c = λ e drops is_key below.
    let f : LoweringFrame = frame_of c.args.frame in
    let b : Building = building_of c.args.self.now in
    let key = c.args.key.0 in
    let unwound : (c.in_ok-unwind.unwind, building_of c.unwind_below.new.self) ≡ build.unwind_to f drops b =
    c.in_ok-unwind.ensures drops below in
    let placed : c.in_ok-place.place ≡ build.place_of f (site_of_key key) = c.in_ok-place.ensures in
    let built : built_of c.end.new.self ≡ dropping f key c.args.then drops b =
    c.end.ensures ∙ (λ i. (build.ending (Term.DropAt (placed i) c.args.then (unwound i).0) key, (unwound i).1)) in
    let stands : (c.in_ok-unwind.unwind, building_of c.end.new.self) ≡ build.unwind_to f drops b =
    ap (λ (r : BlockRest × Building). (c.in_ok-unwind.unwind, r.1)) c.end.ensures ∙ unwound in
    (built, (e, drops, refl, is_key, asked_again f drops b (building_of c.end.new.self) c.in_ok-unwind.unwind stands))
