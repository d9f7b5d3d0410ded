use Rattle.std.proofs.Common.{◌≡◌, ◌∙◌, ℕ, refl, sym, ap}
use Rattle.std.proofs.lemmas.Result.{MatchResult-weaker}
use Rattle.cfg_graph.specs.declared.terminator.Unwind.{Unwind}
use Rattle.lower_rules.specs.Build as build
use Rattle.lower_rules.specs.Build.{LoweringFrame, Building}
use Rattle.lower_rules.proofs.KnownChains.{down_later}
use Rattle.lower_passes.specs.Framed.{frame_of}
use Rattle.lower_blocks.specs.Building.{building_of, drop_shared}
use Rattle.lower_blocks.proofs.KnownDown.{asked_again, shared_keeps}
use Rattle.lower_blocks.proofs.blocks.Blocks.share_drop.Goals as goal

pub returns : goal.returns
returns c =
    let f : LoweringFrame = frame_of c.args.frame in
    let b : Building = building_of c.args.self.now in
    let key = c.args.key.0 in
    let u : Unwind = c.in_ok-unwind.unwind in
    MatchResult-weaker c.share.result c.share.ensures
    (λ number shared e drops is_key below.
    let mid : Building = building_of c.unwind_below.new.self in
    let unwound : (u, mid) ≡ build.unwind_to f drops b = c.in_ok-unwind.ensures drops below in
    let made : (number, building_of c.share.new.self) ≡ drop_shared f e drops c.args.onward b =
    shared
    ∙ ap (λ (k : ℕ). build.share f (build.DropsThen k c.args.onward u) mid) (sym is_key)
    ∙ ap (λ (r : Unwind × Building). build.share f (build.DropsThen e.key c.args.onward r.0) r.1) unwound in (
      made,
      (
        e,
        drops,
        refl,
        is_key,
        down_later f drops mid (building_of c.share.new.self) u
            (asked_again f drops b mid u unwound)
            (shared_keeps f (build.DropsThen key c.args.onward u) mid (building_of c.share.new.self) number shared),
      ),
    ))
    (λ error is. is)
