use Rattle.std.proofs.Common.{rules, ◌≡◌, ◌∙◌, ◌∷◌, ◌++◌, true, false, List, refl, sym, ap}
use Rattle.std.proofs.lemmas.Result.{on_ok_weaker}
use Rattle.mir_ty.specs.Facts.{needs_drop}
use Rattle.lower_rules.specs.Build as build
use Rattle.lower_rules.specs.Build.{LoweringFrame, Building}
use Rattle.lower_passes.specs.Framed.{frame_of}
use Rattle.lower_passes.specs.Scoped.{held}
use Rattle.lower_code.specs.View.{entry_of}
use Rattle.src_meaning.specs.Scopes.{Entry, needing_drop}
use Rattle.lower_blocks.specs.Building.{built_of, building_of}
use Rattle.lower_blocks.proofs.Dropping.{needing, not_needing, one_here}
use Rattle.lower_blocks.proofs.blocks.Blocks.+youngest_to.Goals as goal

pub returns-in-NoEntry : goal.returns-in-NoEntry
returns-in-NoEntry t c = λ S none below some.
    absurd (some (ap (λ (es : List Entry). needing_drop c.args.frame.items.now es) (ap held c.in-NoEntry.is)))

pub returns-then-not-needs_drop : goal.returns-then-not-needs_drop
returns-then-not-needs_drop t c =
    let f : LoweringFrame = frame_of c.args.frame in
    let e : Entry = entry_of c.in-Youngest.entry in
    let older : List Entry = held c.in-Youngest.older.now in
    let b : Building = building_of c.args.self.now in
    let unneeded : needs_drop f.items e.ty ≡ false = search rules in
    let same : needing_drop f.items (held c.args.entries.now) ≡ needing_drop f.items older =
    ap (λ (es : List Entry). needing_drop f.items es) (ap held c.in-Youngest.is)
    ∙ not_needing f.items e older unneeded in
    on_ok_weaker c.youngest_to.result
    (λ made S none below some.
    made S none below (λ empty. some (same ∙ empty))
    ∙ ap (λ (es : List Entry). build.drops_to f es S (c.args.to, b) none) (sym same))
    c.youngest_to.ensures

pub returns-in_ok-then-in-Youngest : goal.returns-in_ok-then-in-Youngest
returns-in_ok-then-in-Youngest t c =
    let f : LoweringFrame = frame_of c.args.frame in
    let e : Entry = entry_of c.in-Youngest.entry in
    let older : List Entry = held c.in-Youngest.older.now in
    let es : List Entry = needing_drop f.items older in
    let b : Building = building_of c.args.self.now in
    let needed : needs_drop f.items e.ty ≡ true = search rules in
    let same : needing_drop f.items (held c.args.entries.now) ≡ e ∷ es =
    ap (λ (es : List Entry). needing_drop f.items es) (ap held c.in-Youngest.is) ∙ needing f.items e older needed in
    on_ok_weaker c.open_drop.result
    (λ made S none below some.
    let shared = c.in_ok-then-in-Youngest.ensures S below in
    let opened = made e (es ++ build.panic_drops f S) refl shared.1 in
    one_here f e es S (c.args.to, b) (c.in_ok-then-in-Youngest.then, building_of c.share_each.new.self) none
    (built_of c.open_drop.new.self) shared.0 opened.0
    ∙ ap (λ (es : List Entry). build.drops_to f es S (c.args.to, b) none) (sym same))
    c.open_drop.ensures
