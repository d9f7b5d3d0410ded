use Rattle.std.proofs.Common.{rules, ◌≡◌, ◌∙◌, ◌++◌, true, false, List, Some, refl, sym, ap, subst}
use Rattle.std.proofs.lemmas.Result.{on_ok_weaker}
use Rattle.cfg_graph.specs.declared.graph.Kind.{Kind}
use Rattle.mir_ty.specs.Facts.{needs_drop}
use Rattle.lower_rules.specs.Build as build
use Rattle.lower_rules.specs.Build.{LoweringFrame, BlockRest, Building}
use Rattle.lower_passes.specs.Framed.{frame_of}
use Rattle.lower_passes.specs.Scoped.{held}
use Rattle.lower_code.specs.View.{entry_of}
use Rattle.src_meaning.specs.Scopes.{Entry, Scopes, needing_drop}
use Rattle.lower_blocks.specs.Building.{IsBelow, built_of, rest_of, building_of}
use Rattle.lower_blocks.specs.declared.blocks.Blocks.{Blocks}
use Rattle.lower_blocks.specs.declared.drops.Below.{Below}
use Rattle.lower_blocks.proofs.Dropping.{needing, not_needing, one_dropped}
use Rattle.lower_blocks.proofs.KnownDown.{stays_below}
use Rattle.lower_blocks.proofs.blocks.Blocks.+drop_each.Goals as goal

-- entries are dropped behind what is open before, and it is known where a panic goes on
abbrev Dropped : LoweringFrame → Blocks → Blocks → Below → Scopes → List Entry → Type 0
Dropped f before after below S es =
    (built_of after ≡ build.drop_all f es S (rest_of before.rest) (building_of before))
    × IsBelow f below (es ++ build.panic_drops f S) (building_of after)

pub returns-in-NoEntry : goal.returns-in-NoEntry
returns-in-NoEntry t c = λ S below.
    let f : LoweringFrame = frame_of c.args.frame in
    subst (λ (es : List Entry). Dropped f c.args.self.now c.args.self.now c.args.below.now S (needing_drop f.items es))
    (sym (ap held c.in-NoEntry.is)) (refl, below)

pub returns-then-not-needs_drop : goal.returns-then-not-needs_drop
returns-then-not-needs_drop t c = λ S below.
    let f : LoweringFrame = frame_of c.args.frame in
    let e : Entry = entry_of c.in-Youngest.entry in
    let older : List Entry = held c.in-Youngest.older.now in
    let unneeded : needs_drop f.items e.ty ≡ false = search rules in
    subst (λ (es : List Entry). Dropped f c.args.self.now c.drop_each.new.self c.drop_each.new.below S es)
    (sym (ap (λ (es : List Entry). needing_drop f.items es) (ap held c.in-Youngest.is)
    ∙ not_needing f.items e older unneeded))
    (c.in_ok-drop_each-in-Youngest.ensures S below)

pub returns-in_ok-then-in-Youngest : goal.returns-in_ok-then-in-Youngest
returns-in_ok-then-in-Youngest t c =
    let f : LoweringFrame = frame_of c.args.frame in
    let e : Entry = entry_of c.in-Youngest.entry in
    let older : List Entry = held c.in-Youngest.older.now in
    let es : List Entry = needing_drop f.items older in
    let needed : needs_drop f.items e.ty ≡ true = search rules in
    let old : Blocks = c.args.self.now in
    let mid : Blocks = c.drop_each.new.self in
    let closes : building_of c.close.new.self ≡ build.closed Kind.Plain (rest_of mid.rest) (building_of mid) =
    ap (λ (r : BlockRest × Building). r.1) c.in_ok-then-in-Youngest.ensures.1 in
    on_ok_weaker c.open_drop.result
    (λ made S below.
    let ih = c.in_ok-drop_each-in-Youngest.ensures S below in
    let drops : List Entry = es ++ build.panic_drops f S in
    let stays : IsBelow f c.drop_each.new.below drops (building_of c.close.new.self) =
    stays_below f c.drop_each.new.below drops (building_of mid) (building_of c.close.new.self)
    (λ end n found. subst (λ (s : Building). build.end_among end (s.shared (build.listed_at end)) ≡ Some n)
    (sym closes) found) ih.1 in
    let opened = made e drops refl stays in
    subst (λ (es : List Entry). Dropped f old c.open_drop.new.self c.open_drop.new.below S es)
    (sym (ap (λ (es : List Entry). needing_drop f.items es) (ap held c.in-Youngest.is)
    ∙ needing f.items e older needed)) (
      one_dropped f e es S (rest_of old.rest) (building_of old) c.in_ok-then-in-Youngest.then (built_of mid)
          (building_of c.close.new.self)
          (built_of c.open_drop.new.self) ih.0 c.in_ok-then-in-Youngest.ensures.0 closes opened.0,
      opened.1,
    ))
    c.open_drop.ensures
