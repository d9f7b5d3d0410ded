use Rattle.std.proofs.Common.{rules, ◌≡◌, ◌∙◌, ◌++◌, ℕ, true, false, List, refl, sym, ap, subst}
use Rattle.std.proofs.lemmas.Result.{MatchResult-weaker}
use Rattle.mir_ty.specs.Facts.{needs_drop}
use Rattle.lower_rules.specs.Build as build
use Rattle.lower_rules.specs.Build.{LoweringFrame}
use Rattle.lower_passes.specs.Framed.{frame_of}
use Rattle.lower_passes.specs.Scoped.{held}
use Rattle.lower_code.specs.View.{entry_of}
use Rattle.src_meaning.specs.Scopes.{Entry, Scopes, needing_drop}
use Rattle.lower_blocks.specs.Building.{IsBelow, building_of}
use Rattle.lower_blocks.specs.declared.blocks.Blocks.{Blocks}
use Rattle.lower_blocks.specs.declared.drops.Below.{Below}
use Rattle.lower_blocks.proofs.Dropping.{needing, not_needing, one_shared}
use Rattle.lower_blocks.proofs.blocks.Blocks.+share_each.Goals as goal

-- the drops of entries before a block are shared, and it is known where a panic goes on
abbrev Shared : LoweringFrame → Blocks → Blocks → Below → Scopes → (to number : ℕ) → List Entry → Type 0
Shared f before after below S to number es =
    ((number, building_of after) ≡ build.drops_before f es S (to, building_of before))
    × IsBelow f below (es ++ build.panic_drops f S) (building_of after)

pub returns-in-NoEntry : goal.returns-in-NoEntry
returns-in-NoEntry t c = λ S below.
    let f : LoweringFrame = frame_of c.args.frame in
    subst (λ (es : List Entry). Shared f c.args.self.now c.args.self.now c.args.below.now S c.args.to c.args.to
    (needing_drop f.items es))
    (sym (ap held c.in-NoEntry.is)) (refl, below)

pub returns-then-not-needs_drop : goal.returns-then-not-needs_drop
returns-then-not-needs_drop t c = λ S below.
    let f : LoweringFrame = frame_of c.args.frame in
    let e : Entry = entry_of c.in-Youngest.entry in
    let older : List Entry = held c.in-Youngest.older.now in
    let unneeded : needs_drop f.items e.ty ≡ false = search rules in
    subst (λ (es : List Entry). Shared f c.args.self.now c.share_each.new.self c.share_each.new.below S c.args.to
    c.in_ok-onward-in-Youngest.onward es)
    (sym (ap (λ (es : List Entry). needing_drop f.items es) (ap held c.in-Youngest.is)
    ∙ not_needing f.items e older unneeded))
    (c.in_ok-onward-in-Youngest.ensures S below)

pub returns-else-not-needs_drop : goal.returns-else-not-needs_drop
returns-else-not-needs_drop t c =
    let f : LoweringFrame = frame_of c.args.frame in
    let e : Entry = entry_of c.in-Youngest.entry in
    let older : List Entry = held c.in-Youngest.older.now in
    let es : List Entry = needing_drop f.items older in
    let needed : needs_drop f.items e.ty ≡ true = search rules in
    let old : Blocks = c.args.self.now in
    MatchResult-weaker c.share_drop.result c.share_drop.ensures
    (λ number made S below.
    let ih = c.in_ok-onward-in-Youngest.ensures S below in
    let shared = made e (es ++ build.panic_drops f S) refl ih.1 in
    subst (λ (es : List Entry). Shared f old c.share_drop.new.self c.share_drop.new.below S c.args.to number es)
    (sym (ap (λ (es : List Entry). needing_drop f.items es) (ap held c.in-Youngest.is)
    ∙ needing f.items e older needed)) (
      one_shared f e es S (c.args.to, building_of old)
          (c.in_ok-onward-in-Youngest.onward, building_of c.share_each.new.self)
          (number, building_of c.share_drop.new.self) ih.0 shared.0,
      shared.1,
    ))
    (λ error is. is)
