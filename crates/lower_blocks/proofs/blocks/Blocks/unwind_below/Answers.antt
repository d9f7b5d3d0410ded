use Rattle.std.proofs.Common.{rules, ◌≡◌, ◌∙◌, List, Option, sym, ap, subst}
use Rattle.std.proofs.lemmas.Result.{MatchResult-weaker}
use Rattle.mir_base.specs.declared.place_in_text.Key.{Key}
use Rattle.lower_rules.specs.Build as build
use Rattle.lower_rules.specs.Build.{LoweringFrame, Building}
use Rattle.lower_passes.specs.Framed.{frame_of}
use Rattle.lower_passes.specs.Scoped.{entries_of}
use Rattle.src_meaning.specs.Scopes.{Entry}
use Rattle.lower_blocks.specs.Building.{building_of, listed_below}
use Rattle.lower_blocks.specs.declared.drops.Below.{Below}
use Rattle.lower_blocks.proofs.blocks.Blocks.unwind_below.Goals as goal

pub returns-in-None : goal.returns-in-None
returns-in-None c =
    let f : LoweringFrame = frame_of c.args.frame in
    let s : Building = building_of c.args.self.now in
    let below : Below = c.args.below.now in
    let slice : c.as_slice.result.now ≡ below.around = search rules in
    MatchResult-weaker c.unwind_to.result c.unwind_to.ensures
    (λ unwind made drops is_below.
    let listed = subst (λ (o : Option Key). listed_below f below o drops s) c.in-None.is is_below in
    made ∙ ap (λ (es : List Entry). build.unwind_to f es s) (ap entries_of slice ∙ listed))
    (λ error is. is)

pub returns-in-Some : goal.returns-in-Some
returns-in-Some c =
    let f : LoweringFrame = frame_of c.args.frame in
    let s : Building = building_of c.args.self.now in
    let below : Below = c.args.below.now in
    MatchResult-weaker c.unwind_above.result c.unwind_above.ensures
    (λ above made drops is_below.
    let listed = subst (λ (o : Option Key). listed_below f below o drops s) c.in-Some.is is_below in
    made listed.0 listed.1 listed.3 listed.4 ∙ ap (λ (es : List Entry). build.unwind_to f es s) (sym listed.2))
    (λ error is. is)
