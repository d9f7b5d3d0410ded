use Rattle.std.proofs.Common.{rules, ◌≡◌, ◌∙◌, ℕ, suc, true, false, List, map, sym, ap, subst}
use Rattle.std.proofs.lemmas.Result.{on_ok_weaker}
use Rattle.lower_rules.specs.Build as build
use Rattle.lower_rules.specs.Build.{LoweringFrame}
use Rattle.lower_rules.specs.Codes.{lowers}
use Rattle.lower_blocks.specs.Building.{rest_of, building_of, ways_of}
use Rattle.lower_passes.specs.Scoped.{scopes_of}
use Rattle.lower_passes.proofs.Behind.{before_is}
use Rattle.lower_passes.specs.Spans.{Stands}
use Rattle.lower_passes.specs.declared.marks.CodeMark.{CodeMark}
use Rattle.lower_code.specs.Ops.{CodeWord}
use Rattle.lower_code.specs.View.{op_of}
use Rattle.src_meaning.specs.Scopes.{Scopes}
use Rattle.lower_blocks.specs.Builds.{frame_at}
use Rattle.lower_blocks.proofs.Steps.{behind_true, behind_false}
use Rattle.lower_blocks.proofs.joins.leave_behind.Goals as goal

pub returns-then-not-has_end : goal.returns-then-not-has_end
returns-then-not-has_end c = λ code start one.
    let f : LoweringFrame = frame_at c.args.at.now in
    let ends : c.args.end ≡ suc c.in-Some.inner = search rules in
    let stands : Stands f (map op_of c.args.at.now.code.words.now) c.args.at.now.code.marks.now code start c.in-Some.inner =
    subst (λ (d : ℕ). Stands f (map op_of c.args.at.now.code.words.now) c.args.at.now.code.marks.now code start d) (before_is c.args.end one.0 c.in-Some.inner one.1.0 ends) one.1.1 in
    let never_ends : (lowers f code).has_end ≡ false = sym (c.has_end.ensures f code start stands) ∙ search rules in
    behind_false (lowers f code).has_end (lowers f code) (build.leave f) (ways_of c.args.at.now.ways) (scopes_of c.args.at.now.scopes.now)
    (rest_of c.args.blocks.now.rest) (building_of c.args.blocks.now) never_ends

pub returns : goal.returns
returns c =
    let f : LoweringFrame = frame_at c.args.at.now in
    let words : List CodeWord = map op_of c.args.at.now.code.words.now in
    let marks : List CodeMark = c.args.at.now.code.marks.now in
    let ends : c.args.end ≡ suc c.in-Some.inner = search rules in
    on_ok_weaker c.leave.result
    (λ made code start one.
    let stands : Stands f words marks code start c.in-Some.inner =
    subst (λ (d : ℕ). Stands f words marks code start d) (before_is c.args.end one.0 c.in-Some.inner one.1.0 ends) one.1.1 in
    let has_end : (lowers f code).has_end ≡ true = sym (c.has_end.ensures f code start stands) ∙ search rules in
    let scopes : scopes_of c.in_ok-scopes.scopes.now ≡ (lowers f code).after (scopes_of c.args.at.now.scopes.now) =
    c.in_ok-scopes.ensures f code start stands in
    made
    ∙ ap (λ (S : Scopes). build.leave_from f S (rest_of c.args.blocks.now.rest) (building_of c.args.blocks.now)) scopes
    ∙ behind_true (lowers f code).has_end (lowers f code) (build.leave f) (ways_of c.args.at.now.ways) (scopes_of c.args.at.now.scopes.now)
    (rest_of c.args.blocks.now.rest) (building_of c.args.blocks.now) has_end) c.leave.ensures
