use Rattle.std.proofs.Common.{rules, ◌≡◌, ◌∙◌, ◌+◌, ◌∷◌, ◌++◌, List, [], Option, ℕ, length, length-append, map, sym, ap, subst}
use Rattle.lower_rules.specs.Build.{LoweringFrame}
use Rattle.lower_passes.specs.Spans.{Stands}
use Rattle.lower_passes.specs.declared.marks.CodeMark.{CodeMark}
use Rattle.lower_code.specs.Code.{Code}
use Rattle.lower_code.specs.Ops.{CodeWord}
use Rattle.lower_code.specs.View.{op_of}
use Rattle.lower_passes.specs.Reaching.{AreReaches}
use Rattle.lower_passes.proofs.Reached.{one_noted}
use Rattle.lower_passes.proofs.reach.reaches_of.Goals as goal

pub loop-end-preserved : goal.loop-end-preserved
loop-end-preserved c =
    let ws : List CodeWord = map op_of c.args.code.words.now in
    let marks : List CodeMark = c.args.code.marks.now in
    let rs : List (Option ℕ) = c.loop-end.reaches in
    let r : Option ℕ = c.reach_of-reach.result in
    let pushed : c.push.new.self ≡ rs ++ r ∷ [] = c.in_ok-push.ensures.pushed in
    let slice : rs ≡ c.as_slice.result.now = search rules in
    let known : (f : LoweringFrame) → AreReaches f ws marks c.as_slice.result.now =
    λ f. subst (λ (all : List (Option ℕ)). AreReaches f ws marks all) slice (c.loop-end.invariant.1 f) in (
      ap length pushed ∙ length-append rs (r ∷ []) ∙ ap (λ (n : ℕ). n + 1) c.loop-end.invariant.0,
      λ f. subst (λ (all : List (Option ℕ)). AreReaches f ws marks all) (sym pushed)
          (one_noted f ws marks rs r
          (λ (code : Code) (start : ℕ) stands. c.reach_of-reach.ensures f code start (known f)
          (subst (λ (e : ℕ). Stands f ws marks code start e) c.loop-end.invariant.0 stands))
          (c.loop-end.invariant.1 f)),
    )
