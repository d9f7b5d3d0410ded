use Rattle.std.proofs.Common.{ℕ, inl, inr, [], sym, subst, arith}
use Rattle.std.specs.Prelude.{slice_index_or}
use Rattle.std.proofs.lemmas.Bool.{cases_eq}
use Rattle.move_errors.specs.Runs.{problem}
use Rattle.move_errors.specs.Shown.{ShowsNone}
use Rattle.move_errors.proofs.decide.rows_show.Goals as goal

pub loop-block-preserved : goal.loop-block-preserved
loop-block-preserved c =
    let w = c.args.watch.now in (
      c.in_ok-row_shows.ensures.inside c.if-branch.false,
      λ n less. elim (cases_eq n c.loop-block.block) [
        | inl same ↦ subst (λ (z : ℕ). ShowsNone (problem w.items.now w.body.now w.forest.paths) z (slice_index_or c.args.rows.now z [])) (sym same)
            (c.in_ok-row_shows.ensures.shown c.if-branch.false)
        | inr other ↦ c.loop-block.invariant.1 n (omega (less, other, arith))
      ],
    )
