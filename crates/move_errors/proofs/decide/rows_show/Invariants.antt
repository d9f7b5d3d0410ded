use Rattle.std.proofs.Common.{◌≡◌, ℕ, [], ◌<◌, length, slice_index_or}
use Rattle.move_errors.specs.Runs.{problem}
use Rattle.move_errors.specs.Shown.{ShowsNone}
use Rattle.move_errors.proofs.decide.rows_show.Given as goal

abbrev pub invariant-loop-block : goal.invariant-loop-block
invariant-loop-block l =
    (length l.inside ≡ length l.watch.forest.paths)
    × ((n : ℕ) → n < l.block → ShowsNone (problem l.watch.items.now l.watch.body.now l.watch.forest.paths) n (slice_index_or l.rows n []))
