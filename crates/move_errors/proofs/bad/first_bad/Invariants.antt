use Rattle.std.proofs.Common.{◌≡◌, ℕ, drop, length}
use Rattle.move_errors.specs.Rows.{after, first_by}
use Rattle.move_errors.specs.Runs.{actions_of}
use Rattle.move_errors.proofs.bad.first_bad.Given as goal

abbrev pub invariant-loop-act : goal.invariant-loop-act
invariant-loop-act l =
    (length l.row ≡ length l.watch.forest.paths)
    × ((n : ℕ) → first_by l.watch.items.now l.watch.body.now l.watch.forest.paths (actions_of n l.acts) l.initial.row
    ≡ first_by l.watch.items.now l.watch.body.now l.watch.forest.paths (actions_of n (drop l.act-index l.acts)) l.row)
    × ((n : ℕ) → after l.watch.items.now l.watch.body.now l.watch.forest.paths (actions_of n l.acts) l.initial.row
    ≡ after l.watch.items.now l.watch.body.now l.watch.forest.paths (actions_of n (drop l.act-index l.acts)) l.row)
