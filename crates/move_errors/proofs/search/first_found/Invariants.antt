use Rattle.move_errors.specs.Runs.{problem}
use Rattle.move_errors.specs.Stands.{Stands, remaining}
use Rattle.move_errors.proofs.search.first_found.Given as goal

abbrev pub invariant-loop-item : goal.invariant-loop-item
invariant-loop-item l = Stands (problem l.watch.items.now l.watch.body.now l.watch.forest.paths) l.search l.search.queue.items

abbrev pub decreases-loop-item : goal.decreases-loop-item
decreases-loop-item l = remaining l.search
