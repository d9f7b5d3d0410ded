use Rattle.std.proofs.Common.{◌≡◌, [], replicate}
use Rattle.move_paths.proofs.forest.no_children.Given as goal

abbrev pub invariant-loop : goal.invariant-loop
invariant-loop l = l.lists ≡ replicate l.counter []
