use Rattle.std.proofs.Common.{◌≡◌, ◌++◌, length}
use Rattle.look_lines.specs.Tellings.{telling, lines_told, lines_of}
use Rattle.look_lines.proofs.tellings.tell.Given as goal

abbrev pub invariant-loop-rest : goal.invariant-loop-rest
invariant-loop-rest l = telling l.text l.places l.run ≡ l.out.items ++ lines_told l.text l.places (lines_of l.rest) l.reading

abbrev pub decreases-loop-rest : goal.decreases-loop-rest
decreases-loop-rest l = length l.rest
