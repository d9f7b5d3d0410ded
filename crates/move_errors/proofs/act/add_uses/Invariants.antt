use Rattle.std.proofs.Common.{◌≡◌, ℕ, ◌++◌, take}
use Rattle.move_paths.specs.Uses.{listed}
use Rattle.move_errors.specs.Runs.{actions_of, at_line}
use Rattle.move_errors.proofs.act.add_uses.Given as goal

abbrev pub invariant-loop-used : goal.invariant-loop-used
invariant-loop-used l = (block : ℕ) → actions_of block l.acts ≡ actions_of block l.initial.acts ++ at_line block l.line (listed (take l.used-index l.uses))
