use Rattle.std.proofs.Common.{◌≡◌, ℕ, ◌++◌, take}
use Rattle.move_errors.specs.Runs.{actions_of, stmt_actions}
use Rattle.move_errors.proofs.act.add_stmts.Given as goal

abbrev pub invariant-loop-stmt : goal.invariant-loop-stmt
invariant-loop-stmt l = (l.line ≡ l.stmt-index) × ((block : ℕ) → actions_of block l.acts ≡ actions_of block l.initial.acts ++ stmt_actions block 0 (take l.stmt-index l.stmts))
