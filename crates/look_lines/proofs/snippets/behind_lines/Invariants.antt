use Rattle.std.proofs.Common.{◌≡◌, ◌≤◌, ◌-◌}
use Rattle.look_lines.specs.Snippets.{behind_lines}
use Rattle.look_lines.proofs.snippets.behind_lines.Given as goal

abbrev pub invariant-loop-passed : goal.invariant-loop-passed
invariant-loop-passed l = (l.rest ≡ behind_lines l.passed l.text) × (l.passed ≤ l.count)

abbrev pub decreases-loop-passed : goal.decreases-loop-passed
decreases-loop-passed l = l.count - l.passed
