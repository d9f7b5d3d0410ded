use Rattle.std.proofs.Common.{◌≡◌, map, drop}
use Rattle.lower_rules.specs.Build.{is_left_by}
use Rattle.lower_code.specs.View.{exit_of}
use Rattle.lower_passes.proofs.mark_pass.is_left.Given as goal

abbrev pub invariant-loop-exit : goal.invariant-loop-exit
invariant-loop-exit l =
    is_left_by l.id.0 (map exit_of l.jumps) ≡ is_left_by l.id.0 (map exit_of (drop l.exit-index l.jumps))
