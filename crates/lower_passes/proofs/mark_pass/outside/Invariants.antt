use Rattle.std.proofs.Common.{◌≡◌, ◌++◌, map, drop}
use Rattle.lower_rules.specs.Build.{outside}
use Rattle.lower_code.specs.View.{exit_of}
use Rattle.lower_passes.proofs.mark_pass.outside.Given as goal

abbrev pub invariant-loop-exit : goal.invariant-loop-exit
invariant-loop-exit l =
    map exit_of l.others ++ outside l.id.0 (map exit_of (drop l.exit-index l.jumps)) ≡ outside l.id.0 (map exit_of l.jumps)
