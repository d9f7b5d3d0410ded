use Rattle.std.proofs.Common.{◌≡◌, map, reverse, take}
use Rattle.typeck_env.specs.Scope.{around_of, word_in}
use Rattle.typing_rules.specs.Scope.{jumps_to}
use Rattle.typeck_env.proofs.loops.loop_left.Given as goal

abbrev pub invariant-loop-n : goal.invariant-loop-n
invariant-loop-n l =
    jumps_to (reverse (map around_of l.fn.loops)) (word_in l.fn.label) ≡ jumps_to (reverse (map around_of (take l.n l.fn.loops))) (word_in l.fn.label)
