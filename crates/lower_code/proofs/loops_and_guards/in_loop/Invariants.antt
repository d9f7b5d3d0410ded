use Rattle.std.proofs.Common.{◌≡◌, ◌++◌, ◌∷◌, drop}
use Rattle.lower_code.specs.View.{destination_of, loops_of}
use Rattle.lower_code.proofs.loops_and_guards.in_loop.Given as goal

abbrev pub invariant-loop-around : goal.invariant-loop-around
invariant-loop-around l =
    loops_of l.inner ++ loops_of (drop l.around-index l.loops) ≡ (l.fn.id.0, destination_of l.fn.to) ∷ loops_of l.loops
