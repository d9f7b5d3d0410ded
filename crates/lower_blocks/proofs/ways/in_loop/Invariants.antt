use Rattle.std.proofs.Common.{◌≡◌, ◌++◌, ◌∷◌, drop}
use Rattle.lower_blocks.proofs.ways.in_loop.Given as goal

abbrev pub invariant-loop-around : goal.invariant-loop-around
invariant-loop-around l = l.inner ++ drop l.around-index l.loops ≡ l.fn.way ∷ l.loops
