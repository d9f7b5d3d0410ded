use Rattle.std.proofs.Common.{◌≡◌, drop}
use Rattle.src_meaning.specs.Forms.{loop_destination}
use Rattle.lower_code.specs.View.{loops_of}
use Rattle.lower_code.proofs.loops_and_guards.destination_of_loop.Given as goal

abbrev pub invariant-loop-around : goal.invariant-loop-around
invariant-loop-around l =
    loop_destination l.id.0 (loops_of l.loops) ≡ loop_destination l.id.0 (loops_of (drop l.around-index l.loops))
