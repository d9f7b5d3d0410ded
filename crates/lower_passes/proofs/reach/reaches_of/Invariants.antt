use Rattle.std.proofs.Common.{◌≡◌, length, map}
use Rattle.lower_rules.specs.Build.{LoweringFrame}
use Rattle.lower_code.specs.View.{op_of}
use Rattle.lower_passes.specs.Reaching.{AreReaches}
use Rattle.lower_passes.proofs.reach.reaches_of.Given as goal

abbrev pub invariant-loop-end : goal.invariant-loop-end
invariant-loop-end l =
    (length l.reaches ≡ l.end)
    × ((f : LoweringFrame) → AreReaches f (map op_of l.code.words.now) l.code.marks.now l.reaches)
