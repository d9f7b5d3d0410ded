-- A program that passes all checks is never stuck, and each number of a run ends once: the laws of soundness, of one program.
use Rattle.soundness.proofs.Sound.{never_stuck, once}
use Rattle.soundness_values.specs.Laws.{IsSound}
use Rattle.typed_tree.specs.Tree.{ProgramTree}
use Rattle.mir_pipeline.specs.Runs.{EndsEachOnce, IsNeverStuck}

pub is_never_stuck : (program : ProgramTree) → IsSound program → IsNeverStuck program
is_never_stuck program sound asked ticks body block = never_stuck program asked ticks body block sound

pub ends_each_once : (program : ProgramTree) → IsSound program → EndsEachOnce program
ends_each_once program sound asked ticks = once program asked ticks sound
