use Rattle.soundness.proofs.Sound.{never_stuck, calls, calls_of_runs}
use Rattle.soundness.proofs.laws.law_l5.Goals as goal

pub returns : goal.returns
returns c = record {
  never_stuck = never_stuck;
  calls = calls;
  calls_of_runs = calls_of_runs;
}
