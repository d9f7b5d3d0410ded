-- The laws of soundness. In each body of a sound program, by whatever choices, no checked run complains: that is all
-- that they ask.
use Rattle.soundness_values.specs.Laws.{IsSound, NeverStuck, CallsLeaveWhole, EndsOnce}
use Rattle.soundness_values.specs.RunCalls.{CallsOfRuns}
use Rattle.soundness_values.proofs.OnceByPass.{PassShowsAll}
use Rattle.soundness.proofs.PassCallsAlone as alone
use Rattle.soundness.proofs.PassCallsHold.{calls_hold}
use Rattle.soundness.proofs.PassGuardLeft.{guards_kept}
use Rattle.soundness.proofs.PassLeft.{shows_by_left}
use Rattle.soundness.proofs.PassPlacesLeft.{places_left}
use Rattle.soundness_cells.proofs.PassRestSplit.{rest_of_halves}
use Rattle.soundness_values.proofs.SoundByPass.{never_stuck_of, calls_of, calls_of_runs_of, once_of}
use Rattle.typed_tree.specs.Tree.{ProgramTree}

shows_all : (p : ProgramTree) → IsSound p → PassShowsAll p
shows_all p sound = shows_by_left p sound.typed sound.accepted (record {
  rest = rest_of_halves p sound.typed (alone.also p sound) (places_left p sound (guards_kept p sound))
      (calls_hold p sound);
})

pub never_stuck : NeverStuck
never_stuck = never_stuck_of shows_all

pub calls : CallsLeaveWhole
calls = calls_of shows_all

pub calls_of_runs : CallsOfRuns
calls_of_runs = calls_of_runs_of shows_all

pub once : EndsOnce
once = once_of shows_all
