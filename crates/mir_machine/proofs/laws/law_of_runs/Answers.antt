use Rattle.std.proofs.Common.{refl}
use Rattle.mir_machine.proofs.RunsLeft.{body_on, walk_on, call_on, halts_end_runs, stuck_by_caller}
use Rattle.mir_machine.proofs.laws.law_of_runs.Goals as goal

pub returns-clause-strict : goal.returns-clause-strict
returns-clause-strict c = λ graph asked ticks. refl

pub returns-clause-raw : goal.returns-clause-raw
returns-clause-raw c = λ graph asked ticks. refl

pub returns-clause-bodies : goal.returns-clause-bodies
returns-clause-bodies c = body_on

pub returns-clause-walks : goal.returns-clause-walks
returns-clause-walks c = walk_on

pub returns-clause-calls : goal.returns-clause-calls
returns-clause-calls c = call_on

pub returns-clause-halts : goal.returns-clause-halts
returns-clause-halts c = halts_end_runs

pub returns-clause-stuck : goal.returns-clause-stuck
returns-clause-stuck c = stuck_by_caller
