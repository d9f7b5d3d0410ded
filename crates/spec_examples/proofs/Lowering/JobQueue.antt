-- A longer program: a queue of jobs, which are trait objects, moved out of an enum and back at each turn.
use Rattle.std.proofs.Common.{◌≡◌, refl, [], ◌∷◌, pos}
use Rattle.mir_base.specs.declared.trace.End.{End}
use Rattle.mir_base.specs.declared.trace.Event.TheVariants.{Call as call, Return as return, Unwind as unwind, Make as make, Boxed as box, Dropped as drop, Freed as free, Printed as printed, Asked as asked, Panicked as panic}
use Rattle.mir_base.specs.declared.trace.Why.{Why}
use Rattle.cfg_meaning.specs.Programs.{raw_graph_run}
use Rattle.lower_rules.specs.Lower.{graph_of}
use Rattle.src_meaning.proofs.Examples.JobQueue.{job_queue}

both_jobs_are_done : raw_graph_run (graph_of job_queue) (pos 1 ∷ []) 10000
    ≡ (
      call 8 ∷ call 1 ∷ make 0 1 ∷ make 0 2 ∷ return 1 ∷ box 3 ∷ make 0 4 ∷ box 5 ∷ asked (pos 1) ∷ call 7 ∷
          return 7 ∷ call 6 ∷ call 2 ∷ return 2 ∷ call 3 ∷ make 0 6 ∷ drop 0 2 ∷ printed (pos 11) ∷ return 0 ∷
          return 3 ∷ return 6 ∷ call 6 ∷ call 4 ∷ return 4 ∷ call 5 ∷ return 5 ∷ drop 0 4 ∷ printed (pos 20) ∷
          return 0 ∷ free 5 ∷ return 6 ∷ call 7 ∷ return 7 ∷ call 6 ∷ call 2 ∷ return 2 ∷ call 3 ∷ return 3 ∷
          drop 0 1 ∷ printed (pos 10) ∷ return 0 ∷ drop 0 6 ∷ printed (pos 1) ∷ return 0 ∷ free 3 ∷ return 6 ∷
          call 6 ∷ return 6 ∷ call 7 ∷ return 7 ∷ call 7 ∷ return 7 ∷ printed (pos 3) ∷ return 8 ∷ [],
      End.Returned,
    )
both_jobs_are_done = refl

the_second_job_fails : raw_graph_run (graph_of job_queue) (pos 3 ∷ []) 10000
    ≡ (
      call 8 ∷ call 1 ∷ make 0 1 ∷ make 0 2 ∷ return 1 ∷ box 3 ∷ make 0 4 ∷ box 5 ∷ asked (pos 3) ∷ call 7 ∷
          return 7 ∷ call 6 ∷ call 2 ∷ return 2 ∷ call 3 ∷ make 0 6 ∷ drop 0 2 ∷ printed (pos 11) ∷ return 0 ∷
          return 3 ∷ return 6 ∷ call 6 ∷ call 4 ∷ return 4 ∷ call 5 ∷ panic Why.Explicit ∷ unwind 5 ∷ drop 0 4 ∷
          printed (pos 20) ∷ return 0 ∷ free 5 ∷ unwind 6 ∷ drop 0 1 ∷ printed (pos 10) ∷ return 0 ∷ drop 0 6 ∷
          printed (pos 3) ∷ return 0 ∷ free 3 ∷ unwind 8 ∷ [],
      End.Panicked,
    )
the_second_job_fails = refl
