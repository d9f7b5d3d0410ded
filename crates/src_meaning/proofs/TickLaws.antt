-- A run of a source with one tick more goes on from the run without it.
use Rattle.std.proofs.Common.{ℕ, suc, ℤ, List, [], subst, sym, arith}
use Rattle.mir_base.specs.declared.trace.Event.{Event}
use Rattle.store_model.proofs.Concrete.MoreTicks.{OneMore}
use Rattle.store_model.proofs.Concrete.OneTickMore.{one_tick_more, FollowsWithin, bodies_more, goes_on_from}
use Rattle.store_model.specs.Concrete.Bodies.{main_of, run_body, outcome_of, GoesOnFrom}
use Rattle.store_model.specs.Concrete.State.{beginning}
use Rattle.typed_tree.specs.Tree.{ProgramTree}
use Rattle.src_meaning.proofs.RunLaws.{run_same, within_follows}
use Rattle.src_meaning.specs.Laws.{SourceRunGoesOn}
use Rattle.src_meaning.specs.Programs.{setting_of, code_of}

follows_itself : (program : ProgramTree) → FollowsWithin (code_of program)
follows_itself program p follow turns number = within_follows program one_tick_more p p follow turns number

-- both runs are taken with the greater bound
run_goes_on : (program : ProgramTree) (main : ℕ) (asked : List ℤ) (ticks : ℕ) →
    GoesOnFrom (outcome_of (run_body (setting_of program) (code_of program) (suc ticks) (Event.Call main) main [] (beginning asked ticks)))
    (outcome_of (run_body (setting_of program) (code_of program) (suc (suc ticks)) (Event.Call main) main [] (beginning asked (suc ticks))))
run_goes_on program main asked ticks =
    subst (λ a. GoesOnFrom (outcome_of a)
    (outcome_of (run_body (setting_of program) (code_of program) (suc (suc ticks)) (Event.Call main) main [] (beginning asked (suc ticks)))))
    (sym (run_same program (suc ticks) (suc (suc ticks)) (Event.Call main) main [] (beginning asked ticks) (omega arith) (omega arith)))
    (goes_on_from _ _ (bodies_more (setting_of program) (code_of program) (follows_itself program) (suc (suc ticks)) OneMore (Event.Call main) main [] (beginning asked ticks) tt))

pub source_run_goes_on : SourceRunGoesOn
source_run_goes_on program asked ticks = run_goes_on program (main_of program.items) asked ticks
