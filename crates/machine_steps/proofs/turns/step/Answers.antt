use Rattle.std.proofs.Common.{sym, subst}
use Rattle.std.proofs.lemmas.Result.{IfOk-weaker}
use Rattle.machine_steps.specs.Turns.{TurnLeft}
use Rattle.machine_steps.proofs.TurnsLeft.{is_of_run, clears_left, frees_left}
use Rattle.machine_steps.specs.Worlds.{state_of, run_setting}
use Rattle.machine_steps.proofs.turns.step.Goals as goal

pub returns-in-Leaves-clause-left : goal.returns-in-Leaves-clause-left
returns-in-Leaves-clause-left c =
    let world = c.args.world.now in
    IfOk-weaker c.leave.result _ _
    (λ next f before run out h. f world.graph.now.items world.ticks (run_setting world) run (state_of before world) out (is_of_run world before)
    (subst (TurnLeft (run_setting world) run (state_of before world) out c.args.drops.now) c.in-Leaves.is h))
    c.leave.ensures

pub returns-in_ok-clear-in-Clears-clause-left : goal.returns-in_ok-clear-in-Clears-clause-left
returns-in_ok-clear-in-Clears-clause-left c = λ before run out h.
    let world = c.args.world.now in
    let after = state_of before c.clear.new.world in
    subst (TurnLeft (run_setting world) run after out c.args.drops.now) (sym c.leaves_if.ensures)
    (clears_left (run_setting world) run (state_of before world) after out c.args.drops.now c.in-Clears.dynamic c.in_ok-clear-in-Clears.field-0 (c.in_ok-clear-in-Clears.ensures.cleared before run)
    (subst (TurnLeft (run_setting world) run (state_of before world) out c.args.drops.now) c.in-Clears.is h))

pub returns-in_ok-free-in-Frees-clause-left : goal.returns-in_ok-free-in-Frees-clause-left
returns-in_ok-free-in-Frees-clause-left c = λ before run out h.
    let world = c.args.world.now in
    let after = state_of before c.free.new.world in
    subst (TurnLeft (run_setting world) run after out c.args.drops.now) (sym c.leaves_if-in-Frees.ensures)
    (frees_left (run_setting world) run (state_of before world) after out c.args.drops.now c.in-Frees.dynamic c.in_ok-free-in-Frees.field-0 (c.in_ok-free-in-Frees.ensures.freed before run)
    (subst (TurnLeft (run_setting world) run (state_of before world) out c.args.drops.now) c.in-Frees.is h))
