use Rattle.std.proofs.Common.{◌≡◌, Some, None, refl, sym, subst, arith}
use Rattle.std.proofs.lemmas.Grind.{common_steps}
use Rattle.std.proofs.lemmas.Result.{IfOk-weaker}
use Rattle.std.specs.Prelude.{slice_get}
use Rattle.mir_base.specs.Trace.{Trace}
use Rattle.mir_machine.proofs.BlocksLeft.{no_such_body, no_such_block, no_tick, stmts_go_on, stmts_lost, stmts_stuck}
use Rattle.mir_machine.specs.declared.tasks.Doing.{Doing}
use Rattle.mir_machine.specs.Tasks.{AtBlock, BeginsSo, DoesStmts, Keeps, Next, lost_end}
use Rattle.machine_steps.specs.declared.actions.Outcome.{Outcome}
use Rattle.machine_steps.specs.Worlds.{state_of}
use Rattle.mir_machine.proofs.statements.walk.Goals as goal

pub returns-in_default : goal.returns-in_default
returns-in_default c =
    let none : slice_get c.args.graph.now.bodies c.args.number ≡ None = grind (arith, common_steps) in
    no_such_body c.args.graph.now c.args.tasks.now c.args.world.now c.args.number c.args.block none c.stuck.result

pub returns-in_default-get : goal.returns-in_default-get
returns-in_default-get c =
    let body : slice_get c.args.graph.now.bodies c.args.number ≡ Some c.in-Some.body.now = grind (arith, common_steps) in
    let none : slice_get c.in-Some.body.now.blocks c.args.block ≡ None = grind (arith, common_steps) in
    no_such_block c.args.graph.now c.args.tasks.now c.args.world.now c.args.number c.args.block c.in-Some.body.now body none c.stuck-in_default-get.result c.stuck-in_default-get.ensures

pub returns-then-not-begin_block : goal.returns-then-not-begin_block
returns-then-not-begin_block c =
    let body : slice_get c.args.graph.now.bodies c.args.number ≡ Some c.in-Some.body.now = grind (arith, common_steps) in
    let block : slice_get c.in-Some.body.now.blocks c.args.block ≡ Some c.in-Some-get.found.now = grind (arith, common_steps) in
    let begins = subst (λ b. (before : Trace) → BeginsSo c.in-Some-get.found.now.kind (state_of before c.args.world.now) b (state_of before c.begin_block.new.world)) c.if-not-begin_block.true c.begin_block.ensures.begins in
    no_tick c.args.graph.now c.args.tasks.now c.args.world.now c.args.number c.args.block c.in-Some.body.now body c.in-Some-get.found.now block c.begin_block.new.world c.begin_block.ensures.run begins

pub returns-in-Goes : goal.returns-in-Goes
returns-in-Goes c =
    let body : slice_get c.args.graph.now.bodies c.args.number ≡ Some c.in-Some.body.now = grind (arith, common_steps) in
    let block : slice_get c.in-Some.body.now.blocks c.args.block ≡ Some c.in-Some-get.found.now = grind (arith, common_steps) in
    let mid = c.begin_block.new.world in
    let new = c.statements.new.world in
    let begins = subst (λ b. (before : Trace) → BeginsSo c.in-Some-get.found.now.kind (state_of before c.args.world.now) b (state_of before mid)) c.if-not-begin_block.false c.begin_block.ensures.begins in
    let does = subst (λ stmts. DoesStmts stmts mid Outcome.Goes new) c.as_slice.ensures (subst (λ o. DoesStmts c.as_slice.result.now mid o new) c.in-Goes.is c.in_ok-statements.ensures.does) in
    IfOk-weaker c.terminate.result _ _
    (λ doing k. stmts_go_on c.args.graph.now c.args.tasks.now c.args.world.now c.args.number c.args.block c.in-Some.body.now body c.in-Some-get.found.now block mid new c.begin_block.ensures.run begins c.in_ok-statements.ensures.run
    c.terminate.new.tasks c.terminate.new.world doing does (c.in_ok-statements.ensures.ticks c.in-Goes.is) k)
    c.terminate.ensures

pub returns-in-Panics : goal.returns-in-Panics
returns-in-Panics c =
    let body : slice_get c.args.graph.now.bodies c.args.number ≡ Some c.in-Some.body.now = grind (arith, common_steps) in
    let block : slice_get c.in-Some.body.now.blocks c.args.block ≡ Some c.in-Some-get.found.now = grind (arith, common_steps) in
    let mid = c.begin_block.new.world in
    let new = c.statements.new.world in
    let begins = subst (λ b. (before : Trace) → BeginsSo c.in-Some-get.found.now.kind (state_of before c.args.world.now) b (state_of before mid)) c.if-not-begin_block.false c.begin_block.ensures.begins in
    let does = subst (λ stmts. DoesStmts stmts mid Outcome.Panics new) c.as_slice.ensures (subst (λ o. DoesStmts c.as_slice.result.now mid o new) c.in-Panics.is c.in_ok-statements.ensures.does) in
    subst (λ end. Keeps c.args.graph.now c.args.world.now new (AtBlock c.args.graph.now c.args.tasks.now c.args.number c.args.block) (Next c.args.graph.now c.args.tasks.now (Doing.Ended end))) (sym c.end_of_lost.ensures)
    (stmts_lost c.args.graph.now c.args.tasks.now c.args.world.now c.args.number c.args.block c.in-Some.body.now body c.in-Some-get.found.now block mid new c.begin_block.ensures.run begins c.in_ok-statements.ensures.run
    (Doing.Ended (lost_end c.args.tasks.now)) does refl)

pub returns-in-Stuck : goal.returns-in-Stuck
returns-in-Stuck c =
    let body : slice_get c.args.graph.now.bodies c.args.number ≡ Some c.in-Some.body.now = grind (arith, common_steps) in
    let block : slice_get c.in-Some.body.now.blocks c.args.block ≡ Some c.in-Some-get.found.now = grind (arith, common_steps) in
    let mid = c.begin_block.new.world in
    let new = c.statements.new.world in
    let begins = subst (λ b. (before : Trace) → BeginsSo c.in-Some-get.found.now.kind (state_of before c.args.world.now) b (state_of before mid)) c.if-not-begin_block.false c.begin_block.ensures.begins in
    let does = subst (λ stmts. DoesStmts stmts mid Outcome.Stuck new) c.as_slice.ensures (subst (λ o. DoesStmts c.as_slice.result.now mid o new) c.in-Stuck.is c.in_ok-statements.ensures.does) in
    stmts_stuck c.args.graph.now c.args.tasks.now c.args.world.now c.args.number c.args.block c.in-Some.body.now body c.in-Some-get.found.now block mid new c.begin_block.ensures.run begins c.in_ok-statements.ensures.run
    c.stuck-in-Stuck.result does c.stuck-in-Stuck.ensures
