use Rattle.std.proofs.Common.{◌≡◌, suc, ◌+◌, [], drop, ap, sym, subst, ◌∙◌, arith}
use Rattle.std.proofs.lemmas.Grind.{common_steps}
use Rattle.cfg_meaning.specs.Actions.{action_of}
use Rattle.cfg_meaning.specs.Walk.{naming, stmts_do}
use Rattle.mir_machine.proofs.BlocksLeft.{all_do, stmt_goes, stmt_panics, stmt_stops, stmt_ticks}
use Rattle.mir_machine.specs.Tasks.{StmtsEnd}
use Rattle.machine_steps.proofs.Operands.{next_left}
use Rattle.machine_steps.specs.Acting.{DoesAct}
use Rattle.machine_steps.specs.declared.actions.Outcome.{Outcome}
use Rattle.machine_steps.specs.Steps.{seen}
use Rattle.machine_steps.specs.Worlds.{state_of, run_setting}
use Rattle.store_model.specs.Concrete.Effects.{act, concrete_effects}
use Rattle.store_model.specs.Concrete.Location.{Setting}
use Rattle.mir_machine.proofs.statements.statements.Goals as goal

pub returns-in-Panics-clause-does : goal.returns-in-Panics-clause-does
returns-in-Panics-clause-does c = λ run fuel name rest before.
    let setting = run_setting c.args.world.now in
    let i = c.loop-stmt.stmt-index in
    let stmt = c.stmt-item.result in
    let next = next_left c.args.stmts.now i stmt c.loop-stmt-test.true c.stmt-item.is in
    let does = subst (λ o. DoesAct (action_of 0 stmt) c.loop-stmt.world o c.statement.new.self) c.in-Panics.is c.in_ok-statement.ensures.does in
    subst (λ out. StmtsEnd name rest out Outcome.Panics (state_of before c.statement.new.self))
    (sym (c.loop-stmt.invariant.so_far run fuel name rest before ∙ ap (λ l. all_do setting run fuel name rest i stmt l (state_of before c.loop-stmt.world) (state_of before c.loop-stmt.world) i l (state_of before c.loop-stmt.world)) next))
    (stmt_panics setting run fuel name rest i stmt (drop (i + 1) c.args.stmts.now) (state_of before c.loop-stmt.world) (state_of before c.statement.new.self)
    (ap (λ (s : Setting). seen (act s run (action_of 0 stmt) (state_of before c.loop-stmt.world))) (sym c.loop-stmt.invariant.same) ∙ does run before))

pub returns-in-Stuck-clause-does : goal.returns-in-Stuck-clause-does
returns-in-Stuck-clause-does c = λ run fuel name rest before.
    let setting = run_setting c.args.world.now in
    let i = c.loop-stmt.stmt-index in
    let stmt = c.stmt-item.result in
    let next = next_left c.args.stmts.now i stmt c.loop-stmt-test.true c.stmt-item.is in
    let does = subst (λ o. DoesAct (action_of 0 stmt) c.loop-stmt.world o c.statement.new.self) c.in-Stuck.is c.in_ok-statement.ensures.does in
    subst (λ out. StmtsEnd name rest out Outcome.Stuck (state_of before c.statement.new.self))
    (sym (c.loop-stmt.invariant.so_far run fuel name rest before ∙ ap (λ l. all_do setting run fuel name rest i stmt l (state_of before c.loop-stmt.world) (state_of before c.loop-stmt.world) i l (state_of before c.loop-stmt.world)) next))
    (stmt_stops setting run fuel name rest i stmt (drop (i + 1) c.args.stmts.now) (state_of before c.loop-stmt.world) (state_of before c.statement.new.self)
    (ap (λ (s : Setting). seen (act s run (action_of 0 stmt) (state_of before c.loop-stmt.world))) (sym c.loop-stmt.invariant.same) ∙ does run before))

pub loop-stmt-preserved : goal.loop-stmt-preserved
loop-stmt-preserved c =
    let setting = run_setting c.args.world.now in
    let i = c.loop-stmt.stmt-index in
    let stmt = c.stmt-item.result in
    let next = next_left c.args.stmts.now i stmt c.loop-stmt-test.true c.stmt-item.is in
    let does = subst (λ o. DoesAct (action_of 0 stmt) c.loop-stmt.world o c.statement.new.self) c.in-Goes.is c.in_ok-statement.ensures.does in
    let less = stmt_ticks c.loop-stmt.world c.statement.new.self stmt does in
    record {
      same = c.in_ok-statement.ensures.run ∙ c.loop-stmt.invariant.same;
      ticks = (let k = c.loop-stmt.invariant.ticks in omega arith);
      so_far = λ run fuel name rest before.
          c.loop-stmt.invariant.so_far run fuel name rest before
          ∙ ap (λ l. all_do setting run fuel name rest i stmt l (state_of before c.loop-stmt.world) (state_of before c.loop-stmt.world) i l (state_of before c.loop-stmt.world)) next
          ∙ stmt_goes setting run fuel name rest i stmt (drop (i + 1) c.args.stmts.now) (state_of before c.loop-stmt.world) (state_of before c.statement.new.self)
          (ap (λ (s : Setting). seen (act s run (action_of 0 stmt) (state_of before c.loop-stmt.world))) (sym c.loop-stmt.invariant.same) ∙ does run before)
          ∙ ap (λ n. all_do setting run fuel name rest n stmt [] (state_of before c.loop-stmt.world) (state_of before c.loop-stmt.world) n (drop (i + 1) c.args.stmts.now) (state_of before c.statement.new.self)) (let e : suc c.loop-stmt.stmt-index ≡ c.loop-stmt.stmt-index + 1 = omega arith in e);
    }

pub returns-clause-does : goal.returns-clause-does
returns-clause-does c = λ run fuel name rest before.
    let setting = run_setting c.args.world.now in
    let none : drop c.loop-stmt.stmt-index c.args.stmts.now ≡ [] = grind (arith, common_steps) in
    c.loop-stmt.invariant.so_far run fuel name rest before
    ∙ ap (λ l. stmts_do (naming name (concrete_effects setting run fuel)) (λ line. 0) c.loop-stmt.stmt-index l rest (state_of before c.loop-stmt.world)) none
