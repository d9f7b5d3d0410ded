use Rattle.std.proofs.Common.{ap, sym, subst, ◌∙◌}
use Rattle.cfg_meaning.specs.Actions.{action_of}
use Rattle.machine_steps.specs.Acting.{DoesAct}
use Rattle.machine_steps.proofs.ActsDone.{acts_stopped, stores_into}
use Rattle.machine_steps.proofs.world.World.statement.Goals as goal

pub returns-clause-does : goal.returns-clause-does
returns-clause-does c =
    subst (λ outcome. DoesAct (action_of 0 c.args.stmt.now) c.args.self.now outcome c.perform.new.self) (sym c.stop_if.ensures)
    (acts_stopped (action_of 0 c.args.stmt.now) c.args.self.now c.perform.new.self c.in_ok-outcome.outcome c.stores_never-never.result
    (λ before. stores_into c.args.self.now before c.args.stmt.now ∙ sym c.stores_never-never.ensures) c.in_ok-outcome.ensures.does)
