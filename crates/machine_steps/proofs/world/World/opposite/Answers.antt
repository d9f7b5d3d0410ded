use Rattle.std.proofs.Common.{sym, subst}
use Rattle.cfg_meaning.specs.Actions.{site_of, operand_of}
use Rattle.machine_steps.specs.Acting.{DoesAct}
use Rattle.machine_steps.proofs.ActsDone.{acts_stopped}
use Rattle.store_model.specs.Effects as actions
use Rattle.machine_steps.proofs.world.World.opposite.Goals as goal

pub returns-clause-does : goal.returns-clause-does
returns-clause-does c =
    subst (λ outcome. DoesAct (actions.Negate (site_of 0 c.args.to.now) (operand_of 0 c.args.of.now)) c.args.self.now outcome c.negate.new.self) (sym c.stop_if.ensures)
    (acts_stopped (actions.Negate (site_of 0 c.args.to.now) (operand_of 0 c.args.of.now)) c.args.self.now c.negate.new.self c.in_ok-outcome.outcome c.is_never-never.result (λ before. sym c.is_never-never.ensures) c.in_ok-outcome.ensures.does)
