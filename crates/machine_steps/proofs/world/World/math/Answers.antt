use Rattle.std.proofs.Common.{sym, subst}
use Rattle.cfg_meaning.specs.Actions.{site_of, operand_of}
use Rattle.machine_steps.specs.Acting.{DoesAct}
use Rattle.machine_steps.proofs.ActsDone.{acts_stopped}
use Rattle.store_model.specs.Effects as actions
use Rattle.machine_steps.proofs.world.World.math.Goals as goal

pub returns-clause-does : goal.returns-clause-does
returns-clause-does c =
    subst (λ outcome. DoesAct (actions.Compute (site_of 0 c.args.to.now) c.args.operator (operand_of 0 c.args.left.now) (operand_of 0 c.args.right.now)) c.args.self.now outcome c.compute.new.self) (sym c.stop_if.ensures)
    (acts_stopped (actions.Compute (site_of 0 c.args.to.now) c.args.operator (operand_of 0 c.args.left.now) (operand_of 0 c.args.right.now)) c.args.self.now c.compute.new.self c.in_ok-outcome.outcome c.is_never-never.result (λ before. sym c.is_never-never.ensures) c.in_ok-outcome.ensures.does)
