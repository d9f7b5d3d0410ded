use Rattle.std.proofs.Common.{refl}
use Rattle.cfg_graph.specs.declared.terminator.Term.{Term}
use Rattle.cfg_meaning.specs.Actions.{operand_of}
use Rattle.mir_machine.proofs.BodiesLeft.{keeps_choosing}
use Rattle.store_model.specs.Effects as actions
use Rattle.mir_machine.proofs.statements.branch_if.Goals as goal

pub returns : goal.returns
returns c = λ graph tasks.
    keeps_choosing graph tasks c.args.world.now c.choose_truth.new.self c.args.number c.args.block c.args.yes c.args.no (actions.IsTrue (operand_of 0 c.args.on.now)) (Term.If c.args.on.now c.args.yes c.args.no) c.in_ok-choice.choice c.choose.result
    (λ strict ticks body w. refl) c.choose.ensures c.in_ok-choice.ensures.run c.in_ok-choice.ensures.chosen
