use Rattle.std.proofs.Common.{refl}
use Rattle.std.proofs.lemmas.Result.{IfOk-weaker}
use Rattle.cfg_graph.specs.declared.terminator.Term.{Term}
use Rattle.cfg_meaning.specs.Actions.{site_of, operand_of}
use Rattle.mir_machine.proofs.TermsLeft.{keeps_acting}
use Rattle.store_model.specs.Effects as actions
use Rattle.mir_machine.proofs.statements.compute.Goals as goal

pub returns : goal.returns
returns c =
    let post = c.args.post in
    IfOk-weaker c.go_on.result _ _
    (λ doing k graph tasks. keeps_acting graph tasks c.args.world.now c.math.new.self c.go_on.new.world post (Term.Math c.args.to.now c.args.operator c.args.left.now c.args.right.now post.onward post.unwind) (actions.Compute (site_of 0 c.args.to.now) c.args.operator (operand_of 0 c.args.left.now) (operand_of 0 c.args.right.now)) c.in_ok-outcome.outcome doing
    (λ strict ticks body w. refl) c.in_ok-outcome.ensures.run c.in_ok-outcome.ensures.does (k graph tasks))
    c.go_on.ensures
