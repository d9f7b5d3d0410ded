use Rattle.std.proofs.Common.{refl}
use Rattle.std.proofs.lemmas.Result.{IfOk-weaker}
use Rattle.cfg_graph.specs.declared.terminator.Term.{Term}
use Rattle.cfg_meaning.specs.Actions.{operand_of}
use Rattle.mir_machine.proofs.TermsLeft.{keeps_acting}
use Rattle.store_model.specs.Effects as actions
use Rattle.mir_machine.proofs.statements.check_index.Goals as goal

pub returns : goal.returns
returns c =
    let post = c.args.post in
    IfOk-weaker c.go_on.result _ _
    (λ doing k graph tasks. keeps_acting graph tasks c.args.world.now c.check_index.new.self c.go_on.new.world post (Term.Bounds c.args.index.now c.args.length post.onward post.unwind) (actions.Bounds (operand_of 0 c.args.index.now) c.args.length) c.in_ok-outcome.outcome doing
    (λ strict ticks body w. refl) c.in_ok-outcome.ensures.run c.in_ok-outcome.ensures.does (k graph tasks))
    c.go_on.ensures
