use Rattle.std.proofs.Common.{[], sym, subst, ◌∙◌}
use Rattle.mir_machine.proofs.BodiesLeft.{keeps_giving, keeps_stuck_giving}
use Rattle.mir_machine.specs.Tasks.{AtTerm, Keeps, Next, TakesResult}
use Rattle.cfg_graph.specs.declared.terminator.Term.{Term}
use Rattle.mir_machine.specs.declared.tasks.Doing.{Doing}
use Rattle.mir_machine.proofs.statements.give.Goals as goal

pub returns-in_default : goal.returns-in_default
returns-in_default c = λ graph tasks.
    let old = c.args.world.now in
    let mid = c.take_result.new.world in
    let taken = subst (λ t. TakesResult old t mid) c.in_default.is c.in_ok-value.ensures.taken in
    subst (λ doing. Keeps graph old mid (AtTerm graph tasks c.args.number c.args.block Term.Return) (Next graph tasks doing)) (sym c.stuck.ensures)
    (keeps_stuck_giving graph tasks old mid mid c.args.number c.args.block c.in_ok-value.ensures.run taken)

pub returns : goal.returns
returns c = λ graph tasks.
    let old = c.args.world.now in
    let mid = c.take_result.new.world in
    let taken = subst (λ t. TakesResult old t mid) c.in-Some.is c.in_ok-value.ensures.taken in
    subst (λ value. Keeps graph old c.leave_returning.new.world (AtTerm graph tasks c.args.number c.args.block Term.Return) (Next graph tasks (Doing.Returned value))) (sym c.new.ensures)
    (keeps_giving graph tasks old mid c.leave_returning.new.world c.args.number c.args.block c.in-Some.value (taken []).0
    (c.in_ok-leave_returning.ensures.run ∙ c.in_ok-value.ensures.run) (λ before. (taken before).1) c.in_ok-leave_returning.ensures.left)

pub new-requires : goal.new-requires
new-requires c = (subst (λ t. TakesResult c.args.world.now t c.take_result.new.world) c.in-Some.is c.in_ok-value.ensures.taken []).0
