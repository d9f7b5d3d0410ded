use Rattle.std.proofs.Common.{sym, subst, IfOk}
use Rattle.cfg_meaning.specs.Actions.{site_of, operands_of, action_of}
use Rattle.machine_steps.specs.Steps.{DoesAction}
use Rattle.store_model.specs.Effects as actions
use Rattle.machine_steps.proofs.world.World.perform.Goals as goal

pub returns-in-Put-clause-does : goal.returns-in-Put-clause-does
returns-in-Put-clause-does c = subst (λ s. IfOk c.assign.result (λ outcome. DoesAction (action_of 0 s) c.args.self.now outcome c.assign.new.self)) (sym c.in-Put.is) c.assign.ensures.does

pub returns-in-Compare-clause-does : goal.returns-in-Compare-clause-does
returns-in-Compare-clause-does c = subst (λ s. IfOk c.compare.result (λ outcome. DoesAction (action_of 0 s) c.args.self.now outcome c.compare.new.self)) (sym c.in-Compare.is) c.compare.ensures.does

pub returns-in-Not-clause-does : goal.returns-in-Not-clause-does
returns-in-Not-clause-does c = subst (λ s. IfOk c.negate_truth.result (λ outcome. DoesAction (action_of 0 s) c.args.self.now outcome c.negate_truth.new.self)) (sym c.in-Not.is) c.negate_truth.ensures.does

pub returns-in-NewBox-clause-does : goal.returns-in-NewBox-clause-does
returns-in-NewBox-clause-does c = subst (λ s. IfOk c.new_box.result (λ outcome. DoesAction (action_of 0 s) c.args.self.now outcome c.new_box.new.self)) (sym c.in-NewBox.is) c.new_box.ensures.does

pub returns-in-Unsize-clause-does : goal.returns-in-Unsize-clause-does
returns-in-Unsize-clause-does c = subst (λ s. IfOk c.unsize.result (λ outcome. DoesAction (action_of 0 s) c.args.self.now outcome c.unsize.new.self)) (sym c.in-Unsize.is) c.unsize.ensures.does

pub returns-in-Borrow-clause-does : goal.returns-in-Borrow-clause-does
returns-in-Borrow-clause-does c = subst (λ s. IfOk c.borrow.result (λ outcome. DoesAction (action_of 0 s) c.args.self.now outcome c.borrow.new.self)) (sym c.in-Borrow.is) c.borrow.ensures.does

pub returns-in-Touch-clause-does : goal.returns-in-Touch-clause-does
returns-in-Touch-clause-does c = subst (λ s. IfOk c.touch.result (λ outcome. DoesAction (action_of 0 s) c.args.self.now outcome c.args.self.now)) (sym c.in-Touch.is) c.touch.ensures

pub returns-in-Print-clause-does : goal.returns-in-Print-clause-does
returns-in-Print-clause-does c = subst (λ s. IfOk c.print.result (λ outcome. DoesAction (action_of 0 s) c.args.self.now outcome c.print.new.self)) (sym c.in-Print.is) c.print.ensures.does

pub returns-in-Forget-clause-does : goal.returns-in-Forget-clause-does
returns-in-Forget-clause-does c = subst (λ s. IfOk c.forget.result (λ outcome. DoesAction (action_of 0 s) c.args.self.now outcome c.forget.new.self)) (sym c.in-Forget.is) c.forget.ensures.does

pub returns-in-Free-clause-does : goal.returns-in-Free-clause-does
returns-in-Free-clause-does c = subst (λ s. IfOk c.free.result (λ outcome. DoesAction (action_of 0 s) c.args.self.now outcome c.free.new.self)) (sym c.in-Free.is) c.free.ensures.does

pub returns-in-Tuple-clause-does : goal.returns-in-Tuple-clause-does
returns-in-Tuple-clause-does c =
    subst (λ s. IfOk c.aggregate.result (λ outcome. DoesAction (action_of 0 s) c.args.self.now outcome c.aggregate.new.self)) (sym c.in-Tuple.is)
    (subst (λ parts. IfOk c.aggregate.result (λ outcome. DoesAction (actions.Build (site_of 0 c.in-Tuple.to) actions.OfTuple (operands_of 0 parts)) c.args.self.now outcome c.aggregate.new.self)) c.as_slice.ensures c.aggregate.ensures.does)

pub returns-in-Array-clause-does : goal.returns-in-Array-clause-does
returns-in-Array-clause-does c =
    subst (λ s. IfOk c.aggregate-in-Array.result (λ outcome. DoesAction (action_of 0 s) c.args.self.now outcome c.aggregate-in-Array.new.self)) (sym c.in-Array.is)
    (subst (λ parts. IfOk c.aggregate-in-Array.result (λ outcome. DoesAction (actions.Build (site_of 0 c.in-Array.to) actions.OfArray (operands_of 0 parts)) c.args.self.now outcome c.aggregate-in-Array.new.self)) c.as_slice-in-Array.ensures c.aggregate-in-Array.ensures.does)

pub returns-in-Close-clause-does : goal.returns-in-Close-clause-does
returns-in-Close-clause-does c =
    subst (λ s. IfOk c.aggregate-in-Close.result (λ outcome. DoesAction (action_of 0 s) c.args.self.now outcome c.aggregate-in-Close.new.self)) (sym c.in-Close.is)
    (subst (λ parts. IfOk c.aggregate-in-Close.result (λ outcome. DoesAction (actions.Build (site_of 0 c.in-Close.to) (actions.OfClosure c.in-Close.closure) (operands_of 0 parts)) c.args.self.now outcome c.aggregate-in-Close.new.self)) c.as_slice-in-Close.ensures c.aggregate-in-Close.ensures.does)

pub returns-in-Make-clause-does : goal.returns-in-Make-clause-does
returns-in-Make-clause-does c =
    subst (λ s. IfOk c.make.result (λ outcome. DoesAction (action_of 0 s) c.args.self.now outcome c.make.new.self)) (sym c.in-Make.is)
    (subst (λ parts. IfOk c.make.result (λ outcome. DoesAction (actions.Build (site_of 0 c.in-Make.to) (actions.OfVariant c.in-Make.adt c.in-Make.variant) (operands_of 0 parts)) c.args.self.now outcome c.make.new.self)) c.as_slice-in-Make.ensures c.make.ensures.does)
