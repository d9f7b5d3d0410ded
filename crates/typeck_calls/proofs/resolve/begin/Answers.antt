use Rattle.std.proofs.Common.{sym, subst}
use Rattle.typeck_calls.specs.Callees.{callee_seen}
use Rattle.typeck_calls.specs.Endings.{resolved_end}
use Rattle.typeck_calls.specs.declared.resolve.ResolvedCall.{ResolvedCall}
use Rattle.typeck_calls.specs.declared.callees.Callee.{Callee}
use Rattle.typeck_calls.specs.Calls.{GivesCall}
use Rattle.typeck_checker.specs.Stand.{state}
use Rattle.typing_rules.specs.Typed.{called_by}
use Rattle.typeck_calls.proofs.resolve.begin.Goals as goal

pub returns-in-Function-clause-gives : goal.returns-in-Function-clause-gives
returns-in-Function-clause-gives c value =
    let before = c.args.checker.now in
    subst (λ (x : Callee). GivesCall (λ count args. called_by c.args.at count value args (callee_seen before.walk.items x) c.args.expected) (state before) (λ (b : ResolvedCall). b.params) (resolved_end c.args.at c.args.expected) c.function.result c.function.new.checker)
    (sym c.in-Function.is) (c.function.ensures.gives c.args.at c.args.expected value)

pub returns-in-Constructor-clause-gives : goal.returns-in-Constructor-clause-gives
returns-in-Constructor-clause-gives c value =
    let before = c.args.checker.now in
    subst (λ (x : Callee). GivesCall (λ count args. called_by c.args.at count value args (callee_seen before.walk.items x) c.args.expected) (state before) (λ (b : ResolvedCall). b.params) (resolved_end c.args.at c.args.expected) c.constructor.result c.constructor.new.checker)
    (sym c.in-Constructor.is) (c.constructor.ensures.gives c.args.at c.args.expected value)

pub returns-in-Boxes-clause-gives : goal.returns-in-Boxes-clause-gives
returns-in-Boxes-clause-gives c value =
    let before = c.args.checker.now in
    subst (λ (x : Callee). GivesCall (λ count args. called_by c.args.at count value args (callee_seen before.walk.items x) c.args.expected) (state before) (λ (b : ResolvedCall). b.params) (resolved_end c.args.at c.args.expected) c.new_box.result c.new_box.new.checker)
    (sym c.in-Boxes.is) (c.new_box.ensures.gives c.args.at)
