use Rattle.std.proofs.Common.{◌∙◌}
use Rattle.typeck_calls.proofs.Beginnings.{begins, function_as}
use Rattle.typeck_calls.specs.declared.resolve.CallEnding.{CallEnding}
use Rattle.typeck_checker.specs.Stand.{state}
use Rattle.typing_rules.specs.Named.{function_by}
use Rattle.std.specs.List.{slice_get}
use Rattle.typing_rules.specs.Typed.{called_by}
use Rattle.typeck_calls.proofs.resolve.function.Goals as goal

pub returns-in_ok-params-in-Some-clause-gives : goal.returns-in_ok-params-in-Some-clause-gives
returns-in_ok-params-in-Some-clause-gives c at expected value =
    let before = c.args.checker.now in
    let s = state before in
    let head = c.in-Some.sig.now in
    let params = c.in_ok-params-in-Some.params in
    begins at expected params (CallEnding.Function c.args.body head.result c.is_drop-is_drop.result)
    (λ count args. called_by at count value args (function_by before.walk.items c.args.body (slice_get before.walk.items.bodies c.args.body)) expected)
    s s c.start_call.result c.start_call.new.checker
    (function_as at expected c.args.body head params c.is_drop-is_drop.result value s c.in-Some.ensures.value (c.in_ok-params-in-Some.ensures.copy ∙ c.as_slice.ensures) c.is_drop-is_drop.ensures)
    c.start_call.ensures.number c.start_call.ensures.params c.start_call.ensures.ending
