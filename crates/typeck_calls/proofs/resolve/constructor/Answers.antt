use Rattle.std.proofs.Common.{[], ◌∙◌}
use Rattle.std.specs.Option.{option_map_or}
use Rattle.typeck_calls.proofs.Beginnings.{begins, fields_as, made_as}
use Rattle.typeck_calls.specs.declared.resolve.CallEnding.{CallEnding}
use Rattle.typeck_checker.specs.Stand.{state}
use Rattle.typing_rules.specs.Named as named
use Rattle.typing_rules.specs.Typed.{called_by}
use Rattle.well_typed.specs.Types.{variant_at}
use Rattle.typeck_calls.proofs.resolve.constructor.Goals as goal

pub returns-clause-gives : goal.returns-clause-gives
returns-clause-gives c at expected value =
    let before = c.args.checker.now in
    let there = c.intern.new.self in
    let v = variant_at before.walk.items c.args.adt c.args.variant in
    let types = option_map_or (λ v. v.fields) v [] in
    begins at expected c.in_ok-params.params (CallEnding.Make c.args.adt c.args.variant c.in_ok-ty.ty)
    (λ count args. called_by at count value args (named.Constructor c.args.adt c.args.variant types) expected)
    (state before) (state there) c.start_call.result c.start_call.new.checker
    (made_as at expected c.args.adt c.args.variant c.in_ok-params.params types c.in_ok-ty.ty value (state before) (state there) c.in_ok-ty.ensures.number (c.in_ok-params.ensures.copy ∙ fields_as v))
    c.start_call.ensures.number c.start_call.ensures.params c.start_call.ensures.ending
