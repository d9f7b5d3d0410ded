use Rattle.std.proofs.Common.{rules, ◌<◌, ◌∙◌, length, sym}
use Rattle.lower_locals.proofs.Positions.{none_before, one_past, bool_is}
use Rattle.lower_locals.proofs.bool_type.bool_ty.Goals as goal

pub loop-number-init : goal.loop-number-init
loop-number-init c = none_before _

pub loop-number-preserved : goal.loop-number-preserved
loop-number-preserved c =
    let less : c.loop-number.number < length c.args.items.now.types = search rules in
    one_past _ _ c.loop-number.invariant less (sym c.is_another.ensures.value ∙ c.loop-number-test.true)

pub returns : goal.returns
returns c =
    let is = bool_is _ _ c.loop-number.invariant (sym c.is_another.ensures.value ∙ c.loop-number-test.false) in
    λ i. record { 0 = sym is i }
