use Rattle.std.proofs.Common.{arith, refl}
use Rattle.typeck_patterns.proofs.OneName.{any_told_of, not_any}
use Rattle.typeck_patterns.proofs.Shapes.{pattern_falls}
use Rattle.typeck_patterns.proofs.lets.+takes_any.Goals as goal

pub returns-in-Wild : goal.returns-in-Wild
returns-in-Wild t c =
    any_told_of c.args.node.now _ _ _ c.in-Wild.is c.pattern_form.ensures refl

pub returns-in-Parens : goal.returns-in-Parens
returns-in-Parens t c =
    any_told_of c.args.node.now _ _ _ c.in-Parens.is c.pattern_form.ensures c.takes_any.ensures

pub returns-in_default : goal.returns-in_default
returns-in_default t c =
    not_any c.args.node.now _ c.pattern_form.ensures c.in_default.not-Wild c.in_default.not-Parens

pub takes_any-requires : goal.takes_any-requires
takes_any-requires t c = (pattern_falls c.args.node.now _ _ t _ c.decreases c.in-Parens.is c.pattern_form.ensures (omega arith), tt)
