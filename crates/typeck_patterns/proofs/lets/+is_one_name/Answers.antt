use Rattle.std.proofs.Common.{ap, arith, not}
use Rattle.typeck_patterns.proofs.OneName.{no_name, told_of}
use Rattle.typeck_patterns.proofs.Shapes.{pattern_falls}
use Rattle.typeck_patterns.proofs.lets.+is_one_name.Goals as goal

pub returns-in-Bind : goal.returns-in-Bind
returns-in-Bind t c =
    told_of c.args.checker.now.walk.items c.args.node.now _ _ _ c.in-Bind.is c.pattern_form.ensures (ap not c.names_struct.ensures)

pub returns-in-Parens : goal.returns-in-Parens
returns-in-Parens t c =
    told_of c.args.checker.now.walk.items c.args.node.now _ _ _ c.in-Parens.is c.pattern_form.ensures c.is_one_name.ensures

pub returns-in_default : goal.returns-in_default
returns-in_default t c =
    no_name c.args.checker.now.walk.items c.args.node.now _ c.pattern_form.ensures c.in_default.not-Bind c.in_default.not-Parens

pub is_one_name-requires : goal.is_one_name-requires
is_one_name-requires t c = (pattern_falls c.args.node.now _ _ t _ c.decreases c.in-Parens.is c.pattern_form.ensures (omega arith), tt)
