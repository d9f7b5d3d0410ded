use Rattle.typeck_patterns.specs.NodeEnds.{partless_node}
use Rattle.std.proofs.Common.{sym, subst}
use Rattle.typeck_patterns.specs.PatternContext.{GivesBeside, pattern_context_of}
use Rattle.typeck_patterns.specs.Targets.{target_of}
use Rattle.typeck_patterns.proofs.Units.{beside, unit_beside}
use Rattle.typeck_checker.specs.Stand.{state}
use Rattle.typeck_patterns.proofs.path_patterns.unit_target.Goals as goal

pub returns-clause-gives : goal.returns-clause-gives
returns-clause-gives c =
    λ earlier.
    let before = state c.args.checker.now in
    subst (λ o. GivesBeside o c.unit_node.result earlier c.unit_node.new.checker)
    (sym (unit_beside c.args.at (pattern_context_of c.args.e) c.args.ty (target_of c.args.target) c.args.is_whole earlier before))
    (beside (partless_node c.args.at c.args.e.takes_all c.args.ty (target_of c.args.target) c.args.is_whole before) c.unit_node.result earlier c.unit_node.new.checker c.unit_node.ensures.gives)
