use Rattle.typeck_patterns.specs.NodeEnds.{target_node}
use Rattle.std.proofs.Common.{true, ◌∙◌, ap, subst}
use Rattle.typeck_patterns.specs.Fields.{below_given, last_fields}
use Rattle.typeck_patterns.specs.Targets.{target_of}
use Rattle.typeck_checker.specs.Stand.{Gives, KeepsStack, stack, state}
use Rattle.typeck_patterns.proofs.Closings.{first_below, first_fields}
use Rattle.typeck_patterns.proofs.ends.ordered_end.Goals as goal

pub returns-clause-gives : goal.returns-clause-gives
returns-clause-gives c =
    let before = c.args.checker.now in
    subst (λ fields. Gives (target_node c.args.id.0 c.args.at c.args.takes_all c.args.ty (target_of c.args.target) fields c.args.is_count true (state before)) c.target_end.result c.target_end.new.checker)
    (ap (λ given. last_fields given (stack before)) c.in_ok-given.ensures.made ∙ first_fields c.args.count (stack before))
    c.target_end.ensures.gives

pub returns-clause-kept : goal.returns-clause-kept
returns-clause-kept c =
    let before = c.args.checker.now in
    subst (λ others. KeepsStack others before c.target_end.result c.target_end.new.checker)
    (ap (λ given. below_given given (stack before)) c.in_ok-given.ensures.made ∙ first_below c.args.count (stack before))
    c.target_end.ensures.kept
