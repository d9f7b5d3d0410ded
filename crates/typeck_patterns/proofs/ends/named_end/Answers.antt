use Rattle.typeck_patterns.specs.NodeEnds.{target_node}
use Rattle.std.proofs.Common.{Bool, ◌&&◌, ◌||◌, ap, subst, ◌∙◌}
use Rattle.typeck_patterns.specs.Fields.{last_fields}
use Rattle.typeck_patterns.specs.Targets.{target_of}
use Rattle.typeck_checker.specs.Stand.{Gives, stack, state}
use Rattle.typing_rules.specs.Patterns as patterns
use Rattle.typing_rules.specs.Rows as rows
use Rattle.typing_rules.specs.Rows.{Given}
use Rattle.typeck_patterns.proofs.ends.named_end.Goals as goal

pub returns-clause-gives : goal.returns-clause-gives
returns-clause-gives c =
    let before = c.args.checker.now in
    let fields = last_fields c.args.given (stack before) in
    let is_count = c.in_ok-is_count.ensures.whole ∙ ap (λ (g : Given). patterns.are_given_once g && (c.args.dots || patterns.are_all_given c.args.count g)) c.as_slice.ensures in
    let is_known = c.are_known-is_known.ensures ∙ ap rows.are_known c.as_slice-2.ensures in
    subst (λ (b : Bool). Gives (target_node c.args.id.0 c.args.at c.args.takes_all c.args.ty (target_of c.args.target) fields (patterns.are_given_once c.args.given && (c.args.dots || patterns.are_all_given c.args.count c.args.given)) b (state before)) c.target_end.result c.target_end.new.checker) is_known
    (subst (λ (b : Bool). Gives (target_node c.args.id.0 c.args.at c.args.takes_all c.args.ty (target_of c.args.target) fields b c.are_known-is_known.result (state before)) c.target_end.result c.target_end.new.checker) is_count
    c.target_end.ensures.gives)
