use Rattle.std.proofs.Common.{◌||◌, ◌&&◌, ◌==◌, length, ap, ◌∙◌}
use Rattle.typeck_patterns.proofs.Numbers.{all_same, known_whole, other_whole}
use Rattle.typeck_patterns.proofs.given_fields.is_whole.Goals as goal
use Rattle.typeck_patterns.proofs.given_fields.is_whole.Goals.{then-once, else-once}

pub returns-clause-whole : goal.returns-clause-whole
returns-clause-whole c =
    elim c.if-once.branch [
      | then-once w ↦ known_whole _ _ _ _ _ w.result-is (w.are_enough.ensures ∙ ap (λ b. c.args.dots || (length c.args.given.now == c.args.count && b)) (all_same c.args.count _ c.args.given.now c.in_ok-once.ensures.noted)) w.if-once.true c.in_ok-once.ensures.once
      | else-once w ↦ other_whole _ _ _ _ w.result-is w.if-once.false c.in_ok-once.ensures.once
    ]
