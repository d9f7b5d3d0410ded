use Rattle.std.proofs.Common.{◌<◌, List, Option, Result, arith, ap, sym, subst, ◌∙◌}
use Rattle.typeck_calls.proofs.Numbers.{first_is}
use Rattle.typeck_checker.specs.Stand.{Gives, stack, state, top}
use Rattle.typed_tree.specs.Tree.{Node}
use Rattle.typing_rules.specs.Check.{Broken, TypingState}
use Rattle.typing_rules.specs.Rows.{box_by, box_end}
use Rattle.typeck_calls.proofs.ends.new_box_end.Goals as goal

pub returns-clause-gives : goal.returns-clause-gives
returns-clause-gives c =
    let before = c.args.checker.now in
    let there = c.in_ok-first_alone.ensures in
    let some : 0 < c.args.count = omega (arith, c.if-count-eq0.false) in
    subst (λ (o : Result (Node × TypingState) Broken). Gives o c.box_end.result c.box_end.new.checker)
    (ap (λ (t : TypingState). box_end c.args.id.0 c.args.at c.args.count c.args.expected c.args.content (top (stack c.first_alone.new.checker)) t) there.state
    ∙ ap (λ (ns : List Node). box_end c.args.id.0 c.args.at c.args.count c.args.expected c.args.content (top ns) (state before)) there.left
    ∙ sym (ap (λ (n : Option Node). box_by c.args.at c.args.id.0 c.args.count c.args.expected c.args.content n (state before)) (first_is c.args.count (stack before) some)))
    c.box_end.ensures.gives
