use Rattle.std.proofs.Common.{Bool, Result, ap, not, subst}
use Rattle.typeck_checker.specs.Lists.{behind_form, below_all, last_nodes}
use Rattle.typeck_checker.specs.Stand.{Gives, stack, state, top}
use Rattle.typed_tree.specs.Tree.{Node}
use Rattle.typing_rules.specs.Check.{Broken, TypingState}
use Rattle.typing_rules.specs.Rows.{method_call_end}
use Rattle.typeck_calls.proofs.receivers.called_end.Goals as goal

pub returns-clause-gives : goal.returns-clause-gives
returns-clause-gives c =
    let s = stack c.args.checker.now in
    let t = state c.args.checker.now in
    let called = c.args.called in
    let receiver = top (below_all c.args.count s) in
    let given = last_nodes c.args.count s in
    subst (λ (o : Result (Node × TypingState) Broken). Gives o c.refused_end.result c.refused_end.new.checker)
    (ap (λ (b : Bool). method_call_end c.args.id.0 c.args.at called.answer (behind_form called.behind receiver given) c.args.is_count called.place_at b (not called.is_drop) c.args.expected t) c.is_refused-is_refused.ensures)
    c.refused_end.ensures.gives
