use Rattle.std.proofs.Common.{length, sym, ◌∙◌}
use Rattle.borrow_rules.proofs.Alike.{at_the_end, past_the_shorter}
use Rattle.borrow_rules.proofs.place.begin_alike.Goals as goal

pub returns : goal.returns
returns c =
    sym (at_the_end c.args.a.now c.args.b.now c.loop-n.n
    (past_the_shorter (length c.args.a.now) (length c.args.b.now) c.loop-n.n c.min-n-end.result c.min-n-end.ensures c.loop-n-test.false))
    ∙ c.loop-n.invariant
