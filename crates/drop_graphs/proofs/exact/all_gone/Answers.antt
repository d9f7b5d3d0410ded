use Rattle.std.proofs.Common.{rules, ◌≡◌, ◌+◌, ◌≤◌, ◌<◌, ◌∙◌, List, length, subst, sym, arith}
use Rattle.drop_plans.specs.declared.analyses.Gone.{Gone}
use Rattle.drop_graphs.proofs.AllGone.{AreGoneTo, none-gone, one-more-gone, all-gone}
use Rattle.drop_graphs.proofs.exact.all_gone.Goals as goal

pub loop-number-init : goal.loop-number-init
loop-number-init c =
    subst (AreGoneTo c.args.raw.now 0) (sym (c.from_vec-all.ensures ∙ c.in_ok-with_capacity.ensures.items))
    (none-gone c.args.raw.now)

pub loop-number-preserved : goal.loop-number-preserved
loop-number-preserved c =
    subst (AreGoneTo c.args.raw.now (c.loop-number.number + 1)) (sym c.in_ok-push.ensures.pushed)
    (one-more-gone c.args.raw.now c.loop-number.number c.loop-number.all c.loop-number.invariant c.in_ok-new.field-0
    c.in_ok-new.ensures)

pub returns : goal.returns
returns c =
    let whole : length c.args.raw.now.bodies ≤ c.loop-number.number = search rules in
    all-gone c.args.raw.now c.loop-number.number c.loop-number.all whole (search rules) c.loop-number.invariant
