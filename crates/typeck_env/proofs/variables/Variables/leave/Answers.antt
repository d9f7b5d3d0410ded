use Rattle.std.proofs.Common.{◌≡◌, ◌+◌, ◌-◌, suc, drop, ap, ◌∙◌, arith}
use Rattle.typeck_env.proofs.Slots.{one_more_left}
use Rattle.typeck_env.proofs.variables.Variables.leave.Goals as goal

pub loop-n-preserved : goal.loop-n-preserved
loop-n-preserved c =
    let next : suc (c.loop-n._n - c.args.count) ≡ c.loop-n._n + 1 - c.args.count = omega arith in
    c.leave_one.ensures ∙ ap (drop 1) c.loop-n.invariant ∙ one_more_left (c.loop-n._n - c.args.count) c.args.self.now
    ∙ ap (λ k. drop k c.args.self.now) next
