use Rattle.std.proofs.Common.{arith}
use Rattle.drop_wants.proofs.Turned.{none-turned, one-turned, all-turned}
use Rattle.drop_wants.specs.Renumbered.{number_in}
use Rattle.drop_wants.proofs.renumbered.renumber.Goals as goal

pub loop-n-init : goal.loop-n-init
loop-n-init c = none-turned (number_in c.args.table.now) c.args.decided.now

pub loop-n-preserved : goal.loop-n-preserved
loop-n-preserved c =
    one-turned (number_in c.args.table.now) c.loop-n.n c.args.decided.now c.loop-n.decided c.element_mut.result.now
    c.renumber_decided.new.how c.loop-n.invariant c.element_mut.ensures.value c.renumber_decided.ensures

pub returns : goal.returns
returns c =
    all-turned (number_in c.args.table.now) c.loop-n.n c.args.decided.now c.loop-n.decided
    (let t = c.loop-n-test.false in let e = c.len-n-end.ensures in omega (t, e, arith)) c.loop-n.invariant
