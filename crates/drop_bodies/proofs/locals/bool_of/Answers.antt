use Rattle.std.proofs.Common.{arith}
use Rattle.drop_bodies.proofs.Numbers.{none-before, one-past, yet-to-come}
use Rattle.drop_bodies.proofs.locals.bool_of.Goals as goal

pub loop-n-init : goal.loop-n-init
loop-n-init c = none-before c.args.items.now.types

pub overflow_add-n : goal.overflow_add-n
overflow_add-n c =
    let less = yet-to-come c.args.items.now.types c.loop-n.n c.requires c.loop-n.invariant in
    let short = c.is_bool.ensures.sound.short.types in omega (less, short, arith)

pub loop-n-smaller : goal.loop-n-smaller
loop-n-smaller c =
    let less = yet-to-come c.args.items.now.types c.loop-n.n c.requires c.loop-n.invariant in omega (less, arith)

pub loop-n-preserved : goal.loop-n-preserved
loop-n-preserved c =
    one-past c.args.items.now.types c.loop-n.n c.is_bool.result c.loop-n.invariant c.is_bool.ensures.exact c.loop-n-test.true
