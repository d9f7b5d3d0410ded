-- One impl more, and no more of them.
use Rattle.std.proofs.Common.{rules, ◌-◌, ◌+◌, length, arith}
use Rattle.mir_text.specs.SectionReading.{one_impl}
use Rattle.mir_text.proofs.Growing.{begins, goes_on, stops, fails, ends}
use Rattle.mir_text.proofs.items.read_impls.Goals as goal

pub loop-init : goal.loop-init
loop-init c = begins c.args.heads.now (one_impl c.args.heads.now) c.args.items.now c.args.text.now (length c.args.text.now - 0) (omega arith) c.requires

pub loop-preserved : goal.loop-preserved
loop-preserved c =
    let text = c.args.text.now in
    goes_on c.args.heads.now (one_impl c.args.heads.now) c.args.items.now c.loop.items c.add_impl.new.items (length text - c.loop.counter) (length text - (c.loop.counter + 1)) text c.loop.rest.now c.in-Ok.behind (omega arith)
    c.loop.invariant (search rules)

pub returns-in-Err-Unreadable : goal.returns-in-Err-Unreadable
returns-in-Err-Unreadable c =
    stops c.args.heads.now (one_impl c.args.heads.now) c.args.items.now c.loop.items c.add_impl.new.items (length c.args.text.now - c.loop.counter) c.args.text.now c.loop.rest c.loop.invariant (search rules)

pub returns-in-Err-NoMemory : goal.returns-in-Err-NoMemory
returns-in-Err-NoMemory c =
    fails c.args.heads.now (one_impl c.args.heads.now) c.args.items.now c.loop.items c.add_impl.new.items (length c.args.text.now - c.loop.counter) c.args.text.now c.loop.rest.now c.add_impl.result c.loop.invariant c.add_impl.ensures

pub returns : goal.returns
returns c = ends c.args.heads.now (one_impl c.args.heads.now) c.args.items.now c.loop.items (length c.args.text.now - c.loop.counter) c.args.text.now c.loop.rest (omega arith) c.loop.invariant
