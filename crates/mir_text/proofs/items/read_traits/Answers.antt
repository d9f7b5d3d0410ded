-- One trait more, and no more traits.
use Rattle.std.proofs.Common.{rules, ◌-◌, ◌+◌, Ok, length, ap, sym, arith}
use Rattle.mir_text.specs.SectionReading.{one_trait}
use Rattle.mir_text.specs.SectionsRead.{items_seen, FindsItem}
use Rattle.mir_text.proofs.Growing.{begins, goes_on, stops, fails, ends, trait_count}
use Rattle.mir_text.proofs.items.read_traits.Goals as goal

pub loop-n-init : goal.loop-n-init
loop-n-init c = record {
  so = begins c.args.heads.now (one_trait c.args.heads.now) c.args.items.now c.args.text.now (length c.args.text.now - 0) (omega arith) c.requires.drafted;
  due = sym (ap length c.requires.none);
}

pub loop-n-preserved : goal.loop-n-preserved
loop-n-preserved c =
    let heads = c.args.heads.now in
    let text = c.args.text.now in
    let n = c.loop-n.n in
    let new = c.add_trait.new.items in
    let one : FindsItem heads c.loop-n.items new (Ok c.in-Ok-add_trait.behind) (one_trait heads (items_seen heads c.loop-n.items) c.loop-n.rest.now) = search rules in
    let more = trait_count heads c.loop-n.items new c.loop-n.rest.now c.in-Ok-add_trait.behind.now one.there in
    record {
      so = goes_on heads (one_trait heads) c.args.items.now c.loop-n.items new (length text - n) (length text - (n + 1)) text c.loop-n.rest.now c.in-Ok-add_trait.behind (omega arith) c.loop-n.invariant.so one;
      due = let before = c.loop-n.invariant.due in omega (arith, more, before);
    }

pub returns-in-Err-Unreadable : goal.returns-in-Err-Unreadable
returns-in-Err-Unreadable c =
    stops c.args.heads.now (one_trait c.args.heads.now) c.args.items.now c.loop-n.items c.add_trait.new.items (length c.args.text.now - c.loop-n.n) c.args.text.now c.loop-n.rest c.loop-n.invariant.so (search rules)

pub returns-in-Err-NoMemory : goal.returns-in-Err-NoMemory
returns-in-Err-NoMemory c =
    fails c.args.heads.now (one_trait c.args.heads.now) c.args.items.now c.loop-n.items c.add_trait.new.items (length c.args.text.now - c.loop-n.n) c.args.text.now c.loop-n.rest.now c.add_trait.result c.loop-n.invariant.so c.add_trait.ensures

pub returns : goal.returns
returns c = ends c.args.heads.now (one_trait c.args.heads.now) c.args.items.now c.loop-n.items (length c.args.text.now - c.loop-n.n) c.args.text.now c.loop-n.rest (omega arith) c.loop-n.invariant.so
