use Rattle.std.proofs.Common.{◌≤◌, ◌-◌, length, arith}
use Rattle.listing_write.proofs.Counting.{over}
use Rattle.listing_parts.proofs.NumberTables.{one_earlier}
use Rattle.listing_parts.proofs.heads.trait_numbers.Goals as goal

pub loop-n-preserved-in-Continue-1 : goal.loop-n-preserved-in-Continue-1
loop-n-preserved-in-Continue-1 c =
    one_earlier (λ one. one.name) c.args.items.now.traits c.args.count c.loop-n.numbers c.note.new.numbers (c.loop-n.n - 1) c.loop-n.n
    c.in-Some.def.now c.as_bytes.result.now (omega arith) c.in-Some.ensures.value c.as_bytes.ensures c.in_ok-note.ensures c.loop-n.invariant

pub loop-n-preserved : goal.loop-n-preserved
loop-n-preserved c =
    let past : length c.args.items.now.traits ≤ c.loop-n.n - 1 = over c.args.items.now.traits (c.loop-n.n - 1) c.in_default.ensures.value in
    absurd (omega arith)
