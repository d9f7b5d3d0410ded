-- Heads that are not all read are read again, and are fewer then.
use Rattle.std.proofs.Common.{rules, ◌≡◌, ℕ, Some}
use Rattle.mir_text.specs.GraphReading.{fewer, items_under}
use Rattle.mir_text.specs.HeadReading.{heads_within}
use Rattle.mir_text.proofs.Settling.{next_heads, are_less}
use Rattle.mir_text.proofs.graphs.settled_heads.Goals as goal

pub loop-heads-preserved : goal.loop-heads-preserved
loop-heads-preserved c =
    let counts : ℕ × ℕ = (c.in-Ok-Some.adts, c.in-Ok-Some.traits) in
    let some : fewer c.loop-heads.heads (items_under c.loop-heads.heads c.args.text.now).0 ≡ Some counts = search rules in
    let read : c.in_ok-heads-in-Ok-Some.heads ≡ heads_within counts.0 counts.1 c.args.text.now = search rules in
    next_heads c.args.text.now c.loop-heads.heads c.in_ok-heads-in-Ok-Some.heads counts c.loop-heads.invariant some read

pub loop-heads-smaller : goal.loop-heads-smaller
loop-heads-smaller c =
    let counts : ℕ × ℕ = (c.in-Ok-Some.adts, c.in-Ok-Some.traits) in
    let some : fewer c.loop-heads.heads (items_under c.loop-heads.heads c.args.text.now).0 ≡ Some counts = search rules in
    let read : c.in_ok-heads-in-Ok-Some.heads ≡ heads_within counts.0 counts.1 c.args.text.now = search rules in
    are_less c.args.text.now c.loop-heads.heads c.in_ok-heads-in-Ok-Some.heads counts some read
