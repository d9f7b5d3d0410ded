use Rattle.std.proofs.Common.{◌≡◌, ◌<◌, ◌≤◌, Some, length}
use Rattle.listing_parts.specs.OpenTypes.{AreOpen, goes_on}
use Rattle.listing_parts.specs.Table.{Grow, text_under}
use Rattle.listing_parts.proofs.types.end_types.Given as goal

abbrev pub invariant-loop-around : goal.invariant-loop-around
invariant-loop-around l = record {
  there : goes_on l.heads l.initial.items l.initial.opens (Some (text_under l.heads l.initial.items l.fn.first, l.text))
      ≡ goes_on l.heads l.items l.opens (Some (text_under l.heads l.items l.id, l.rest));
  within : l.id.0 < length l.items.types;
  all_open : AreOpen l.items.types l.opens;
  shorter : length l.rest ≤ length l.text;
  grow : Grow l.heads l.initial.items l.items;
}

abbrev pub decreases-loop-around : goal.decreases-loop-around
decreases-loop-around l = length l.opens
