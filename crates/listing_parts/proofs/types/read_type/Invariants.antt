use Rattle.std.proofs.Common.{◌≡◌, ◌+◌, ◌≤◌, length}
use Rattle.listing_parts.specs.OpenTypes.{AreOpen, goes_on}
use Rattle.listing_parts.specs.Table.{Grow}
use Rattle.listing_parts.specs.TypeReading.{type_read}
use Rattle.listing_parts.proofs.types.read_type.Given as goal

abbrev pub invariant-loop : goal.invariant-loop
invariant-loop l = record {
  there : type_read l.heads l.text ≡ goes_on l.heads l.items l.opens (type_read l.heads l.rest);
  all_open : AreOpen l.items.types l.opens;
  left : length l.rest + l.counter ≤ length l.text;
  grow : Grow l.heads l.initial.items l.items;
}
