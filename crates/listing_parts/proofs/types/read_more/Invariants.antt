use Rattle.std.proofs.Common.{◌≡◌, ◌-◌, ◌++◌, List, ℕ, length, map}
use Rattle.mir_ty.specs.AreItems.{AreTypes}
use Rattle.listing_write.specs.Reading.Rows.{comma, many, many_within}
use Rattle.listing_parts.specs.Table.{Grow, text_under}
use Rattle.listing_parts.specs.TypeReading.{type_read}
use Rattle.listing_parts.proofs.types.read_more.Given as goal

abbrev pub invariant-loop : goal.invariant-loop
invariant-loop l = record {
  left : ◌≡◌ {A = List (List ℕ) × List ℕ}
      (map (text_under l.heads l.items) l.parts ++ (many_within (length l.text - l.counter) (comma (type_read l.heads)) l.rest).0, (many_within (length l.text - l.counter) (comma (type_read l.heads)) l.rest).1)
      (map (text_under l.heads l.initial.items) l.initial.parts ++ (many (comma (type_read l.heads)) l.text).0, (many (comma (type_read l.heads)) l.text).1);
  within : AreTypes l.items.types l.parts;
  grow : Grow l.heads l.initial.items l.items;
}
