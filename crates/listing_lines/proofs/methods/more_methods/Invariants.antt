use Rattle.std.proofs.Common.{◌≡◌, ◌-◌, ◌++◌, List, ℕ, All, length, map}
use Rattle.mir_ty.specs.AreItems.{IsMethod}
use Rattle.listing_write.specs.Compared.{SigSeen, sig_seen}
use Rattle.listing_write.specs.Reading.Rows.{comma, many, many_within}
use Rattle.listing_parts.specs.Table.{Grow, under}
use Rattle.listing_lines.specs.TraitReading.{method_read}
use Rattle.listing_lines.proofs.methods.more_methods.Given as goal

abbrev pub invariant-loop : goal.invariant-loop
invariant-loop l = record {
  left : ◌≡◌ {A = List SigSeen × List ℕ}
      (map (sig_seen (under l.heads l.items)) l.methods ++ (many_within (length l.text - l.counter) (comma (method_read l.heads l.own)) l.rest).0, (many_within (length l.text - l.counter) (comma (method_read l.heads l.own)) l.rest).1)
      (map (sig_seen (under l.heads l.initial.items)) l.initial.methods ++ (many (comma (method_read l.heads l.own)) l.text).0, (many (comma (method_read l.heads l.own)) l.text).1);
  within : All (IsMethod l.items.types l.n) l.methods;
  grow : Grow l.heads l.initial.items l.items;
}
