use Rattle.std.proofs.Common.{◌≡◌, ◌-◌, ◌++◌, List, ℕ, All, length, map}
use Rattle.mir_ty.specs.AreItems.{IsVariant}
use Rattle.listing_write.specs.Compared.{VariantSeen, variant_seen}
use Rattle.listing_write.specs.Reading.Rows.{comma, many, many_within}
use Rattle.listing_parts.specs.Table.{Grow, under}
use Rattle.listing_lines.specs.ItemReading.{variant_read}
use Rattle.listing_lines.proofs.variants.more_variants.Given as goal

abbrev pub invariant-loop : goal.invariant-loop
invariant-loop l = record {
  left : ◌≡◌ {A = List VariantSeen × List ℕ}
      (map (variant_seen (under l.heads l.items)) l.variants ++ (many_within (length l.text - l.counter) (comma (variant_read l.heads)) l.rest).0, (many_within (length l.text - l.counter) (comma (variant_read l.heads)) l.rest).1)
      (map (variant_seen (under l.heads l.initial.items)) l.initial.variants ++ (many (comma (variant_read l.heads)) l.text).0, (many (comma (variant_read l.heads)) l.text).1);
  within : All (IsVariant l.items.types) l.variants;
  grow : Grow l.heads l.initial.items l.items;
}
