use Rattle.std.proofs.Common.{◌≡◌, ◌++◌, ◌-◌, ◌≤◌, length, take}
use Rattle.std.specs.Prelude.{flat_map}
use Rattle.std.specs.String.{string_bytes}
use Rattle.listing_write.specs.Items.{adt_line}
use Rattle.listing_write.proofs.items.put_adts.Given as goal

abbrev pub invariant-loop-adt : goal.invariant-loop-adt
invariant-loop-adt l = record {
  told : string_bytes l.out ≡ string_bytes l.initial.out ++ flat_map (adt_line l.items) (take l.n l.items.adts);
  within : l.n ≤ length l.items.adts;
}

abbrev pub decreases-loop-adt : goal.decreases-loop-adt
decreases-loop-adt l = length l.items.adts - l.n
