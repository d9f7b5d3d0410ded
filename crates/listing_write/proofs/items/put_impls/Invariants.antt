use Rattle.std.proofs.Common.{◌≡◌, ◌++◌, ◌-◌, ◌≤◌, length, take}
use Rattle.std.specs.Prelude.{flat_map}
use Rattle.std.specs.String.{string_bytes}
use Rattle.listing_write.specs.Items.{impl_line}
use Rattle.listing_write.proofs.items.put_impls.Given as goal

abbrev pub invariant-loop-def : goal.invariant-loop-def
invariant-loop-def l = record {
  told : string_bytes l.out ≡ string_bytes l.initial.out ++ flat_map (impl_line l.items) (take l.n l.items.impls);
  within : l.n ≤ length l.items.impls;
}

abbrev pub decreases-loop-def : goal.decreases-loop-def
decreases-loop-def l = length l.items.impls - l.n
