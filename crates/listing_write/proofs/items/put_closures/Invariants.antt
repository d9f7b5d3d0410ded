use Rattle.std.proofs.Common.{◌≡◌, ◌++◌, ◌-◌, ◌≤◌, length, take}
use Rattle.std.specs.String.{string_bytes}
use Rattle.listing_write.specs.Items.{closure_line, counted}
use Rattle.listing_write.proofs.items.put_closures.Given as goal

abbrev pub invariant-loop-def : goal.invariant-loop-def
invariant-loop-def l = record {
  told : string_bytes l.out ≡ string_bytes l.initial.out ++ counted (closure_line l.items) 0 (take l.n l.items.closures);
  within : l.n ≤ length l.items.closures;
}

abbrev pub decreases-loop-def : goal.decreases-loop-def
decreases-loop-def l = length l.items.closures - l.n
