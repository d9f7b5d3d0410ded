use Rattle.std.proofs.Common.{◌≡◌, ◌++◌, take}
use Rattle.std.specs.String.{string_bytes}
use Rattle.listing_write.specs.Items.{counted}
use Rattle.listing_write.specs.Listing.{local_line}
use Rattle.listing_write.proofs.listing.put_locals.Given as goal

abbrev pub invariant-loop-n : goal.invariant-loop-n
invariant-loop-n l = string_bytes l.out ≡ string_bytes l.initial.out ++ counted (local_line l.items) 0 (take l.n l.locals)
