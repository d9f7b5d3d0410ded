use Rattle.std.proofs.Common.{◌≡◌, ◌++◌, take}
use Rattle.std.specs.String.{string_bytes}
use Rattle.listing_write.specs.Items.{counted}
use Rattle.listing_write.specs.Listing.{whole_body_text}
use Rattle.listing_write.proofs.listing.put_bodies.Given as goal

abbrev pub invariant-loop-n : goal.invariant-loop-n
invariant-loop-n l = string_bytes l.out ≡ string_bytes l.initial.out ++ counted (whole_body_text l.items) 0 (take l.n l.bodies)
