use Rattle.std.proofs.Common.{◌≡◌}
use Rattle.listing_lines.specs.ItemReading.{first_names}
use Rattle.listing_lines.proofs.item_names.field_names.Given as goal

abbrev pub invariant-loop-n : goal.invariant-loop-n
invariant-loop-n l = l.names ≡ first_names l.n
