use Rattle.std.proofs.Common.{◌≡◌, ◌++◌, take, map}
use Rattle.std.specs.String.{string_bytes}
use Rattle.listing_write.specs.Items.{variant_text}
use Rattle.listing_write.specs.Lists.{behind_commas}
use Rattle.listing_write.proofs.items.put_more_variants.Given as goal

abbrev pub invariant-loop-variant : goal.invariant-loop-variant
invariant-loop-variant l = string_bytes l.out ≡ string_bytes l.initial.out ++ behind_commas (map (variant_text l.items) (take l.variant-index l.variants))
