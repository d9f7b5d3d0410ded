use Rattle.std.proofs.Common.{◌≡◌, ◌++◌, take, map}
use Rattle.std.specs.String.{string_bytes}
use Rattle.listing_write.specs.Items.{method_text}
use Rattle.listing_write.specs.Lists.{behind_commas}
use Rattle.listing_write.proofs.items.put_more_methods.Given as goal

abbrev pub invariant-loop-method : goal.invariant-loop-method
invariant-loop-method l = string_bytes l.out ≡ string_bytes l.initial.out ++ behind_commas (map (method_text l.items) (take l.method-index l.methods))
