use Rattle.std.proofs.Common.{◌≡◌, ◌++◌, take, map}
use Rattle.std.specs.String.{string_bytes}
use Rattle.listing_write.specs.Lists.{behind_commas}
use Rattle.listing_write.specs.Types.{type_text}
use Rattle.listing_write.proofs.types.put_types_behind.Given as goal

abbrev pub invariant-loop-id : goal.invariant-loop-id
invariant-loop-id l = string_bytes l.out ≡ string_bytes l.initial.out ++ behind_commas (map (type_text l.items) (take l.id-index l.ids))
