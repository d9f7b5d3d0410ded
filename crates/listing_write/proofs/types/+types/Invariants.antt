use Rattle.std.proofs.Common.{◌≡◌, ◌++◌, ◌+◌, ◌*◌, take, map}
use Rattle.std.specs.String.{string_bytes}
use Rattle.listing_write.specs.Lists.{behind_commas}
use Rattle.listing_write.specs.Types.{type_within}
use Rattle.listing_write.proofs.types.+types.Given as goal

abbrev pub invariant-put_more_types-loop-id : goal.invariant-put_more_types-loop-id
invariant-put_more_types-loop-id l = string_bytes l.out ≡ string_bytes l.initial.out ++ behind_commas (map (type_within l.items l.depth) (take l.id-index l.ids))

-- a type spends one of its depth, and its parts come one by one
abbrev pub decreases-put_within : goal.decreases-put_within
decreases-put_within l = 5 * l.depth

abbrev pub decreases-put_form : goal.decreases-put_form
decreases-put_form l = 5 * l.depth + 4

abbrev pub decreases-put_tuple : goal.decreases-put_tuple
decreases-put_tuple l = 5 * l.depth + 3

abbrev pub decreases-put_more_types : goal.decreases-put_more_types
decreases-put_more_types l = 5 * l.depth + 2

abbrev pub decreases-put_behind : goal.decreases-put_behind
decreases-put_behind l = 5 * l.depth + 1
