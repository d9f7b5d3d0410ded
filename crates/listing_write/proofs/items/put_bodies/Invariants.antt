use Rattle.std.proofs.Common.{◌≡◌, ◌++◌, ℕ, take, codes}
use Rattle.std.specs.Fmt.{decimal}
use Rattle.std.specs.Prelude.{flat_map}
use Rattle.std.specs.String.{string_bytes}
use Rattle.listing_write.proofs.items.put_bodies.Given as goal

abbrev pub invariant-loop-body : goal.invariant-loop-body
invariant-loop-body l = string_bytes l.out ≡ string_bytes l.initial.out ++ flat_map (λ (body : ℕ). codes " " ++ decimal body) (take l.body-index l.bodies)
