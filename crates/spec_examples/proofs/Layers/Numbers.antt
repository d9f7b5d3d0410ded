-- The ends of the integer types (The Rust Reference, "Numeric types").
use Rattle.std.proofs.Common.{◌≡◌, List, [], ◌∷◌, map, refl, pos, negsuc}
use Rattle.mir_base.specs.declared.int_kind.IntKind.{IntKind}
use Rattle.mir_base.specs.IntKind.{least_of, greatest_of}

abbrev kinds : List IntKind
kinds = IntKind.I32 ∷ IntKind.I64 ∷ IntKind.U32 ∷ IntKind.U64 ∷ IntKind.Usize ∷ []

-- negsuc k is - (k + 1)
least_of_each : map least_of kinds ≡ negsuc 2147483647 ∷ negsuc 9223372036854775807 ∷ pos 0 ∷ pos 0 ∷ pos 0 ∷ []
least_of_each = refl

greatest_of_each : map greatest_of kinds ≡ pos 2147483647 ∷ pos 9223372036854775807 ∷ pos 4294967295 ∷
    pos 18446744073709551615 ∷ pos 18446744073709551615 ∷ []
greatest_of_each = refl
