-- The ends of the integer types: two's complement for the signed ones.
use Rattle.std.specs.Prelude.{ℕ, ◌-◌, ◌^◌, ℤ, pos, negsuc}
use Rattle.mir_base.specs.declared.int_kind.IntKind.{IntKind}
use Rattle.mir_base.specs.declared.int_kind.IntKind.TheVariants.{I32, I64, U32, U64, Usize}

-- the least and the greatest number of so many bits, with a sign and without; negsuc k is - (k + 1)
abbrev least_signed : ℕ → ℤ
least_signed bits = negsuc (2 ^ (bits - 1) - 1)

abbrev greatest_signed : ℕ → ℤ
greatest_signed bits = pos (2 ^ (bits - 1) - 1)

abbrev greatest_unsigned : ℕ → ℤ
greatest_unsigned bits = pos (2 ^ bits - 1)

abbrev pub least_of : IntKind → ℤ
least_of I32 = least_signed 32
least_of I64 = least_signed 64
least_of U32 = pos 0
least_of U64 = pos 0
least_of Usize = pos 0

abbrev pub greatest_of : IntKind → ℤ
greatest_of I32 = greatest_signed 32
greatest_of I64 = greatest_signed 64
greatest_of U32 = greatest_unsigned 32
greatest_of U64 = greatest_unsigned 64
greatest_of Usize = greatest_unsigned 64
