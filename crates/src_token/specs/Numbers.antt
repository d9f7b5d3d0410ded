-- Numbers: decimal digits and `_`, and an integer type behind them (The Rust Reference, "Integer literals").
use Rattle.std.specs.Prelude.{ℕ, ◌+◌, ◌*◌, ◌-◌, ◌^◌, Bool, ◌==◌, ◌||◌, nat_lt, List, drop, Option, Some, None, fold, filter, codes, if◌then◌else◌, take_while}
use Rattle.std.specs.List.{prefix_len}
use Rattle.std.specs.Str.{byte, bytes_eq}
use Rattle.std.specs.Char.{is_ascii_digit}
use Rattle.mir_base.specs.declared.int_kind.IntKind.{IntKind}
use Rattle.src_token.specs.declared.token.Token.{Token}
use Rattle.src_token.specs.declared.piece.TokenFault.{TokenFault}
use Rattle.src_token.specs.declared.piece.Reading.{Reading}

abbrev pub is_numeral : ℕ → Bool
is_numeral c = is_ascii_digit c || c == byte "_"

abbrev pub with_digit : ℕ → ℕ → ℕ
with_digit value digit = 10 * value + (digit - 48)

-- the value of decimal digits; each `_` among them is passed over
abbrev pub numeral_value : List ℕ → ℕ
numeral_value digits = fold with_digit 0 (filter is_ascii_digit digits)

-- the type that is written behind the digits, if these characters are nothing or a type
abbrev pub suffix_of : List ℕ → Option (Option IntKind)
suffix_of behind =
    if bytes_eq (codes "") behind then Some None
    else if bytes_eq (codes "i32") behind then Some (Some IntKind.I32)
    else if bytes_eq (codes "i64") behind then Some (Some IntKind.I64)
    else if bytes_eq (codes "u32") behind then Some (Some IntKind.U32)
    else if bytes_eq (codes "u64") behind then Some (Some IntKind.U64)
    else if bytes_eq (codes "usize") behind then Some (Some IntKind.Usize)
    else None

-- a number that 64 bits hold
abbrev pub limited : ℕ → Option ℕ
limited value = if nat_lt value (2 ^ 64) then Some value else None

abbrev pub number_of : Option ℕ → Option (Option IntKind) → Reading
number_of None suffix = Reading.Fails TokenFault.BadNumber 0
number_of (Some value) None = Reading.Fails TokenFault.BadNumber 0
number_of (Some value) (Some suffix) = Reading.Reads (Token.Number value suffix)

-- what a run that begins by a digit is
unfoldable pub number_reading : List ℕ → Reading
number_reading run =
    number_of (limited (numeral_value (take_while is_numeral run))) (suffix_of (drop (prefix_len is_numeral run) run))
