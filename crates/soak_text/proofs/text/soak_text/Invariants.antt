use Rattle.std.proofs.Common.{◌≡◌, ◌++◌}
use Rattle.std.specs.String.{string_bytes}
use Rattle.soak_text.specs.Text as text
use Rattle.soak_text.proofs.text.soak_text.Given as goal

abbrev pub invariant-loop-number : goal.invariant-loop-number
invariant-loop-number l = string_bytes l.out ≡ (text.struct_line ++ text.impl_line) ++ text.function_lines l.number
