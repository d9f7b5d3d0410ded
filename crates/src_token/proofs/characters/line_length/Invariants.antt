use Rattle.std.proofs.Common.{◌≡◌, ◌+◌, drop}
use Rattle.std.specs.List.{prefix_len}
use Rattle.src_token.specs.Rows.{is_inside_line}
use Rattle.src_token.proofs.characters.line_length.Given as goal

abbrev pub invariant-loop-i : goal.invariant-loop-i
invariant-loop-i l = prefix_len is_inside_line l.rest ≡ l.i + prefix_len is_inside_line (drop l.i l.rest)
