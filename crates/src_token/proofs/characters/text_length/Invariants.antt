use Rattle.std.proofs.Common.{◌≡◌, ◌+◌, drop}
use Rattle.std.specs.List.{prefix_len}
use Rattle.src_token.specs.Rows.{is_inside_text}
use Rattle.src_token.proofs.characters.text_length.Given as goal

abbrev pub invariant-loop-i : goal.invariant-loop-i
invariant-loop-i l = prefix_len is_inside_text l.rest ≡ l.i + prefix_len is_inside_text (drop l.i l.rest)
