use Rattle.std.proofs.Common.{◌≡◌, ◌+◌, drop}
use Rattle.std.specs.List.{prefix_len}
use Rattle.unicode_ident.specs.Ident.{is_xid_continue}
use Rattle.src_token.proofs.characters.run_length.Given as goal

abbrev pub invariant-loop-i : goal.invariant-loop-i
invariant-loop-i l = prefix_len is_xid_continue l.rest ≡ l.i + prefix_len is_xid_continue (drop l.i l.rest)
