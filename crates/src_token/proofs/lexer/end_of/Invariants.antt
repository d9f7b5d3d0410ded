use Rattle.std.proofs.Common.{◌≡◌, ◌≤◌, ◌+◌, take}
use Rattle.std.specs.Prelude.{fold}
use Rattle.src_token.specs.Cursors.{place_past_byte}
use Rattle.src_token.proofs.lexer.end_of.Given as goal

abbrev pub invariant-loop-byte : goal.invariant-loop-byte
invariant-loop-byte l = record {
  at : l.at ≡ fold place_past_byte (record { line = 1; col = 1 }) (take l.byte-index l.text);
  lines : l.at.line ≤ 1 + l.byte-index;
  columns : l.at.col ≤ 1 + l.byte-index;
}
