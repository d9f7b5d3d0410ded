use Rattle.std.proofs.Common.{◌≡◌, drop}
use Rattle.look_lines.specs.Tellings.{number_at_end, number_from}
use Rattle.look_lines.proofs.tellings.number_at_end.Given as goal

abbrev pub invariant-loop-byte : goal.invariant-loop-byte
invariant-loop-byte l = number_at_end l.words ≡ number_from l.n (drop l.byte-index l.words)
