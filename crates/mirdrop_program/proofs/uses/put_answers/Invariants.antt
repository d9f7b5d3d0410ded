use Rattle.std.proofs.Common.{◌≡◌, ◌++◌, take}
use Rattle.std.specs.String.{string_bytes}
use Rattle.mirdrop_program.specs.Lines.{behind_blanks}
use Rattle.mirdrop_program.proofs.uses.put_answers.Given as goal

abbrev pub invariant-loop-answer : goal.invariant-loop-answer
invariant-loop-answer l = string_bytes l.out ≡ string_bytes l.initial.out ++ behind_blanks (take l.answer-index l.answers)
