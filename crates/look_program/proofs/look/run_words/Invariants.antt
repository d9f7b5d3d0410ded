use Rattle.std.proofs.Common.{◌≡◌, map, take}
use Rattle.std.specs.String.{string_bytes}
use Rattle.look_program.specs.Words.{run_words}
use Rattle.look_program.proofs.look.run_words.Given as goal

abbrev pub invariant-loop-word : goal.invariant-loop-word
invariant-loop-word l = map string_bytes l.all.items ≡ run_words (map string_bytes (take l.word-index l.words))
