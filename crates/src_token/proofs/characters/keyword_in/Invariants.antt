use Rattle.std.proofs.Common.{◌≡◌, List, ℕ, drop}
use Rattle.std.specs.Borrow.{Bor}
use Rattle.src_token.specs.declared.word.Word.{Word}
use Rattle.src_token.specs.Words.{keyword_among}
use Rattle.src_token.proofs.characters.keyword_in.Given as goal

abbrev spelling : Bor (List ℕ) × Word → List ℕ
spelling entry = entry.0.now

abbrev word : Bor (List ℕ) × Word → Word
word entry = entry.1

abbrev pub invariant-loop-entry : goal.invariant-loop-entry
invariant-loop-entry l = keyword_among spelling word l.table l.piece ≡ keyword_among spelling word (drop l.entry-index l.table) l.piece
