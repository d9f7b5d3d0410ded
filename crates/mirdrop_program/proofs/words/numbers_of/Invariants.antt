use Rattle.std.proofs.Common.{◌≡◌, map, take, true}
use Rattle.std.specs.List.{list_all}
use Rattle.mirdrop_program.specs.Words.{asked_number, is_up_to}
use Rattle.mirdrop_program.proofs.words.numbers_of.Given as goal

abbrev pub invariant-loop-text : goal.invariant-loop-text
invariant-loop-text l = record {
  so_far : l.numbers ≡ map (λ text. asked_number text.now) (take l.text-index l.texts);
  all : list_all (λ text. is_up_to 2147483647 text.now) (take l.text-index l.texts) ≡ true;
}
