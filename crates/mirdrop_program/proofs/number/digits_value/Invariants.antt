use Rattle.std.proofs.Common.{◌≡◌, ◌≤◌, ◌^◌, ◌*◌, ◌+◌, take}
use Rattle.mirdrop_program.specs.Words as words
use Rattle.mirdrop_program.proofs.number.digits_value.Given as goal

abbrev pub invariant-loop-digit : goal.invariant-loop-digit
invariant-loop-digit l = record {
  so_far : l.value ≡ words.digits_value (take l.digit-index l.digits);
  small : l.value + 23 ≤ 23 * 10 ^ l.digit-index;
}
