use Rattle.std.proofs.Common.{◌≡◌, ◌<◌, ◌^◌, drop}
use Rattle.src_token.specs.Numbers.{numeral_value}
use Rattle.src_token.proofs.Values.{value_from}
use Rattle.src_token.proofs.numbers.value.Given as goal

abbrev pub invariant-loop-c : goal.invariant-loop-c
invariant-loop-c l = record {
  left : numeral_value l.digits ≡ value_from l.value (drop l.c-index l.digits);
  fits : l.value < 2 ^ 64;
}
