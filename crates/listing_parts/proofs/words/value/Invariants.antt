use Rattle.std.proofs.Common.{◌≡◌, ◌<◌, drop}
use Rattle.std.specs.Str.Parse.{digits_value, digits_value_after}
use Rattle.listing_parts.proofs.words.value.Given as goal

abbrev pub invariant-loop-digit : goal.invariant-loop-digit
invariant-loop-digit l = record {
  left : digits_value 10 l.digits ≡ digits_value_after 10 l.value (drop l.digit-index l.digits);
  fits : l.value < l.limit;
}
