use Rattle.store_model.proofs.Values.Wholeness.{IsWhole-iff_no_gone, is_whole-iff_IsWhole, IsWhole-value_at, IsWhole-replaced, not_whole-taken}
use Rattle.store_model.proofs.laws.law_of_wholeness.Goals as goal

pub returns : goal.returns
returns c = record {
  no_gone = IsWhole-iff_no_gone;
  test = is_whole-iff_IsWhole;
  below = IsWhole-value_at;
  with_whole = IsWhole-replaced;
  taken = not_whole-taken;
}
