use Rattle.std.proofs.lemmas.List.Sums.{prefix_len-le-length}
use Rattle.listing_write.specs.Reading.Words.{is_digit}
use Rattle.listing_parts.proofs.Spans.{span_is}
use Rattle.listing_parts.proofs.words.digits.Goals as goal

pub split_at-requires : goal.split_at-requires
split_at-requires c = rw c.digit_count.ensures (prefix_len-le-length is_digit c.args.text.now)

pub returns : goal.returns
returns c = rw c.split_at.ensures.front (rw c.split_at.ensures.back (rw c.digit_count.ensures (span_is is_digit c.args.text.now)))
