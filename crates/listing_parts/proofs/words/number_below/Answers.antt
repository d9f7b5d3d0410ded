use Rattle.std.proofs.Common.{ℕ, List, ap}
use Rattle.listing_write.specs.Reading.Words.{is_digit}
use Rattle.listing_parts.proofs.Spans.{span_all}
use Rattle.listing_parts.proofs.words.number_below.Goals as goal

pub value-requires-clause-all : goal.value-requires-clause-all
value-requires-clause-all c = rw (ap (λ (q : List ℕ × List ℕ). q.0) c.digits.ensures) (span_all is_digit c.args.text.now)
