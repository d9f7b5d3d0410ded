-- A value that grows too large.
use Rattle.std.proofs.Common.{sym, ap, ◌∙◌, get_or, refl}
use Rattle.listing_write.specs.Reading.Words.{limited}
use Rattle.listing_parts.proofs.Values.{from_none, too_large}
use Rattle.listing_parts.proofs.words.value.Goals as goal

pub returns-in-None-clause-value : goal.returns-in-None-clause-value
returns-in-None-clause-value c =
    let limit = c.args.limit in
    let digits = c.args.digits.now in
    let i = c.loop-digit.digit-index in
    sym (ap (limited limit) c.loop-digit.invariant.left
    ∙ too_large limit digits i c.loop-digit.value (get_or digits i 0) c.loop-digit-test.true refl (from_none limit _ c.in-None.ensures.value))
