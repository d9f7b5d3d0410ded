use Rattle.std.proofs.Common.{◌≡◌}
use Rattle.std.proofs.lemmas.Fmt.{decimal_digit}
use Rattle.itoa.proofs.Decimal.{decimal_two}
use Rattle.listing_write.proofs.words.put_first.Goals as goal

pub returns-then-number-lt10 : goal.returns-then-number-lt10
returns-then-number-lt10 c = rw (decimal_digit c.args.number c.if-number-lt10.true) c.put_digit.ensures

pub returns-else-number-lt10 : goal.returns-else-number-lt10
returns-else-number-lt10 c = rw (decimal_two c.args.number c.if-number-lt10.false c.requires) c.put_pair.ensures
