use Rattle.std.proofs.Common.{◌≡◌, arith, append_assoc}
use Rattle.itoa.proofs.Decimal.{decimal_pair}
use Rattle.listing_write.proofs.words.put_number.Goals as goal

pub returns-then-number-lt10000 : goal.returns-then-number-lt10000
returns-then-number-lt10000 c =
    rw (decimal_pair c.args.number c.if-number-lt100.false (omega arith), ← append_assoc _ _ _, ← c.in_ok-put_first.ensures) c.put_pair.ensures
