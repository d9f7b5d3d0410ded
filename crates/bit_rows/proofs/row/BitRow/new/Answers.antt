use Rattle.bit_rows.proofs.Bits.{bits-of_none}
use Rattle.bit_rows.proofs.row.BitRow.new.Goals as goal

pub returns : goal.returns
returns c = bits-of_none c.args.len _ c.in_ok-words.words.items c.in_ok-words.ensures
