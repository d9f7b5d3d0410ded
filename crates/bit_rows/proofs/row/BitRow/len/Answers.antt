use Rattle.std.proofs.Common.{length, ap, sym, ◌∙◌}
use Rattle.bit_rows.proofs.Bits.{length-bits}
use Rattle.bit_rows.proofs.row.BitRow.len.Goals as goal

pub returns : goal.returns
returns c = sym (ap length (sym c.self.view_is) ∙ length-bits c.self.inside.len c.self.inside.words.items)
