use Rattle.std.proofs.Common.{List, Bool, length, ap, ◌∙◌, refl, arith}
use Rattle.std.proofs.Math.ListN.{set}
use Rattle.bit_rows.proofs.Bits.{length-bits}
use Rattle.bit_rows.proofs.Rows.{set_bits, set_row}
use Rattle.bit_rows.proofs.row.BitRow.set.Goals as goal

pub set_bit-requires : goal.set_bit-requires
set_bit-requires c =
    (omega (c.requires, ap length c.self.view_is, length-bits c.self.inside.len c.self.inside.words.items, c.self.invariant.enough, arith), omega arith)

pub invariant_of-self : goal.invariant_of-self
invariant_of-self c =
    set_row c.self.inside c.self.invariant c.args.i c.args.on c.set_bit.new.words.items (omega (c.requires, ap length c.self.view_is, length-bits c.self.inside.len c.self.inside.words.items, arith))
    c.set_bit.ensures _ refl refl

pub returns : goal.returns
returns c =
    set_bits c.self.inside c.self.invariant c.args.i c.args.on c.set_bit.new.words.items (omega (c.requires, ap length c.self.view_is, length-bits c.self.inside.len c.self.inside.words.items, arith))
    c.set_bit.ensures ∙ ap (λ (l : List Bool). set l c.args.i c.args.on) c.self.view_is
