use Rattle.std.proofs.Common.{sym, ◌∙◌}
use Rattle.init_flow.proofs.Masking.{switched-single}
use Rattle.init_flow.proofs.masks.turn_one.Goals as goal

pub returns-then-len-bits : goal.returns-then-len-bits
returns-then-len-bits c =
    c.set.ensures ∙ sym (switched-single c.args.bits c.args.path c.args.on c.args.row.now c.requires (sym c.len.ensures ∙ c.if-len-bits.true))
