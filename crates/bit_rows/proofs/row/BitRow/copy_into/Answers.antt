use Rattle.std.proofs.Common.{length, ap, ◌∙◌, refl}
use Rattle.bit_rows.proofs.Rows.{pair_of, as_many_words, same_bits, same_row}
use Rattle.bit_rows.proofs.row.BitRow.copy_into.Goals as goal

pub copy_all-requires : goal.copy_all-requires
copy_all-requires c = ap length c.as_slice.ensures.value ∙ as_many_words (pair_of c.self.inside c.into.inside c.self.view_is c.into.view_is c.self.invariant c.into.invariant c.requires)

pub invariant_of-into : goal.invariant_of-into
invariant_of-into c =
    same_row (pair_of c.self.inside c.into.inside c.self.view_is c.into.view_is c.self.invariant c.into.invariant c.requires) _ refl
    (c.copy_all.ensures ∙ c.as_slice.ensures.value)

pub returns : goal.returns
returns c =
    same_bits (pair_of c.self.inside c.into.inside c.self.view_is c.into.view_is c.self.invariant c.into.invariant c.requires) c.copy_all.new.into.items
    (c.copy_all.ensures ∙ c.as_slice.ensures.value)
