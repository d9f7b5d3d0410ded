use Rattle.std.proofs.Common.{◌||◌, bit_or, length, ap, ◌∙◌, refl}
use Rattle.std.specs.Simd.Lanes.{zip2}
use Rattle.bit_rows.proofs.Rows.{pair_of, or_operation, as_many_words, bits_are, change_is, row_is}
use Rattle.bit_rows.proofs.row.BitRow.or_into.Goals as goal

pub or_all-requires : goal.or_all-requires
or_all-requires c = ap length c.as_slice.ensures.value ∙ as_many_words (pair_of c.self.inside c.into.inside c.self.view_is c.into.view_is c.self.invariant c.into.invariant c.requires)

pub invariant_of-into : goal.invariant_of-into
invariant_of-into c =
    let p = pair_of c.self.inside c.into.inside c.self.view_is c.into.view_is c.self.invariant c.into.invariant c.requires in
    row_is p bit_or (λ a b. a || b) (or_operation p) c.or_all.new.into.items
    (c.or_all.ensures.words ∙ ap (λ l. zip2 bit_or l c.into.inside.words.items) c.as_slice.ensures.value) _ refl refl

pub returns-clause-bits : goal.returns-clause-bits
returns-clause-bits c =
    let p = pair_of c.self.inside c.into.inside c.self.view_is c.into.view_is c.self.invariant c.into.invariant c.requires in
    bits_are p bit_or (λ a b. a || b) (or_operation p) c.or_all.new.into.items
    (c.or_all.ensures.words ∙ ap (λ l. zip2 bit_or l c.into.inside.words.items) c.as_slice.ensures.value)

pub returns-clause-change : goal.returns-clause-change
returns-clause-change c =
    let p = pair_of c.self.inside c.into.inside c.self.view_is c.into.view_is c.self.invariant c.into.invariant c.requires in
    change_is p bit_or (λ a b. a || b) (or_operation p) c.or_all.new.into.items
    (c.or_all.ensures.words ∙ ap (λ l. zip2 bit_or l c.into.inside.words.items) c.as_slice.ensures.value)
    c.or_all.result c.or_all.ensures.change
