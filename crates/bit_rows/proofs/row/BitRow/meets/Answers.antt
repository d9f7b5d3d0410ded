use Rattle.std.proofs.Common.{List, ℕ, length, ap, sym, ◌∙◌}
use Rattle.bit_rows.specs.Words.{share}
use Rattle.bit_rows.proofs.Rows.{pair_of, as_many_words, share_is}
use Rattle.bit_rows.proofs.row.BitRow.meets.Goals as goal

pub words_share-requires : goal.words_share-requires
words_share-requires c =
    ap length c.as_slice.ensures.value
    ∙ as_many_words (pair_of c.self.inside c.other.inside c.self.view_is c.other.view_is c.self.invariant c.other.invariant c.requires)
    ∙ sym (ap length c.as_slice-2.ensures.value)

pub returns : goal.returns
returns c =
    c.words_share.ensures
    ∙ ap (λ (l : List ℕ). share l c.as_slice-2.result.now) c.as_slice.ensures.value ∙ ap (share c.self.inside.words.items) c.as_slice-2.ensures.value
    ∙ share_is (pair_of c.self.inside c.other.inside c.self.view_is c.other.view_is c.self.invariant c.other.invariant c.requires)
