use Rattle.std.proofs.Common.{◌≡◌, ◌<◌, ◌/◌, ◌%◌, ◌==◌, ℕ, List, Bool, false, length, get_or, ap, sym, ◌∙◌, arith}
use Rattle.std.proofs.lemmas.Grind.{get_or_default_zero}
use Rattle.std.proofs.lemmas.Nat.Bits.{shr_and_one}
use Rattle.std.specs.Int.{bit_at}
use Rattle.bit_rows.proofs.Bits.{length-bits, bits-at}
use Rattle.bit_rows.proofs.row.BitRow.get.Goals as goal

within : (c : goal.After-self) → c.args.i < c.self.inside.len
within c = omega (c.requires, ap length c.self.view_is, length-bits c.self.inside.len c.self.inside.words.items, arith)

pub index-word-requires : goal.index-word-requires
index-word-requires c = omega (within c, c.self.invariant.enough, arith)

pub returns : goal.returns
returns c =
    let words = c.self.inside.words.items in
    let word : c.index-word.result.now ≡ get_or words (c.args.i / 64) 0 =
    c.index-word.ensures ∙ get_or_default_zero words (c.args.i / 64) c.index-word.result.now (omega (c.requires, ap length c.self.view_is, length-bits c.self.inside.len words, c.self.invariant.enough, arith)) in
    ap (λ (b : ℕ). b == 1) (shr_and_one c.index-word.result.now (c.args.i % 64)) ∙ ap (λ (w : ℕ). bit_at w (c.args.i % 64) == 1) word
    ∙ sym (bits-at c.self.inside.len words c.args.i false (omega (c.requires, ap length c.self.view_is, length-bits c.self.inside.len words, arith)))
    ∙ ap (λ (l : List Bool). get_or l c.args.i false) c.self.view_is
