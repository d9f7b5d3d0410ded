use Rattle.std.proofs.Common.{◌==◌, ℕ, ap, sym, ◌∙◌, w64}
use Rattle.std.proofs.lemmas.Nat.Bits.{bit_at_set_same, bit_at_set_other, bit_at_clear_same, bit_at_clear_other}
use Rattle.bit_rows.proofs.words.with_bit.Goals as goal

pub returns-then-on-clause-same : goal.returns-then-on-clause-same
returns-then-on-clause-same c = ap (λ (x : ℕ). x == 1) (bit_at_set_same w64 c.args.word c.args.k c.requires) ∙ sym c.if-on.true

pub returns-then-on-clause-others : goal.returns-then-on-clause-others
returns-then-on-clause-others c = λ j below other. bit_at_set_other w64 c.args.word c.args.k c.requires j other

pub returns-else-on-clause-same : goal.returns-else-on-clause-same
returns-else-on-clause-same c = ap (λ (x : ℕ). x == 1) (bit_at_clear_same w64 c.args.word c.args.k c.requires) ∙ sym c.if-on.false

pub returns-else-on-clause-others : goal.returns-else-on-clause-others
returns-else-on-clause-others c = λ j below other. bit_at_clear_other w64 c.args.word c.args.k c.requires j below other
