use Rattle.std.proofs.Common.{ℕ, sym, ap, ◌∙◌, arith}
use Rattle.bit_rows.specs.Words.{any_both}
use Rattle.init_flow.specs.Marks.{single}
use Rattle.init_flow.proofs.Masking.{both-single}
use Rattle.init_flow.proofs.masks.is_on.Goals as goal

pub returns : goal.returns
returns c =
    let long = c.requires.row in
    let within = c.requires.path in
    c.get.ensures ∙ sym (ap (λ (n : ℕ). any_both (single n c.args.path) c.args.row.now) (sym long) ∙ both-single c.args.path c.args.row.now (omega (long, within, arith)))
