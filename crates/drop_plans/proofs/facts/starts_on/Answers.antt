use Rattle.std.proofs.Common.{◌∙◌, Some, None, false, ap, sym}
use Rattle.std.specs.Prelude.{slice_index_or}
use Rattle.std.specs.Option.{option_copied}
use Rattle.init_flow.specs.Carried.{Bits}
use Rattle.drop_plans.proofs.Reaching.{short, start-row}
use Rattle.drop_plans.proofs.facts.starts_on.Goals as goal

pub returns-else-len-gt0 : goal.returns-else-len-gt0
returns-else-len-gt0 c =
    short c.in-Some.row.now c.len.result c.len.ensures c.if-len-gt0.false
    ∙ ap (λ (z : Bits). slice_index_or z 0 false)
    (start-row c.args.rows.now c.args.block (Some c.in-Some.row.now) (ap option_copied (sym c.in-Some.is) ∙ c.at.ensures))

pub returns-in-None : goal.returns-in-None
returns-in-None c =
    ap (λ (z : Bits). slice_index_or z 0 false)
    (start-row c.args.rows.now c.args.block None (ap option_copied (sym c.in-None.is) ∙ c.at.ensures))
