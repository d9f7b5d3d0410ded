use Rattle.std.proofs.Common.{◌∙◌, ℕ, [], false, replicate, ap, refl, sym}
use Rattle.std.specs.Prelude.{slice_index_or}
use Rattle.std.proofs.lemmas.Option.{slice_get_within}
use Rattle.std.proofs.lemmas.Result.{IfOk-weaker}
use Rattle.drop_plans.proofs.Reaching.{unreached, reached}
use Rattle.drop_plans.proofs.facts.row_at.Goals as goal

pub returns-then-is_reached-clause-known : goal.returns-then-is_reached-clause-known
returns-then-is_reached-clause-known c =
    IfOk-weaker c.passed_row.result _ _
    (λ row h items body are say at ends.
    let p = h ((say.each c.args.number (slice_get_within body.blocks c.args.number c.args.block.now at)).width) in
    reached items body c.args.told.now are c.args.number c.args.block.now at ends c.args.gone
    (sym c.is_reached.ensures ∙ c.if-is_reached.true) c.args.rows.now say p.0 p.1 (slice_index_or c.args.rows.now c.args.number []) row refl p.2)
    c.passed_row.ensures.passes

pub returns-clause-known : goal.returns-clause-known
returns-clause-known c =
    IfOk-weaker c.new.result _ _
    (λ row h items body are say at ends.
    unreached items body c.args.told.now are c.args.number c.args.block.now at ends c.args.gone
    (sym c.is_reached.ensures ∙ c.if-is_reached.false) row (h ∙ ap (λ (n : ℕ). replicate n false) c.len.ensures.len))
    c.new.ensures
