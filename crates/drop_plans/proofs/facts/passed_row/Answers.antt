use Rattle.std.proofs.Common.{◌∙◌, List, [], flat_map, length, ap, subst, sym}
use Rattle.std.specs.Prelude.{slice_index_or}
use Rattle.cfg_graph.specs.Uses.{stmt_uses}
use Rattle.cfg_graph.specs.declared.statement.Stmt.{Stmt}
use Rattle.init_flow.specs.Carried.{Bits}
use Rattle.init_flow.specs.Laws.{length-all}
use Rattle.drop_plans.specs.Passing.{Passes}
use Rattle.drop_plans.proofs.facts.passed_row.Goals as goal

pub returns-clause-long : goal.returns-clause-long
returns-clause-long c =
    let passes = c.in_ok-pass_stmts.ensures in
    ap length passes.2 ∙ length-all c.args.told.now.below passes.0 c.in_ok-row.row ∙ c.in_ok-row.ensures.long ∙ c.len.ensures.len

pub returns-clause-passes : goal.returns-clause-passes
returns-clause-passes c long =
    let told = c.args.told.now in
    subst (λ (z : List Stmt). Passes told.forest.paths c.args.gone told.below (flat_map stmt_uses z) (slice_index_or c.args.rows.now c.args.number []) c.pass_stmts.new.row) c.as_slice.ensures
    (subst (λ (z : Bits). Passes told.forest.paths c.args.gone told.below (flat_map stmt_uses c.as_slice.result.now) z c.pass_stmts.new.row)
    (c.in_ok-row.ensures.same (long ∙ sym c.len.ensures.len)) c.in_ok-pass_stmts.ensures)
